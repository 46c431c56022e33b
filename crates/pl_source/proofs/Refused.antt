-- A program that uses what nothing carries out yet is refused.
use Rattle.std.proofs.Common.{◌≡◌, ◌∙◌, List, ℕ, Option, Some, None, Result, Err, inl, inr, refl, sym, ap, subst, rules}
use Rattle.pl_base.specs.declared.memory.Or.{Or}
use Rattle.pl_base.specs.declared.memory.Or.TheVariants as or
use Rattle.pl_base.specs.declared.errors.Place.{Place}
use Rattle.pl_base.specs.declared.mode.Mode.{Mode}
use Rattle.pl_base.specs.declared.mode.Mode.TheVariants.{Saturate}
use Rattle.pl_syntax.specs.declared.stmt.Program.{Program}
use Rattle.pl_resolve.specs.declared.resolved.Resolved.{Resolved}
use Rattle.pl_resolve.specs.Functions.{extra_names}
use Rattle.pl_resolve.specs.Scopes.{scopes_of, unknown_of}
use Rattle.pl_unbuilt.specs.Unbuilt.{unbuilt_of}
use Rattle.pl_source.specs.declared.refusals.Refusal.{Refusal}
use Rattle.pl_source.specs.Lines.{not_built_line}
use Rattle.pl_source.specs.Sources.{Reads, resolved, Refuses}

pub is_resolved : (r : Resolved) (p : Program) → r.program ≡ p → r.scopes ≡ scopes_of p → r.mode ≡ Saturate → r.extras ≡ extra_names → r ≡ resolved p
is_resolved r p a b c d =
    let same : (q : Program) (s : List (List (List ℕ))) (m : Mode) (e : List (List ℕ)) → r.program ≡ q → r.scopes ≡ s → r.mode ≡ m → r.extras ≡ e → r ≡ record { program = q; scopes = s; mode = m; extras = e } = λ q s m e w x y z. rw (← w, ← x, ← y, ← z) refl in
    same p (scopes_of p) Saturate extra_names a b c d

pub not_built : (source : List ℕ) (p : Program) (r : Resolved) (place : Place) (f g : Refusal) → Reads source p → unknown_of p ≡ None → r ≡ resolved p → unbuilt_of r ≡ Some place → f.status ≡ 5 → f.line ≡ not_built_line place → f ≡ g → Refuses source g.status g.line
not_built source p r place f g reads known whole first status line same =
    subst (λ (x : Refusal). Refuses source x.status x.line) same (inl (status, inr (inr (record { program = p; place = place; reads = reads; known = known; first = ap unbuilt_of (sym whole) ∙ first; tells = line }))))

pub same_refusal : {A : Type 0} (f g : Refusal) → ◌≡◌ {A = Result A (Or Refusal)} (Err (or.Is f)) (Err (or.Is g)) → f ≡ g
same_refusal f g e = cc
