-- What the parser's machine answers is the program of the tokens, or their fault, and there is one.
use Rattle.std.proofs.Common.{◌≡◌, ◌∙◌, ℕ, ◌-◌, Ok, Err, List, length, refl, ap, sym, subst}
use Rattle.pl_base.specs.declared.errors.Place.{Place}
use Rattle.pl_syntax.specs.declared.stmt.Program.{Program}
use Rattle.pl_grammar.specs.declared.fault.FaultKind.{FaultKind}
use Rattle.pl_grammar.specs.declared.terminal.Terminal.{Terminal}
use Rattle.pl_grammar.specs.Trees.{program_of}
use Rattle.pl_grammar.specs.Programs.{strict, Parses, ParseFault}
use Rattle.pl_grammar.specs.Machine as gm
use Rattle.pl_grammar.specs.Steps as gs
use Rattle.pl_grammar.proofs.Theorem.{found, faulted, one_program, one_fault, never_both}
use Rattle.pl_lex.specs.declared.token.Token.{Token}
use Rattle.pl_states.specs.declared.parser.Refusal.{Refusal}
use Rattle.pl_states.specs.Run.{run, beginning}
use Rattle.pl_parse.specs.Image.{answer_of}
use Rattle.pl_parse.specs.Faults.{terminals_of, IsProgram, Faults, shown_place, fault_of}
use Rattle.pl_parse.proofs.Simulation.{run_same}

-- both machines, from the beginning
runs : (ts : List Terminal) → run beginning ts ≡ answer_of (gs.run (strict 200) gm.beginning ts)
runs ts = run_same ts gm.beginning

pub program_found : (ts : List Terminal) (p : Program) → run beginning ts ≡ Ok p → Parses (strict 200) ts p
program_found ts p h = by_answer (gs.run (strict 200) gm.beginning ts) refl
  where
    by_answer : (x : gs.Answer) → gs.run (strict 200) gm.beginning ts ≡ x → Parses (strict 200) ts p
    by_answer (Ok q) e =
        let i : Ok (program_of q) ≡ Ok p = sym (runs ts ∙ ap answer_of e) ∙ h in
        let j : program_of q ≡ p = cc in
        subst (λ y. Parses (strict 200) ts y) j (found (strict 200) ts q e)
    by_answer (Err f) e = let i : answer_of (Err f) ≡ Ok p = sym (runs ts ∙ ap answer_of e) ∙ h in cc

pub fault_found : (ts : List Terminal) (r : Refusal) → run beginning ts ≡ Err r → ParseFault 200 ts (length ts - r.left) r.kind
fault_found ts r h = by_answer (gs.run (strict 200) gm.beginning ts) refl
  where
    by_answer : (x : gs.Answer) → gs.run (strict 200) gm.beginning ts ≡ x → ParseFault 200 ts (length ts - r.left) r.kind
    by_answer (Ok q) e = let i : Ok (program_of q) ≡ Err r = sym (runs ts ∙ ap answer_of e) ∙ h in cc
    by_answer (Err f) e =
        let i : Err (record { kind = f.kind; left = f.left }) ≡ Err r = sym (runs ts ∙ ap answer_of e) ∙ h in
        let j : record { kind = f.kind; left = f.left } ≡ r = cc in
        subst (λ y. ParseFault 200 ts (length ts - y.left) y.kind) j (faulted 200 ts f e)

-- ---- of tokens

pub is_program : (source : List ℕ) (tokens : List Token) (ts : List Terminal) (p : Program) → ts ≡ terminals_of source tokens → run beginning ts ≡ Ok p → IsProgram source tokens p
is_program source tokens ts p e h = program_found (terminals_of source tokens) p (ap (λ x. run beginning x) (sym e) ∙ h)

pub has_fault : (source : List ℕ) (tokens : List Token) (ts : List Terminal) (r : Refusal) → ts ≡ terminals_of source tokens → run beginning ts ≡ Err r → Faults source tokens r.kind (fault_of r ts source).place
has_fault source tokens ts r e h =
    let T : List Terminal = terminals_of source tokens in
    (length T - r.left, fault_found T r (ap (λ x. run beginning x) (sym e) ∙ h), ap (λ x. (fault_of r x source).place) e)

-- ---- there is one

pub only_program : (source : List ℕ) (tokens : List Token) (p q : Program) → IsProgram source tokens p → IsProgram source tokens q → p ≡ q
only_program source tokens p q a b = one_program (strict 200) (terminals_of source tokens) p q a b

pub no_fault : (source : List ℕ) (tokens : List Token) (p : Program) (kind : FaultKind) (place : Place) → IsProgram source tokens p → Faults source tokens kind place → ⊥
no_fault source tokens p kind place a f = never_both 200 (terminals_of source tokens) p f.0 kind a f.1

pub only_fault : (source : List ℕ) (tokens : List Token) (kind other : FaultKind) (place otherwise : Place) → Faults source tokens kind place → Faults source tokens other otherwise → (kind ≡ other) × (place ≡ otherwise)
only_fault source tokens kind other place otherwise a b =
    let e : (a.0 ≡ b.0) × (kind ≡ other) = one_fault 200 (terminals_of source tokens) a.0 b.0 kind other a.1 b.1 in
    (e.1, a.2 ∙ (ap (λ x. shown_place source (terminals_of source tokens) kind x) e.0 ∙ (ap (λ x. shown_place source (terminals_of source tokens) x b.0) e.1 ∙ sym b.2)))

pub no_program : (source : List ℕ) (tokens : List Token) (p : Program) (kind : FaultKind) (place : Place) → Faults source tokens kind place → IsProgram source tokens p → ⊥
no_program source tokens p kind place f a = no_fault source tokens p kind place a f
