-- Behind the checks before a loop over workers, the variables that its body writes have arrays, or no value.
use Rattle.std.specs.Prelude.{◌≡◌, ◌||◌}
use Rattle.std.specs.Cmp.Lexicographic.{same_text}
use Rattle.std.proofs.Common.{◌∙◌, ℕ, List, [], ◌∷◌, Bool, true, false, Option, Some, None, Result, Ok, Err, refl, sym, ap, subst}
use Rattle.pl_base.specs.declared.errors.ErrKind.{ErrKind}
use Rattle.pl_base.specs.declared.errors.Place.{Place}
use Rattle.pl_base.specs.declared.errors.ScriptError.{ScriptError}
use Rattle.pl_array.specs.Arrays.{Array}
use Rattle.pl_syntax.specs.declared.expr.Name.{Name}
use Rattle.pl_values.specs.declared.value.Value.{Value, out-Value, roll-Value, roll-out-Value}
use Rattle.pl_values.specs.declared.value.Value.TheVariants as value
use Rattle.pl_values.specs.declared.value.Value.TheVariants.{outs-Array}
use Rattle.pl_values.specs.declared.value.Value.TheOpen.{Value-F}
use Rattle.pl_values.specs.Workspaces.{value_at}
use Rattle.pl_operators.specs.Operands.{array_at, array_in}
use Rattle.pl_resolve.specs.declared.resolved.Resolved.{Resolved}
use Rattle.pl_meaning.specs.declared.frame.Frame.{Frame}
use Rattle.pl_meaning.specs.Accesses.{settle}
use Rattle.pl_meaning.specs.Forms.{is_among}
use Rattle.pl_meaning.specs.Known.{same}
use Rattle.pl_meaning.specs.Logs.{Workspace}
use Rattle.pl_meaning.specs.Names.{slot_of}
use Rattle.pl_meaning.specs.Parts.{laid_at, laid, all_laid}
use Rattle.pl_meaning.specs.Running.{State, Rest, Running, pure, ◌>>=◌}
use Rattle.pl_built.proofs.Asking.{IsLaid, IsLong, strict, Fine, Onwards, GoodWhere}

-- a value that has an array is that array
array_is : (v : Value) (a : Array) → array_in v ≡ Ok a → v ≡ value.Array a
array_is v a is = by_layer (out-Value v) refl is
  where
    by_layer : (layer : Value-F Value) → out-Value v ≡ layer → array_at layer ≡ Ok a → v ≡ value.Array a
    by_layer (Value-F.Array b) e h =
        let one : b ≡ a = cc in
        sym (roll-out-Value v) ∙ ap roll-Value (e ∙ sym (outs-Array b)) ∙ roll-out-Value (value.Array b) ∙ ap value.Array one
    by_layer layer e h = absurd (cc)

module _ (program : Resolved) where
  -- each variable of these names has an array where it has a value
  abbrev pub HasLaid : Frame → List Name → Workspace → Type 0
  HasLaid f names env = (m : Name) (slot : ℕ) → is_among names m ≡ true → slot_of program f m.text ≡ Some slot → IsLaid env slot

  module _ {A : Type 0} {n : ℕ} (place : Place) (P Q : Workspace → Type 0) (p : Running A) (G : GoodWhere program P n p) (wide : Bool) (k k' : A → Rest) (h h' : ScriptError → Rest) (K : Onwards program wide n k k') (H : Onwards program wide n h h') (s : State) (w : IsLong program wide n s.env) where
    settled : (v : Value) → ((a : Array) → v ≡ value.Array a → P s.env) → (r : Result Array ErrKind) → array_in v ≡ r → Fine program wide ((settle place r >>= (λ a. pure (tt {0}))) (λ u. p k h) h s) ((settle place r >>= (λ a. pure (tt {0}))) (λ u. p k' h') h' (strict program s))
    settled v to (Ok a) e = G.fine wide k k' h h' K H s w (to a (array_is v a e))
    settled v to (Err kind) e = H _ s w

    valued : (slot : ℕ) → (IsLaid s.env slot → P s.env) → (o : Option Value) → value_at s.env slot ≡ o → Fine program wide (laid_at place o (λ u. p k h) h s) (laid_at place o (λ u. p k' h') h' (strict program s))
    valued slot to None e = G.fine wide k k' h h' K H s w (to (λ v is. absurd (cc)))
    valued slot to (Some v) e = settled v (λ a is. to (λ x there. (a, same_value x v (sym there ∙ e) ∙ is))) (array_in v) refl
      where
        same_value : (x y : Value) → ◌≡◌ {A = Option Value} (Some x) (Some y) → x ≡ y
        same_value x y e = cc

    slotted : (o : Option ℕ) → (((slot : ℕ) → o ≡ Some slot → IsLaid s.env slot) → P s.env) → Fine program wide ((laid place o >>= (λ u. p)) k h s) ((laid place o >>= (λ u. p)) k' h' (strict program s))
    slotted None to = G.fine wide k k' h h' K H s w (to (λ slot e. absurd (cc)))
    slotted (Some slot) to = valued slot (λ there. to (λ other e. one_slot other e there)) (value_at s.env slot) refl
      where
        one_slot : (other : ℕ) → ◌≡◌ {A = Option ℕ} (Some slot) (Some other) → IsLaid s.env slot → IsLaid s.env other
        one_slot other e there = let same_slot : slot ≡ other = cc in subst (λ i. IsLaid s.env i) same_slot there

  pub widened : {A : Type 0} {n : ℕ} {P Q : Workspace → Type 0} {p : Running A} → ((env : Workspace) → Q env → P env) → GoodWhere program P n p → GoodWhere program Q n p
  widened to G = record { fine = λ wide k k' h h' K H s w has. G.fine wide k k' h h' K H s w (to s.env has) }

  laid_one : (f : Frame) (m : Name) (more : List Name) (env : Workspace) → ((slot : ℕ) → slot_of program f m.text ≡ Some slot → IsLaid env slot) → HasLaid f more env → HasLaid f (m ∷ more) env
  laid_one f m more env here there x slot among is = by_test (same m.text x.text) refl among
    where
      by_test : (b : Bool) → same m.text x.text ≡ b → (b || is_among more x) ≡ true → IsLaid env slot
      by_test true e among = here slot (ap (λ t. slot_of program f t) (same_text m.text x.text (sym e)) ∙ is)
      by_test false e among = there x slot among is

  -- the checks, and behind them what may suppose arrays
  pub all_laid_where : {A : Type 0} {n : ℕ} (Q : Workspace → Type 0) (f : Frame) (place : Place) (names : List Name) (p : Running A) → GoodWhere program (λ env. Q env × HasLaid f names env) n p → GoodWhere program Q n (all_laid program f place names >>= (λ u. p))
  all_laid_where Q f place [] p G = widened (λ env has. (has, λ m slot among is. absurd (cc))) G
  all_laid_where Q f place (m ∷ more) p G =
      let Here : Workspace → Type 0 = (λ env. (slot : ℕ) → slot_of program f m.text ≡ Some slot → IsLaid env slot) in
      let rest : GoodWhere program (λ env. Q env × Here env) _ (all_laid program f place more >>= (λ u. p)) = all_laid_where (λ env. Q env × Here env) f place more p (widened (λ env has. (has.0.0, laid_one f m more env has.0.1 has.1)) G) in
      record { fine = λ wide k k' h h' K H s w has. slotted place (λ env. Q env × Here env) Q (all_laid program f place more >>= (λ u. p)) rest wide k k' h h' K H s w (slot_of program f m.text) (λ here. (has, here)) }
