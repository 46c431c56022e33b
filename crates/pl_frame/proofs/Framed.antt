-- Parts that only read, in two runs: how they are put together.
use Rattle.std.proofs.Common.{◌≡◌, ◌∙◌, ℕ, List, [], ◌++◌, Bool, true, false, Option, Result, Ok, Err, refl, sym, ap, append_assoc}
use Rattle.std.specs.Prelude.{if◌then◌else◌}
use Rattle.pl_base.specs.declared.errors.ScriptError.{ScriptError}
use Rattle.pl_base.specs.declared.errors.ErrKind.{ErrKind}
use Rattle.pl_base.specs.declared.errors.Place.{Place}
use Rattle.pl_errors.specs.Errors.{error_of}
use Rattle.pl_values.specs.declared.value.Value.{Value}
use Rattle.pl_values.specs.Workspaces.{value_at}
use Rattle.pl_meaning.specs.Logs.{Workspace, Trace, shows}
use Rattle.pl_meaning.specs.declared.event.Event.{Event}
use Rattle.pl_meaning.specs.Running.{Running, Outcome, before, pure, raise, ◌>>=◌, tell}
use Rattle.pl_meaning.specs.Accesses.{settle}
use Rattle.pl_frame.specs.Seeing.{onward, standing, Comes_to, Framed}

-- what comes to an error comes to no value
pub no_value : {A : Type 0} (e : ScriptError) (a : A) → Err e ≡ Ok a → ⊥
no_value e a is = cc

-- two things shown one after another
pub shown_twice : (ts us : List Trace) (o : Outcome) → before ts (before us o) ≡ before (ts ++ us) o
shown_twice ts us o = ap (λ (all : List Trace). record { shown = all; ending = o.ending }) (sym (append_assoc ts us o.shown))

-- the part of one run only reads: it shows something and comes to something; where that is a value, the part of another run in its
-- place shows the same and has the same value from the other workspace
pub record Both (one other : Workspace) {A : Type 0} (p p' : Running A) : Type 0 where
  pub shown : List Trace
  pub gives : Result A ScriptError
  pub here : Comes_to p one shown gives
  pub there : (a : A) → gives ≡ Ok a → Comes_to p' other shown (Ok a)

module _ (one other : Workspace) where
  -- in one run
  pub framed_both : {A : Type 0} {p : Running A} → Both one other p p → Framed one other p
  framed_both P = record { shown = P.shown; gives = P.gives; here = P.here; there = P.there }

  pub framed_pure : {A : Type 0} (a : A) → Both one other (pure a) (pure a)
  framed_pure a = record { shown = []; gives = Ok a; here = λ k h t c r. refl; there = λ b is k h t c r. ap (λ g. onward k h g (standing other t c r)) is }

  -- what comes to an error is like any other part
  pub raise_any : {A : Type 0} (e : ScriptError) (p' : Running A) → Both one other (raise e) p'
  raise_any e p' = record { shown = []; gives = Err e; here = λ k h t c r. refl; there = λ b is. absurd (no_value e b is) }

  pub framed_raise : {A : Type 0} (e : ScriptError) → Both one other (raise {A = A} e) (raise {A = A} e)
  framed_raise e = raise_any e (raise e)

  pub framed_settle : {A : Type 0} (place : Place) (r : Result A ErrKind) → Both one other (settle place r) (settle place r)
  framed_settle place (Ok a) = framed_pure a
  framed_settle place (Err kind) = framed_raise (error_of kind place)

  pub framed_tell : (event : Event) → Both one other (tell event) (tell event)
  unfolding tell
  framed_tell event = record { shown = shows event; gives = Ok tt; here = λ k h t c r. refl; there = λ b is k h t c r. refl }

  bound : {A B : Type 0} (p p' : Running A) (f f' : A → Running B) (P : Both one other p p') (r : Result A ScriptError) → P.gives ≡ r → ((a : A) → r ≡ Ok a → Both one other (f a) (f' a)) → Both one other (p >>= f) (p' >>= f')
  bound p p' f f' P (Ok a) is more =
      let Q : Both one other (f a) (f' a) = more a refl in
      record {
        shown = P.shown ++ Q.shown;
        gives = Q.gives;
        here = λ k h t c r. P.here (λ b. f b k h) h t c r ∙ ap (λ g. before P.shown (onward (λ b. f b k h) h g (standing one t c r))) is ∙ ap (before P.shown) (Q.here k h t c r) ∙ shown_twice P.shown Q.shown _;
        there = λ b gives k h t c r. P.there a is (λ x. f' x k h) h t c r ∙ ap (before P.shown) (Q.there b gives k h t c r) ∙ shown_twice P.shown Q.shown _;
      }
  bound p p' f f' P (Err e) is more =
      record {
        shown = P.shown;
        gives = Err e;
        here = λ k h t c r. P.here (λ b. f b k h) h t c r ∙ ap (λ g. before P.shown (onward (λ b. f b k h) h g (standing one t c r))) is;
        there = λ b gives. absurd (no_value e b gives);
      }

  -- a part and then another, of which something is known where the first gives this value
  pub framed_then : {A B : Type 0} {p p' : Running A} (f f' : A → Running B) (P : Both one other p p') → ((a : A) → P.gives ≡ Ok a → Both one other (f a) (f' a)) → Both one other (p >>= f) (p' >>= f')
  framed_then {p = p} {p' = p'} f f' P more = bound p p' f f' P P.gives refl more

  pub framed_bind : {A B : Type 0} {p p' : Running A} (f f' : A → Running B) → Both one other p p' → ((a : A) → Both one other (f a) (f' a)) → Both one other (p >>= f) (p' >>= f')
  framed_bind f f' P more = framed_then f f' P (λ a is. more a)

  -- a part that looks at a variable which is the same in both
  pub framed_look : {A : Type 0} (q : Option Value → Running A) (slot : ℕ) → value_at one slot ≡ value_at other slot → Both one other (q (value_at one slot)) (q (value_at one slot)) → Both one other (λ k h s. q (value_at s.env slot) k h s) (λ k h s. q (value_at s.env slot) k h s)
  framed_look q slot same P = record {
    shown = P.shown;
    gives = P.gives;
    here = P.here;
    there = λ a is k h t c r. ap (λ v. q v k h (standing other t c r)) (sym same) ∙ P.there a is k h t c r;
  }

  pub framed_choice : {A : Type 0} (b : Bool) (p p' q q' : Running A) → Both one other p p' → Both one other q q' → Both one other (if b then p else q) (if b then p' else q')
  framed_choice true p p' q q' P Q = P
  framed_choice false p p' q q' P Q = Q
