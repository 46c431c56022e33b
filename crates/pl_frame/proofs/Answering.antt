-- A loop over workers goes on as its answer does.
use Rattle.std.specs.Prelude.{◌||◌}
use Rattle.std.proofs.Common.{◌≡◌, ◌∙◌, ℕ, suc, ◌⊎◌, inl, inr, List, [], ◌∷◌, Bool, true, false, Option, Some, None, Result, Ok, refl, ap}
use Rattle.pl_base.specs.declared.choice.Choice.{Choice}
use Rattle.pl_base.specs.declared.errors.ErrKind.{ErrKind}
use Rattle.pl_base.specs.declared.errors.Place.{Place}
use Rattle.pl_base.specs.declared.errors.ScriptError.{ScriptError}
use Rattle.pl_array.specs.Arrays.{Array}
use Rattle.pl_syntax.specs.declared.expr.Name.{Name}
use Rattle.pl_values.specs.declared.value.Value.{Value}
use Rattle.pl_values.specs.declared.value.Value.TheVariants.{outs-Array}
use Rattle.pl_operators.specs.Operands.{array_at}
use Rattle.pl_resolve.specs.declared.resolved.Resolved.{Resolved}
use Rattle.pl_meaning.specs.declared.event.Bounds.{Bounds}
use Rattle.pl_meaning.specs.declared.frame.Exit.{Exit}
use Rattle.pl_meaning.specs.declared.frame.Frame.{Frame}
use Rattle.pl_meaning.specs.Accesses.{settle, take_turn}
use Rattle.pl_meaning.specs.Bounds.{bounds_of}
use Rattle.pl_meaning.specs.Known.{same}
use Rattle.pl_meaning.specs.Logs.{Workspace, LoopQuestion, OfLoop, Reply}
use Rattle.pl_meaning.specs.Names.{slot_of}
use Rattle.pl_meaning.specs.Running.{Rest, before, ◌>>=◌, ask, answered_by}
use Rattle.pl_meaning.specs.Parts.{laid, laid_at, all_laid, shared, ends_in, written_in, answered}
use Rattle.pl_meaning.specs.Forms.{is_among}
use Rattle.pl_meaning.specs.Loops.{body_frame}
use Rattle.pl_frame.specs.Seeing.{Course, course_keeping, standing}
use Rattle.pl_frame.specs.Ordering.{HasArray, IsNew, IsReady}
use Rattle.pl_frame.specs.Ordinary.{statement_frame, AnsweredLaw}
use Rattle.pl_frame.proofs.Bodies.{same_self}

module _ (program : Resolved) (q : LoopQuestion) (env : Workspace) (client : Bool) (given wanted : ℕ) where
  abbrev g : Frame
  g = statement_frame q client given wanted

  -- the checks before a loop pass
  laid_there : (place : Place) (slot : ℕ) → HasArray env slot ⊎ IsNew env slot → (k : Unit {0} → Rest) (h : ScriptError → Rest) (t : ℕ) (c : List Choice) (r : Course) → laid place (Some slot) k h (standing env t c r) ≡ k tt (standing env t c r)
  laid_there place slot (inl a) k h t c r =
      ap (λ (v : Option Value). laid_at place v k h (standing env t c r)) a.1
      ∙ ap (λ (x : Result Array ErrKind). settle place x (λ b. k tt) h (standing env t c r)) (ap array_at (outs-Array a.0))
  laid_there place slot (inr n) k h t c r = ap (λ (v : Option Value). laid_at place v k h (standing env t c r)) n.1

  laid_by : (place : Place) (o : Option ℕ) → ((slot : ℕ) → o ≡ Some slot → HasArray env slot ⊎ IsNew env slot) → (k : Unit {0} → Rest) (h : ScriptError → Rest) (t : ℕ) (c : List Choice) (r : Course) → laid place o k h (standing env t c r) ≡ k tt (standing env t c r)
  laid_by place None ready k h t c r = refl
  laid_by place (Some slot) ready k h t c r = laid_there place slot (ready slot refl) k h t c r

  or_second : (a b : Bool) → b ≡ true → (a || b) ≡ true
  or_second true b h = refl
  or_second false b h = h

  all_laid_there : (place : Place) (ns : List Name) → ((n : Name) (slot : ℕ) → is_among ns n ≡ true → slot_of program (body_frame q) n.text ≡ Some slot → HasArray env slot ⊎ IsNew env slot) → (k : Unit {0} → Rest) (h : ScriptError → Rest) (t : ℕ) (c : List Choice) (r : Course) → all_laid program g place ns k h (standing env t c r) ≡ k tt (standing env t c r)
  all_laid_there place [] ready k h t c r = refl
  all_laid_there place (n ∷ ns) ready k h t c r =
      laid_by place (slot_of program g n.text) (λ slot is. ready n slot (ap (λ (b : Bool). b || is_among ns n) (same_self n.text)) is) (λ u. all_laid program g place ns k h) h t c r
      ∙ all_laid_there place ns (λ m slot among is. ready m slot (or_second (same n.text m.text) (is_among ns m) among) is) k h t c r

  -- behind the two ends
  answered_behind : IsReady program q env → (x y : Value) → bounds_of x y ≡ Ok (record { first = q.first; count = q.count }) → (left : ℕ) (choices : List Choice) (co : Course) (r : Reply) → co.rules.reply co.rules.kept (OfLoop q) env choices ≡ Some r → (k : Exit → Rest) (h : ScriptError → Rest) → shared program g q.place q.index q.body x y k h (standing env (suc left) choices co) ≡ answered q.place r.answer k h (standing env left r.left (course_keeping co r.kept))
  unfolding shared take_turn ask
  answered_behind ready x y bounds left choices co r known k h =
      ap (λ (z : Result Bounds ErrKind). settle q.place z (λ (b : Bounds). asking b) h (standing env (suc left) choices co)) bounds
      ∙ all_laid_there q.place (written_in q.body) ready (λ u. (take_turn q.place >>= (λ w. ask (OfLoop q) >>= answered q.place)) k h) h (suc left) choices co
      ∙ ap (λ (z : Option Reply). answered_by (OfLoop q) z (λ x. answered q.place x k h) h (standing env left choices co)) known
    where
      asking : Bounds → Rest
      asking b = (all_laid program g q.place (written_in q.body) >>= (λ u. take_turn q.place >>= (λ w. ask (OfLoop (record { scope = q.scope; place = q.place; index = q.index; body = q.body; first = b.first; count = b.count })) >>= answered q.place))) k h

pub goes_on_as_answered : AnsweredLaw
unfolding ends_in
goes_on_as_answered program levels q env ready client given wanted e x y here shown left choices co r known ends bounds k h =
    ends (λ xy. shared program (statement_frame q client given wanted) q.place q.index q.body xy.0 xy.1 k h) h
    ∙ ap (before shown) (answered_behind program q env client given wanted ready x y bounds left choices co r known k h)
