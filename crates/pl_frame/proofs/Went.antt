-- What went on in some world only read: its workspace, turns, calls and what its world keeps are as they were, and it showed what it comes to.
use Rattle.std.proofs.Common.{◌≡◌, ◌∙◌, ℕ, ◌+◌, ◌-◌, ℤ, pos, List, [], ◌∷◌, ◌++◌, length, take, drop, true, false, Option, Some, None, Result, Ok, Err, arith, refl, sym, ap}
use Rattle.std.proofs.lemmas.List.{append-nil, length-append, length-drop}
use Rattle.pl_base.specs.declared.choice.Choice.{Choice}
use Rattle.pl_base.specs.declared.choice.Choice.TheVariants as choice
use Rattle.pl_base.specs.declared.errors.ErrKind.TheVariants.{Spent}
use Rattle.pl_base.specs.declared.errors.ScriptError.{ScriptError}
use Rattle.pl_errors.specs.Errors.{error_of}
use Rattle.pl_syntax.specs.declared.expr.Name.{Name}
use Rattle.pl_syntax.specs.declared.expr.Expr.{Expr}
use Rattle.pl_values.specs.declared.value.Value.{Value}
use Rattle.pl_values.specs.Workspaces.{value_at}
use Rattle.pl_operators.specs.Bracketing.{number_of}
use Rattle.pl_resolve.specs.declared.resolved.Resolved.{Resolved}
use Rattle.pl_meaning.specs.declared.frame.Frame.{Frame}
use Rattle.pl_meaning.specs.declared.frame.Ends.{Ends}
use Rattle.pl_meaning.specs.Logs.{Workspace, OfExtra, Trace, grown}
use Rattle.pl_meaning.specs.Names.{slot_of}
use Rattle.pl_meaning.specs.Running.{Running, Rest, Ending, Done, Raised, Asks, Outcome, before}
use Rattle.pl_meaning.specs.Parts.{value_in, below}
use Rattle.pl_meaning.specs.Promises.{At, Seen, seen, Went}
use Rattle.pl_meaning.specs.Forms.{read_of}
use Rattle.pl_frame.specs.Seeing.{Course, no_course, has_doors, onward, standing, Comes_to, Framed, Alike, same_end}
use Rattle.pl_frame.specs.Reading.{WentLaw}
use Rattle.pl_frame.proofs.Values.{all_framed}

some_same : {A : Type 0} (a b : A) → Some a ≡ Some b → a ≡ b
some_same a b e = cc

-- ## What a part comes to is one thing

-- behind a value, an end that tells it and where the run stands; behind an error, that error
abbrev ending_at : Value → Rest
ending_at v s = record { shown = []; ending = Done (Some v ∷ s.env) s.choices }

abbrev turning_at : Value → Rest
turning_at v s = record { shown = []; ending = Raised (error_of Spent (record { line = s.turns; col = 0; at = 0 })) [] }

abbrev failing : ScriptError → Rest
failing e s = record { shown = []; ending = Raised e [] }

ends_same : (v w : Value) (E F : Workspace) (c d : List Choice) → Done (Some v ∷ E) c ≡ Done (Some w ∷ F) d → (v ≡ w) × ((E ≡ F) × (c ≡ d))
ends_same v w E F c d h = (cc, (cc, cc))

no_end : (v : Value) (E : Workspace) (c d : List Choice) (e : ScriptError) → Done (Some v ∷ E) c ≡ Raised e d → ⊥
no_end v E c d e h = cc

-- the line of an error
abbrev line_of : Ending → ℕ
line_of (Raised e c) = e.place.line
line_of x = 0

turns_same : (m n : ℕ) → Raised (error_of Spent (record { line = m; col = 0; at = 0 })) [] ≡ Raised (error_of Spent (record { line = n; col = 0; at = 0 })) [] → m ≡ n
turns_same m n h = ap line_of h

-- behind a value, an end that tells the calls, and one that tells what the world keeps
abbrev calling_at : Value → Rest
calling_at v s = record { shown = []; ending = Raised (error_of Spent (record { line = s.calls; col = 0; at = 0 })) [] }

abbrev keeping_at : Value → Rest
keeping_at v s = record { shown = []; ending = Asks (OfExtra 0 s.rules.kept 0) [] }

kept_same : (a b : List Value) → Asks (OfExtra 0 a 0) [] ≡ Asks (OfExtra 0 b 0) [] → a ≡ b
kept_same a b h = cc

pub comes_once : (p : Running Value) (W : Workspace) (ts us : List Trace) (v : Value) (g : Result Value ScriptError) → Comes_to p W ts (Ok v) → Comes_to p W us g → (us ≡ ts) × (g ≡ Ok v)
comes_once p W ts us v g P Q = by_result g (sym (P ending_at failing 0 [] no_course) ∙ Q ending_at failing 0 [] no_course)
  where
    by_result : (g : Result Value ScriptError) → before ts (ending_at v (standing W 0 [] no_course)) ≡ before us (onward ending_at failing g (standing W 0 [] no_course)) → (us ≡ ts) × (g ≡ Ok v)
    by_result (Ok w) e =
        let told : ts ++ [] ≡ us ++ [] = ap (λ (o : Outcome). o.shown) e in
        (sym (append-nil us) ∙ sym told ∙ append-nil ts, ap Ok (sym (ends_same v w W W [] [] (ap (λ (o : Outcome). o.ending) e)).0))
    by_result (Err x) e = absurd (no_end v W [] [] x (ap (λ (o : Outcome). o.ending) e))

-- ## Where it went on

take_first : (xs ys : List Choice) → take (length xs) (xs ++ ys) ≡ xs
take_first [] ys = refl
take_first (x ∷ xs) ys = ap (λ (zs : List Choice). x ∷ zs) (take_first xs ys)

grown_none : (told : Option (List Trace)) → grown told [] ≡ told
grown_none None = refl
grown_none (Some ts) = ap Some (append-nil ts)

grown_by : (told : Option (List Trace)) (ts : List Trace) → grown told (ts ++ []) ≡ grown told ts
grown_by told ts = ap (grown told) (append-nil ts)

-- what is known where a part went on
abbrev pub Left : At → List Trace → Value → Value → At → Type 0
Left old shown w v new = (w ≡ v) × (new.env ≡ old.env) × (new.turns ≡ old.turns) × (length new.log.given ≡ length old.log.given) × (new.log.shown ≡ grown old.log.shown shown) × (new.calls ≡ old.calls) × (new.log.rules.kept ≡ old.log.rules.kept)

module _ (p : Running Value) (old new : At) (v : Value) (went : Went p old v new) (us : List Trace) (g : Result Value ScriptError) (comes : Comes_to p old.env us g) where
  abbrev course_of : At → Course
  course_of a = record { calls = a.calls; rules = a.log.rules }

  -- one more choice than were taken
  abbrev all : List Choice
  all = new.log.given ++ choice.Fail (pos 0) ∷ []

  same_seen : (k : Value → Rest) (h : ScriptError → Rest) → seen old.log (before us (onward k h g (standing old.env old.turns (drop (length old.log.given) all) (course_of old)))) ≡ seen new.log (k v (standing new.env new.turns (drop (length new.log.given) all) (course_of new)))
  same_seen k h =
      ap (seen old.log) (sym (comes k h old.turns (drop (length old.log.given) all) (course_of old)))
      ∙ went k h all (take_first new.log.given (choice.Fail (pos 0) ∷ []))

  same_given : drop (length old.log.given) all ≡ drop (length new.log.given) all → length new.log.given ≡ length old.log.given
  same_given e =
      let n : ℕ = length new.log.given in
      let m : ℕ = length old.log.given in
      let long : length all ≡ n + 1 = length-append new.log.given (choice.Fail (pos 0) ∷ []) in
      let left : length all - m ≡ length all - n = sym (length-drop m all) ∙ ap (λ (cs : List Choice). length cs) e ∙ length-drop n all in
      omega arith

pub left_by : (p : Running Value) (old new : At) (v : Value) → Went p old v new → (us : List Trace) (g : Result Value ScriptError) → Comes_to p old.env us g → (w : Value) × (g ≡ Ok w) × Left old us w v new
left_by p old new v went us (Ok w) comes =
    let there = same_seen p old new v went us (Ok w) comes ending_at failing in
    let turned = same_seen p old new v went us (Ok w) comes turning_at failing in
    let called = same_seen p old new v went us (Ok w) comes calling_at failing in
    let kept = same_seen p old new v went us (Ok w) comes keeping_at failing in
    let ends = ends_same w v old.env new.env (drop (length old.log.given) (all p old new v went us (Ok w) comes)) (drop (length new.log.given) (all p old new v went us (Ok w) comes)) (ap (λ (o : Seen). o.ending) there) in (
      w,
      refl,
      (
        ends.0,
        sym ends.1.0,
        sym (turns_same old.turns new.turns (ap (λ (o : Seen). o.ending) turned)),
        same_given p old new v went us (Ok w) comes ends.1.1,
        sym (grown_none new.log.shown) ∙ sym (ap (λ (o : Seen). o.shown) there) ∙ grown_by old.log.shown us,
        sym (turns_same old.calls new.calls (ap (λ (o : Seen). o.ending) called)),
        sym (kept_same old.log.rules.kept new.log.rules.kept (ap (λ (o : Seen). o.ending) kept)),
      ),
    )
left_by p old new v went us (Err x) comes =
    let there = same_seen p old new v went us (Err x) comes ending_at failing in
    absurd (no_end v new.env (drop (length new.log.given) (all p old new v went us (Err x) comes)) [] x (sym (ap (λ (o : Seen). o.ending) there)))

-- ## Expressions

module _ (program : Resolved) (f : Frame) (index : Name) (written : List Name) (i : ℤ) (at : ℕ) (shut : has_doors program f ≡ false) (at_is : slot_of program f index.text ≡ Some at) where
  pub itself : (E : Workspace) → value_at E at ≡ Some (number_of i) → Alike program f index written i E E
  itself E h = record {
    unwritten = λ n s among is. refl;
    index_here = λ s is. ap (value_at E) (some_same s at (sym is ∙ at_is)) ∙ h;
    index_there = λ s is. ap (value_at E) (some_same s at (sym is ∙ at_is)) ∙ h;
    parts = λ n s v x among is held picked. (v, held, picked);
  }

  itself_end : (E : Workspace) (ends : Option Ends) → same_end E E ends
  itself_end E None = tt
  itself_end E (Some ends) = refl

  pub reads_itself : (E : Workspace) → value_at E at ≡ Some (number_of i) → (depth : ℕ) (e : Expr) → (read_of program f index written e).fits ≡ true → Framed E E (value_in program (below program depth) f e)
  reads_itself E h depth e fits = (all_framed program f index written i E E (itself E h) at at_is shut depth).only_reads f.ends (itself_end E f.ends) e fits

pub what_went : WentLaw
what_went program f index written i at depth e old new v shut at_is here fits went =
    let P : Framed old.env old.env (value_in program (below program depth) f e) = reads_itself program f index written i at shut at_is old.env here depth e fits in
    let L = left_by (value_in program (below program depth) f e) old new v went P.shown P.gives P.here in
    (P.shown, P.there v (L.1 ∙ ap Ok L.2.0), L.2.1, L.2.2, L.2.3, L.2.4, L.2.5, L.2.6)
