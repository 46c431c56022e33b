-- The variables of a workspace at the end of the passes, which may be moved out one after another, as each slot stands once among
-- those that a body writes.
use Rattle.std.specs.Prelude.{◌||◌, slice_set, if◌then◌else◌}
use Rattle.std.specs.List.{list_any}
use Rattle.std.proofs.Common.{◌≡◌, ◌∙◌, ℕ, zero, suc, ◌==◌, List, [], ◌∷◌, ◌++◌, drop, Bool, true, false, Option, Some, None, refl, sym, ap, append_assoc}
use Rattle.std.proofs.lemmas.List.{append-nil}
use Rattle.std.proofs.lemmas.Bool.{eqb-false, ne_eqb}
use Rattle.pl_syntax.specs.declared.expr.Name.{Name}
use Rattle.pl_values.specs.Workspaces.{value_at}
use Rattle.pl_resolve.specs.declared.resolved.Resolved.{Resolved}
use Rattle.pl_meaning.specs.declared.event.Output.{Output}
use Rattle.pl_meaning.specs.declared.frame.Frame.{Frame}
use Rattle.pl_meaning.specs.Logs.{Workspace, LoopQuestion}
use Rattle.pl_meaning.specs.Names.{slot_of}
use Rattle.pl_meaning.specs.Parts.{written_in}
use Rattle.pl_meaning.specs.Loops.{body_frame, with_one, slots_from, written_slots}
use Rattle.pl_frame.specs.Rising.{output_with, outputs_in}
use Rattle.pl_frame.proofs.Slots.{set_elsewhere}

-- each slot of a list stands in it once
abbrev pub Once : List ℕ → Type 0
Once [] = Unit {0}
Once (s ∷ slots) = (list_any (λ (x : ℕ). x == s) slots ≡ false) × Once slots

pub once_drop : (n : ℕ) (slots : List ℕ) → Once slots → Once (drop n slots)
once_drop zero slots o = o
once_drop (suc n) [] o = o
once_drop (suc n) (s ∷ slots) o = once_drop n slots o.1

none_first : (a b : Bool) → (a || b) ≡ false → a ≡ false
none_first true b h = h
none_first false b h = refl

none_second : (a b : Bool) → (a || b) ≡ false → b ≡ false
none_second true b h = absurd (cc)
none_second false b h = h

none_append : (p : ℕ → Bool) (xs ys : List ℕ) → list_any p xs ≡ false → list_any p ys ≡ false → list_any p (xs ++ ys) ≡ false
none_append p [] ys h k = k
none_append p (x ∷ xs) ys h k = ap (λ (b : Bool). b || list_any p (xs ++ ys)) (none_first (p x) (list_any p xs) h) ∙ none_append p xs ys (none_second (p x) (list_any p xs) h) k

once_more : (done : List ℕ) (s : ℕ) → Once done → list_any (λ (x : ℕ). x == s) done ≡ false → Once (done ++ s ∷ [])
once_more [] s o h = (refl, tt)
once_more (y ∷ done) s o h =
    let apart : (s == y) ≡ false = ne_eqb s y (λ e. eqb-false y s (none_first (y == s) (list_any (λ (x : ℕ). x == s) done) h) (sym e)) in
    (none_append (λ (x : ℕ). x == y) done (s ∷ []) o.0 (ap (λ (b : Bool). b || false) apart), once_more done s o.1 (none_second (y == s) (list_any (λ (x : ℕ). x == s) done) h))

once_with : (done : List ℕ) (o : Option ℕ) → Once done → Once (with_one done o)
once_with done None once = once
once_with done (Some s) once = by_test (list_any (λ (x : ℕ). x == s) done) refl
  where
    by_test : (b : Bool) → list_any (λ (x : ℕ). x == s) done ≡ b → Once (if b then done else done ++ s ∷ [])
    by_test true e = once
    by_test false e = once_more done s once e

once_from : (program : Resolved) (f : Frame) (done : List ℕ) (ns : List Name) → Once done → Once (slots_from program f done ns)
once_from program f done [] once = once
once_from program f done (n ∷ ns) once = once_from program f (with_one done (slot_of program f n.text)) ns (once_with done (slot_of program f n.text) once)

pub written_once : (program : Resolved) (q : LoopQuestion) → Once (written_slots program q)
written_once program q = once_from program (body_frame q) [] (written_in q.body) tt

outputs_apart : (end : Workspace) (s : ℕ) (slots : List ℕ) → list_any (λ (x : ℕ). x == s) slots ≡ false → outputs_in (slice_set end s None) slots ≡ outputs_in end slots
outputs_apart end s [] h = refl
outputs_apart end s (y ∷ slots) h =
    ap (λ (v : Option _). output_with y v (outputs_in (slice_set end s None) slots)) (set_elsewhere end s y None (λ e. eqb-false y s (none_first (y == s) (list_any (λ (x : ℕ). x == s) slots) h) (sym e)))
    ∙ ap (output_with y (value_at end y)) (outputs_apart end s slots (none_second (y == s) (list_any (λ (x : ℕ). x == s) slots) h))

-- the first of them moved out, and the others
pub moved_out : (end : Workspace) (s : ℕ) (slots : List ℕ) → Once (s ∷ slots) → outputs_in end (s ∷ slots) ≡ output_with s (value_at end s) (outputs_in (slice_set end s None) slots)
moved_out end s slots once = ap (output_with s (value_at end s)) (sym (outputs_apart end s slots once.0))

-- those that are done, and the next one
pub output_last : (done : List Output) (s : ℕ) (v : Option _) (more : List Output) → done ++ output_with s v more ≡ (done ++ output_with s v []) ++ more
output_last done s None more = ap (λ (xs : List Output). xs ++ more) (sym (append-nil done))
output_last done s (Some v) more = sym (append_assoc done (record { slot = s; value = v } ∷ []) more)
