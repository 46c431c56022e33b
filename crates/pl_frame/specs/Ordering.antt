-- The law of the order of a loop's iterations.
use Rattle.std.specs.Prelude.{◌≡◌, ◌≢◌, ◌<◌, ◌≤◌, ◌⊎◌, ◌*◌, ℕ, ℤ, length, List, [], ◌∷◌, ◌++◌, true, false, Option, Some, None, Ok}
use Rattle.pl_array.specs.Arrays.{Array, most}
use Rattle.pl_syntax.specs.declared.expr.Name.{Name}
use Rattle.pl_values.specs.declared.value.Value.TheVariants as value
use Rattle.pl_values.specs.Workspaces.{value_at}
use Rattle.pl_resolve.specs.declared.resolved.Resolved.{Resolved}
use Rattle.pl_meaning.specs.declared.event.Output.{Output}
use Rattle.pl_meaning.specs.Logs.{Workspace, LoopQuestion}
use Rattle.pl_meaning.specs.Names.{slot_of}
use Rattle.pl_meaning.specs.Parts.{written_in}
use Rattle.pl_meaning.specs.Forms.{is_among, is_form}
use Rattle.pl_meaning.specs.Loops.{body_frame, indices, all_done, come_to, plain, Iter, end_of, text_of, texts}

-- one list is another in some order: two neighbours change places, again and again
pub data Reorders : List ℤ → List ℤ → Type 0 where
  none : Reorders [] []
  beside : {x : ℤ} {xs ys : List ℤ} → Reorders xs ys → Reorders (x ∷ xs) (x ∷ ys)
  turned : {x y : ℤ} {xs : List ℤ} → Reorders (x ∷ y ∷ xs) (y ∷ x ∷ xs)
  through : {xs ys zs : List ℤ} → Reorders xs ys → Reorders ys zs → Reorders xs zs

-- each element of a list
abbrev pub Each : {A : Type 0} → (A → Type 0) → List A → Type 0
Each P [] = Unit {0}
Each P (x ∷ xs) = P x × Each P xs

-- every variable of a scope has a slot in its workspace: a session makes a workspace as long as its scope
abbrev pub HasSlot : Resolved → LoopQuestion → Workspace → Type 0
HasSlot program q env = (at : ℕ) → slot_of program (body_frame q) q.index.text ≡ Some at → at < length env

-- an array has one cell for each of its places, and no more of them than an array may have
pub record IsFull (a : Array) : Type 0 where
  pub count : length a.cells ≡ a.rows * a.cols
  pub limit : a.rows * a.cols ≤ most

-- a slot has an array, and a full one, as all arrays of a session are
abbrev pub HasArray : Workspace → ℕ → Type 0
HasArray env slot = (a : Array) × (value_at env slot ≡ Some (value.Array a)) × IsFull a

-- a variable's slot in the workspace is still empty
abbrev pub IsNew : Workspace → ℕ → Type 0
IsNew env slot = (slot < length env) × (value_at env slot ≡ None)

-- each variable that the body writes has an array before the loop, or is new with the loop
abbrev pub IsReady : Resolved → LoopQuestion → Workspace → Type 0
IsReady program q env = (n : Name) (slot : ℕ) → is_among (written_in q.body) n ≡ true → slot_of program (body_frame q) n.text ≡ Some slot → HasArray env slot ⊎ IsNew env slot

-- a slot of no variable that the loop touches: neither its index nor one that the body writes
abbrev pub IsOther : Resolved → LoopQuestion → ℕ → Type 0
IsOther program q slot = (n : Name) → slot_of program (body_frame q) n.text ≡ Some slot → (is_among (written_in q.body) n ≡ false) × (n.text ≢ q.index.text)

module _ (program : Resolved) (turns depth : ℕ) (q : LoopQuestion) where
  -- behind a pass, where it doesn't raise
  abbrev pub texts_on : (Workspace → List ℕ) → Option Workspace → List ℕ
  texts_on more None = []
  texts_on more (Some env) = more env

  -- the bytes that the plain run prints
  abbrev pub plain_texts : List ℤ → Workspace → List ℕ
  plain_texts [] env = []
  plain_texts (i ∷ is) env = text_of (Iter program turns depth q env i).shown ++ texts_on (plain_texts is) (end_of (Iter program turns depth q env i).ending)

-- where no iteration raises and the writes go together, the body as one ordinary loop over one whole workspace, in every order
-- of the index's values, ends, and ends with the variables that the loop's answer has; all others are as they were,
-- and it prints the iterations' own texts in that order
abbrev pub OrderLaw : Type 0
OrderLaw = (program : Resolved) (turns depth : ℕ) (q : LoopQuestion) (env : Workspace) (outs : List Output) (p : List ℤ)
    → is_form program (body_frame q) q.index q.body ≡ true
    → HasSlot program q env
    → IsReady program q env
    → all_done program turns depth q env (indices q.first q.count) ≡ true
    → come_to program turns depth q env ≡ Ok outs
    → Reorders (indices q.first q.count) p
    → (end : Workspace) × (plain program turns depth q p env ≡ Some end) × Each (λ (o : Output). value_at end o.slot ≡ Some o.value) outs × ((slot : ℕ) → IsOther program q slot → value_at end slot ≡ value_at env slot) × (plain_texts program turns depth q p env ≡ texts program turns depth q env p)
