-- What is known on the way through the passes on one workspace: it keeps its length and the index its value, so each expression of
-- the body only read; and what has to be tested before the first pass.
use Rattle.std.specs.Prelude.{not, is_some, slice_get, slice_set}
use Rattle.std.specs.List.{list_all}
use Rattle.std.proofs.Common.{◌≡◌, ◌∙◌, ℕ, zero, suc, ◌<◌, ◌⊎◌, ℤ, List, [], ◌∷◌, length, drop, Bool, true, Option, Some, None, Ok, arith, refl, sym, ap, subst}
use Rattle.std.proofs.lemmas.List.{length-set}
use Rattle.pl_syntax.specs.declared.expr.Name.{Name}
use Rattle.pl_syntax.specs.declared.expr.Expr.{Expr}
use Rattle.pl_syntax.specs.declared.stmt.Stmt.{Stmt, out-Stmt}
use Rattle.pl_syntax.specs.declared.stmt.StmtKind.{out-StmtKind}
use Rattle.pl_syntax.specs.declared.stmt.StmtKind.TheOpen.{StmtKind-F}
use Rattle.pl_syntax.specs.declared.stmt.Target.TheVariants.{Indexed}
use Rattle.pl_values.specs.declared.value.Value.{Value}
use Rattle.pl_values.specs.Workspaces.{value_at}
use Rattle.pl_operators.specs.Bracketing.{number_of}
use Rattle.pl_resolve.specs.declared.resolved.Resolved.{Resolved}
use Rattle.pl_meaning.specs.declared.frame.Frame.{Frame}
use Rattle.pl_meaning.specs.Known.{same}
use Rattle.pl_meaning.specs.Logs.{Workspace, LoopQuestion, Trace, grown}
use Rattle.pl_meaning.specs.Names.{slot_of}
use Rattle.pl_meaning.specs.Parts.{below, value_in, with_slot, written_in}
use Rattle.pl_meaning.specs.Promises.{At, Went}
use Rattle.pl_meaning.specs.Forms.{read_of, is_own_place, is_item, is_item_at, is_form}
use Rattle.pl_meaning.specs.Loops.{body_frame, start_of, written_slots}
use Rattle.pl_frame.specs.Seeing.{Comes_to}
use Rattle.pl_frame.specs.Ordering.{Each, HasSlot, HasArray, IsNew, IsReady}
use Rattle.pl_frame.specs.Rising.{Assigns, Passing, Risen}
use Rattle.pl_frame.proofs.Values.{and_first, and_second, not_true}
use Rattle.pl_frame.proofs.Slots.{set_here, set_elsewhere}
use Rattle.pl_frame.proofs.Bodies.{Item}
use Rattle.pl_frame.proofs.Keeping.{apart}
use Rattle.pl_frame.proofs.Fresh.{some_slot, all_slots, each_any}
use Rattle.pl_frame.proofs.Went.{what_went}

-- ## Lists

pub each_got : {A : Type 0} (P : A → Type 0) (xs : List A) → ((n : ℕ) (x : A) → slice_get xs n ≡ Some x → P x) → Each P xs
each_got P [] h = tt
each_got P (x ∷ xs) h = (h 0 x refl, each_got P xs (λ n y e. h (suc n) y e))

pub set_twice : {A : Type 0} (xs : List A) (n : ℕ) (x y : A) → slice_set (slice_set xs n x) n y ≡ slice_set xs n y
set_twice [] n x y = refl
set_twice (z ∷ xs) zero x y = refl
set_twice (z ∷ xs) (suc n) x y = ap (λ (ys : List _). z ∷ ys) (set_twice xs n x y)

-- what is left of a list from an element on
pub drop_next : {A : Type 0} (xs : List A) (n : ℕ) (x : A) → slice_get xs n ≡ Some x → drop n xs ≡ x ∷ drop (suc n) xs
drop_next [] n x h = absurd (cc)
drop_next (y ∷ xs) zero x h = ap (λ (z : _). z ∷ xs) (same_some y x h)
  where
    same_some : {A : Type 0} (a b : A) → Some a ≡ Some b → a ≡ b
    same_some a b e = cc
drop_next (y ∷ xs) (suc n) x h = drop_next xs n x h

pub drop_whole : {A : Type 0} (xs : List A) → drop (length xs) xs ≡ []
drop_whole [] = refl
drop_whole (x ∷ xs) = drop_whole xs

pub each_at : {A : Type 0} (p : A → Bool) (xs : List A) → list_all p xs ≡ true → (n : ℕ) (x : A) → slice_get xs n ≡ Some x → p x ≡ true
each_at p [] h n x e = absurd (cc)
each_at p (y ∷ xs) h zero x e = subst (λ (z : _). p z ≡ true) (same_some y x e) (and_first (p y) (list_all p xs) h)
  where
    same_some : {A : Type 0} (a b : A) → Some a ≡ Some b → a ≡ b
    same_some a b e = cc
each_at p (y ∷ xs) h (suc n) x e = each_at p xs (and_second (p y) (list_all p xs) h) n x e

-- ## Before the first pass

pub ready_slots : (program : Resolved) (q : LoopQuestion) (env : Workspace) → Each (λ (s : ℕ). HasArray env s ⊎ IsNew env s) (written_slots program q) → IsReady program q env
ready_slots program q env all n slot among is = each_any program q env 0 0 (λ (s : ℕ). HasArray env s ⊎ IsNew env s) (written_slots program q) slot all (all_slots program q env 0 0 [] (written_in q.body) n slot among is)

-- ## On the way

module _ (program : Resolved) (depth : ℕ) (q : LoopQuestion) (env : Workspace) where
  abbrev f : Frame
  f = body_frame q

  -- a statement of the form whose parts are known
  abbrev pub item_with : (s : Stmt) (name : Name) (list : List Expr) (expr : Expr) (slot : ℕ) → out-StmtKind (out-Stmt s).kind ≡ StmtKind-F.Assign (Indexed name list) expr → slot_of program f name.text ≡ Some slot → is_item program f q.index (written_in q.body) s ≡ true → Item program f q.index (written_in q.body) s
  item_with s name list expr slot kind slot_is h =
      let all : is_item_at program f q.index (written_in q.body) (out-Stmt s).show (StmtKind-F.Assign (Indexed name list) expr) ≡ true = sym (ap (is_item_at program f q.index (written_in q.body) (out-Stmt s).show) kind) ∙ h in
      let one = and_second (not (out-Stmt s).show) _ all in
      let two = and_second (is_some (slot_of program f name.text)) _ one in
      let three = and_second (not (same name.text q.index.text)) _ two in
      record {
        name = name;
        list = list;
        value = expr;
        slot = slot;
        kind = kind;
        hidden = not_true (out-Stmt s).show (and_first (not (out-Stmt s).show) _ all);
        slot_is = slot_is;
        no_index = not_true (same name.text q.index.text) (and_first (not (same name.text q.index.text)) _ two);
        own = and_first (is_own_place program f q.index (written_in q.body) list) _ three;
        fits = and_second (is_own_place program f q.index (written_in q.body) list) _ three;
      }

  abbrev Items : Type 0
  Items = list_all (is_item program f q.index (written_in q.body)) q.body ≡ true

  abbrev pub item_at : Items → (i : ℤ) (n : ℕ) (s : Stmt) → slice_get q.body n ≡ Some s → (now : Workspace) (shown : List Trace) (next : Workspace) → Assigns program depth q env i s now shown next → Item program f q.index (written_in q.body) s
  item_at items i n s is now shown next A = item_with s A.name A.list A.expr A.slot A.kind A.slot_is (each_at (is_item program f q.index (written_in q.body)) q.body items n s is)

  same_length : (i : ℤ) (start : Workspace) (told : List ℕ) (n : ℕ) (now : Workspace) (text : List ℕ) → Passing program depth q env i start told n now text → length now ≡ length start
  same_length i start told zero now text P = ap (λ (W : Workspace). length W) P.0
  same_length i start told (suc n) now text F = ap (λ (W : Workspace). length W) F.assigns.leaves ∙ length-set F.now F.assigns.slot (Some F.assigns.made) ∙ same_length i start told n F.now F.told F.come

  start_length : (i : ℤ) (before : Workspace) (o : Option ℕ) → length (with_slot before o (number_of i)) ≡ length before
  start_length i before None = refl
  start_length i before (Some at) = length-set before at (Some (number_of i))

  risen_length : (k : ℕ) (now : Workspace) (text : List ℕ) → Risen program depth q env k now text → length now ≡ length env
  risen_length zero now text P = ap (λ (W : Workspace). length W) P.0
  risen_length (suc k) now text H =
      same_length _ _ H.told (length q.body) now text H.pass
      ∙ start_length _ H.now (slot_of program f q.index.text)
      ∙ risen_length k H.now H.told H.come

  module _ (items : Items) (at : ℕ) (at_is : slot_of program f q.index.text ≡ Some at) where
    -- the index keeps its value
    index_stays : (i : ℤ) (start : Workspace) (told : List ℕ) (n : ℕ) (now : Workspace) (text : List ℕ) → Passing program depth q env i start told n now text → value_at now at ≡ value_at start at
    index_stays i start told zero now text P = ap (λ (W : Workspace). value_at W at) P.0
    index_stays i start told (suc n) now text F =
        ap (λ (W : Workspace). value_at W at) F.assigns.leaves
        ∙ set_elsewhere F.now F.assigns.slot at (Some F.assigns.made) (apart program q depth (written_in q.body) i at at_is F.stmt [] (item_at items i n F.stmt F.is F.now F.shown now F.assigns))
        ∙ index_stays i start told n F.now F.told F.come

    pub index_there : at < length env → (k : ℕ) (i : ℤ) (before : Workspace) (told : List ℕ) → Risen program depth q env k before told → (n : ℕ) (now : Workspace) (first text : List ℕ) → Passing program depth q env i (start_of program q before i) first n now text → value_at now at ≡ Some (number_of i)
    index_there within k i before told R n now first text P =
        let long : length before ≡ length env = risen_length k before told R in
        index_stays i (start_of program q before i) first n now text P
        ∙ ap (λ (o : Option ℕ). value_at (with_slot before o (number_of i)) at) at_is
        ∙ set_here before at (number_of i) (omega arith)

  -- a statement's expression that went on with a value
  pub went_in_pass : is_form program f q.index q.body ≡ true → HasSlot program q env → (k : ℕ) (i : ℤ) (before : Workspace) (told : List ℕ) → Risen program depth q env k before told → (n : ℕ) (now : Workspace) (first text : List ℕ) → Passing program depth q env i (start_of program q before i) first n now text
      → (s : Stmt) → slice_get q.body n ≡ Some s → (name : Name) (list : List Expr) (expr : Expr) → out-StmtKind (out-Stmt s).kind ≡ StmtKind-F.Assign (Indexed name list) expr → (old new : At) (v : Value) → old.env ≡ now → Went (value_in program (below program depth) f expr) old v new
      → (shown : List Trace) × Comes_to (value_in program (below program depth) f expr) now shown (Ok v) × (new.env ≡ now) × (new.turns ≡ old.turns) × (length new.log.given ≡ length old.log.given) × (new.log.shown ≡ grown old.log.shown shown) × (new.calls ≡ old.calls) × (new.log.rules.kept ≡ old.log.rules.kept)
  went_in_pass form slots k i before told R n now first text P s is name list expr kind old new v here went =
      let at = some_slot (slot_of program f q.index.text) (and_first (is_some (slot_of program f q.index.text)) _ form) in
      let items : Items = and_second (is_some (slot_of program f q.index.text)) _ form in
      let item : is_item program f q.index (written_in q.body) s ≡ true = each_at (is_item program f q.index (written_in q.body)) q.body items n s is in
      let index : value_at now at.0 ≡ Some (number_of i) = index_there items at.0 at.1 (slots at.0 at.1) k i before told R n now first text P in
      let all : is_item_at program f q.index (written_in q.body) (out-Stmt s).show (StmtKind-F.Assign (Indexed name list) expr) ≡ true = sym (ap (is_item_at program f q.index (written_in q.body) (out-Stmt s).show) kind) ∙ item in
      let two = and_second (is_some (slot_of program f name.text)) _ (and_second (not (out-Stmt s).show) _ all) in
      let fits : (read_of program f q.index (written_in q.body) expr).fits ≡ true = and_second (is_own_place program f q.index (written_in q.body) list) _ (and_second (not (same name.text q.index.text)) _ two) in
      let w = what_went program f q.index (written_in q.body) i at.0 depth expr old new v refl at.1 (ap (λ (W : Workspace). value_at W at.0) here ∙ index) fits went in
      (w.0, subst (λ (W : Workspace). Comes_to (value_in program (below program depth) f expr) W w.0 (Ok v)) here w.1, w.2 ∙ here, w.3, w.4, w.5, w.6, w.7)
