-- What an iteration does at its own place of a variable, and that two arrays that hold the same are the same.
use Rattle.std.specs.Prelude.{if◌then◌else◌, ◌||◌, ◌&&◌, not, int_lt, nat_lt, slice_set, ◌-◌, ◌++◌}
use Rattle.std.proofs.Common.{◌≡◌, ◌∙◌, ℕ, ◌+◌, ◌*◌, ◌≤◌, ◌==◌, ℤ, pos, List, [], ◌∷◌, length, get_or, Bool, true, false, Option, Some, None, Result, Ok, Err, refl, sym, ap, subst}
use Rattle.std.proofs.lemmas.Bool.{ltb-false, le-ltb}
use Rattle.std.proofs.lemmas.List.FromFn.{fill_by_all}
use Rattle.pl_base.specs.declared.errors.ErrKind.{ErrKind}
use Rattle.pl_base.specs.declared.errors.ErrKind.TheVariants.{BadIndex, IndexRange}
use Rattle.pl_array.specs.declared.class.Class.{Class}
use Rattle.pl_array.specs.declared.class.Shape.{Shape}
use Rattle.pl_array.specs.Arrays.{Array}
use Rattle.pl_array.specs.Cellwise.{shape_of}
use Rattle.pl_index.specs.declared.index.Pos.TheVariants.{At}
use Rattle.pl_index.specs.declared.index.Index.{Index}
use Rattle.pl_index.specs.declared.index.Index.TheVariants.{One}
use Rattle.pl_index.specs.Places.{place_of}
use Rattle.pl_index.specs.Choosing.{select_of, select_places, is_vector, is_single, lying, taken, row_of, column_of}
use Rattle.pl_index.specs.Writing.{assign_of, nothing, stored}
use Rattle.pl_values.specs.declared.value.Value.{Value, out-Value}
use Rattle.pl_values.specs.declared.value.Value.TheOpen.{Value-F}
use Rattle.pl_values.specs.declared.value.Value.TheVariants as value
use Rattle.pl_values.specs.declared.value.Value.TheVariants.{outs-Array, outs-Futures}
use Rattle.pl_operators.specs.Operands.{and_then, valued, array_at}
use Rattle.pl_operators.specs.Picking.{index_of, single_index, select_at, select_value, put_call, assign_future, assign_to_futures, assign_at, assign_to_array, assign_to_none, assign_value}
use Rattle.pl_meaning.specs.Loops.{own_places}
use Rattle.pl_frame.proofs.Growth.{size, Grown, to_line}
use Rattle.pl_frame.proofs.Assigning.{one_number, at_number, tip, Succeeded, succeeds, succeeded, Holding, last_of, top}

-- ## The index of an iteration's own place

pub own_index : (i : ℤ) → index_of (own_places i) ≡ Ok (at_number i)
own_index i = ap (λ (layer : Value-F Value). and_then (and_then (array_at layer) (λ a. Ok (At a))) (λ p. Ok (One p))) (outs-Array (one_number i))

select_is : (b : Array) (i : ℤ) → select_value (value.Array b) (own_places i) ≡ valued (select_of b (at_number i))
select_is b i =
    ap (λ (layer : Value-F Value). select_at layer (own_places i)) (outs-Array b)
    ∙ ap (λ (r : Result Index ErrKind). valued (and_then r (select_of b))) (own_index i)

-- one cell as an array
abbrev pub cell_alone : Class → ℤ → Array
cell_alone class z = record { class = class; rows = 1; cols = 1; cells = z ∷ [] }

abbrev one_by_one : Shape
one_by_one = record { rows = 1; cols = 1 }

either_way : (t u : Bool) → (if t then (if u then row_of 1 else column_of 1) else one_by_one) ≡ one_by_one
either_way true true = refl
either_way true false = refl
either_way false u = refl

shaped : Array → ℤ → Shape → Array
shaped b z s = record { class = b.class; rows = s.rows; cols = s.cols; cells = z ∷ [] }

taken_cell : (b : Array) (i : ℤ) → taken b (lying (shape_of b) (At (one_number i)) 1) (place_of i ∷ []) ≡ cell_alone b.class (get_or b.cells (place_of i) (pos 0))
unfolding shaped
taken_cell b i = ap (shaped b (get_or b.cells (place_of i) (pos 0))) (either_way ((is_vector (shape_of b) && not (is_single (shape_of b))) && true) (b.rows == 1))

select_cell : (b : Array) (i : ℤ) → int_lt i (pos 1) ≡ false → tip i ≤ b.rows * b.cols → select_of b (at_number i) ≡ Ok (cell_alone b.class (get_or b.cells (place_of i) (pos 0)))
select_cell b i low inside =
    ap (λ (t : Bool). if (t || false) then Err BadIndex else select_places b (At (one_number i)) (place_of i ∷ [])) low
    ∙ ap (λ (t : Bool). if t then Err IndexRange else Ok (taken b (lying (shape_of b) (At (one_number i)) 1) (place_of i ∷ []))) (le-ltb (b.rows * b.cols) (tip i) inside)
    ∙ ap Ok (taken_cell b i)

-- the own place of an array that has it
pub selected : (b : Array) (i : ℤ) → int_lt i (pos 1) ≡ false → tip i ≤ b.rows * b.cols → select_value (value.Array b) (own_places i) ≡ Ok (value.Array (cell_alone b.class (get_or b.cells (place_of i) (pos 0))))
selected b i low inside = select_is b i ∙ ap valued (select_cell b i low inside)

selected_by : (b : Array) (i : ℤ) (x : Value) (t : Bool) → int_lt i (pos 1) ≡ t → (u : Bool) → nat_lt (b.rows * b.cols) (tip i) ≡ u → valued (if (t || false) then Err BadIndex else (if u then Err IndexRange else Ok (taken b (lying (shape_of b) (At (one_number i)) 1) (place_of i ∷ [])))) ≡ Ok x → (int_lt i (pos 1) ≡ false) × (tip i ≤ b.rows * b.cols)
selected_by b i x true et u eu h = absurd (cc)
selected_by b i x false et true eu h = absurd (cc)
selected_by b i x false et false eu h = (et, ltb-false (b.rows * b.cols) (tip i) eu)

pub has_place : (b : Array) (i : ℤ) (x : Value) → select_value (value.Array b) (own_places i) ≡ Ok x → (int_lt i (pos 1) ≡ false) × (tip i ≤ b.rows * b.cols)
has_place b i x h = selected_by b i x (int_lt i (pos 1)) refl (nat_lt (b.rows * b.cols) (tip i)) refl (sym (select_is b i) ∙ h)

-- ## An assignment there

assign_is : (b : Array) (i : ℤ) (v : Value) → assign_value (Some (value.Array b)) (own_places i) v ≡ assign_to_array (Some b) (own_places i) (out-Value v)
assign_is b i v = ap (λ (layer : Value-F Value). assign_at layer (own_places i) v) (outs-Array b)

pub assigns : (b y a : Array) (i : ℤ) (v : Value) → out-Value v ≡ Value-F.Array y → assign_of b (at_number i) y ≡ Ok a → assign_value (Some (value.Array b)) (own_places i) v ≡ Ok (value.Array a)
assigns b y a i v is h =
    assign_is b i v
    ∙ ap (assign_to_array (Some b) (own_places i)) is
    ∙ ap (λ (r : Result Index ErrKind). valued (and_then r (λ at. assign_of b at y))) (own_index i)
    ∙ ap valued h

-- what is known of a value that was assigned
pub record Assigned (b : Array) (i : ℤ) (v : Value) : Type 0 where
  pub cells : Array
  pub is : out-Value v ≡ Value-F.Array cells
  pub how : Succeeded b cells i

assigned_by : (b y : Array) (i : ℤ) (w : Value) (r : Result Array ErrKind) → assign_of b (at_number i) y ≡ r → valued r ≡ Ok w → Succeeded b y i
assigned_by b y i w (Ok a) e h = succeeded b y a i e
assigned_by b y i w (Err kind) e h = absurd (cc)

assigned_layer : (b : Array) (i : ℤ) (v w : Value) (layer : Value-F Value) → out-Value v ≡ layer → assign_to_array (Some b) (own_places i) layer ≡ Ok w → Assigned b i v
assigned_layer b i v w (Value-F.Array y) is h =
    record {
      cells = y;
      is = is;
      how = assigned_by b y i w (assign_of b (at_number i) y) refl (sym (ap (λ (r : Result Index ErrKind). valued (and_then r (λ at. assign_of b at y))) (own_index i)) ∙ h);
    }
assigned_layer b i v w layer is h = absurd (cc)

pub assigned_how : (b : Array) (i : ℤ) (v w : Value) → assign_value (Some (value.Array b)) (own_places i) v ≡ Ok w → Assigned b i v
assigned_how b i v w h = assigned_layer b i v w (out-Value v) refl (sym (assign_is b i v) ∙ h)

-- ## The kind that a variable keeps

-- the class of an array; no other value has one
abbrev pub class_in : Value-F Value → Option Class
class_in (Value-F.Array a) = Some a.class
class_in layer = None

same_made : (a b : Value) → ◌≡◌ {A = Result Value ErrKind} (Ok a) (Ok b) → a ≡ b
same_made a b e = cc

pub class_of_array : (a : Array) → class_in (out-Value (value.Array a)) ≡ Some a.class
class_of_array a = ap class_in (outs-Array a)

no_class : (calls : List ℕ) (a : Value) → ◌≡◌ {A = Result Value ErrKind} (Ok (value.Futures calls)) (Ok a) → class_in (out-Value a) ≡ None
no_class calls a h = ap (λ (v : Value). class_in (out-Value v)) (sym (same_made (value.Futures calls) a h)) ∙ ap class_in (outs-Futures calls)

put_no_class : (calls : List ℕ) (call k : ℕ) (a : Value) → put_call calls call k ≡ Ok a → class_in (out-Value a) ≡ None
put_no_class calls call k a h = by_tests (nat_lt (length calls + 1) k) (nat_lt (length calls) k) h
  where
    by_tests : (t u : Bool) → (if t then Err IndexRange else (if u then Ok (value.Futures (calls ++ call ∷ [])) else Ok (value.Futures (slice_set calls (k - 1) call)))) ≡ Ok a → class_in (out-Value a) ≡ None
    by_tests true u h = absurd (cc)
    by_tests false true h = no_class (calls ++ call ∷ []) a h
    by_tests false false h = no_class (slice_set calls (k - 1) call) a h

future_no_class : (calls more : List ℕ) (i : ℤ) (a : Value) → assign_future calls (own_places i) more ≡ Ok a → class_in (out-Value a) ≡ None
future_no_class calls [] i a h = absurd (cc)
future_no_class calls (call ∷ []) i a h =
    by_place (single_index (at_number i)) (sym (ap (λ (r : Result Index ErrKind). and_then r (λ at. and_then (single_index at) (put_call calls call))) (own_index i)) ∙ h)
  where
    by_place : (r : Result ℕ ErrKind) → and_then r (put_call calls call) ≡ Ok a → class_in (out-Value a) ≡ None
    by_place (Ok k) h = put_no_class calls call k a h
    by_place (Err kind) h = absurd (cc)
future_no_class calls (call ∷ other ∷ more) i a h = absurd (cc)

array_keeps_class : (b : Array) (v a : Value) (i : ℤ) → assign_to_array (Some b) (own_places i) (out-Value v) ≡ Ok a → class_in (out-Value a) ≡ Some b.class
array_keeps_class b v a i h =
    let D : Assigned b i v = assigned_layer b i v a (out-Value v) refl h in
    let S : Succeeded b D.cells i = D.how in
    let c : Array = stored b S.shape (place_of i ∷ []) (S.value ∷ []) in
    let made : assign_value (Some (value.Array b)) (own_places i) v ≡ Ok (value.Array c) = assigns b D.cells c i v D.is (succeeds b D.cells i S.value S.shape S.low S.line S.converts) in
    let is : value.Array c ≡ a = same_made (value.Array c) a (sym made ∙ assign_is b i v ∙ h) in
    ap (λ (x : Value). class_in (out-Value x)) (sym is) ∙ class_of_array c

futures_keep_class : (calls : List ℕ) (layer : Value-F Value) (a : Value) (i : ℤ) → assign_to_futures calls (own_places i) layer ≡ Ok a → class_in (out-Value a) ≡ None
futures_keep_class calls (Value-F.Futures more) a i h = future_no_class calls more i a h
futures_keep_class calls layer a i h = absurd (cc)

-- an assignment to a part keeps an array an array of its class, and no other value becomes one
pub keeps_class : (old v a : Value) (i : ℤ) → assign_value (Some old) (own_places i) v ≡ Ok a → class_in (out-Value a) ≡ class_in (out-Value old)
keeps_class old v a i h = by_layer (out-Value old) h
  where
    by_layer : (layer : Value-F Value) → assign_at layer (own_places i) v ≡ Ok a → class_in (out-Value a) ≡ class_in layer
    by_layer (Value-F.Array b) h = array_keeps_class b v a i h
    by_layer (Value-F.Futures calls) h = futures_keep_class calls (out-Value v) a i h
    by_layer layer h = absurd (cc)

-- where there was no value, an array is assigned to as to no cells of its class
pub assigns_new : (y : Array) (i : ℤ) (v : Value) → out-Value v ≡ Value-F.Array y → assign_value None (own_places i) v ≡ assign_value (Some (value.Array (nothing y.class))) (own_places i) v
assigns_new y i v is = ap (assign_to_none (own_places i)) is ∙ sym (assign_is (nothing y.class) i v ∙ ap (assign_to_array (Some (nothing y.class)) (own_places i)) is)

-- what was assigned where an array came to be
pub made_new : (v a : Value) (i : ℤ) (k : Class) → assign_value None (own_places i) v ≡ Ok a → class_in (out-Value a) ≡ Some k → (y : Array) × (out-Value v ≡ Value-F.Array y) × (y.class ≡ k)
made_new v a i k h e = by_layer (out-Value v) refl h
  where
    same_class : (y : Array) → class_in (out-Value a) ≡ Some y.class → y.class ≡ k
    same_class y g = cc

    no_array : class_in (out-Value a) ≡ None → ⊥
    no_array g = cc

    by_layer : (layer : Value-F Value) → out-Value v ≡ layer → assign_to_none (own_places i) layer ≡ Ok a → (y : Array) × (out-Value v ≡ Value-F.Array y) × (y.class ≡ k)
    by_layer (Value-F.Array y) is g = (y, is, same_class y (keeps_class (value.Array (nothing y.class)) v a i (sym (assigns_new y i v is) ∙ h) ∙ class_of_array (nothing y.class)))
    by_layer (Value-F.Futures more) is g = absurd (no_array (future_no_class [] more i a g))
    by_layer layer is g = absurd (cc)

-- ## Arrays that hold the same

array_by : Class → Shape → List ℤ → Array
array_by class s cells = record { class = class; rows = s.rows; cols = s.cols; cells = cells }

same_array : (b c : Array) → b.class ≡ c.class → shape_of b ≡ shape_of c → b.cells ≡ c.cells → b ≡ c
unfolding array_by
same_array b c k s l = ap (λ x. array_by x (shape_of b) b.cells) k ∙ ap (λ x. array_by c.class x b.cells) s ∙ ap (λ x. array_by c.class (shape_of c) x) l

same_shape : (s : Shape) (t : ℕ) (p q : Shape) → Grown s t p → Grown s t q → p ≡ q
same_shape s t p q G H = ok_same p q (sym (to_line s t p G) ∙ to_line s t q H)
  where
    ok_same : (p q : Shape) → ◌≡◌ {A = Result Shape ErrKind} (Ok p) (Ok q) → p ≡ q
    ok_same p q e = cc

same_cells : (xs ys : List ℤ) → length xs ≡ length ys → ((k : ℕ) → get_or xs k (pos 0) ≡ get_or ys k (pos 0)) → xs ≡ ys
same_cells xs ys n h = fill_by_all (λ k. get_or ys k (pos 0)) xs (length ys) (pos 0) n (λ k l. h k) ∙ sym (fill_by_all (λ k. get_or ys k (pos 0)) ys (length ys) (pos 0) refl (λ k l. refl))

pub holds_alike : (a b : Array) (ws vs : List (ℕ × ℤ)) → Holding a ws b → top ws ≡ top vs → ((k : ℕ) (z : ℤ) → last_of ws k z ≡ last_of vs k z) → Holding a vs b
holds_alike a b ws vs H t l =
    record {
      class = H.class;
      grown = subst (λ (n : ℕ). Grown (shape_of a) n (shape_of b)) t H.grown;
      count = H.count;
      cells = λ k. H.cells k ∙ l k (get_or a.cells k (pos 0));
    }

pub only_one : (a b c : Array) (ws : List (ℕ × ℤ)) → Holding a ws b → Holding a ws c → b ≡ c
only_one a b c ws H J =
    let s : shape_of b ≡ shape_of c = same_shape (shape_of a) (top ws) (shape_of b) (shape_of c) H.grown J.grown in
    let n : length b.cells ≡ length c.cells = H.count ∙ ap size s ∙ sym J.count in
    same_array b c (H.class ∙ sym J.class) s (same_cells b.cells c.cells n (λ k. H.cells k ∙ sym (J.cells k)))
