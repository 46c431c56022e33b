-- An assignment of one cell at one subscript: when it succeeds, and what the array then holds.
use Rattle.std.specs.Prelude.{if◌then◌else◌, ◌||◌, int_lt}
use Rattle.std.specs.List.{list_any}
use Rattle.std.proofs.Common.{◌≡◌, ◌∙◌, ℕ, zero, suc, ◌+◌, ◌*◌, ◌<◌, ◌≤◌, ◌==◌, max, inl, inr, ℤ, pos, List, [], ◌∷◌, ◌++◌, length, map, get_or, Bool, true, false, cond, Result, Ok, Err, arith, refl, sym, ap, subst}
use Rattle.std.proofs.lemmas.Bool.{eqb-true, ne_eqb}
use Rattle.std.proofs.lemmas.List.FromFn.{length-map-range_with_len, get_or-map-range_with_len}
use Rattle.pl_base.specs.declared.errors.ErrKind.{ErrKind}
use Rattle.pl_base.specs.declared.errors.ErrKind.TheVariants.{BadIndex, CharRange}
use Rattle.pl_array.specs.declared.class.Class.{Class}
use Rattle.pl_array.specs.declared.class.Class.TheVariants.{Int}
use Rattle.pl_array.specs.declared.class.Shape.{Shape}
use Rattle.pl_array.specs.Arrays.{Array}
use Rattle.pl_array.specs.Cellwise.{shape_of}
use Rattle.pl_array.specs.Joining.{convert_of, converted, is_no_char}
use Rattle.pl_index.specs.declared.index.Index.{Index}
use Rattle.pl_index.specs.declared.index.Index.TheVariants.{One}
use Rattle.pl_index.specs.declared.index.Pos.TheVariants.{At}
use Rattle.pl_index.specs.Places.{place_of, reach}
use Rattle.pl_index.specs.Writing.{assign_of, store_of, store_by, fits_line, line_grown, stored, old_at}
use Rattle.pl_index.proofs.Crossing.{by_length, past_end_of}
use Rattle.pl_frame.proofs.Growth.{size, Grown, reaches, keeps_order, in_one}
use Rattle.pl_frame.proofs.Order.{kept_order}

-- the array of a number, and the index that it is
abbrev pub one_number : ℤ → Array
one_number i = record { class = Int; rows = 1; cols = 1; cells = i ∷ [] }

abbrev pub at_number : ℤ → Index
at_number i = One (At (one_number i))

-- the extent that reaches a subscript
abbrev pub tip : ℤ → ℕ
tip i = reach (place_of i ∷ [])

-- a value is one cell, which this class holds as z
pub record Converts (y : Array) (class : Class) (z : ℤ) : Type 0 where
  pub cell : ℤ
  pub alone : y.cells ≡ cell ∷ []
  pub allowed : is_no_char class cell ≡ false
  pub is : converted class cell ≡ z

-- ## When it succeeds

single_cell : (c : Class) (rows cols : ℕ) (y z i : ℤ) (b : Array) (s : Shape) → int_lt i (pos 1) ≡ false → line_grown (shape_of b) (tip i) ≡ Ok s → is_no_char b.class y ≡ false → converted b.class y ≡ z → assign_of b (at_number i) (record { class = c; rows = rows; cols = cols; cells = y ∷ [] }) ≡ Ok (stored b s (place_of i ∷ []) (z ∷ []))
single_cell c rows cols y z i b s low line allowed is =
    ap (λ (t : Bool). if (t || false) then Err BadIndex else store_of true (line_grown (shape_of b) (tip i)) b (place_of i ∷ []) (record { class = c; rows = rows; cols = cols; cells = y ∷ [] })) low
    ∙ ap (λ (g : Result Shape ErrKind). store_of true g b (place_of i ∷ []) (record { class = c; rows = rows; cols = cols; cells = y ∷ [] })) line
    ∙ ap (λ (t : Bool). store_by (if (t || false) then Err CharRange else Ok (record { class = b.class; rows = rows; cols = cols; cells = converted b.class y ∷ [] })) b s (place_of i ∷ [])) allowed
    ∙ ap (λ (v : ℤ). Ok (stored b s (place_of i ∷ []) (v ∷ []))) is

pub succeeds : (b y : Array) (i z : ℤ) (s : Shape) → int_lt i (pos 1) ≡ false → line_grown (shape_of b) (tip i) ≡ Ok s → Converts y b.class z → assign_of b (at_number i) y ≡ Ok (stored b s (place_of i ∷ []) (z ∷ []))
succeeds b y i z s low line c =
    subst (λ (cells : List ℤ). assign_of b (at_number i) (record { class = y.class; rows = y.rows; cols = y.cols; cells = cells }) ≡ Ok (stored b s (place_of i ∷ []) (z ∷ []))) (sym c.alone)
    (single_cell y.class y.rows y.cols c.cell z i b s low line c.allowed c.is)

-- what is known where it succeeded
pub record Succeeded (b y : Array) (i : ℤ) : Type 0 where
  pub low : int_lt i (pos 1) ≡ false
  pub shape : Shape
  pub line : line_grown (shape_of b) (tip i) ≡ Ok shape
  pub value : ℤ
  pub converts : Converts y b.class value

one_cell : (cells : List ℤ) → (length cells == 1 || length cells == 1) ≡ true → (y : ℤ) × (cells ≡ y ∷ [])
one_cell [] h = absurd (cc)
one_cell (y ∷ []) h = (y, refl)
one_cell (y ∷ x ∷ more) h = absurd (two (length (y ∷ x ∷ more) == 1) refl h)
  where
    two : (t : Bool) → (length (y ∷ x ∷ more) == 1) ≡ t → (t || t) ≡ true → ⊥
    two true e g = let one : length (y ∷ x ∷ more) ≡ 1 = eqb-true (length (y ∷ x ∷ more)) 1 e in omega arith
    two false e g = cc

allowed_of : (t : Bool) (a : Array) (v : Array) → (if t then Err CharRange else Ok a) ≡ Ok v → t ≡ false
allowed_of true a v h = absurd (cc)
allowed_of false a v h = refl

first_allowed : (class : Class) (y : ℤ) → (is_no_char class y || false) ≡ false → is_no_char class y ≡ false
first_allowed class y h = by_test (is_no_char class y) h
  where
    by_test : (t : Bool) → (t || false) ≡ false → t ≡ false
    by_test true h = h
    by_test false h = h

apart : (b y a : Array) (i : ℤ) (t : Bool) → int_lt i (pos 1) ≡ t → (g : Result Shape ErrKind) → line_grown (shape_of b) (tip i) ≡ g → (fits : Bool) → fits_line y 1 ≡ fits → (v : Result Array ErrKind) → convert_of y b.class ≡ v → (if (t || false) then Err BadIndex else store_of fits g b (place_of i ∷ []) y) ≡ Ok a → Succeeded b y i
apart b y a i true et g eg fits ef v ev h = absurd (cc)
apart b y a i false et (Err kind) eg fits ef v ev h = absurd (cc)
apart b y a i false et (Ok s) eg false ef v ev h = absurd (cc)
apart b y a i false et (Ok s) eg true ef (Err kind) ev h =
    let refused : store_by (Err kind) b s (place_of i ∷ []) ≡ Ok a = subst (λ (r : Result Array ErrKind). store_by r b s (place_of i ∷ []) ≡ Ok a) ev h in absurd (cc)
apart b y a i false et (Ok s) eg true ef (Ok v) ev h =
    let alone = one_cell y.cells ef in
    let none : list_any (is_no_char b.class) y.cells ≡ false = allowed_of (list_any (is_no_char b.class) y.cells) (record { class = b.class; rows = y.rows; cols = y.cols; cells = map (converted b.class) y.cells }) v ev in
    record {
      low = et;
      shape = s;
      line = eg;
      value = converted b.class alone.0;
      converts = record {
        cell = alone.0;
        alone = alone.1;
        allowed = first_allowed b.class alone.0 (subst (λ (cells : List ℤ). list_any (is_no_char b.class) cells ≡ false) alone.1 none);
        is = refl;
      };
    }

pub succeeded : (b y a : Array) (i : ℤ) → assign_of b (at_number i) y ≡ Ok a → Succeeded b y i
succeeded b y a i h = apart b y a i (int_lt i (pos 1)) refl (line_grown (shape_of b) (tip i)) refl (fits_line y 1) refl (convert_of y b.class) refl h

-- ## What the array holds

-- the last of the values that are written to a place, else what stood there
abbrev pub last_of : List (ℕ × ℤ) → ℕ → ℤ → ℤ
last_of [] k z = z
last_of (w ∷ ws) k z = last_of ws k (cond (w.0 == k) w.1 z)

-- the extent that reaches them all
abbrev pub top : List (ℕ × ℤ) → ℕ
top [] = 0
top (w ∷ ws) = max (w.0 + 1) (top ws)

-- an array is what another one is behind these writes
pub record Holding (a : Array) (ws : List (ℕ × ℤ)) (b : Array) : Type 0 where
  pub class : b.class ≡ a.class
  pub grown : Grown (shape_of a) (top ws) (shape_of b)
  pub count : length b.cells ≡ b.rows * b.cols
  pub cells : (k : ℕ) → get_or b.cells k (pos 0) ≡ last_of ws k (get_or a.cells k (pos 0))

pub last_of-append : (ws vs : List (ℕ × ℤ)) (k : ℕ) (z : ℤ) → last_of (ws ++ vs) k z ≡ last_of vs k (last_of ws k z)
last_of-append [] vs k z = refl
last_of-append (w ∷ ws) vs k z = last_of-append ws vs k (cond (w.0 == k) w.1 z)

pub top-append : (ws vs : List (ℕ × ℤ)) → top (ws ++ vs) ≡ max (top ws) (top vs)
top-append [] vs = omega arith
top-append (w ∷ ws) vs = let more : top (ws ++ vs) ≡ max (top ws) (top vs) = top-append ws vs in omega arith

pub top_with : (ws : List (ℕ × ℤ)) (i z : ℤ) → top (ws ++ (place_of i, z) ∷ []) ≡ max (top ws) (tip i)
top_with ws i z = let one : top (ws ++ (place_of i, z) ∷ []) ≡ max (top ws) (top ((place_of i, z) ∷ [])) = top-append ws ((place_of i, z) ∷ []) in omega arith

-- one cell of what is stored
stored_cell : (b : Array) (s : Shape) (p : ℕ) (z : ℤ) (k t : ℕ) → length b.cells ≡ b.rows * b.cols → Grown (shape_of b) t s → p < size s → get_or (stored b s (p ∷ []) (z ∷ [])).cells k (pos 0) ≡ cond (p == k) z (get_or b.cells k (pos 0))
stored_cell b s p z k t count grown inside = elim (by_length (size s) k) [
  | inl here ↦
      get_or-map-range_with_len (λ (j : ℕ). cond (p == j) z (old_at b s.rows j)) 0 (size s) k k (pos 0) here (omega arith)
      ∙ ap (λ (x : ℤ). cond (p == k) z x) (sym (kept_order b s.rows k (record { count = count; some = some_rows s.rows s.cols here; grows = (reaches (shape_of b) t s grown).2; kept = keeps_order (shape_of b) t s grown })))
  | inr past ↦
      let n : ℕ = length (stored b s (p ∷ []) (z ∷ [])).cells in
      let long : n ≡ size s = length-map-range_with_len (λ (j : ℕ). cond (p == j) z (old_at b s.rows j)) 0 (size s) in
      past_end_of (stored b s (p ∷ []) (z ∷ [])).cells (pos 0) k (omega arith)
      ∙ sym (past_end_of b.cells (pos 0) k (omega (arith, count, (reaches (shape_of b) t s grown).1)))
      ∙ sym (ap (λ (c : Bool). cond c z (get_or b.cells k (pos 0))) (ne_eqb p k (λ e. omega arith)))
]
  where
    some_rows : (rows cols : ℕ) → k < rows * cols → 0 < rows
    some_rows zero cols h = absurd (omega arith)
    some_rows (suc rows) cols h = omega arith

pub holds_more : (a b : Array) (ws : List (ℕ × ℤ)) (i z : ℤ) (s : Shape) → Holding a ws b → Grown (shape_of b) (tip i) s → Holding a (ws ++ (place_of i, z) ∷ []) (stored b s (place_of i ∷ []) (z ∷ []))
holds_more a b ws i z s H grown =
    record {
      class = H.class;
      grown = subst (λ (t : ℕ). Grown (shape_of a) t s) (sym (top_with ws i z)) (in_one (shape_of a) (top ws) (tip i) (shape_of b) s H.grown grown);
      count = length-map-range_with_len (λ (j : ℕ). cond (place_of i == j) z (old_at b s.rows j)) 0 (size s);
      cells = λ k.
          let reached : tip i ≤ size s = (reaches (shape_of b) (tip i) s grown).0 in
          stored_cell b s (place_of i) z k (tip i) H.count grown (omega arith)
          ∙ ap (λ (x : ℤ). cond (place_of i == k) z x) (H.cells k)
          ∙ sym (last_of-append ws ((place_of i, z) ∷ []) k (get_or a.cells k (pos 0)));
    }
