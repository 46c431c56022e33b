-- The range of an ordinary loop: its numbers are the values of the index of the loop over workers, and it has as many columns.
use Rattle.std.specs.Prelude.{nat_lt, ◌*ℤ◌, ◌+ℤ◌, if◌then◌else◌}
use Rattle.std.proofs.Common.{◌≡◌, ◌∙◌, ℕ, ◌+◌, ◌*◌, ◌<◌, ℤ, pos, List, [], ◌∷◌, get_or, Bool, true, false, Option, Some, None, Result, Ok, Err, arith, refl, sym, ap}
use Rattle.std.proofs.lemmas.Int.{ints}
use Rattle.std.proofs.lemmas.List.FromFn.{get_or-map-range_with_len}
use Rattle.pl_base.specs.declared.errors.ErrKind.{ErrKind}
use Rattle.pl_base.specs.declared.errors.ErrKind.TheVariants.{SizeLimit, WrongPlace}
use Rattle.pl_base.specs.declared.errors.ScriptError.{ScriptError}
use Rattle.pl_errors.specs.Errors.{error_of}
use Rattle.pl_array.specs.declared.class.Class.TheVariants.{Int}
use Rattle.pl_array.specs.Arrays.{Array, single_of, most}
use Rattle.pl_syntax.specs.declared.expr.Expr.{Expr, out-Expr}
use Rattle.pl_syntax.specs.declared.expr.ExprKind.{ExprKind, out-ExprKind}
use Rattle.pl_syntax.specs.declared.expr.ExprKind.TheOpen.{ExprKind-F}
use Rattle.pl_values.specs.declared.value.Value.{Value}
use Rattle.pl_values.specs.declared.value.Value.TheVariants as value
use Rattle.pl_operators.specs.Operands.{and_then, valued, array_in}
use Rattle.pl_operators.specs.Bracketing.{number_of}
use Rattle.pl_operators.specs.Columns.{column_of}
use Rattle.pl_operators.specs.Ranging.{steps_up, range_cells, range_by, range_of}
use Rattle.pl_resolve.specs.declared.resolved.Resolved.{Resolved}
use Rattle.pl_meaning.specs.declared.event.Bounds.{Bounds}
use Rattle.pl_meaning.specs.declared.frame.Frame.{Frame}
use Rattle.pl_meaning.specs.Accesses.{settle}
use Rattle.pl_meaning.specs.Bounds.{bounded, bounds_of}
use Rattle.pl_meaning.specs.Logs.{Trace}
use Rattle.pl_meaning.specs.Running.{Rest, State, Outcome, Done, Raised, before}
use Rattle.pl_meaning.specs.Parts.{Level, range, value_in, value_of, compound, compound_of, ends_in, ends_at, below}
use Rattle.pl_frame.specs.Ordinary.{EndsAt}

-- the row of so many numbers from a first one on
abbrev pub row_of : ℤ → ℕ → Array
row_of first count = record { class = Int; rows = 1; cols = count; cells = range_cells first (pos 1) count }

-- a column of it is a number
pub column_is : (first : ℤ) (count done : ℕ) → done < count → value.Array (column_of (row_of first count) done) ≡ number_of (first +ℤ pos done)
column_is first count done h =
    let there : get_or (range_cells first (pos 1) count) (done * 1 + 0) (pos 0) ≡ first +ℤ pos 1 *ℤ pos done = get_or-map-range_with_len (λ k. first +ℤ pos 1 *ℤ pos k) 0 count (done * 1 + 0) done (pos 0) (omega arith) (omega arith) in
    let same : first +ℤ pos 1 *ℤ pos done ≡ first +ℤ pos done = omega (arith, ints) in
    ap (λ (z : ℤ). value.Array (record { class = Int; rows = 1; cols = 1; cells = z ∷ [] })) (there ∙ same)

-- ## Two ends that have bounds have a range

by_count : (first : ℤ) (count : ℕ) (t : Bool) (b : Bounds) → (if t then Err SizeLimit else Ok (record { first = first; count = count })) ≡ Ok b → (if t then Err SizeLimit else Ok (row_of first count)) ≡ Ok (row_of b.first b.count)
by_count first count true b h = absurd (cc)
by_count first count false b h = ap (λ (r : Result Bounds ErrKind). row_in r) h
  where
    row_in : Result Bounds ErrKind → Result Array ErrKind
    row_in (Ok b) = Ok (row_of b.first b.count)
    row_in (Err kind) = Err kind

by_singles : (m n : Option ℤ) (b : Bounds) → bounded m n ≡ Ok b → range_by m (Some (pos 1)) n ≡ Ok (row_of b.first b.count)
by_singles (Some first) (Some last) b h = by_count first (steps_up first 1 last) (nat_lt most (steps_up first 1 last)) b h
by_singles (Some first) None b h = absurd (cc)
by_singles None n b h = absurd (cc)

by_arrays : (u w : Result Array ErrKind) (b : Bounds) → and_then u (λ x. and_then w (λ y. bounded (single_of x) (single_of y))) ≡ Ok b → and_then u (λ x. and_then w (λ y. range_by (single_of x) (Some (pos 1)) (single_of y))) ≡ Ok (row_of b.first b.count)
by_arrays (Ok x) (Ok y) b h = by_singles (single_of x) (single_of y) b h
by_arrays (Ok x) (Err kind) b h = absurd (cc)
by_arrays (Err kind) w b h = absurd (cc)

pub range_is : (x y : Value) (b : Bounds) → bounds_of x y ≡ Ok b → range_of x None y ≡ Ok (value.Array (row_of b.first b.count))
range_is x y b h = ap valued (by_arrays (array_in x) (array_in y) b h)

-- ## A range is its two ends, and then what they make

pub range_by_ends : (program : Resolved) (l : Option Level) (f : Frame) (e a b : Expr) → out-ExprKind (out-Expr e).kind ≡ ExprKind-F.Range a None b → (k : Value → Rest) (h : ScriptError → Rest) (s : State) → value_in program l f e k h s ≡ ends_in program l f e (λ xy. settle (out-Expr e).place (range_of xy.0 None xy.1) k h) h s
unfolding value_in compound ends_in range
range_by_ends program None f e a b is k h s =
    ap (λ (x : ExprKind-F ExprKind Expr). value_of program None f e (out-Expr e).place x k h s) is
    ∙ sym (ap (λ (x : ExprKind-F ExprKind Expr). ends_at program None f (out-Expr e).place x (λ xy. settle (out-Expr e).place (range_of xy.0 None xy.1) k h) h s) is)
range_by_ends program (Some d) f e a b is k h s =
    ap (λ (x : ExprKind-F ExprKind Expr). value_of program (Some d) f e (out-Expr e).place x k h s) is
    ∙ ap (λ (x : ExprKind-F ExprKind Expr). compound_of program d f (out-Expr e).place x k h s) is
    ∙ sym (ap (λ (x : ExprKind-F ExprKind Expr). ends_at program (Some d) f (out-Expr e).place x (λ xy. settle (out-Expr e).place (range_of xy.0 None xy.1) k h) h s) is)

-- only a range of two ends comes to them
module _ (program : Resolved) (levels : ℕ) (f : Frame) (e : Expr) (here there : State) (shown : List Trace) (x y : Value) (ends : EndsAt program levels f e here shown x y there) where
  abbrev done : Value × Value → Rest
  done xy s = record { shown = []; ending = Done [] [] }

  abbrev raised : ScriptError → Rest
  raised x s = record { shown = []; ending = Raised x [] }

  no_end : (z : ScriptError) → Raised z [] ≡ Done [] [] → ⊥
  no_end z h = cc

  abbrev Two_ends : Type 0
  Two_ends = (a : Expr) × (b : Expr) × (out-ExprKind (out-Expr e).kind ≡ ExprKind-F.Range a None b)

  -- any other one fails
  no_other : (kind : ExprKind-F ExprKind Expr) → out-ExprKind (out-Expr e).kind ≡ kind → ends_at program (below program levels) f (out-Expr e).place kind done raised here ≡ raised (error_of WrongPlace (out-Expr e).place) here → ⊥
  unfolding ends_in
  no_other kind is fails =
      let known : ends_at program (below program levels) f (out-Expr e).place kind done raised here ≡ before shown (done (x, y) there) = sym (ap (λ (z : ExprKind-F ExprKind Expr). ends_at program (below program levels) f (out-Expr e).place z done raised here) is) ∙ ends done raised in
      no_end (error_of WrongPlace (out-Expr e).place) (ap (λ (o : Outcome). o.ending) (sym fails ∙ known))

  by_kind : (kind : ExprKind-F ExprKind Expr) → out-ExprKind (out-Expr e).kind ≡ kind → Two_ends
  by_kind (ExprKind-F.Range a None b) is = (a, b, is)
  by_kind kind is = absurd (no_other kind is refl)

  pub two_ends : Two_ends
  two_ends = by_kind (out-ExprKind (out-Expr e).kind) refl
