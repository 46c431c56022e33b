-- What was taken, and then what comes, is all.
use Rattle.std.proofs.Common.{◌≡◌, List, [], ◌∷◌, ◌++◌, Result, Ok, Err, refl, ap, sym, append_assoc, ◌∙◌}
use Rattle.pl_base.specs.declared.errors.ErrKind.{ErrKind}
use Rattle.pl_array.specs.Arrays.{Array}
use Rattle.pl_values.specs.declared.value.Value.{Value}
use Rattle.pl_values.specs.declared.value.Value.TheVariants as value
use Rattle.pl_operators.specs.Operands.{and_then, valued}
use Rattle.pl_operators.specs.Bracketing.{grid_in, stacked, matrix_of}

-- a list that was taken stands before what an answer has
abbrev pub before : {A : Type 0} → List A → Result (List A) ErrKind → Result (List A) ErrKind
before done r = and_then r (λ more. Ok (done ++ more))

pub before_more : {A : Type 0} (done : List A) (x : A) (r : Result (List A) ErrKind) → before done (and_then r (λ more. Ok (x ∷ more))) ≡ before (done ++ x ∷ []) r
before_more done x (Ok more) = ap Ok (sym (append_assoc done (x ∷ []) more))
before_more done x (Err kind) = refl

pub matrix_made : (rows : List (List Value)) (grid : List (List Array)) (a : Array) → grid_in rows ≡ Ok grid → stacked grid ≡ Ok a → matrix_of rows ≡ Ok (value.Array a)
matrix_made rows grid a is made = ap (λ (r : Result (List (List Array)) ErrKind). valued (and_then r stacked)) is ∙ ap valued made

pub matrix_refused : (rows : List (List Value)) (grid : List (List Array)) (kind : ErrKind) → grid_in rows ≡ Ok grid → stacked grid ≡ Err kind → matrix_of rows ≡ Err kind
matrix_refused rows grid kind is refused = ap (λ (r : Result (List (List Array)) ErrKind). valued (and_then r stacked)) is ∙ ap valued refused
