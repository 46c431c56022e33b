-- The arrays of arguments.
use Rattle.std.proofs.Common.{◌≡◌, ◌≢◌, List, [], ◌∷◌, ◌++◌, length, Result, Ok, Err, refl, ap, sym, append_assoc, arith}
use Rattle.std.proofs.lemmas.List.{append-nil}
use Rattle.pl_base.specs.declared.errors.ErrKind.{ErrKind}
use Rattle.pl_base.specs.declared.errors.ErrKind.TheVariants.{ArgCount}
use Rattle.pl_array.specs.Arrays.{Array}
use Rattle.pl_values.specs.declared.value.Value.{Value}
use Rattle.pl_operators.specs.Operands.{and_then, array_in, arrays_in}
use Rattle.pl_meaning.specs.Library.{one_array, text_by, patterned}
use Rattle.pl_library.specs.Answering.{by_pattern}

-- one argument is what is popped of one
pub alone : (items rest : List Value) (v : Value) → length items ≡ 1 → items ≡ rest ++ v ∷ [] → one_array items ≡ array_in v
alone [] rest v one e = absurd (omega arith)
alone (w ∷ []) [] v one e = ap array_in cc
alone (w ∷ []) (x ∷ []) v one e = absurd cc
alone (w ∷ []) (x ∷ y ∷ rest) v one e = absurd cc
alone (w ∷ x ∷ items) rest v one e = absurd (omega arith)

pub not_alone : (items : List Value) → length items ≢ 1 → one_array items ≡ Err ArgCount
not_alone [] many = refl
not_alone (v ∷ []) many = absurd (many refl)
not_alone (v ∷ w ∷ items) many = refl

-- the pattern and the arguments, tested together
of_both : (a : Result Array ErrKind) (more : Result (List Array) ErrKind) →
    and_then a (λ x. and_then more (λ xs. patterned x xs)) ≡ and_then (and_then a (λ x. and_then more (λ xs. Ok (x ∷ xs)))) by_pattern
of_both (Ok a) (Ok more) = refl
of_both (Ok a) (Err kind) = refl
of_both (Err kind) more = refl

pub by_arrays : (vs : List Value) → text_by vs ≡ and_then (arrays_in vs) by_pattern
by_arrays [] = refl
by_arrays (p ∷ vs) = of_both (array_in p) (arrays_in vs)

-- the arrays behind those that are there already
behind : (done : List Array) (a : Array) (more : Result (List Array) ErrKind) →
    and_then (and_then more (λ xs. Ok (a ∷ xs))) (λ xs. Ok (done ++ xs)) ≡ and_then more (λ xs. Ok ((done ++ a ∷ []) ++ xs))
behind done a (Ok xs) = ap Ok (sym (append_assoc done (a ∷ []) xs))
behind done a (Err kind) = refl

pub arrays_more : (done : List Array) (v : Value) (a : Array) (vs : List Value) → array_in v ≡ Ok a →
    and_then (arrays_in (v ∷ vs)) (λ more. Ok (done ++ more)) ≡ and_then (arrays_in vs) (λ more. Ok ((done ++ a ∷ []) ++ more))
arrays_more done v a vs e = rw e (behind done a (arrays_in vs))

pub arrays_refused : (done : List Array) (v : Value) (kind : ErrKind) (vs : List Value) → array_in v ≡ Err kind →
    and_then (arrays_in (v ∷ vs)) (λ more. Ok (done ++ more)) ≡ Err kind
arrays_refused done v kind vs e = rw e refl

pub none_done : (r : Result (List Array) ErrKind) → r ≡ and_then r (λ more. Ok ([] ++ more))
none_done (Ok arrays) = refl
none_done (Err kind) = refl

pub none_left : (items : List Value) (done : List Array) → length items ≡ 0 → and_then (arrays_in items) (λ more. Ok (done ++ more)) ≡ Ok done
none_left [] done none = ap Ok (append-nil done)
none_left (v ∷ items) done none = absurd (omega arith)
