use Rattle.std.proofs.Common.{◌≡◌, [], drop, ap, sym, ◌∙◌, arith}
use Rattle.std.proofs.lemmas.List.{drop_all}
use Rattle.pl_words.specs.Words as spec
use Rattle.pl_words.proofs.Numbers.{too_many}
use Rattle.pl_words.proofs.digits.Goals as goal

-- a digit was too many
pub returns-in_err-number : goal.returns-in_err-number
returns-in_err-number c =
    rw c.from_residual.ensures
    (too_many c.loop-byte.number c.loop-byte.byte-index c.args.word.now c.loop-byte-test.true c.in_err-number.ensures c.loop-byte.invariant.same)

-- all digits are read
pub returns : goal.returns
returns c =
    let none : drop c.loop-byte.byte-index c.args.word.now ≡ [] = drop_all c.loop-byte.byte-index c.args.word.now c.loop-byte-test.false in
    let same : c.loop-byte.number ≡ spec.number_onto 0 c.args.word.now = sym (ap (spec.number_onto c.loop-byte.number) none) ∙ c.loop-byte.invariant.same in
    (omega arith, same)
