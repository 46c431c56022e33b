-- The limit is the most cells that an array has.
use Rattle.std.proofs.Common.{ℕ, take, arith, ap}
use Rattle.pl_array.specs.Arrays.{most}
use Rattle.pl_operators.proofs.Characters.{all_bytes}
use Rattle.pl_operators.proofs.literals.first_bytes.Goals as goal

pub returns-then-bytes-limit-clause-bytes : goal.returns-then-bytes-limit-clause-bytes
returns-then-bytes-limit-clause-bytes c = all_bytes most c.args.bytes.now (omega (arith, c.most_cells-limit.ensures, c.if-bytes-limit.true))

pub returns-else-bytes-limit-clause-bytes : goal.returns-else-bytes-limit-clause-bytes
returns-else-bytes-limit-clause-bytes c = ap (λ (n : ℕ). take n c.args.bytes.now) c.most_cells-limit.ensures
