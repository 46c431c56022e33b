-- Bytes are cells of class char.
use Rattle.std.proofs.Common.{ℤ, List, arith, sym, subst}
use Rattle.std.specs.List.{All}
use Rattle.pl_array.specs.Arrays.{IsCell}
use Rattle.pl_array.specs.declared.class.Class.TheVariants.{Char}
use Rattle.pl_builtin.proofs.Cells.{all_chars}
use Rattle.pl_builtin.proofs.asking.text.Goals as goal

pub new-requires-clause-of_class : goal.new-requires-clause-of_class
new-requires-clause-of_class c =
    subst (λ (xs : List ℤ). All (IsCell Char) xs) (sym c.in_ok-cells.ensures) (all_chars c.args.bytes.now (λ i. omega (arith, c.type_inv.bytes i)))
