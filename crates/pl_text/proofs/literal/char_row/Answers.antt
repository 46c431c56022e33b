use Rattle.std.proofs.Common.{ℤ, List, All, subst, sym, arith}
use Rattle.pl_array.specs.declared.class.Class.TheVariants.{Char}
use Rattle.pl_array.specs.Arrays.{IsCell}
use Rattle.pl_text.proofs.Bytes.{are_cells}
use Rattle.pl_text.proofs.literal.char_row.Goals as goal

pub new-requires-clause-of_class : goal.new-requires-clause-of_class
new-requires-clause-of_class c =
    subst (λ (xs : List ℤ). All (IsCell Char) xs) (sym c.in_ok-cells.ensures) (are_cells c.args.text.now (λ i. omega (arith, c.type_inv.text i)))
