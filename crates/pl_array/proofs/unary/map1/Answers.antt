-- Without the strict mode no cell is refused.
use Rattle.std.proofs.Common.{Ok, ap, sym, ◌∙◌}
use Rattle.pl_array.proofs.Combined.{saturated1}
use Rattle.pl_array.proofs.unary.map1.Goals as goal

pub returns : goal.returns
returns c = sym (saturated1 c.args.op c.args.a.now) ∙ ap Ok (sym c.in_ok-o.ensures)
