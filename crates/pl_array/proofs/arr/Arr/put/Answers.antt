-- What was put is valid.
use Rattle.pl_array.specs.Inner.{array_of, cells_of}
use Rattle.pl_array.proofs.Writes.{put_valid}
use Rattle.pl_array.proofs.arr.Arr.put.Goals as goal

pub invariant_of-self-2 : goal.invariant_of-self-2
invariant_of-self-2 c =
    put_valid (array_of c.self.inside) c.args.self.now c.self.view_is _ _ (cells_of c.put.new.self) c.args.places.now c.args.values.now c.in_ok-put.ensures c.self.invariant c.requires.grows c.requires.limit c.requires.row_limit c.requires.col_limit c.requires.of_class
