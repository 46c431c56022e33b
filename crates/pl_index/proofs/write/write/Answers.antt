-- What is written to the regrown array is what would be written to the old one.
use Rattle.std.proofs.Common.{ap, ◌∙◌}
use Rattle.pl_array.specs.Arrays.{Array}
use Rattle.pl_index.specs.Writing.{stored}
use Rattle.pl_index.proofs.Cells.{regrown_valid}
use Rattle.pl_index.proofs.Stored.{stored_regrown}
use Rattle.pl_index.proofs.write.write.Goals as goal

pub returns : goal.returns
returns c =
    let a = c.args.a.now in
    let places = c.args.places.now in
    let values = c.args.values.now in
    c.in_ok-write_in_place.ensures
    ∙ ap (λ (m : Array). stored m c.args.s c.args.places.now c.args.values.now) c.in_ok-moved.ensures
    ∙ stored_regrown a c.args.s places values (regrown_valid a c.args.s c.shape-old.ensures.valid c.requires.grows)
