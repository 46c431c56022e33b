-- What was put is what the definition of an assignment says.
use Rattle.std.proofs.Common.{◌≡◌, MatchResult, subst}
use Rattle.pl_array.specs.Arrays.{Array}
use Rattle.pl_index.proofs.Stored.{put_in_place}
use Rattle.pl_index.proofs.write.write_in_place.Goals as goal

pub returns : goal.returns
returns c =
    subst (λ (o : Array). MatchResult c.put.result (λ _. c.put.new.self ≡ o) (λ _. c.put.new.self ≡ c.args.a.now))
    (put_in_place c.args.a.now c.args.s c.args.places.now c.args.values.now c.shape-valid.ensures.valid c.requires.grows c.requires.order)
    c.put.ensures
