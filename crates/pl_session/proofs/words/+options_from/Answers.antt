use Rattle.std.proofs.Common.{rules, ◌≡◌, ◌∷◌, Some}
use Rattle.pl_session.specs.Words as spec
use Rattle.pl_session.proofs.words.+options_from.Goals as goal

pub returns : goal.returns
returns t c =
    let w : c.args.words.now ≡ c.in-Some.word.now ∷ c.in-Some-split_first.value.now ∷ c.in-Some-split_first.more.now = search rules in
    let h : spec.with_option c.args.options c.in-Some.word.now c.in-Some-split_first.value.now ≡ Some c.in_ok-options.options = search rules in
    rw (w, h) c.options_from.ensures
