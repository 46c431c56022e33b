use Rattle.pl_library.proofs.Parts.{error_is, halts_as}
use Rattle.pl_library.proofs.raising.raise_text.Goals as goal

pub returns-in-false : goal.returns-in-false
returns-in-false c =
    λ m. halts_as m _ m (error_is c.args.place c.args.wanted c.args.given.items c.in-false.is) (c.error_of.ensures m)
