use Rattle.pl_printed.proofs.PlacesInPrograms.{places_are_not_printed, printed_again}
use Rattle.pl_printed.proofs.law.printed_again_is_the_same.Goals as goal

pub returns-clause-places : goal.returns-clause-places
returns-clause-places c = places_are_not_printed

pub returns-clause-again : goal.returns-clause-again
returns-clause-again c = printed_again
