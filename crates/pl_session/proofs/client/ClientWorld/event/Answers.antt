use Rattle.std.proofs.Common.{rules}
use Rattle.pl_io.proofs.Counts.{counted_rose}
use Rattle.pl_session.proofs.Carried.{stopped_so}
use Rattle.pl_session.proofs.client.ClientWorld.event.Goals as goal

-- a write that failed took a first part of what was told
pub returns : goal.returns
returns g c = stopped_so _ _ c.bytes.result.now _ _ _ _ _ _ (search rules) c.in-Err.ensures.prefix c.in-Err.ensures.silent (counted_rose _ _ c.in-Err.ensures.cause.failed)
