use Rattle.std.proofs.Math.Seq.{take-length}
use Rattle.pl_meaning.specs.declared.halt.Halt.{Halt}
use Rattle.pl_meaning.specs.Running.{Done, Raised}
use Rattle.pl_meaning.specs.Promises.{at, from}
use Rattle.pl_meaning.specs.Runs.{run_of, finished, failed}
use Rattle.pl_eval.proofs.Carried.{carried, stopped, wanting, begins_self}
use Rattle.pl_eval.proofs.running.run_body.Goals as goal

pub returns-in-Ok : goal.returns-in-Ok
returns-in-Ok g c = let given = (g.W.World.log c.block.new.world).given in carried (run_of c.args.program.now c.args.frame c.args.body.now c.args.start c.args.turns c.args.depth (g.W.World.log c.args.world.now).rules given) (g.W.World.log c.args.world.now) (g.W.World.log c.block.new.world) (λ left. Done c.block.new.memory.env left) (rw c.requires at (c.in-Ok.ensures.ok finished failed given (take-length given)))

pub returns-in-Err-Raise : goal.returns-in-Err-Raise
returns-in-Err-Raise g c = let given = (g.W.World.log c.block.new.world).given in carried (run_of c.args.program.now c.args.frame c.args.body.now c.args.start c.args.turns c.args.depth (g.W.World.log c.args.world.now).rules given) (g.W.World.log c.args.world.now) (g.W.World.log c.block.new.world) (λ left. Raised c.in-Err-Raise.error left) (rw c.requires at (c.in-Err-Raise.ensures.err (Halt.Raise c.in-Err-Raise.error) (cc) finished failed given (take-length given)))

pub returns-in-Err-Stopped : goal.returns-in-Err-Stopped
returns-in-Err-Stopped g c = let given = (g.W.World.log c.block.new.world).given in stopped (run_of c.args.program.now c.args.frame c.args.body.now c.args.start c.args.turns c.args.depth (g.W.World.log c.args.world.now).rules given) (g.W.World.log c.args.world.now) (g.W.World.log c.block.new.world) (λ e. from given (at c.block.new.memory (g.W.World.log c.block.new.world)) (failed e)) (c.in-Err-Stopped.ensures.keeps.1 (g.W.World.log c.block.new.world).shown (begins_self (g.W.World.log c.block.new.world).shown)) (rw c.requires at (c.in-Err-Stopped.ensures.err Halt.Stopped (cc) finished failed given (take-length given)))

pub returns : goal.returns
returns g c = let given = (g.W.World.log c.block.new.world).given in wanting (run_of c.args.program.now c.args.frame c.args.body.now c.args.start c.args.turns c.args.depth (g.W.World.log c.args.world.now).rules given) (g.W.World.log c.args.world.now) (g.W.World.log c.block.new.world) (λ e. from given (at c.block.new.memory (g.W.World.log c.block.new.world)) (failed e)) (c.in-Err-Memory.ensures.keeps.1 (g.W.World.log c.block.new.world).shown (begins_self (g.W.World.log c.block.new.world).shown)) (rw c.requires at (c.in-Err-Memory.ensures.err Halt.Memory (cc) finished failed given (take-length given)))
