-- The lines of the counts to come stand behind those so far.
use Rattle.std.proofs.Common.{◌≡◌, ◌++◌, map, drop}
use Rattle.conformance.specs.Runs.{workers, with_workers}
use Rattle.conformance.proofs.run.command_lines.Given as goal

abbrev pub invariant-loop-count : goal.invariant-loop-count
invariant-loop-count l =
    map (with_workers l.case.words) workers ≡ map (λ line. line.items) l.lines.items ++ map (λ count. with_workers l.case.words count.now) (drop l.count-index l.count-items)
