use Rattle.std.proofs.Common.{[], length, ◌-◌, ◌≡◌, ◌≤◌, take, None}
use Rattle.std.specs.Io.KnownBytes.{Appends}
use Rattle.pl_io.proofs.whole.write_all.Given as goal

abbrev pub invariant-loop-at : goal.invariant-loop-at
invariant-loop-at g l = record {
  within : l.at ≤ length l.bytes;
  wrote : Appends (g.K.Sink.written l.initial.sink) (g.K.Sink.written l.sink) (take l.at l.bytes);
  silent : g.K.Sink.written l.initial.sink ≡ None → g.K.Sink.written l.sink ≡ None;
  kept : g.K.Sink.faults l.sink ≡ g.K.Sink.faults l.initial.sink;
  nothing : l.bytes ≡ [] → l.sink ≡ l.initial.sink;
}

abbrev pub decreases-loop-at : goal.decreases-loop-at
decreases-loop-at g l = length l.bytes - l.at
