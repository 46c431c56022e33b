use Rattle.std.proofs.Common.{◌≡◌, ◌≤◌, ◌<◌, ◌-◌, IfSome, vec_len}
use Rattle.pl_io.specs.Told.{Stays, IsFront}
use Rattle.pl_io.proofs.whole.read_front.Given as goal

abbrev pub invariant-loop-piece : goal.invariant-loop-piece
invariant-loop-piece g l = record {
  room : 0 < vec_len l.piece;
  within : vec_len l.bytes ≤ l.most;
  front : IfSome (g.F.Files.bytes l.initial.files l.name) (λ bs. IsFront bs l.bytes.items);
  told : Stays (g.F.Files.bytes l.initial.files) (g.F.Files.bytes l.files);
  kept : g.F.Files.faults l.files ≡ g.F.Files.faults l.initial.files;
}

abbrev pub decreases-loop-piece : goal.decreases-loop-piece
decreases-loop-piece g l = l.most - vec_len l.bytes
