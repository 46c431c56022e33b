-- The pieces to come stand behind those so far, the first of them behind the piece so far.
use Rattle.std.proofs.Common.{◌≡◌, ◌++◌, ◌==◌, drop}
use Rattle.std.specs.List.{slice_split}
use Rattle.pl_cases.proofs.Pieces.{behind}
use Rattle.pl_cases.proofs.bytes.pieces.Given as goal

abbrev pub invariant-loop-byte : goal.invariant-loop-byte
invariant-loop-byte l = slice_split (λ b. b == l.separator) l.bytes ≡ l.pieces.items ++ behind l.piece.items (slice_split (λ b. b == l.separator) (drop l.byte-index l.bytes))
