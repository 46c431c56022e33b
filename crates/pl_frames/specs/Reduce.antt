-- Operators that are done: those on top that hold at least so strongly take the operand.
use Rattle.std.specs.Prelude.{ℕ, nat_le, Bool, false, if◌then◌else◌, List, [], ◌∷◌}
use Rattle.pl_grammar.specs.Words.{level}
use Rattle.pl_frames.specs.declared.operand.Operand.{Operand}
use Rattle.pl_frames.specs.declared.operand.Op.{Op}
use Rattle.pl_frames.specs.declared.operand.Op.TheVariants as op
use Rattle.pl_frames.specs.declared.stack.Bottom.{Bottom}
use Rattle.pl_frames.specs.declared.stack.Frame.{Frame}
use Rattle.pl_frames.specs.declared.stack.Frame.TheVariants as frame
use Rattle.pl_frames.specs.declared.stack.Stack.{Stack}
use Rattle.pl_frames.specs.declared.reducing.Held.{Held}
use Rattle.pl_frames.specs.Trees.{under}

-- how tightly an operator holds its last operand
abbrev pub strength : Op → ℕ
strength (op.Joined a o p us) = level o
strength (op.Signed m u) = 9
strength (op.From a p) = 6
strength (op.Stepped a p b) = 6

abbrev pub held : Operand → List Frame → Bottom → Held
held e fs b = record { operand = e; stack = record { frames = fs; bottom = b } }

abbrev pub frame_pulls : ℕ → Frame → Bool
frame_pulls l (frame.Op p) = nat_le l (strength p)
frame_pulls l (frame.Paren m) = false
frame_pulls l (frame.Args c m h a) = false
frame_pulls l (frame.Brace n m) = false
frame_pulls l (frame.Row m rs c) = false

-- the frame on top is an operator that holds at least so strongly
abbrev pub pulls : ℕ → List Frame → Bool
pulls l [] = false
pulls l (f ∷ fs) = frame_pulls l f

abbrev pub reduce_on : ℕ → Operand → List Frame → Bottom → Held
reduce_on l e [] b = held e [] b
reduce_on l e (frame.Op p ∷ fs) b = if nat_le l (strength p) then reduce_on l (under p e) fs b else held e (frame.Op p ∷ fs) b
reduce_on l e (frame.Paren m ∷ fs) b = held e (frame.Paren m ∷ fs) b
reduce_on l e (frame.Args c m h a ∷ fs) b = held e (frame.Args c m h a ∷ fs) b
reduce_on l e (frame.Brace n m ∷ fs) b = held e (frame.Brace n m ∷ fs) b
reduce_on l e (frame.Row m rs c ∷ fs) b = held e (frame.Row m rs c ∷ fs) b

-- the operators on top that hold at least so strongly take the operand
unfoldable pub reduce : ℕ → Operand → Stack → Held
reduce l e S = reduce_on l e S.frames S.bottom
