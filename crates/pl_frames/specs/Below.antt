-- What the frames below an operand say: how deep they nest, and what they are inside of. Lists go from the
-- innermost outwards.
use Rattle.std.specs.Prelude.{ℕ, nat_le, Bool, true, false, not, ◌&&◌, List, [], ◌∷◌, length}
use Rattle.pl_grammar.specs.declared.terminal.Keyword.{Keyword}
use Rattle.pl_grammar.specs.declared.terminal.Keyword.TheVariants as k
use Rattle.pl_frames.specs.declared.below.Scene.{Scene}
use Rattle.pl_frames.specs.declared.operand.Op.{Op}
use Rattle.pl_frames.specs.declared.operand.Op.TheVariants as op
use Rattle.pl_frames.specs.declared.stack.Level.{Level}
use Rattle.pl_frames.specs.declared.stack.Root.{Root}
use Rattle.pl_frames.specs.declared.stack.Root.TheVariants as root
use Rattle.pl_frames.specs.declared.stack.Site.{Site}
use Rattle.pl_frames.specs.declared.stack.Spot.{Spot}
use Rattle.pl_frames.specs.declared.stack.Spot.TheVariants as spot
use Rattle.pl_frames.specs.declared.stack.Outgoing.{Outgoing}
use Rattle.pl_frames.specs.declared.stack.Bottom.{Bottom}
use Rattle.pl_frames.specs.declared.stack.Bottom.TheVariants as bottom
use Rattle.pl_frames.specs.declared.stack.Frame.{Frame}
use Rattle.pl_frames.specs.declared.stack.Frame.TheVariants as frame
use Rattle.pl_frames.specs.declared.stack.Stack.{Stack}
use Rattle.pl_frames.specs.Trees.{plus}

abbrev pub weight : Op → ℕ
weight (op.Joined a o p us) = plus 1 (length us)
weight (op.Signed m u) = 1
weight (op.From a p) = 1
weight (op.Stepped a p b) = 1

abbrev pub frame_weight : Frame → ℕ
frame_weight (frame.Op p) = weight p
frame_weight (frame.Paren m) = 1
frame_weight (frame.Args c m h l) = 1
frame_weight (frame.Brace n m) = 1
frame_weight (frame.Row m rs c) = 1

abbrev pub site_nests : Site → ℕ
site_nests s = plus 0 (length s.levels)

abbrev pub spot_nests : Spot → ℕ
spot_nests (spot.Here s) = site_nests s
spot_nests (spot.Linked o b s) = site_nests s

abbrev pub bottom_nests : Bottom → ℕ
bottom_nests (bottom.Goal g s) = plus 1 (site_nests s)
bottom_nests (bottom.Lead l s) = plus 1 (spot_nests s)
bottom_nests (bottom.Inner i s) = plus 1 (spot_nests s)
bottom_nests (bottom.Outputs m p s) = plus p.run (plus 2 (site_nests s))

-- how many levels enclose an operand
abbrev pub nests : List Frame → Bottom → ℕ
nests [] b = bottom_nests b
nests (f ∷ fs) b = plus (frame_weight f) (nests fs b)

abbrev pub base : Frame → ℕ → ℕ → ℕ
base (frame.Op p) deep below = below
base (frame.Paren m) deep below = deep
base (frame.Args c m h l) deep below = deep
base (frame.Brace n m) deep below = deep
base (frame.Row m rs c) deep below = deep

-- how many levels enclose what the operators on top are a part of
abbrev pub base_nests : List Frame → Bottom → ℕ
base_nests [] b = bottom_nests b
base_nests (f ∷ fs) b = base f (plus (frame_weight f) (nests fs b)) (base_nests fs b)

unfoldable pub has_base_room : Stack → Bool
has_base_room s = nat_le (plus 1 (base_nests s.frames s.bottom)) 200

unfoldable pub has_room : ℕ → Stack → Bool
has_room more s = nat_le (plus more (nests s.frames s.bottom)) 200

unfoldable pub site_room : ℕ → Site → Bool
site_room more s = nat_le (plus more (site_nests s)) 200

unfoldable pub outgoing_room : Outgoing → Site → Bool
outgoing_room p s = nat_le (plus 1 (plus p.run (plus 2 (site_nests s)))) 200

unfoldable pub spot_room : Spot → Bool
spot_room s = nat_le (plus 1 (spot_nests s)) 200

abbrev pub frame_row : Frame → Bool → Bool
frame_row (frame.Op p) below = below
frame_row (frame.Row m rs c) below = true
frame_row (frame.Paren m) below = false
frame_row (frame.Args c m h l) below = false
frame_row (frame.Brace n m) below = false

-- the innermost open bracket is a square one
abbrev pub in_row : List Frame → Bool
in_row [] = false
in_row (f ∷ fs) = frame_row f (in_row fs)

abbrev pub frame_index : Frame → Bool → Bool
frame_index (frame.Args c m h l) below = true
frame_index (frame.Brace n m) below = true
frame_index (frame.Op p) below = below
frame_index (frame.Paren m) below = below
frame_index (frame.Row m rs c) below = below

-- some open bracket is a list's parenthesis or a brace
abbrev pub in_index : List Frame → Bool
in_index [] = false
in_index (f ∷ fs) = frame_index f (in_index fs)

abbrev pub outermost : Scene
outermost = record { looped = false; spmd = false; holds = true }

abbrev pub inside : Keyword → Scene → Scene
inside k.For c = record { looped = true; spmd = c.spmd; holds = true }
inside k.Parfor c = record { looped = true; spmd = c.spmd; holds = true }
inside k.While c = record { looped = true; spmd = c.spmd; holds = true }
inside k.Spmd c = record { looped = false; spmd = true; holds = true }
inside k.Switch c = record { looped = c.looped; spmd = c.spmd; holds = false }
inside word c = record { looped = c.looped; spmd = c.spmd; holds = true }

abbrev pub scene : List Level → Scene
scene [] = outermost
scene (l ∷ ls) = inside l.opened.word (scene ls)

abbrev pub may : Scene → Keyword → Bool
may c k.Break = c.looped
may c k.Continue = c.looped
may c k.Return = not c.spmd
may c k.Spmd = not c.spmd
may c k.Parfor = not c.spmd
may c word = true

unfoldable pub holds : Site → Bool
holds s = (scene s.levels).holds

unfoldable pub allows : Site → Keyword → Bool
allows s word = (scene s.levels).holds && may (scene s.levels) word

-- an `end` has to come
abbrev pub site_open : Site → Bool
site_open s = root_open s.root s.levels
  where
    root_open : Root → List Level → Bool
    root_open root.Script [] = false
    root_open root.Script (l ∷ ls) = true
    root_open (root.Function t l) ls = true

abbrev pub stack_open : Stack → Bool
stack_open s = bottom_open s.bottom
  where
    bottom_open : Bottom → Bool
    bottom_open (bottom.Goal g site) = site_open site
    bottom_open (bottom.Outputs m p site) = site_open site
    bottom_open (bottom.Lead l spot) = true
    bottom_open (bottom.Inner i spot) = true
