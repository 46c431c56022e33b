-- What the frames below an operand say is the same for both machines.
use Rattle.std.proofs.Common.{◌≡◌, ℕ, suc, ◌+◌, true, ◌&&◌, List, ◌∷◌, length, refl, ap, arith}
use Rattle.std.specs.Prelude.{nat_le}
use Rattle.std.proofs.lemmas.Bool.{le-leb}
use Rattle.pl_syntax.specs.declared.stmt.Stmt.{Stmt}
use Rattle.pl_grammar.specs.declared.terminal.Keyword.{Keyword}
use Rattle.pl_grammar.specs.declared.terminal.Keyword.TheVariants as k
use Rattle.pl_grammar.specs.Derivations as d
use Rattle.pl_grammar.specs.Nesting as n
use Rattle.pl_grammar.specs.Sound as s
use Rattle.pl_grammar.specs.Programs.{Rules, strict}
use Rattle.pl_grammar.specs.Machine as gm
use Rattle.pl_grammar.specs.Steps as gs
use Rattle.pl_frames.specs.declared.below.Scene.{Scene}
use Rattle.pl_frames.specs.declared.stack.Level.{Level}
use Rattle.pl_frames.specs.declared.stack.Root.{Root}
use Rattle.pl_frames.specs.declared.stack.Root.TheVariants as root
use Rattle.pl_frames.specs.Below as cb
use Rattle.pl_frames.specs.Trees.{plus}
use Rattle.pl_parse.specs.Image.{cap, signs_of, op_of, levels_of, site_of, spot_of, outgoing_of, frames_of, bottom_of, stack_of, opened_of}
use Rattle.pl_parse.proofs.Capped.{plus_cap, one_cap, room_cap}

-- the rules of the language
abbrev pub rules : Rules
rules = strict 200

-- ---- nesting

levels_length : (site : gm.Site) → length (levels_of site) ≡ gm.site_nests site
levels_length gm.main = refl
levels_length (gm.body x l z) = refl
levels_length (gm.within o site b) = ap suc (levels_length site)

pub site_nests_cap : (site : gm.Site) (b : d.Block) → cb.site_nests (site_of site b) ≡ cap (gm.site_nests site)
site_nests_cap site b = rw (levels_length site) (omega arith)

pub spot_nests_cap : (spot : gm.Spot) → cb.spot_nests (spot_of spot) ≡ cap (gm.site_nests (gm.spot_site spot))
spot_nests_cap (gm.here site b) = site_nests_cap site b
spot_nests_cap (gm.linked o b site before) = site_nests_cap site before

pub run_cap : (p : gm.Outgoing) → (outgoing_of p).run ≡ cap (gm.outgoing_run p)
run_cap gm.fresh_outs = refl
run_cap (gm.behind_outs os c) = refl

two_cap : (a b : ℕ) → plus (cap a) (plus 2 (cap b)) ≡ cap (a + suc (suc b))
two_cap a b = omega arith

signs_length : (us : d.Signs) → length (signs_of us) ≡ n.count us
signs_length d.no_signs = refl
signs_length (d.more_signs us m u) = ap suc (signs_length us)

pub count_cap : (us : d.Signs) → plus 1 (length (signs_of us)) ≡ cap (suc (n.count us))
count_cap us = rw (signs_length us) (omega arith)

weight_cap : (p : d.Op) → cb.weight (op_of p) ≡ cap (n.weight p)
weight_cap (d.joined a o m us) = count_cap us
weight_cap (d.signed m u) = refl
weight_cap (d.from a m) = refl
weight_cap (d.stepped a m b z) = refl

pub nests_cap : (S : gm.Stack) → cb.nests (frames_of S) (bottom_of S) ≡ cap (gm.nests S)
nests_cap (gm.goal_of x site b) = rw (site_nests_cap site b) (one_cap (gm.site_nests site))
nests_cap (gm.lead_of l spot) = rw (spot_nests_cap spot) (one_cap (gm.site_nests (gm.spot_site spot)))
nests_cap (gm.inner_of i spot) = rw (spot_nests_cap spot) (one_cap (gm.site_nests (gm.spot_site spot)))
nests_cap (gm.outputs_of m p site b) = rw (site_nests_cap site b, run_cap p) (two_cap (gm.outgoing_run p) (gm.site_nests site))
nests_cap (gm.op_of p S) = rw (nests_cap S, weight_cap p) (plus_cap (n.weight p) (gm.nests S))
nests_cap (gm.paren_of m S) = rw (nests_cap S) (one_cap (gm.nests S))
nests_cap (gm.args_of c m p S) = rw (nests_cap S) (one_cap (gm.nests S))
nests_cap (gm.brace_of x m S) = rw (nests_cap S) (one_cap (gm.nests S))
nests_cap (gm.row_of m rs p S) = rw (nests_cap S) (one_cap (gm.nests S))

from_zero : (p : d.Op) → nat_le 0 (s.strength p) ≡ true
from_zero p = le-leb 0 (s.strength p) (omega arith)

pub base_cap : (S : gm.Stack) (e : d.Ex) → cb.base_nests (frames_of S) (bottom_of S) ≡ cap (gm.nests (gs.reduce 0 e S).stack)
base_cap (gm.op_of p S) e = rw (from_zero p) (base_cap S (d.under p e))
base_cap (gm.goal_of x site b) e = nests_cap (gm.goal_of x site b)
base_cap (gm.lead_of l spot) e = nests_cap (gm.lead_of l spot)
base_cap (gm.inner_of i spot) e = nests_cap (gm.inner_of i spot)
base_cap (gm.outputs_of m p site b) e = nests_cap (gm.outputs_of m p site b)
base_cap (gm.paren_of m S) e = nests_cap (gm.paren_of m S)
base_cap (gm.args_of c m p S) e = nests_cap (gm.args_of c m p S)
base_cap (gm.brace_of x m S) e = nests_cap (gm.brace_of x m S)
base_cap (gm.row_of m rs p S) e = nests_cap (gm.row_of m rs p S)

-- ---- room

pub room_one : (S : gm.Stack) → cb.has_room 1 (stack_of S) ≡ gs.room rules (suc (gm.nests S))
unfolding cb.has_room
room_one S = rw (nests_cap S, one_cap (gm.nests S)) (room_cap (suc (gm.nests S)))

tall_cap : (h m : ℕ) → plus (plus 1 (cap h)) (cap m) ≡ cap (suc (h + m))
tall_cap h m = omega arith

-- for an operand that is so high
pub room_over : (h : ℕ) (S : gm.Stack) → cb.has_room (plus 1 (cap h)) (stack_of S) ≡ gs.room rules (suc (h + gm.nests S))
unfolding cb.has_room
room_over h S = rw (nests_cap S, tall_cap h (gm.nests S)) (room_cap (suc (h + gm.nests S)))

pub room_below : (S : gm.Stack) (e : d.Ex) → cb.has_base_room (stack_of S) ≡ gs.room rules (suc (gm.nests (gs.reduce 0 e S).stack))
unfolding cb.has_base_room
room_below S e = rw (base_cap S e, one_cap (gm.nests (gs.reduce 0 e S).stack)) (room_cap (suc (gm.nests (gs.reduce 0 e S).stack)))

pub room_site : (site : gm.Site) (b : d.Block) → cb.site_room 1 (site_of site b) ≡ gs.room rules (suc (gm.site_nests site))
unfolding cb.site_room
room_site site b = rw (site_nests_cap site b, one_cap (gm.site_nests site)) (room_cap (suc (gm.site_nests site)))

pub room_spot : (spot : gm.Spot) → cb.spot_room (spot_of spot) ≡ gs.room rules (suc (gm.site_nests (gm.spot_site spot)))
unfolding cb.spot_room
room_spot spot = rw (spot_nests_cap spot, one_cap (gm.site_nests (gm.spot_site spot))) (room_cap (suc (gm.site_nests (gm.spot_site spot))))

pub room_outputs : (p : gm.Outgoing) (site : gm.Site) (b : d.Block) → cb.outgoing_room (outgoing_of p) (site_of site b) ≡ gs.room rules (suc (gm.outgoing_run p + suc (suc (gm.site_nests site))))
unfolding cb.outgoing_room
room_outputs p site b =
    let N : ℕ = gm.outgoing_run p + suc (suc (gm.site_nests site)) in
    rw (site_nests_cap site b, run_cap p, two_cap (gm.outgoing_run p) (gm.site_nests site), one_cap N) (room_cap (suc N))

-- ---- brackets

pub row_same : (S : gm.Stack) → cb.in_row (frames_of S) ≡ gm.in_row S
row_same (gm.op_of p S) = row_same S
row_same (gm.row_of m rs p S) = refl
row_same (gm.goal_of x site b) = refl
row_same (gm.lead_of l spot) = refl
row_same (gm.inner_of i spot) = refl
row_same (gm.outputs_of m p site b) = refl
row_same (gm.paren_of m S) = refl
row_same (gm.args_of c m p S) = refl
row_same (gm.brace_of x m S) = refl

pub index_same : (S : gm.Stack) → cb.in_index (frames_of S) ≡ gm.in_index S
index_same (gm.op_of p S) = index_same S
index_same (gm.row_of m rs p S) = index_same S
index_same (gm.goal_of x site b) = refl
index_same (gm.lead_of l spot) = refl
index_same (gm.inner_of i spot) = refl
index_same (gm.outputs_of m p site b) = refl
index_same (gm.paren_of m S) = index_same S
index_same (gm.args_of c m p S) = refl
index_same (gm.brace_of x m S) = refl

-- ---- where statements stand

abbrev scene_of : s.Scene → Scene
scene_of c = record { looped = c.loop; spmd = c.spmd; holds = c.holds }

inside_same : (word : Keyword) (c : s.Scene) → cb.inside word (scene_of c) ≡ scene_of (s.inside word c)
inside_same k.For c = refl
inside_same k.Parfor c = refl
inside_same k.While c = refl
inside_same k.Spmd c = refl
inside_same k.Switch c = refl
inside_same word c = refl

scene_same : (site : gm.Site) → cb.scene (levels_of site) ≡ scene_of (gm.scene site)
scene_same gm.main = refl
scene_same (gm.body x l z) = refl
scene_same (gm.within o site b) = rw (scene_same site) (inside_same (s.opened_word o) (gm.scene site))

may_same : (c : s.Scene) (word : Keyword) → cb.may (scene_of c) word ≡ s.may c word
may_same c k.Break = refl
may_same c k.Continue = refl
may_same c k.Return = refl
may_same c k.Spmd = refl
may_same c k.Parfor = refl
may_same c word = refl

pub holds_same : (site : gm.Site) (b : d.Block) → cb.holds (site_of site b) ≡ (gm.scene site).holds
unfolding cb.holds
holds_same site b = ap (λ c. c.holds) (scene_same site)

pub allows_same : (site : gm.Site) (b : d.Block) (word : Keyword) → cb.allows (site_of site b) word ≡ ((gm.scene site).holds && s.may (gm.scene site) word)
unfolding cb.allows
allows_same site b word = rw (scene_same site, may_same (gm.scene site) word)

levels_open : (r : Root) (l : Level) (ls : List Level) (b : List Stmt) → cb.site_open (record { root = r; levels = l ∷ ls; block = b }) ≡ true
levels_open root.Script l ls b = refl
levels_open (root.Function x z) l ls b = refl

pub site_open_same : (site : gm.Site) (b : d.Block) → cb.site_open (site_of site b) ≡ gm.site_open site
site_open_same gm.main b = refl
site_open_same (gm.body x l z) b = refl
site_open_same (gm.within o site before) b = levels_open (site_of site b).root (record { opened = opened_of o; before = (site_of site before).block }) (levels_of site) (site_of site b).block

pub stack_open_same : (S : gm.Stack) → cb.stack_open (stack_of S) ≡ gm.stack_open S
stack_open_same (gm.goal_of x site b) = site_open_same site b
stack_open_same (gm.lead_of l spot) = refl
stack_open_same (gm.inner_of i spot) = refl
stack_open_same (gm.outputs_of m p site b) = site_open_same site b
stack_open_same (gm.op_of p S) = stack_open_same S
stack_open_same (gm.paren_of m S) = stack_open_same S
stack_open_same (gm.args_of c m p S) = stack_open_same S
stack_open_same (gm.brace_of x m S) = stack_open_same S
stack_open_same (gm.row_of m rs p S) = stack_open_same S
