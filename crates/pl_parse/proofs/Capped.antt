-- Heights that stop at 1000.
use Rattle.std.proofs.Common.{◌≡◌, ℕ, suc, ◌+◌, arith}
use Rattle.std.specs.Prelude.{max, nat_le}
use Rattle.pl_frames.specs.Trees.{plus}
use Rattle.pl_parse.specs.Image.{cap}

pub plus_cap : (a b : ℕ) → plus (cap a) (cap b) ≡ cap (a + b)
plus_cap a b = omega arith

pub one_cap : (h : ℕ) → plus 1 (cap h) ≡ cap (suc h)
one_cap h = omega arith

pub max_cap : (a b : ℕ) → max (cap a) (cap b) ≡ cap (max a b)
max_cap a b = omega arith

pub room_cap : (n : ℕ) → nat_le (cap n) 200 ≡ nat_le n 200
room_cap n = grind arith
