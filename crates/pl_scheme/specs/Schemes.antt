-- The two sorts of schemes, and when one is whole.
use Rattle.std.specs.Prelude.{◌≡◌, ℕ, ◌*◌, ◌^◌, ◌<◌, ◌≤◌, ◌==◌, Bool, List, length, Result, Ok, Err, if◌then◌else◌}
use Rattle.std.specs.List.{sum}
use Rattle.pl_scheme.specs.declared.fault.SchemeFault.{SchemeFault}
use Rattle.pl_scheme.specs.declared.fault.SchemeFault.TheVariants.{PartSum, GridSize, BlockZero}
use Rattle.pl_scheme.specs.declared.size.Size.{Size}

-- a partition: the dimension, how many rows or columns each worker has, and the size of the whole array
pub record Partition : Type 0 where
  pub dim : ℕ
  pub part : List ℕ
  pub size : Size

-- blocks on a grid: its rows and columns, the length of a block's sides, whether workers are numbered along rows, and the size of the whole array
pub record Grid : Type 0 where
  pub p : ℕ
  pub q : ℕ
  pub blk : ℕ
  pub by_rows : Bool
  pub size : Size

-- the extent that dimension 1 or 2 names
abbrev pub along : ℕ → Size → ℕ
along dim size = if dim == 1 then size.rows else size.cols

-- a partition is whole: there is a worker, and the stretches add up to the extent
pub record Divides (s : Partition) : Type 0 where
  pub dim : (0 < s.dim) × (s.dim ≤ 2)
  pub some : 0 < length s.part
  pub few : length s.part < 2 ^ 32
  pub adds : sum s.part ≡ along s.dim s.size

-- a grid is whole: it has a place, its places can be counted, and its blocks aren't empty
pub record Tiles (s : Grid) : Type 0 where
  pub some : 0 < s.p * s.q
  pub few : s.p * s.q < 2 ^ 32
  pub blk : 0 < s.blk

-- the partition of these numbers, or that they don't add up
abbrev pub partitioned : ℕ → List ℕ → Size → Result Partition SchemeFault
partitioned dim part size = if sum part == along dim size then Ok (record { dim = dim; part = part; size = size }) else Err PartSum

-- the blocks on this grid for so many workers: the grid is looked at first, then the block
abbrev pub gridded : ℕ → ℕ → ℕ → Bool → Size → ℕ → Result Grid SchemeFault
gridded p q blk by_rows size workers = if p * q == workers then (if blk == 0 then Err BlockZero else Ok (record { p = p; q = q; blk = blk; by_rows = by_rows; size = size })) else Err GridSize
