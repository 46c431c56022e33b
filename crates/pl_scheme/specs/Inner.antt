-- The schemes that the fields stand for, and back.
use Rattle.pl_scheme.specs.Schemes.{Partition, Grid}
use Rattle.pl_scheme.specs.declared.partition.Scheme1d.TheInside.{Inside as Kept1d}
use Rattle.pl_scheme.specs.declared.grid.Scheme2dbc.TheInside.{Inside as Kept2d}

-- the partition
abbrev pub partition_of : Kept1d → Partition
partition_of s = record { dim = s.dim; part = s.part; size = s.size }

abbrev pub partition_back : Partition → Kept1d
partition_back s = record { dim = s.dim; part = s.part; size = s.size }

-- the grid
abbrev pub grid_of : Kept2d → Grid
grid_of s = record { p = s.p; q = s.q; blk = s.blk; by_rows = s.by_rows; size = s.size }

abbrev pub grid_back : Grid → Kept2d
grid_back s = record { p = s.p; q = s.q; blk = s.blk; by_rows = s.by_rows; size = s.size }
