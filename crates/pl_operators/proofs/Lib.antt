mod Converted
mod ColumnCells
mod Ranges
mod Characters
mod Fronts
