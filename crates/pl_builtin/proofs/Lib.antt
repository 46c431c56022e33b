mod Sizes
mod Cells
mod FirstBest
mod Lines
mod Places
