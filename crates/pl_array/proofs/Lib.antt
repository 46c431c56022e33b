mod Writes
mod Layouts
mod Combined
mod Singles
mod Kept
mod Joins
