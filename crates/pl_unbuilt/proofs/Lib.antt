mod Joins
mod Shapes
