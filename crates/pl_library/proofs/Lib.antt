mod Given
mod Outputs
mod Parts
