mod Grows
mod Parts
mod Lists
mod Shows
