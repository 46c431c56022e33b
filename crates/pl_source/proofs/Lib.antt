mod Once
mod Refused
