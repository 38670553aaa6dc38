pub mod Writes
mod Leaves
mod Wholes
