pub mod Outputs
pub mod Kids
