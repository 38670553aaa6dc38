pub mod Made
pub mod Turned
mod TurnedSign
pub mod LitKinds
pub mod Maybe
pub mod Freeze
