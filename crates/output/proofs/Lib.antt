pub mod Steps
pub mod Recs
pub mod Kept
pub mod Framing
pub mod Counter
pub mod Each
mod Marked
