pub mod Known
pub mod Stores
pub mod Whole
pub mod Filled
pub mod Wrote
pub mod Texts
pub mod Puts
mod SetFlags
pub mod Accepted
pub mod Views
pub mod Records
pub mod Fronts
pub mod Iterates
pub mod Writers
pub mod SameMarks
