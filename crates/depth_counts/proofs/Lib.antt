pub mod Spaces
pub mod Cells
pub mod Walking
pub mod Whole
pub mod Rows
pub mod Counts
