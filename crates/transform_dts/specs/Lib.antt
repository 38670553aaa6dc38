pub mod Answers
pub mod Twice
pub mod Runs
