pub mod Module
pub mod Runs
pub mod Calls
pub mod SecondCall
pub mod Silence
