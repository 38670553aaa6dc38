pub mod Printed
pub mod Table
pub mod Steps
pub mod Templates
pub mod Lines
pub mod Answers
