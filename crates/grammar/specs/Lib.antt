pub mod Printed
pub mod Slots
pub mod Answers
