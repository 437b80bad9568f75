pub mod Elements
pub mod Whole
pub mod Answers
