pub mod Schedule
pub mod Answers
pub mod Examples
