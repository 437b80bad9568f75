pub mod Answers
pub mod Drafting
pub mod Outcome
pub mod Tables
