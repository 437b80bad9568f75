pub mod Agreement
pub mod Answers
