pub mod Scored
pub mod ForProofs
pub mod Answers
