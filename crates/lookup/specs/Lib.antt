pub mod Lookup
pub mod Answers
pub mod ForProofs
