pub mod Image
pub mod Questions
pub mod Acceptance
pub mod Signed
pub mod Answers
pub mod Rows
pub mod ForProofs
