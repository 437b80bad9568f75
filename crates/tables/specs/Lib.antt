pub mod Plan
pub mod ForProofs
