pub mod Lines
pub mod ForProofs
