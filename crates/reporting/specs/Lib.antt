pub mod Report
pub mod ForProofs
