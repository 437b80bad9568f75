pub mod Rows
pub mod ForProofs
