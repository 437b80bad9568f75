pub mod Layout
pub mod ForProofs
