pub mod Search
pub mod ForProofs
pub mod Communities
