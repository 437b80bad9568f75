pub mod Growth
pub mod Closures
pub mod Unique
pub mod Communities
