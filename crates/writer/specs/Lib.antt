pub mod Holds
pub mod Writer
