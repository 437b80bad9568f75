pub mod Bounds
pub mod Lossless
