pub mod Limits
pub mod Distances
pub mod Signed
