pub mod Demand3
pub mod Lookup
pub mod Lengths
