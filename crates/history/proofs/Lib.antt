pub mod NearTest
pub mod Plane
pub mod TakenOver
pub mod Examples
