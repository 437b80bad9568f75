pub mod Openings
pub mod Same
pub mod RoundTrips
pub mod Examples
