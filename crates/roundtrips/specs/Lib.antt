pub mod RoundTrips
pub mod Examples
