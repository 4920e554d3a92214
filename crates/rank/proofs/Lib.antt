pub mod Calls
pub mod RoundTrips
pub mod Consequences
pub mod Withdrawn
