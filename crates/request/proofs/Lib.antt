pub mod Decimals
pub mod Scans
pub mod Reading
pub mod Requests
pub mod Asked
