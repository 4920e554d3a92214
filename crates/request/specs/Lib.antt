pub mod Text
pub mod Request
pub mod Scan
pub mod Asked
