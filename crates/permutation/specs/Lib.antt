pub mod Permutation
pub mod Values
pub mod Entries
pub mod Exchange
pub mod Reading
pub mod Numbered
pub mod Conversions
