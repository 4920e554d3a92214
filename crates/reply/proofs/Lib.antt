pub mod Exits
pub mod InTurn
