pub mod Rows
pub mod Replay
