pub mod Mahonian
pub mod Staircase
pub mod Read
pub mod Table
