pub mod Writes
pub mod Matches
