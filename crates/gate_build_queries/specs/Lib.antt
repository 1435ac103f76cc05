pub mod Planned
pub mod Ahead
