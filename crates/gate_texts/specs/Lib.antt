pub mod Lines
pub mod Listed
pub mod Values
pub mod Changes
pub mod Running
pub mod Ahead
pub mod Items
