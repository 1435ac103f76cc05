pub mod Handed
pub mod Refused
