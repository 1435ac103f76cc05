pub mod Outcomes
pub mod Edits
pub mod Settled
