pub mod Faults
pub mod Guards
pub mod Leaving
pub mod Landing
pub mod Approving
