pub mod Making
pub mod Adopts
pub mod Applies
