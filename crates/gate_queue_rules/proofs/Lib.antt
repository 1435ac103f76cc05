pub mod Ordered
pub mod Cut
pub mod Folds
pub mod Keeps
pub mod Builds
pub mod Settled
