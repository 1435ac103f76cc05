pub mod Migrates
pub mod Standing
pub mod Upgrade
