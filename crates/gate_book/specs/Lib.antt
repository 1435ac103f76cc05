pub mod Memory
pub mod Past
