pub mod CommandLemmas
pub mod UsageLemmas
pub mod NumberLemmas
