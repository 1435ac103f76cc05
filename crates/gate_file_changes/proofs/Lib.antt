pub mod AdoptLemmas
pub mod AdoptTables
pub mod ApplyLemmas
pub mod BareLemmas
pub mod FillLemmas
pub mod MakeLemmas
pub mod QueueLemmas
