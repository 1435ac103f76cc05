pub mod KeptLemmas
pub mod ReadLemmas
pub mod told
