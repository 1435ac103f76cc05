pub mod FailLemmas
pub mod JudgeLemmas
pub mod MetaLemmas
pub mod SchemaLemmas
