pub mod CountReads
mod CounterReads
pub mod FirstReads
pub mod HistoryLemmas
mod QueueReads
mod QueueTexts
pub mod ReportReads
pub mod StreamLemmas
