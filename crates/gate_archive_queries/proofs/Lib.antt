mod LeftReads
mod CountReads
mod BuildReads
mod HistoryReads
mod HistoryLemmas
mod DeliveryReads
mod DeliveryLemmas
pub mod ToldReads
