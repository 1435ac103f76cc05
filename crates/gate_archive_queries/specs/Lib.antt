pub mod Asked
pub mod HistoryFrom
pub mod Deliveries
pub mod Answers
