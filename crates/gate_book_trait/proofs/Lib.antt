pub mod Finding
pub mod Padding
pub mod ReportLines
pub mod ReadLemmas
pub mod KeptLemmas
pub mod ReadingLemmas
