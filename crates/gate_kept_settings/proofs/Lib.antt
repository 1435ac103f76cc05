pub mod ReadBack
pub mod Entries
pub mod PlainTexts
pub mod ListLemmas
pub mod FormLemmas
pub mod SettingsData
pub mod ToldLemmas
pub mod ReadingLemmas
