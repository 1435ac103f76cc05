pub mod ItemReads
mod ItemTexts
mod NeedingReads
pub mod NextReads
