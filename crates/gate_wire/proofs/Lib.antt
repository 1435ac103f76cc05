pub mod NumberLemmas
pub mod FooterLemmas
pub mod ReplyLemmas
pub mod EndingLemmas
