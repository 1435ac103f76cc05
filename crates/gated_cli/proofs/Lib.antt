pub mod TellLemmas
pub mod EndLemmas
pub mod CheckLemmas
mod FileLemmas
pub mod ShowLemmas
pub mod TalkLemmas
mod OfFileLemmas
mod AskLemmas
mod BlameLemmas
