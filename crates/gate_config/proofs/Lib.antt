pub mod DocumentLemmas
pub mod ReadingLemmas
pub mod SoundLemmas
