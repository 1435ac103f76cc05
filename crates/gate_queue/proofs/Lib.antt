pub mod LawLemmas
pub mod OneByOne
pub mod WholeQueue
