pub mod MemoryLemmas
mod AdoptLemmas
mod HistoryLemmas
mod FeedLemmas
mod PastLemmas
