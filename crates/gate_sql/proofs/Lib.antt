mod AgainLemmas
mod ArchiveLemmas
mod EmptyLemmas
mod HistoryLemmas
mod OpenLemmas
