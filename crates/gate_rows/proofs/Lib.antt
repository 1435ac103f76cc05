pub mod ThenLemmas
mod AheadLemmas
mod PutLemmas
mod PlanLemmas
mod MatchLemmas
mod ItemMatches
pub mod UniqueLemmas
mod FitsLemmas
mod HistoryMatches
mod ChangeMatches
pub mod PlanMatches
mod EveryEdit
mod RanLemmas
mod QueryLeaves
mod NeedsShown
