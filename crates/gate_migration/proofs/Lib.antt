mod FirstTells
pub mod MigrateLemmas
mod PlanningLemmas
mod StandingLemmas
mod UpgradeLemmas
