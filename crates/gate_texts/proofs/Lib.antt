-- a build
pub mod BuildLemmas
-- the status
pub mod LineLemmas
pub mod Pieces
pub mod Shown
-- the orders
pub mod Listed
-- a change
pub mod Entries
pub mod ChangeTexts
-- the builds that run
pub mod RunningBuilds
-- an item
pub mod AheadByKey
pub mod ItemTexts
