-- lists, and rows that are put over stored ones
pub mod Along
pub mod Rows
pub mod QueueItems
pub mod ByChange
pub mod LastItem
pub mod Sizes
-- the states to which edits lead
pub mod Standing
pub mod Led
pub mod LedItems
pub mod Spans
pub mod ReadyList
-- one admission after another
pub mod Admitted
pub mod ProjectQueue
pub mod MetByRows
pub mod EnteringRow
pub mod EnteringEdits
pub mod StillOut
pub mod LetIn
pub mod Waiting
pub mod Tries
