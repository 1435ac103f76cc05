-- lists: numbers that stand once, lists that rise
pub mod Once
pub mod Parting
-- one row: what a visit makes of it is what the rules say
pub mod Slots
pub mod VisitEdits
pub mod Steps
-- the parts of a walk: lines have changed, needs are followed, a landing is passed
pub mod Resets
pub mod Needs
pub mod Passes
-- what the edits leave, at the end and between two visits
pub mod Folded
pub mod SoFar
-- one queue, by what happened to its item
pub mod Events
pub mod Front
pub mod Moved
pub mod OneQueue
-- a lawful state: nothing to settle, the rows that are stored, an ended build
pub mod Calm
pub mod StoredRows
pub mod EndedBuilds
-- the laws of a touched queue, and the deliveries that take an item out
pub mod Touching
pub mod Leaving
-- the rows that are wanted, one after another
pub mod NextRows
pub mod Visits
pub mod GoesOn
-- a delivery in the whole state
pub mod Swept
pub mod EachReply
pub mod TouchedQueue
pub mod Deliveries
-- a walk under way, call by call
pub mod UnderWay
