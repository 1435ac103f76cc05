-- what edits make of tables
pub mod Folded
-- rows, and the items that they stand for
pub mod Few
pub mod Stored
-- the row of a change
pub mod Put
-- an item leaves its queue
pub mod Stopped
pub mod Left
pub mod GivenUp
-- what other rows name
pub mod Missing
-- the lines that kinds begin with
pub mod Guarded
pub mod Latest
-- the kinds
pub mod Withdrawn
pub mod Closed
pub mod Drawn
pub mod Approved
pub mod Taken
pub mod Ordered
pub mod Ended
