-- tests and lists
pub mod ListLemmas
-- the columns of items, by serial
pub mod ColumnLemmas
-- edits that are a queue's own, and what they leave of all tables
pub mod SeamLemmas
-- what a delivery leaves of the touched queue
pub mod LeavesLemmas
pub mod BuildLemmas
pub mod LeftLemmas
-- what is read by key is what a visit is to see
pub mod StandingLemmas
pub mod SeenLemmas
-- the row that a walk reads
pub mod WantedLemmas
-- who needs what has gone
pub mod NeedingLemmas
pub mod KeptLemmas
-- the plans that a walk's edits drop
pub mod DroppedPlans
-- what a walk's edits settle
pub mod WalkLemmas
-- what a walk begins with
pub mod BegunLemmas
-- the delivery that is under way
pub mod TouchingLemmas
