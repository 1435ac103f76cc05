-- what a walk carries, and what a visit makes of a row; which row is wanted, and where a walk stops
pub mod Walk
pub mod Next
-- the rows of a queue, settled wholly and up to a row; the laws of a touched queue
pub mod Rescan
pub mod Kinds
pub mod Delivery
-- the code's values, as the definitions see them; a walk between two visits
pub mod TakenOut
pub mod Views
pub mod UnderWay
