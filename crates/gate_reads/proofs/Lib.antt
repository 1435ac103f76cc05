-- lists
pub mod Found
-- one item
pub mod OwnBuilds
pub mod KnownPlaces
-- a queue, row by row
pub mod RisingRows
pub mod Walking
pub mod Passing
pub mod Trying
-- and part by part
pub mod ToldParts
pub mod Along
pub mod TryingParts
-- the queues, one after another
pub mod Queues
-- the items of all queues
pub mod Stood
pub mod ShownOrders
pub mod Told
