-- lists, the items of all queues, and the queues' names
pub mod Lists
pub mod Items
pub mod Names
-- what is asked of items, queues and changes
pub mod ItemReads
pub mod QueueReads
pub mod ChangeReads
pub mod PlanReads
pub mod Reads
-- the form of the rows
pub mod ItemForms
pub mod RowForms
pub mod Whole
