-- an accepted delivery, and the item that it touched
pub mod Touching
-- what is read by key of the rows that a walk asks for
pub mod Rows
