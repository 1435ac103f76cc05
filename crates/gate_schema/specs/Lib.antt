pub mod Schema
pub mod Made
pub mod AheadText
pub mod Rows
pub mod Edits
pub mod Shown
