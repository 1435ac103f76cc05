pub mod Reads
pub mod Kept
pub mod Reading
pub mod Faults
pub mod Text
pub mod Writes
pub mod RowReads
pub mod Messages
