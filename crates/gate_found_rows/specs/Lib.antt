pub mod Finds
pub mod Asked
pub mod Whole
pub mod Reads
pub mod Shown
pub mod Causes
