pub mod First
pub mod History
pub mod Streamed
