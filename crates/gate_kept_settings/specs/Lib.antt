pub mod Told
pub mod Reading
pub mod Messages
