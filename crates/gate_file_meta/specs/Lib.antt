pub mod Opens
pub mod Reading
