pub mod Words
pub mod Document
pub mod Members
pub mod Kinds
pub mod Rules
pub mod Faults
pub mod Reading
