pub mod LineLaw
pub mod TextOfLines
