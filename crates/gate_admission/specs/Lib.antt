pub mod Led
pub mod Seen
pub mod Known
pub mod Enters
pub mod Entrants
pub mod Counted
pub mod Candidates
