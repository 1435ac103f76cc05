-- A queue whose items and builds are all in memory: its settling and its next build.
pub mod Facts
pub mod Settles
pub mod Chooses
pub mod ByItself
pub mod Examples
pub mod Follows
pub mod Waiting
pub mod Shared
pub mod Visits
