-- A queue whose items and builds are all in memory: its settling and its next build.
pub mod FollowLemmas
pub mod SharedLemmas
pub mod PlaceLemmas
pub mod OwnEdits
pub mod Choosing
pub mod ChoiceLaw
pub mod WholeState
