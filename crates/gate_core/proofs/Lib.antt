mod Results
mod KeptReply
mod NextContents
mod Steps
pub mod HoldingLemmas
mod Placed
-- who may enter by the edits
mod ByEdits
-- where a put of a change is left out
mod Thinning
pub mod LineLemmas
pub mod RunLemmas
pub mod LeftLemmas
pub mod ReplyLemmas
pub mod LandingLemmas
mod LineTrees
mod LineUtf8
pub mod LinesReadBack
