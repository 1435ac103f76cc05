pub mod LiveLemmas
pub mod ReadLemmas
mod HeldLemmas
mod RisingLemmas
mod FilledLemmas
pub mod CommuteLemmas
mod RoomLemmas
mod HeldBuildLemmas
mod HeldPlanLemmas
mod HeldChangeLemmas
mod ChangeEditLemmas
mod ReadChangeLemmas
mod ForgetLemmas
mod BookLemmas
mod LiveChangeLemmas
mod BothLemmas
mod PartLemmas
mod NothingLemmas
