use Rattle.std.proofs.Common.{refl}
use Rattle.std.specs.Fmt.{digits}
use Rattle.gate_types.proofs.deliveries.Refusal.text.Goals as goal

pub returns-in-BadJson : goal.returns-in-BadJson
unfolding digits
returns-in-BadJson c = rw c.in-BadJson.is refl

pub returns-in-BadDelivery : goal.returns-in-BadDelivery
unfolding digits
returns-in-BadDelivery c = rw c.in-BadDelivery.is refl

pub returns-in-WrongDoor : goal.returns-in-WrongDoor
unfolding digits
returns-in-WrongDoor c = rw c.in-WrongDoor.is refl

pub returns-in-IdReused : goal.returns-in-IdReused
unfolding digits
returns-in-IdReused c = rw c.in-IdReused.is refl

pub returns-in-UnknownChange : goal.returns-in-UnknownChange
unfolding digits
returns-in-UnknownChange c = rw c.in-UnknownChange.is refl

pub returns-in-UnknownRevision : goal.returns-in-UnknownRevision
unfolding digits
returns-in-UnknownRevision c = rw c.in-UnknownRevision.is refl

pub returns-in-UnknownProject : goal.returns-in-UnknownProject
unfolding digits
returns-in-UnknownProject c = rw c.in-UnknownProject.is refl

pub returns-in-ProjectChanged : goal.returns-in-ProjectChanged
unfolding digits
returns-in-ProjectChanged c = rw c.in-ProjectChanged.is refl

pub returns-in-Submitting : goal.returns-in-Submitting
unfolding digits
returns-in-Submitting c = rw c.in-Submitting.is refl

pub returns-in-NoOrder : goal.returns-in-NoOrder
unfolding digits
returns-in-NoOrder c = rw c.in-NoOrder.is refl

pub returns-in-UnknownBuild : goal.returns-in-UnknownBuild
unfolding digits
returns-in-UnknownBuild c = rw c.in-UnknownBuild.is refl

pub returns-in-Idle : goal.returns-in-Idle
unfolding digits
returns-in-Idle c = rw c.in-Idle.is refl

pub returns-in-TooManyNeeds : goal.returns-in-TooManyNeeds
unfolding digits
returns-in-TooManyNeeds c = rw c.in-TooManyNeeds.is refl

pub returns-in-Exhausted : goal.returns-in-Exhausted
unfolding digits
returns-in-Exhausted c = rw c.in-Exhausted.is refl

pub returns-in-Unavailable : goal.returns-in-Unavailable
unfolding digits
returns-in-Unavailable c = rw c.in-Unavailable.is refl
