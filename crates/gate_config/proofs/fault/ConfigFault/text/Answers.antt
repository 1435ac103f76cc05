use Rattle.std.proofs.Common.{refl}
use Rattle.gate_config.proofs.fault.ConfigFault.text.Goals as goal

pub returns-in-NotToml : goal.returns-in-NotToml
returns-in-NotToml c = rw c.in-NotToml.is refl

pub returns-in-MissingMember : goal.returns-in-MissingMember
returns-in-MissingMember c = rw c.in-MissingMember.is refl

pub returns-in-WrongKind : goal.returns-in-WrongKind
returns-in-WrongKind c = rw c.in-WrongKind.is refl

pub returns-in-UnknownMember : goal.returns-in-UnknownMember
returns-in-UnknownMember c = rw c.in-UnknownMember.is refl

pub returns-in-BadName : goal.returns-in-BadName
returns-in-BadName c = rw c.in-BadName.is refl

pub returns-in-DoubleName : goal.returns-in-DoubleName
returns-in-DoubleName c = rw c.in-DoubleName.is refl

pub returns-in-UnknownQueue : goal.returns-in-UnknownQueue
returns-in-UnknownQueue c = rw c.in-UnknownQueue.is refl

pub returns-in-BadWindow : goal.returns-in-BadWindow
returns-in-BadWindow c = rw c.in-BadWindow.is refl

pub returns-in-NoVotingJob : goal.returns-in-NoVotingJob
returns-in-NoVotingJob c = rw c.in-NoVotingJob.is refl

pub returns-in-Limit : goal.returns-in-Limit
returns-in-Limit c = rw c.in-Limit.is refl

pub returns-in-NoMemory : goal.returns-in-NoMemory
returns-in-NoMemory c = rw c.in-NoMemory.is refl
