-- The fault of a document: of all that apply, the one with the least number.
use Rattle.std.specs.Prelude.{if◌then◌else◌, Option, Some, None}
use Rattle.toml.specs.Data.{Data}
use Rattle.gate_config.specs.Members.{misses_member, has_unknown_member}
use Rattle.gate_config.specs.Kinds.{has_wrong_kind}
use Rattle.gate_config.specs.Rules.{has_bad_name_anywhere, has_double_name, names_no_queue, has_bad_window}
use Rattle.gate_config.specs.Rules.{has_no_voting_job, is_beyond_limits}
use Rattle.gate_config.specs.declared.fault.ConfigFault.{ConfigFault}
use Rattle.gate_config.specs.declared.fault.ConfigFault.TheVariants as fault

-- the least fault of names, windows, jobs and limits
abbrev pub broken_rule : Data → Option ConfigFault
broken_rule d =
    if has_bad_name_anywhere d then Some fault.BadName else (
    if has_double_name d then Some fault.DoubleName else (
    if names_no_queue d then Some fault.UnknownQueue else (
    if has_bad_window d then Some fault.BadWindow else (
    if has_no_voting_job d then Some fault.NoVotingJob else (
    if is_beyond_limits d then Some fault.Limit else None)))))

-- the least fault of a document
abbrev pub fault_of : Data → Option ConfigFault
fault_of d =
    if misses_member d then Some fault.MissingMember else (
    if has_wrong_kind d then Some fault.WrongKind else (
    if has_unknown_member d then Some fault.UnknownMember else broken_rule d))
