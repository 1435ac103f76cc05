use Rattle.std.proofs.Common.{◌∙◌, ◌+◌, sym, ap, Some, rules}
use Rattle.std.specs.Prelude.{option_copied, option_map}
use Rattle.gate_types.specs.Choice.{build_for}
use Rattle.gate_queue_rules.proofs.Cut.{when_unblocked}
use Rattle.gate_reads.specs.NextBuild.{under_number}
use Rattle.gate_reads.proofs.KnownPlaces.{none_cut, none_waits, first_is, built_is}
use Rattle.gate_reads.proofs.OwnBuilds.{blocked_none}
use Rattle.gate_book_trait.proofs.KeptLemmas.{then}
use Rattle.gate_book_trait.proofs.ReadingLemmas.{is_read_under}
use Rattle.gate_reads.proofs.due.build_of_item.Goals as goal

pub returns-then-is_cut : goal.returns-then-is_cut
returns-then-is_cut g c = is_read_under (λ trusted x holds lawful q p at told.
    let cut = when_unblocked c.args.told.now.fast c.args.told.now.row.failing c.is_cut.ensures in
    sym (ap (option_map (under_number c.args.number)) (none_cut at told (sym cut ∙ c.if-is_cut.true))))
    (search rules) (search rules)

pub returns-in_default : goal.returns-in_default
returns-in_default g c = is_read_under (λ trusted x holds lawful q p at told.
    let cut = when_unblocked c.args.told.now.fast c.args.told.now.row.failing c.is_cut.ensures in
    sym (ap (option_map (under_number c.args.number)) (none_waits lawful.lawful at told
    (sym cut ∙ c.if-is_cut.false) (sym c.in_ok-job.ensures ∙ ap option_copied c.in_default.is))))
    (search rules) (search rules)

pub returns-then-branch : goal.returns-then-branch
returns-then-branch g c = is_read_under (λ trusted x holds lawful q p at told.
    sym (ap (option_map (under_number c.args.number)) (blocked_none x.state q p
    (sym (c.in_ok-is_blocked.ensures.found trusted x holds lawful q p at) ∙ c.if-branch.true))))
    (search rules) (search rules)

pub returns : goal.returns
returns g c = is_read_under (λ trusted x holds lawful q p at told.
    let s = x.state in
    let before = c.in_ok-build_on.ensures.kept.trusted_before trusted in
    let held = c.in_ok-is_blocked.ensures.kept.holds_on before _ x holds in
    let unblocked = sym (c.in_ok-is_blocked.ensures.found before x holds lawful q p at) ∙ c.if-branch.false in
    let cut = when_unblocked c.args.told.now.fast c.args.told.now.row.failing c.is_cut.ensures in
    let due = first_is lawful.lawful at told (sym cut ∙ c.if-is_cut.false) unblocked
    ∙ ap (option_map (build_for (s.counters.build + 1) q p)) (sym c.in_ok-job.ensures ∙ ap option_copied c.in-Some.is) in
    ap Some (c.in_ok-build_on.ensures.found trusted _ x held lawful ∙ built_is at c.args.number c.in-Some.job.now)
    ∙ sym (ap (option_map (under_number c.args.number)) due))
    (then c.in_ok-is_blocked.ensures.kept c.in_ok-build_on.ensures.kept) (search rules)
