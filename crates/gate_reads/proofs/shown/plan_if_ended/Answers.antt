use Rattle.std.proofs.Common.{◌∙◌, sym, ap}
use Rattle.gate_types.specs.declared.records.Item.{Item as ItemRow}
use Rattle.gate_types.specs.Standing.{all_places}
use Rattle.gate_laws.proofs.Members.{contains_in}
use Rattle.gate_book_trait.specs.Reads.{live_builds}
use Rattle.gate_reads.proofs.OwnBuilds.{all_count, ended_is}
use Rattle.gate_reads.proofs.KnownPlaces.{jobs_at}
use Rattle.gate_reads.proofs.shown.plan_if_ended.Goals as goal

pub returns-then-branch-clause-ended : goal.returns-then-branch-clause-ended
returns-then-branch-clause-ended g c trusted x holds lawful p at fine builds =
    let s = x.state in
    let config = c.args.config.now in
    let plan = c.in_ok-plan.ensures.found trusted _ x holds lawful in
    let there = contains_in (all_places config s) p at.there in
    sym c.if-branch.true ∙ c.in_ok-have_ended.ensures ∙ ended_is s p c.args.builds.now c.as_slice.result.now
    (builds ∙ ap (λ (r : ItemRow). live_builds s r.serial) at.row_is)
    (c.as_slice.ensures ∙ jobs_at config s p c.args.item.now c.in_ok-plan.plan there at.row_is plan)
    (all_count config s lawful.lawful p there) (sym (ap (λ (r : ItemRow). r.failing) at.row_is) ∙ fine)

pub returns-else-branch-clause-ended : goal.returns-else-branch-clause-ended
returns-else-branch-clause-ended g c trusted x holds lawful p at fine builds =
    let s = x.state in
    let config = c.args.config.now in
    let plan = c.in_ok-plan.ensures.found trusted _ x holds lawful in
    let there = contains_in (all_places config s) p at.there in
    sym c.if-branch.false ∙ c.in_ok-have_ended.ensures ∙ ended_is s p c.args.builds.now c.as_slice.result.now
    (builds ∙ ap (λ (r : ItemRow). live_builds s r.serial) at.row_is)
    (c.as_slice.ensures ∙ jobs_at config s p c.args.item.now c.in_ok-plan.plan there at.row_is plan)
    (all_count config s lawful.lawful p there) (sym (ap (λ (r : ItemRow). r.failing) at.row_is) ∙ fine)
