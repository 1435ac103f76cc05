use Rattle.std.proofs.Common.{◌≡◌, ◌∙◌, sym, ap, subst, rules}
use Rattle.std.specs.Prelude.{nat_lt}
use Rattle.gate_book_trait.specs.Reads.{items_in, items_between, plans_of_items, builds_of_items}
use Rattle.gate_book_trait.proofs.KeptLemmas.{then}
use Rattle.gate_book_trait.proofs.ReadingLemmas.{is_read}
use Rattle.gate_reads.specs.Parts.{last_serial}
use Rattle.gate_reads.proofs.RisingRows.{RiseAbove, rows_above, rise_above, rise_take, rise_strictly, between}
use Rattle.gate_reads.proofs.RisingRows.{none_above, not_then, then_is}
use Rattle.gate_reads.proofs.Walking.{lawful_rise}
use Rattle.gate_reads.proofs.part.read_part.Goals as goal

pub returns-in_default-clause-reads : goal.returns-in_default-clause-reads
returns-in_default-clause-reads g c = is_read (λ trusted s x holds lawful.
    let items = c.in_ok-items.ensures.found trusted s x holds lawful in
    let low = c.args.above in
    sym items ∙ none_above low c.args.most 0 (items_in s x.state c.args.queue.now) c.in_ok-items.items
    (lawful_rise s x lawful c.args.queue.now) items
    (ap (λ is. nat_lt low (last_serial low is)) (sym c.as_slice.ensures)
    ∙ not_then (nat_lt low (last_serial low c.as_slice.result.now)) (last_serial low c.as_slice.result.now)
    (sym c.last_above.ensures ∙ c.in_default.is)))
    (search rules) (search rules)

pub returns-clause-reads : goal.returns-clause-reads
returns-clause-reads g c = is_read (λ trusted s x holds lawful.
    let third = c.in_ok-builds.ensures.kept.trusted_before trusted in
    let second = c.in_ok-plans.ensures.kept.trusted_before third in
    let read = c.in_ok-items.ensures.kept.holds_on second _ x holds in
    let planned = c.in_ok-plans.ensures.kept.holds_on third _ x read in
    let low = c.args.above in
    let rows = items_in s x.state c.args.queue.now in
    let rise = lawful_rise s x lawful c.args.queue.now in
    let items = c.in_ok-items.ensures.found second s x holds lawful in
    let last : c.in-Some.last ≡ last_serial low c.in_ok-items.items =
    then_is (nat_lt low (last_serial low c.as_slice.result.now)) (last_serial low c.as_slice.result.now) c.in-Some.last
    (sym c.last_above.ensures ∙ c.in-Some.is) ∙ ap (last_serial low) c.as_slice.ensures in
    let these = ap (λ n. items_between low n rows) last ∙ between 0 low c.args.most rows c.in_ok-items.items rise items in
    record {
      items = items;
      last = last;
      told = record {
        rise = rise_strictly low c.in_ok-items.items
            (subst (RiseAbove low) (sym items) (rise_take low c.args.most (rows_above low rows) (rise_above low 0 rows rise)));
        plans = c.in_ok-plans.ensures.found third s x read lawful ∙ ap (plans_of_items x.state) these;
        builds = c.in_ok-builds.ensures.found trusted s x planned lawful ∙ ap (builds_of_items x.state) these;
      };
    })
    (then c.in_ok-items.ensures.kept (then c.in_ok-plans.ensures.kept c.in_ok-builds.ensures.kept)) (search rules)
