use Rattle.std.proofs.Common.{◌≡◌, ◌<◌, Option, arith}
use Rattle.std.specs.List.{AllByRecursion}
use Rattle.gate_types.specs.Keys.{number_of_change}
use Rattle.gate_types.specs.Tables.{at_stage, change_known}
use Rattle.gate_memory.specs.Pairs.{IsFit}
use Rattle.gate_memory.specs.Needs.{AreNeeds, TellsNeeds}
use Rattle.gate_memory.specs.Changes.{TellsReady, in_order}
use Rattle.gate_memory.proofs.ChangeLemmas.{dropped, fit_dropped}
use Rattle.gate_memory.proofs.StageLemmas.{are_needs_staged, tells_needs_staged, tells_stage}
use Rattle.gate_memory.proofs.changes.ChangeTable.set_stage.Goals as goal

pub returns-clause-kept : goal.returns-clause-kept
returns-clause-kept c =
    let old = c.args.self.now in
    let kept = c.requires in
    let n = c.args.number in
    let g = c.args.stage in
    let rows = in_order number_of_change old.rows.items in
    let was : Option _ = c.approval_of.result in
    let is : c.get-number.result ≡ n = c.get-number.ensures.value in
    let small : n < 18446744073709551616 = omega (arith, c.get-number.ensures.range, c.get-number.ensures.value) in
    let after : in_order number_of_change c.set_row.new.rows.items ≡ change_known n (at_stage g) rows = rw is at c.set_row.ensures.rows in
    let ready : c.drop_ready.new.ready.items ≡ dropped was n old.ready.items = rw is at c.drop_ready.ensures.ready in
    let fit : AllByRecursion IsFit c.drop_ready.new.ready.items = rw ready (fit_dropped was n old.ready.items kept.ready_fit) in
    let told : TellsReady c.drop_ready.new.ready.items (in_order number_of_change c.set_row.new.rows.items) =
    rw (ready, after) (tells_stage was n g old.ready.items rows small kept.ready_fit kept.ready_told) in
    let needs_told : TellsNeeds old.needs.items (in_order number_of_change c.set_row.new.rows.items) =
    rw after (tells_needs_staged old.needs.items n g rows kept.needs_told) in
    let needs_stand : AreNeeds old.needs.items (in_order number_of_change c.set_row.new.rows.items) =
    rw after (are_needs_staged old.needs.items n g rows kept.needs_stand) in
    record {
      apart = c.set_row.ensures.apart;
      finds = c.set_row.ensures.finds;
      ready_rise = c.drop_ready.ensures.rising;
      ready_fit = fit;
      ready_told = told;
      needs_order = kept.needs_order;
      needs_told = needs_told;
      needs_stand = needs_stand;
    }
