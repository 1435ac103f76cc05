use Rattle.std.proofs.Common.{◌≡◌, ◌≢◌, ◌∙◌, ◌<◌, List, Option, ap, arith}
use Rattle.std.specs.List.{AllByRecursion}
use Rattle.gate_types.specs.Keys.{number_of_change}
use Rattle.gate_types.specs.Rising.{In}
use Rattle.gate_types.specs.Tables.{needs_in}
use Rattle.gate_memory.specs.Pairs.{IsFit}
use Rattle.gate_memory.specs.Changes.{TellsReady, in_order}
use Rattle.gate_memory.specs.declared.pairs.Pair.{Pair}
use Rattle.gate_memory.specs.Needs.{AreNeeds, TellsNeeds, TellsNoneOf}
use Rattle.gate_memory.proofs.ChangeLemmas.{in_order_rises, dropped, noted, put_ready, fit_dropped, fit_noted}
use Rattle.gate_memory.proofs.ChangeLemmas.{tells_put}
use Rattle.gate_memory.proofs.NeedChangeLemmas.{tells_needs_put, are_needs_put}
use Rattle.gate_memory.proofs.changes.ChangeTable.put.Goals as goal

pub returns-clause-kept : goal.returns-clause-kept
returns-clause-kept c =
    let old = c.args.self.now in
    let kept = c.requires.kept in
    let row = c.args.row in
    let rows = in_order number_of_change old.rows.items in
    let was : Option _ = c.approval_of.result in
    let is : c.number_of_row-number.result ≡ number_of_change row = c.number_of_row-number.ensures in
    let small : number_of_change row < 18446744073709551616 = omega (arith, c.number_of_row-number.type_inv) in
    let gone : c.drop_ready.new.ready.items ≡ dropped was (number_of_change row) old.ready.items = rw is at c.drop_ready.ensures.ready in
    let index : c.note_ready.new.ready.items ≡ put_ready was row.approval (number_of_change row) old.ready.items = (rw is at c.note_ready.ensures.ready) ∙ ap (noted row.approval (number_of_change row)) gone in
    let fit : AllByRecursion IsFit c.note_ready.new.ready.items =
    rw index (fit_noted row.approval (number_of_change row) (dropped was (number_of_change row) old.ready.items) small (fit_dropped was (number_of_change row) old.ready.items kept.ready_fit)) in
    let told : TellsReady c.note_ready.new.ready.items (in_order number_of_change c.put_row.new.rows.items) =
    rw (index, c.put_row.ensures.rows) (tells_put was row 0 old.ready.items rows small kept.ready_fit (in_order_rises number_of_change old.rows.items) kept.ready_told) in
    let mid : List Pair = c.forget_row.new.index.items in
    let needs : List Pair = c.note_row.new.index.items in
    let none : TellsNoneOf mid (number_of_change row) (needs_in rows (number_of_change row)) = rw (is, c.deref.ensures.value) at c.forget_row.ensures.gone in
    let others : (p : Pair) → p.second ≢ number_of_change row → In p old.needs.items → In p mid = rw is at c.forget_row.ensures.others in
    let needs_told : TellsNeeds needs (in_order number_of_change c.put_row.new.rows.items) = rw c.put_row.ensures.rows
    (tells_needs_put old.needs.items mid needs row rows (in_order_rises number_of_change old.rows.items) kept.needs_told others c.note_row.ensures.others c.note_row.ensures.told) in
    let needs_stand : AreNeeds needs (in_order number_of_change c.put_row.new.rows.items) = rw c.put_row.ensures.rows
    (are_needs_put old.needs.items mid needs row rows kept.needs_stand none c.forget_row.ensures.back c.note_row.ensures.back) in
    record {
      apart = c.put_row.ensures.apart;
      finds = c.put_row.ensures.finds;
      ready_rise = c.note_ready.ensures.rising;
      ready_fit = fit;
      ready_told = told;
      needs_order = c.note_row.ensures.order;
      needs_told = needs_told;
      needs_stand = needs_stand;
    }
