use Rattle.std.proofs.Common.{◌≡◌, ◌≢◌, ◌<◌, List, Option, arith}
use Rattle.std.specs.List.{AllByRecursion}
use Rattle.gate_types.specs.Keys.{number_of_change}
use Rattle.gate_types.specs.Rising.{In}
use Rattle.gate_types.specs.Tables.{needs_in}
use Rattle.gate_memory.specs.declared.pairs.Pair.{Pair}
use Rattle.gate_memory.specs.Pairs.{IsFit}
use Rattle.gate_memory.specs.Needs.{AreNeeds, TellsNeeds, TellsNoneOf}
use Rattle.gate_memory.specs.Sorted.{without}
use Rattle.gate_memory.specs.Changes.{TellsReady, in_order}
use Rattle.gate_memory.proofs.ChangeLemmas.{dropped, fit_dropped}
use Rattle.gate_memory.proofs.NeedChangeLemmas.{tells_needs_without, are_needs_without, ready_without}
use Rattle.gate_memory.proofs.changes.ChangeTable.remove.Goals as goal

pub returns-clause-kept : goal.returns-clause-kept
returns-clause-kept c =
    let old = c.args.self.now in
    let kept = c.requires.kept in
    let n = c.args.number in
    let rows = in_order number_of_change old.rows.items in
    let was : Option _ = c.approval_of.result in
    let is : c.get-number.result ≡ n = c.get-number.ensures.value in
    let small : n < 18446744073709551616 = omega (arith, c.get-number.ensures.range, c.get-number.ensures.value) in
    let after : in_order number_of_change c.remove_row.new.rows.items ≡ without number_of_change n rows = rw is at c.remove_row.ensures.rows in
    let ready : c.drop_ready.new.ready.items ≡ dropped was n old.ready.items = rw is at c.drop_ready.ensures.ready in
    let fit : AllByRecursion IsFit c.drop_ready.new.ready.items = rw ready (fit_dropped was n old.ready.items kept.ready_fit) in
    let told : TellsReady c.drop_ready.new.ready.items (in_order number_of_change c.remove_row.new.rows.items) =
    rw (ready, after) (ready_without was n old.ready.items rows small kept.ready_fit kept.ready_told) in
    let needs : List Pair = c.forget_row.new.index.items in
    let gone : TellsNoneOf needs n (needs_in rows n) = rw (is, c.deref.ensures.value) at c.forget_row.ensures.gone in
    let others : (p : Pair) → p.second ≢ n → In p old.needs.items → In p needs = rw is at c.forget_row.ensures.others in
    let needs_told : TellsNeeds needs (in_order number_of_change c.remove_row.new.rows.items) = rw after
    (tells_needs_without old.needs.items needs n rows kept.needs_told others) in
    let needs_stand : AreNeeds needs (in_order number_of_change c.remove_row.new.rows.items) = rw after
    (are_needs_without old.needs.items needs n rows kept.needs_stand gone c.forget_row.ensures.back) in
    record {
      apart = c.remove_row.ensures.apart;
      finds = c.remove_row.ensures.finds;
      ready_rise = c.drop_ready.ensures.rising;
      ready_fit = fit;
      ready_told = told;
      needs_order = c.forget_row.ensures.order;
      needs_told = needs_told;
      needs_stand = needs_stand;
    }
