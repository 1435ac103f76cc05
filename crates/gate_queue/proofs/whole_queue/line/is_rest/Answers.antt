use Rattle.std.proofs.Common.{◌&&◌, ◌+◌, sym, ap, ◌∙◌}
use Rattle.std.specs.Prelude.{not, is_some, slice_get}
use Rattle.gate_types.specs.Line.{ran_on, item_entry}
use Rattle.gate_queue.proofs.WholeQueue.FollowLemmas.{rest_is, not_not}
use Rattle.gate_queue.proofs.whole_queue.line.is_rest.Goals as goal

pub returns-then-has_entry : goal.returns-then-has_entry
returns-then-has_entry c =
    rest_is _ c.args.from c.in-Some.own _ (item_entry c.args.item) c.item_entry.result c.has_entry.result c.is_none.result c.in-Some.ensures.follows c.item_entry.ensures c.has_entry.ensures
    (ap (λ t. t && not (is_some (slice_get (ran_on c.args.landings.now c.args.build.now) (c.in-Some.own + 1)))) c.if-has_entry.true
    ∙ ap (λ o. not (is_some o)) (sym c.entry_at.ensures)
    ∙ not_not _ c.is_none.result c.is_none.ensures)

pub returns-else-has_entry : goal.returns-else-has_entry
returns-else-has_entry c =
    rest_is _ c.args.from c.in-Some.own _ (item_entry c.args.item) c.item_entry.result c.has_entry.result c.has_entry.result c.in-Some.ensures.follows c.item_entry.ensures c.has_entry.ensures
    (ap (λ t. t && not (is_some (slice_get (ran_on c.args.landings.now c.args.build.now) (c.in-Some.own + 1)))) c.if-has_entry.false ∙ sym c.if-has_entry.false)
