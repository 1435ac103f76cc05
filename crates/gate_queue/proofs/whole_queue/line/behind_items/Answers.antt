use Rattle.std.proofs.Common.{◌∷◌, ◌∙◌, ◌+◌, map, drop, sym, ap, arith}
use Rattle.gate_types.specs.Line.{item_entry}
use Rattle.gate_queue.proofs.WholeQueue.FollowLemmas.{breaks, goes_on, left_cons}
use Rattle.gate_queue.proofs.whole_queue.line.behind_items.Goals as goal

pub returns-then-not-has_entry-clause-follows : goal.returns-then-not-has_entry-clause-follows
returns-then-not-has_entry-clause-follows c =
    breaks _ _ c.args.from c.loop-item.n c.item_entry.result _ (map item_entry (drop (c.loop-item.item-index + 1) c.args.ahead.now))
    (left_cons item_entry c.args.ahead.now c.loop-item.item-index c.item-item.result (omega arith) c.item-item.is ∙ ap (λ e. e ∷ map item_entry (drop (c.loop-item.item-index + 1) c.args.ahead.now)) (sym c.item_entry.ensures))
    (sym c.has_entry.ensures ∙ c.if-not-has_entry.true)
    c.loop-item.invariant.1

pub loop-item-preserved : goal.loop-item-preserved
loop-item-preserved c = (
  omega arith,
  goes_on _ _ c.args.from c.loop-item.n c.item_entry.result _ _
      (left_cons item_entry c.args.ahead.now c.loop-item.item-index c.item-item.result (omega arith) c.item-item.is ∙ ap (λ e. e ∷ map item_entry (drop (c.loop-item.item-index + 1) c.args.ahead.now)) (sym c.item_entry.ensures))
      (sym c.has_entry.ensures ∙ c.if-not-has_entry.false)
      c.loop-item.invariant.1,
)
