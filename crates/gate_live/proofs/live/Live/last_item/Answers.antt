use Rattle.std.proofs.Common.{◌∙◌, ◌<◌, ap, sym, subst}
use Rattle.std.specs.Prelude.{IfSome}
use Rattle.gate_types.specs.declared.records.Item.{Item}
use Rattle.gate_book_trait.specs.Reads as read
use Rattle.gate_live.specs.Live.{LiveTables, live_items}
use Rattle.gate_live.specs.Parts.{Parts}
use Rattle.gate_live.proofs.BookLemmas.{held_is}
use Rattle.gate_live.proofs.ReadLemmas.{live_items_are, below_falls}
use Rattle.gate_live.proofs.live.Live.last_item.Goals as goal

pub returns-in-Some-clause-found : goal.returns-in-Some-clause-found
returns-in-Some-clause-found c k x agrees =
    c.last_item.ensures ∙ ap (read.last_item_below c.args.below) c.table_of.ensures.found
    ∙ ap (λ (l : LiveTables). read.last_item_below c.args.below (live_items l.queues c.args.queue.now)) (held_is k x c.args.self.now c.self.inside.held _ (ap (λ (p : Parts). p.tables) c.self.view_is) c.in-Some.is agrees)
    ∙ ap (read.last_item_below c.args.below) (live_items_are k x c.args.queue.now)

pub returns-in-Some-clause-falls : goal.returns-in-Some-clause-falls
returns-in-Some-clause-falls c = subst (λ o. IfSome o (λ (i : Item). i.serial < c.args.below)) (sym c.last_item.ensures) (below_falls c.args.below _)
