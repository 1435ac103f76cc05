use Rattle.std.proofs.Common.{◌∙◌, ◌<◌, ap, sym, subst}
use Rattle.std.specs.Prelude.{IfSome}
use Rattle.gate_types.specs.declared.records.Item.{Item}
use Rattle.gate_book_trait.specs.Reads as read
use Rattle.gate_live.specs.Live.{LiveTables, live_items}
use Rattle.gate_live.specs.Parts.{Parts}
use Rattle.gate_live.proofs.BookLemmas.{held_is}
use Rattle.gate_live.proofs.ReadLemmas.{live_items_are, above_rises}
use Rattle.gate_live.proofs.live.Live.next_item.Goals as goal

pub returns-in-Some-clause-found : goal.returns-in-Some-clause-found
returns-in-Some-clause-found c k x agrees =
    c.next_item.ensures ∙ ap (read.first_above c.args.above) c.table_of.ensures.found
    ∙ ap (λ (l : LiveTables). read.first_above c.args.above (live_items l.queues c.args.queue.now)) (held_is k x c.args.self.now c.self.inside.held _ (ap (λ (p : Parts). p.tables) c.self.view_is) c.in-Some.is agrees)
    ∙ ap (read.first_above c.args.above) (live_items_are k x c.args.queue.now)

pub returns-in-Some-clause-rises : goal.returns-in-Some-clause-rises
returns-in-Some-clause-rises c = subst (λ o. IfSome o (λ (i : Item). c.args.above < i.serial)) (sym c.next_item.ensures) (above_rises c.args.above _)
