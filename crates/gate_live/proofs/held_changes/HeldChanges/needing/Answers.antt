use Rattle.std.proofs.Common.{◌≡◌, ◌∙◌, true, sym, ap, rules}
use Rattle.gate_live.specs.HeldChanges.{changes_held, has_rows_of, items_above}
use Rattle.gate_live.proofs.HeldChangeLemmas.{needing_held, not_false}
use Rattle.gate_live.proofs.held_changes.HeldChanges.needing.Goals as goal

pub returns-clause-found : goal.returns-clause-found
returns-clause-found c all held =
    let rows = changes_held c.args.self.now in
    let items = c.args.queue.now.items.items in
    let here : c.has_all.result ≡ true = search (rules, not_false) in
    let there : has_rows_of rows (items_above c.args.above items) ≡ true = sym (ap (has_rows_of rows) c.items_behind.ensures.rows) ∙ sym c.has_all.ensures ∙ here in
    c.in_ok-found.ensures ∙ needing_held rows all c.args.change c.args.above items held there
