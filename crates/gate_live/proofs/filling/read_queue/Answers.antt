use Rattle.std.proofs.Common.{◌≡◌, ◌∙◌, List, Some, ap, sym, subst, rules}
use Rattle.gate_types.specs.declared.records.Item.{Item}
use Rattle.gate_types.specs.Keys.{serial_of_item}
use Rattle.gate_types.specs.Rising.{RisesFrom}
use Rattle.gate_book_trait.proofs.KeptLemmas.{then}
use Rattle.gate_book_trait.proofs.ReadingLemmas.{is_read}
use Rattle.gate_memory.specs.HeldQueues.{LiveQueue}
use Rattle.gate_live.proofs.FilledLemmas.{with_items, no_queue, queue_read}
use Rattle.gate_live.proofs.filling.read_queue.Goals as goal

pub returns-in_default-clause-reads : goal.returns-in_default-clause-reads
returns-in_default-clause-reads g c = is_read (λ trusted k x held lawful.
    no_queue k x c.args.name.now (sym c.in_default.is ∙ c.in_ok-window.ensures.found trusted k x held lawful))
    (search rules) (search rules)

pub returns-clause-reads : goal.returns-clause-reads
returns-clause-reads g c = is_read (λ trusted k x held lawful.
    let name = c.args.name.now in
    let three = c.in_ok-reports.ensures.kept.trusted_before trusted in
    let two = c.in_ok-landings.ensures.kept.trusted_before three in
    let one = c.in_ok-items.ensures.kept.trusted_before two in
    let held1 = c.in_ok-window.ensures.kept.holds_on one k x held in
    let held2 = c.in_ok-items.ensures.kept.holds_on two k x held1 in
    let held3 = c.in_ok-landings.ensures.kept.holds_on three k x held2 in
    let w = c.in-Some.window in
    let ls = c.in_ok-landings.landings in
    let rs = c.in_ok-reports.reports in
    let read = queue_read k x name w ls rs c.in_ok-items.items lawful
    (sym c.in-Some.is ∙ c.in_ok-window.ensures.found one k x held lawful)
    (c.in_ok-items.ensures.found two k x held1 lawful)
    (c.in_ok-landings.ensures.found three k x held2 lawful)
    (c.in_ok-reports.ensures.found trusted k x held3 lawful) in
    let slice : c.as_slice.result.now ≡ c.in_ok-items.items = c.as_slice.ensures in
    let rise : RisesFrom serial_of_item 0 c.as_slice.result.now = subst (λ (zs : List Item). RisesFrom serial_of_item 0 zs) (sym slice) read.0 in
    ap (λ (l : LiveQueue). Some l) (c.in_ok-queue.ensures.rows rise ∙ ap (with_items name w ls rs) slice) ∙ read.1)
    (then c.in_ok-window.ensures.kept (then c.in_ok-items.ensures.kept
    (then c.in_ok-landings.ensures.kept c.in_ok-reports.ensures.kept))) (search rules)
