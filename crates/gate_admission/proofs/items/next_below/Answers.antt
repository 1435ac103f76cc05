use Rattle.std.proofs.Common.{◌<◌, ◌∙◌, None, sym, ap, subst}
use Rattle.std.specs.Prelude.{IfSome, fold, option_map, option_and_then}
use Rattle.gate_book_trait.specs.Reads.{items_in}
use Rattle.gate_admission.specs.Seen.{later, last_put_below, if_at, by_fate, fate_after}
use Rattle.gate_admission.specs.declared.items.Fate.TheVariants as fate
use Rattle.gate_admission.proofs.LastItem.{under_later, under_put, under_row, stored_at}
use Rattle.gate_admission.proofs.Rows.{item_by_fate}
use Rattle.gate_admission.proofs.Standing.{items_rise}
use Rattle.gate_admission.proofs.items.next_below.Goals as goal

pub returns-in_default-clause-serial : goal.returns-in_default-clause-serial
returns-in_default-clause-serial g c = λ trusted s x holds lawful.
    sym c.in_default.is ∙ c.later.ensures.value
    ∙ (λ i. later (c.last_put_below-put.ensures.value i) (c.serial_of.ensures i))
    ∙ ap (λ o. later (last_put_below c.args.queue.now c.args.below c.args.edits.now) (option_map (λ i. i.serial) o))
    (c.in_ok-stored.ensures.reads.found trusted s x holds lawful)

pub returns-clause-serial : goal.returns-clause-serial
returns-clause-serial g c = λ trusted s x holds lawful.
    sym c.in-Some.is ∙ c.later.ensures.value
    ∙ (λ i. later (c.last_put_below-put.ensures.value i) (c.serial_of.ensures i))
    ∙ ap (λ o. later (last_put_below c.args.queue.now c.args.below c.args.edits.now) (option_map (λ i. i.serial) o))
    (c.in_ok-stored.ensures.reads.found trusted s x holds lawful)

pub returns-clause-falls : goal.returns-clause-falls
returns-clause-falls g c =
    let put = last_put_below c.args.queue.now c.args.below c.args.edits.now in
    let stored = option_map (λ i. i.serial) c.in_ok-stored.stored in
    subst (λ o. IfSome o (λ k. k < c.args.below))
    (sym (λ i. later (c.last_put_below-put.ensures.value i) (c.serial_of.ensures i))
    ∙ sym c.later.ensures.value ∙ c.in-Some.is)
    (under_later c.args.below put stored (under_put c.args.queue.now c.args.below None c.args.edits.now tt)
    (under_row c.args.below c.in_ok-stored.stored c.in_ok-stored.ensures.falls))

pub returns-clause-item : goal.returns-clause-item
returns-clause-item g c = λ trusted s x holds lawful.
    let name = c.args.queue.now in
    let rows = items_in s x.state name in
    let k = c.in-Some.serial in
    let put = last_put_below name c.args.below c.args.edits.now in
    let stored = c.in_ok-stored.ensures.reads.found trusted s x holds lawful in
    let told = sym (λ i. later (c.last_put_below-put.ensures.value i) (c.serial_of.ensures i))
    ∙ sym c.later.ensures.value ∙ c.in-Some.is in
    let low = subst (λ o. IfSome o (λ n. n < c.args.below)) told
    (under_later c.args.below put (option_map (λ i. i.serial) c.in_ok-stored.stored)
    (under_put name c.args.below None c.args.edits.now tt)
    (under_row c.args.below c.in_ok-stored.stored c.in_ok-stored.ensures.falls)) in
    let made = fold (fate_after name k) fate.Stays c.args.edits.now in
    c.by_fate-item.ensures
    ∙ (λ i. by_fate (c.at_serial-before.ensures i) (c.made_of-fate.ensures i))
    ∙ ap (λ o. by_fate (option_and_then (if_at k) o) made) stored
    ∙ ap (λ o. by_fate o made)
    (stored_at c.args.below k rows put (items_rise s x.state name lawful.lawful.sound) low
    (ap (λ o. later put (option_map (λ i. i.serial) o)) (sym stored) ∙ told))
    ∙ item_by_fate name k rows c.args.edits.now
