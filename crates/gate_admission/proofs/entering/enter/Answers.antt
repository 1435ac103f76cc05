use Rattle.std.proofs.Common.{◌≡◌, ◌∙◌, ◌++◌, sym, ap, subst, [], true, not, rules}
use Rattle.std.specs.List.{list_all}
use Rattle.std.specs.Prelude.{is_some}
use Rattle.std.specs.Option.{option_map_or}
use Rattle.gate_types.specs.Settings.{are_sound}
use Rattle.gate_types.specs.State.{known_change}
use Rattle.gate_types.specs.Rows.{item_rows}
use Rattle.gate_types.specs.Standing.{needs_of}
use Rattle.gate_types.specs.Admit.{entered}
use Rattle.gate_book_trait.specs.Reads.{items_in}
use Rattle.gate_book_trait.proofs.ReadingLemmas.{is_read_under}
use Rattle.gate_admission.specs.Led.{IsLed}
use Rattle.gate_admission.specs.Seen.{last_put}
use Rattle.gate_admission.specs.Enters.{is_met_by_rows, entering_row, entering_edits}
use Rattle.gate_admission.proofs.Admitted.{are_named, in_project, place_there, queue_is}
use Rattle.gate_admission.proofs.Admitted.{plan_is}
use Rattle.gate_admission.proofs.EnteringEdits.{entering_leads}
use Rattle.gate_admission.proofs.entering.enter.Goals as goal
use Rattle.gate_laws.proofs.RecordedChange.{known_number}

pub returns : goal.returns
returns g c = is_read_under (λ trusted x holds lawful v led first is serial.
    let s = c.args.config.now in
    let e = c.args.entrant in
    let n = e.ready.change in
    let k = e.change in
    let p = e.project.now in
    let is_put = is_some (last_put k.number c.args.edits.now.items) in
    let sound : are_sound s ≡ true = search rules in
    let so_far = subst (λ es. IsLed s x es v) (sym c.as_slice.ensures.value) led in
    let named = are_named s x v sound lawful led.sound in
    let number : k.number ≡ n = known_number v n k is.known in
    let project = is.project in
    let place = sym (in_project s v e.ready p named project) ∙ is.may in
    let queue = place_there v p.queue (needs_of v n) place in
    let name = queue_is s v n p project in
    let failing = is.failing
    ∙ ap (λ m. not (list_all (is_met_by_rows (items_in s v m)) (needs_of v n))) (sym name)
    ∙ ap (λ m. not (list_all (is_met_by_rows (items_in s v p.queue)) (needs_of v m))) (sym number) in
    let row = c.in_ok-row.ensures.found trusted s x holds lawful v so_far (ap (known_change v) number ∙ is.known)
    failing queue serial in
    let row_is = row
    ∙ ap (λ o. entering_row v (option_map_or (item_rows s v) o []) k.number) queue.named
    ∙ ap (λ m. entering_row v (item_rows s v queue.queue) m) number in
    subst (λ es. IsLed s x es (entered s v e.ready))
    (sym (c.in_ok-push_entering.ensures
    ∙ (λ i. c.args.edits.now.items ++
    entering_edits (c.in_ok-queue.ensures i) is_put k c.in_ok-row.row c.in_ok-plan.plan)))
    (entering_leads s x c.args.edits.now.items v e.ready k p.queue is_put queue.queue c.in_ok-row.row c.in_ok-plan.plan
    sound led first is.known name queue.named row_is
    (plan_is s v n p project c.args.serial serial c.in_ok-plan.plan c.in_ok-plan.ensures)))
    (search rules) (search rules)
