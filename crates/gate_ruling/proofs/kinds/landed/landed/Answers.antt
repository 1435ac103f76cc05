use Rattle.std.proofs.Common.{◌≡◌, ◌∙◌, ◌+◌, ◌++◌, length, Some, true, refl, sym, ap, subst, arith}
use Rattle.std.proofs.Common.{rules}
use Rattle.std.specs.Prelude.{find}
use Rattle.std.proofs.lemmas.Option.{same_Some}
use Rattle.gate_types.specs.declared.deliveries.Delivery.TheVariants as delivery
use Rattle.gate_types.specs.declared.records.Verdict.TheVariants as verdict
use Rattle.gate_types.specs.Names.{same_name}
use Rattle.gate_types.specs.Settings.{are_sound}
use Rattle.gate_types.specs.State.{change_queue, put_plan, known_change}
use Rattle.gate_types.specs.Rows.{item_of}
use Rattle.gate_types.specs.Step.{leave, landed_queue, landed_plan}
use Rattle.gate_book_trait.proofs.KeptLemmas.{then}
use Rattle.gate_book_trait.proofs.ReadingLemmas.{is_read_under}
use Rattle.gate_reads.specs.Moves.{Moves}
use Rattle.gate_reads.specs.Touches.{Touches}
use Rattle.gate_reads.specs.Windows.{bounds_if, window_now}
use Rattle.gate_reads.specs.declared.touched.Event.TheVariants as event
use Rattle.gate_ruling.specs.Guards.{IsOrdered}
use Rattle.gate_ruling.specs.Landing.{landing_edits}
use Rattle.gate_ruling.proofs.Few.{few_landings}
use Rattle.gate_ruling.proofs.Folded.{moves_on}
use Rattle.gate_ruling.proofs.Stored.{stored}
use Rattle.gate_laws.proofs.RecordedChange.{known_number}
use Rattle.gate_ruling.proofs.Ordered.{landing, same_queue, landed_touches, landed_state, landed_raw, lands}
use Rattle.gate_ruling.proofs.Missing.{change_there, window_there, window_stored, landings_stored}
use Rattle.gate_ruling.proofs.kinds.landed.landed.Goals as goal

pub returns-clause-reads : goal.returns-clause-reads
returns-clause-reads g c = is_read_under (λ trusted x holds lawful.
    let s = c.args.config.now in
    let number = c.args.order in
    let k = c.in-Ok.shown.queued in
    let known = c.in-Some-2.known in
    let d = delivery.Landed number in
    let settings : are_sound s ≡ true = search rules in
    let sound = lawful.lawful.sound in
    let three = c.in_ok-known.ensures.kept.trusted_before trusted in
    let two = c.in_ok-landing_count.ensures.kept.trusted_before three in
    let one = c.in_ok-figures.ensures.kept.trusted_before two in
    let at_one = c.in_ok-shown.ensures.kept.holds_on one _ x holds in
    let at_two = c.in_ok-figures.ensures.kept.holds_on two _ x at_one in
    let at_three = c.in_ok-landing_count.ensures.kept.holds_on three _ x at_two in
    let ordered = subst (IsOrdered s x number) c.in-Ok.is (c.in_ok-shown.ensures.found one x holds lawful) in
    let o = ordered.0 in
    let figures = c.in_ok-figures.ensures.found two s x at_one lawful in
    let h = stored s x.state k.queue k.item o.row.stored in
    let is : known_change x.state k.item.change ≡ Some known =
    sym (c.in_ok-known.ensures.found trusted s x at_three lawful) ∙ c.in-Some-2.is in
    let before : c.in-Some.window ≡ h.queue.window =
    same_Some c.in-Some.window h.queue.window (sym c.in-Some.is ∙ figures.window ∙ window_stored h) in
    let count = c.in_ok-landing_count.ensures.found three s x at_two lawful ∙ landings_stored h in
    let few = few_landings s x lawful h.queue h.there in
    let plus = c.saturating_add-place.ensures in
    let place = c.saturating_add-place.result in
    let at : place ≡ length h.queue.landings + 1 = omega (arith, count, few, plus) in
    let set = c.queue-settings.ensures ∙ ap (λ n. find (λ q. same_name q.name n) s.queues) c.as_str.ensures.value in
    let window = c.window_now-resized.ensures ∙ (λ i. window_now event.Landed (bounds_if (set i)) (before i)) in
    let plan = landed_plan x.state k.item.serial in
    let t = put_plan plan (leave (verdict.Landed place) k.item.change x.state) in
    let u = change_queue k.queue (landed_queue s (item_of k.item)) t in
    let edits = c.in_ok-edits-2.ensures
    ∙ ap (λ z. c.in_ok-edits.edits.items ++ landing_edits k place z c.window_now-resized.result) before in
    let landing = subst (λ es. Moves x es u) (sym edits)
    (moves_on x t u c.in_ok-edits.edits.items (landing_edits k place h.queue.window c.window_now-resized.result)
    (c.in_ok-edits.ensures x lawful o.row.stored figures.reports (c.as_slice.ensures ∙ ordered.2))
    (lands s x k settings sound h t.plans place c.window_now-resized.result at window)) in
    record {
      after = landed_state s k place known x.state;
      accepted = landed_raw s x.state number k known sound o h
          (same_queue s x.state number k settings sound o h) is place at;
      acts = refl;
      touches = subst (λ y. Touches s x.state d (Some y)) (sym c.touched.ensures)
          (landed_touches s x.state number k c.in_ok-figures.figures o figures);
      moves = c.in_ok-edits-3.ensures x u sound.changes_rise
          (ap (known_change x.state) (known_number x.state k.item.change known is) ∙ is) landing;
      makes_ready = tt;
    })
    (let two = then c.in_ok-shown.ensures.kept c.in_ok-figures.ensures.kept in
    let three = then two c.in_ok-landing_count.ensures.kept in
    then three c.in_ok-known.ensures.kept) (search rules)

pub returns-in_default-clause-undamaged : goal.returns-in_default-clause-undamaged
returns-in_default-clause-undamaged g c trusted x holds lawful =
    let s = c.args.config.now in
    let k = c.in-Ok.shown.queued in
    let one = c.in_ok-figures.ensures.kept.trusted_before trusted in
    let at_one = c.in_ok-shown.ensures.kept.holds_on one _ x holds in
    let o = (subst (IsOrdered s x c.args.order) c.in-Ok.is (c.in_ok-shown.ensures.found one x holds lawful)).0 in
    let h = stored s x.state k.queue k.item o.row.stored in
    absurd (window_there s x.state k.queue k.item h
    (sym (c.in_ok-figures.ensures.found trusted s x at_one lawful).window ∙ c.in_default.is))

pub returns-in_default-2-clause-undamaged : goal.returns-in_default-2-clause-undamaged
returns-in_default-2-clause-undamaged g c trusted x holds lawful =
    let s = c.args.config.now in
    let k = c.in-Ok.shown.queued in
    let three = c.in_ok-known.ensures.kept.trusted_before trusted in
    let two = c.in_ok-landing_count.ensures.kept.trusted_before three in
    let one = c.in_ok-figures.ensures.kept.trusted_before two in
    let at_one = c.in_ok-shown.ensures.kept.holds_on one _ x holds in
    let at_two = c.in_ok-figures.ensures.kept.holds_on two _ x at_one in
    let at_three = c.in_ok-landing_count.ensures.kept.holds_on three _ x at_two in
    let o = (subst (IsOrdered s x c.args.order) c.in-Ok.is (c.in_ok-shown.ensures.found one x holds lawful)).0 in
    let h = stored s x.state k.queue k.item o.row.stored in
    absurd (change_there s x.state k.queue k.item lawful.lawful.sound h
    (sym (c.in_ok-known.ensures.found trusted s x at_three lawful) ∙ c.in_default-2.is))

pub returns-in-Err-clause-reads : goal.returns-in-Err-clause-reads
returns-in-Err-clause-reads g c = is_read_under (λ trusted x holds lawful.
    let s = c.args.config.now in
    subst (IsOrdered s x c.args.order) c.in-Err.is (c.in_ok-shown.ensures.found trusted x holds lawful)
    (landing s x.state) (delivery.Landed c.args.order) refl)
    (search rules) (search rules)

pub returns-in_err-figures-clause-reads : goal.returns-in_err-figures-clause-reads
returns-in_err-figures-clause-reads g c =
    is_read_under (search rules) (then c.in_ok-shown.ensures.kept c.in_err-figures.ensures.kept) (search rules)

pub returns-in_default-clause-reads : goal.returns-in_default-clause-reads
returns-in_default-clause-reads g c =
    is_read_under (search rules) (then c.in_ok-shown.ensures.kept c.in_ok-figures.ensures.kept) (search rules)

pub returns-in_err-landing_count-clause-reads : goal.returns-in_err-landing_count-clause-reads
returns-in_err-landing_count-clause-reads g c = is_read_under (search rules)
    (then (then c.in_ok-shown.ensures.kept c.in_ok-figures.ensures.kept) c.in_err-landing_count.ensures.kept)
    (search rules)

pub returns-in_err-edits-clause-reads : goal.returns-in_err-edits-clause-reads
returns-in_err-edits-clause-reads g c = is_read_under (search rules)
    (then (then c.in_ok-shown.ensures.kept c.in_ok-figures.ensures.kept) c.in_ok-landing_count.ensures.kept)
    (search rules)

pub returns-in_err-edits-2-clause-reads : goal.returns-in_err-edits-2-clause-reads
returns-in_err-edits-2-clause-reads g c = is_read_under (search rules)
    (then (then c.in_ok-shown.ensures.kept c.in_ok-figures.ensures.kept) c.in_ok-landing_count.ensures.kept)
    (search rules)

pub returns-in_err-known-clause-reads : goal.returns-in_err-known-clause-reads
returns-in_err-known-clause-reads g c = is_read_under (search rules)
    (let two = then c.in_ok-shown.ensures.kept c.in_ok-figures.ensures.kept in
    let three = then two c.in_ok-landing_count.ensures.kept in
    then three c.in_err-known.ensures.kept) (search rules)

pub returns-in_default-2-clause-reads : goal.returns-in_default-2-clause-reads
returns-in_default-2-clause-reads g c = is_read_under (search rules)
    (let two = then c.in_ok-shown.ensures.kept c.in_ok-figures.ensures.kept in
    let three = then two c.in_ok-landing_count.ensures.kept in
    then three c.in_ok-known.ensures.kept) (search rules)

pub returns-in_err-edits-3-clause-reads : goal.returns-in_err-edits-3-clause-reads
returns-in_err-edits-3-clause-reads g c = is_read_under (search rules)
    (let two = then c.in_ok-shown.ensures.kept c.in_ok-figures.ensures.kept in
    let three = then two c.in_ok-landing_count.ensures.kept in
    then three c.in_ok-known.ensures.kept) (search rules)
