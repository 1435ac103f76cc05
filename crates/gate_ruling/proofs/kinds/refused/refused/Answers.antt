use Rattle.std.proofs.Common.{◌≡◌, ◌∙◌, ◌++◌, Some, true, refl, sym, ap, subst, rules}
use Rattle.std.specs.Prelude.{find}
use Rattle.std.proofs.lemmas.Option.{same_Some}
use Rattle.gate_types.specs.declared.deliveries.Delivery.TheVariants as delivery
use Rattle.gate_types.specs.declared.records.Verdict.TheVariants as verdict
use Rattle.gate_types.specs.Names.{same_name}
use Rattle.gate_types.specs.Settings.{are_sound}
use Rattle.gate_types.specs.State.{change_queue}
use Rattle.gate_types.specs.Step.{leave, shrunk_queue}
use Rattle.gate_queue_rules.specs.Edits.{window_edits}
use Rattle.gate_book_trait.proofs.KeptLemmas.{then}
use Rattle.gate_book_trait.proofs.ReadingLemmas.{is_read_under}
use Rattle.gate_reads.specs.Moves.{Moves}
use Rattle.gate_reads.specs.Touches.{Touches}
use Rattle.gate_reads.specs.Windows.{bounds_if, window_now}
use Rattle.gate_reads.specs.declared.touched.Event.TheVariants as event
use Rattle.gate_ruling.specs.Guards.{IsOrdered}
use Rattle.gate_ruling.proofs.Folded.{moves_on}
use Rattle.gate_ruling.proofs.Stored.{stored}
use Rattle.gate_ruling.proofs.Ordered.{refusing, refused_touches, refused_raw, shrinks}
use Rattle.gate_ruling.proofs.Missing.{window_there, window_stored}
use Rattle.gate_ruling.proofs.kinds.refused.refused.Goals as goal

pub returns-clause-reads : goal.returns-clause-reads
returns-clause-reads g c = is_read_under (λ trusted x holds lawful.
    let s = c.args.config.now in
    let number = c.args.order in
    let k = c.in-Ok.shown.queued in
    let d = delivery.Refused number in
    let settings : are_sound s ≡ true = search rules in
    let sound = lawful.lawful.sound in
    let one = c.in_ok-figures.ensures.kept.trusted_before trusted in
    let at_one = c.in_ok-shown.ensures.kept.holds_on one _ x holds in
    let ordered = subst (IsOrdered s x number) c.in-Ok.is (c.in_ok-shown.ensures.found one x holds lawful) in
    let o = ordered.0 in
    let figures = c.in_ok-figures.ensures.found trusted s x at_one lawful in
    let h = stored s x.state k.queue k.item o.row.stored in
    let before : c.in-Some.window ≡ h.queue.window =
    same_Some c.in-Some.window h.queue.window
    (sym c.in-Some.is ∙ figures.window ∙ window_stored h) in
    let set = c.queue-settings.ensures ∙ ap (λ n. find (λ q. same_name q.name n) s.queues) c.as_str.ensures.value in
    let window = c.window_now-resized.ensures ∙ (λ i. window_now (event.Left verdict.Refused) (bounds_if (set i)) (before i)) in
    let t = leave verdict.Refused k.item.change x.state in
    let u = change_queue k.queue (shrunk_queue s) t in
    let edits = c.in_ok-with_window.ensures
    ∙ ap (λ z. c.in_ok-edits.edits.items ++ window_edits k.queue z c.window_now-resized.result) before in
    record {
      after = u;
      accepted = refused_raw s x.state number k o;
      acts = refl;
      touches = subst (λ y. Touches s x.state d (Some y)) (sym c.touched.ensures)
          (refused_touches s x.state number k c.in_ok-figures.figures o figures);
      moves = subst (λ es. Moves x es u) (sym edits)
          (moves_on x t u c.in_ok-edits.edits.items (window_edits k.queue h.queue.window c.window_now-resized.result)
          (c.in_ok-edits.ensures x lawful o.row.stored figures.reports (c.as_slice.ensures ∙ ordered.2))
          (shrinks s x k settings sound h c.window_now-resized.result window));
      makes_ready = tt;
    })
    (then c.in_ok-shown.ensures.kept c.in_ok-figures.ensures.kept) (search rules)

pub returns-in_default-clause-undamaged : goal.returns-in_default-clause-undamaged
returns-in_default-clause-undamaged g c trusted x holds lawful =
    let s = c.args.config.now in
    let k = c.in-Ok.shown.queued in
    let before = c.in_ok-figures.ensures.kept.trusted_before trusted in
    let held = c.in_ok-shown.ensures.kept.holds_on before _ x holds in
    let o = (subst (IsOrdered s x c.args.order) c.in-Ok.is (c.in_ok-shown.ensures.found before x holds lawful)).0 in
    let h = stored s x.state k.queue k.item o.row.stored in
    absurd (window_there s x.state k.queue k.item h
    (sym (c.in_ok-figures.ensures.found trusted s x held lawful).window ∙ c.in_default.is))

pub returns-in-Err-clause-reads : goal.returns-in-Err-clause-reads
returns-in-Err-clause-reads g c = is_read_under (λ trusted x holds lawful.
    let s = c.args.config.now in
    subst (IsOrdered s x c.args.order) c.in-Err.is (c.in_ok-shown.ensures.found trusted x holds lawful)
    (refusing s x.state) (delivery.Refused c.args.order) refl)
    (search rules) (search rules)

pub returns-in_err-figures-clause-reads : goal.returns-in_err-figures-clause-reads
returns-in_err-figures-clause-reads g c =
    is_read_under (search rules) (then c.in_ok-shown.ensures.kept c.in_err-figures.ensures.kept) (search rules)

pub returns-in_default-clause-reads : goal.returns-in_default-clause-reads
returns-in_default-clause-reads g c =
    is_read_under (search rules) (then c.in_ok-shown.ensures.kept c.in_ok-figures.ensures.kept) (search rules)

pub returns-in_err-edits-clause-reads : goal.returns-in_err-edits-clause-reads
returns-in_err-edits-clause-reads g c =
    is_read_under (search rules) (then c.in_ok-shown.ensures.kept c.in_ok-figures.ensures.kept) (search rules)

pub returns-in_err-with_window-clause-reads : goal.returns-in_err-with_window-clause-reads
returns-in_err-with_window-clause-reads g c =
    is_read_under (search rules) (then c.in_ok-shown.ensures.kept c.in_ok-figures.ensures.kept) (search rules)
