use Rattle.std.proofs.Common.{rules, ◌≡◌, ◌∙◌, List, refl, sym, ap, subst}
use Rattle.std.specs.Prelude.{is_some}
use Rattle.gate_types.specs.declared.edits.Edit.{Edit}
use Rattle.gate_types.specs.declared.deliveries.Delivery.TheVariants as delivery
use Rattle.gate_types.specs.declared.deliveries.Refusal.TheVariants as refusal
use Rattle.gate_types.specs.declared.records.Verdict.TheVariants as verdict
use Rattle.gate_types.specs.State.{known_change}
use Rattle.gate_types.specs.Admit.{without_ready}
use Rattle.gate_types.specs.Step.{leave, refused, settled_step, step}
use Rattle.gate_laws.proofs.RecordedChange.{known_number}
use Rattle.gate_book_trait.proofs.ReadingLemmas.{is_read_under}
use Rattle.gate_reads.specs.Moves.{Moves}
use Rattle.gate_reads.specs.Stands.{QueuesSo}
use Rattle.gate_reads.proofs.Told.{ready_so}
use Rattle.gate_ruling.specs.Guards.{IsLatest}
use Rattle.gate_ruling.proofs.GivenUp.{given_up, in_no_queue}
use Rattle.gate_ruling.proofs.Withdrawn.{withdrawing, submitting_raw, removed_raw, recorded_raw, nowhere_raw}
use Rattle.gate_ruling.proofs.Withdrawn.{unready_again}
use Rattle.gate_ruling.proofs.kinds.withdrawn.withdrawn.Goals as goal

pub returns-in-Submitting : goal.returns-in-Submitting
returns-in-Submitting g c = is_read_under (λ trusted x holds lawful.
    let s = c.args.config.now in
    let n = c.args.change in
    let r = c.args.revision in
    let one = c.in_ok-queue_place.ensures.kept.trusted_before trusted in
    let at_one = c.in_ok-known.ensures.kept.holds_on one _ x holds in
    let latest = subst (IsLatest s x n r) c.in-Ok.is (c.in_ok-known.ensures.found one s x holds lawful) in
    let shown = subst (QueuesSo s x.state n) c.in-Submitting.is
    (c.in_ok-queue_place.ensures.found trusted x at_one lawful) in
    let refuses : step s x.state (delivery.Withdrawn n r) ≡ refused refusal.Submitting =
    ap (settled_step s) (submitting_raw s x.state n r c.in-Ok.known latest.1 shown) in
    search rules)
    (search rules) (search rules)

pub returns-in-Item : goal.returns-in-Item
returns-in-Item g c = is_read_under (λ trusted x holds lawful.
    let s = c.args.config.now in
    let n = c.args.change in
    let r = c.args.revision in
    let two = c.in_ok-left-in-Item.ensures.kept.trusted_before trusted in
    let one = c.in_ok-queue_place.ensures.kept.trusted_before two in
    let at_one = c.in_ok-known.ensures.kept.holds_on one _ x holds in
    let at_two = c.in_ok-queue_place.ensures.kept.holds_on two _ x at_one in
    let latest = subst (IsLatest s x n r) c.in-Ok.is (c.in_ok-known.ensures.found one s x holds lawful) in
    let so = subst (QueuesSo s x.state n) c.in-Item.is (c.in_ok-queue_place.ensures.found two x at_one lawful) in
    let left = c.in_ok-left-in-Item.left in
    record {
      after = leave verdict.Withdrawn n x.state;
      accepted = removed_raw s x.state n r c.in-Ok.known latest.1 so.0 so.1.row.queued;
      acts = refl;
      touches = given_up s x.state (delivery.Withdrawn n r) n verdict.Withdrawn left.touched
          (c.in_ok-left-in-Item.ensures.touched trusted x at_two lawful n so.1) refl refl (λ i. refl);
      moves = c.in_ok-left-in-Item.ensures.moves trusted x at_two lawful n so.1;
      makes_ready = tt;
    })
    (search rules) (search rules)

pub returns-in-Some : goal.returns-in-Some
returns-in-Some g c = is_read_under (λ trusted x holds lawful.
    let s = c.args.config.now in
    let n = c.args.change in
    let r = c.args.revision in
    let k = c.in-Ok.known in
    let two = c.in_ok-approval-in-Outside.ensures.kept.trusted_before trusted in
    let one = c.in_ok-queue_place.ensures.kept.trusted_before two in
    let at_one = c.in_ok-known.ensures.kept.holds_on one _ x holds in
    let at_two = c.in_ok-queue_place.ensures.kept.holds_on two _ x at_one in
    let latest = subst (IsLatest s x n r) c.in-Ok.is (c.in_ok-known.ensures.found one s x holds lawful) in
    let so = subst (QueuesSo s x.state n) c.in-Outside.is (c.in_ok-queue_place.ensures.found two x at_one lawful) in
    let ready = ready_so x.state n
    ∙ ap is_some (sym (c.in_ok-approval-in-Outside.ensures.found trusted _ x at_two lawful) ∙ c.in-Some.is) in
    let rises = lawful.lawful.sound.changes_rise in
    let none : Moves x c.new.result.items x.state =
    subst (λ (es : List Edit). Moves x es x.state) (sym c.new.ensures.items)
    (λ columns. refl) in
    record {
      after = without_ready n x.state;
      accepted = recorded_raw s x.state n r k latest.1 so.0 so.1 ready;
      acts = refl;
      touches = in_no_queue x.state n so.1;
      moves = subst (Moves x c.in_ok-set_at-in-Some.field-0.items) (unready_again x.state n k rises latest.0)
          (c.in_ok-set_at-in-Some.ensures x x.state rises
          (ap (known_change x.state) (known_number x.state n k latest.0) ∙ latest.0) none);
      makes_ready = tt;
    })
    (search rules) (search rules)

pub returns : goal.returns
returns g c = is_read_under (λ trusted x holds lawful.
    let s = c.args.config.now in
    let n = c.args.change in
    let r = c.args.revision in
    let two = c.in_ok-approval-in-Outside.ensures.kept.trusted_before trusted in
    let one = c.in_ok-queue_place.ensures.kept.trusted_before two in
    let at_one = c.in_ok-known.ensures.kept.holds_on one _ x holds in
    let at_two = c.in_ok-queue_place.ensures.kept.holds_on two _ x at_one in
    let latest = subst (IsLatest s x n r) c.in-Ok.is (c.in_ok-known.ensures.found one s x holds lawful) in
    let so = subst (QueuesSo s x.state n) c.in-Outside.is (c.in_ok-queue_place.ensures.found two x at_one lawful) in
    let unready = ready_so x.state n
    ∙ ap is_some (sym (c.in_ok-approval-in-Outside.ensures.found trusted _ x at_two lawful) ∙ c.in-None.is) in
    nowhere_raw s x.state n r c.in-Ok.known latest.1 so.0 so.1 unready)
    (search rules) (search rules)

pub returns-in-Err : goal.returns-in-Err
returns-in-Err g c = is_read_under (λ trusted x holds lawful.
    let s = c.args.config.now in
    let n = c.args.change in
    let r = c.args.revision in
    subst (IsLatest s x n r) c.in-Err.is (c.in_ok-known.ensures.found trusted s x holds lawful)
    (withdrawing s x.state n) (delivery.Withdrawn n r) refl)
    (search rules) (search rules)
