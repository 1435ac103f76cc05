use Rattle.std.proofs.Common.{rules, ◌≡◌, ◌∙◌, true, false, refl, sym, ap, subst}
use Rattle.std.specs.Prelude.{is_some}
use Rattle.gate_types.specs.declared.deliveries.Delivery.TheVariants as delivery
use Rattle.gate_types.specs.declared.deliveries.Refusal.TheVariants as refusal
use Rattle.gate_types.specs.declared.records.Verdict.TheVariants as verdict
use Rattle.gate_types.specs.State.{is_open, is_queued, known_change}
use Rattle.gate_types.specs.SubmitOrder.{is_submitting}
use Rattle.gate_types.specs.Step.{leave, refused, settled_step, step}
use Rattle.gate_book_trait.proofs.KeptLemmas.{then}
use Rattle.gate_book_trait.proofs.ReadingLemmas.{is_read_under}
use Rattle.gate_reads.specs.Moves.{Moves}
use Rattle.gate_ruling.specs.Guards.{IsLatest}
use Rattle.gate_ruling.proofs.Guarded.{unless_closed, past_or_closed, closed_stale}
use Rattle.gate_ruling.proofs.GivenUp.{given_up, queued_by, submitting_so}
use Rattle.gate_ruling.proofs.Closed.{closing, closed_raw, shown_raw, closed_acts, closed_is}
use Rattle.gate_laws.proofs.EachAccepted.{closed_state}
use Rattle.gate_laws.proofs.RecordedChange.{known_number}
use Rattle.gate_ruling.proofs.kinds.closed.closed.Goals as goal

pub returns : goal.returns
returns g c = is_read_under (λ trusted x holds lawful.
    let s = c.args.config.now in
    let n = c.args.change in
    let r = c.args.revision in
    let k = c.in-Ok.known in
    let d = delivery.Closed n r in
    let two = c.in_ok-left.ensures.kept.trusted_before trusted in
    let one = c.in_ok-place.ensures.kept.trusted_before two in
    let at_one = c.in_ok-known.ensures.kept.holds_on one _ x holds in
    let at_two = c.in_ok-place.ensures.kept.holds_on two _ x at_one in
    let latest = subst (IsLatest s x n r) c.in-Ok.is (c.in_ok-known.ensures.found one s x holds lawful) in
    let so = c.in_ok-place.ensures.found two x at_one lawful in
    let free : is_submitting s x.state n ≡ false =
    submitting_so s x.state n c.in_ok-place.place so ∙ sym c.is_submitting.ensures ∙ c.if-is_submitting.false in
    let opens : is_open k ≡ true = sym c.is_open.ensures ∙ c.if-not-is_open.false in
    let left = c.in_ok-left.left in
    let touched = c.in_ok-left.ensures.touched trusted x at_two lawful n so free in
    let queued : is_some left.touched ≡ is_queued x.state n =
    queued_by s x.state n verdict.Closed left.touched touched in
    let said = c.removed_or_recorded-reply.ensures in
    record {
      after = closed_state n x.state;
      accepted = closed_raw s x.state n r k latest.1 opens free _ _ said queued;
      acts = closed_acts _ _ said;
      touches = given_up s x.state d n verdict.Closed left.touched touched refl refl (λ i. refl);
      moves = subst (Moves x c.in_ok-edits.edits.items) (closed_is x.state n k latest.0)
          (c.in_ok-edits.ensures x (leave verdict.Closed n x.state) lawful.lawful.sound.changes_rise
          (ap (known_change x.state) (known_number x.state n k latest.0) ∙ latest.0)
          (c.in_ok-left.ensures.moves trusted x at_two lawful n so free));
      makes_ready = tt;
    })
    (then (then c.in_ok-known.ensures.kept c.in_ok-place.ensures.kept) c.in_ok-left.ensures.kept) (search rules)

pub returns-in-Err : goal.returns-in-Err
returns-in-Err g c = is_read_under (λ trusted x holds lawful.
    let s = c.args.config.now in
    let n = c.args.change in
    let r = c.args.revision in
    subst (IsLatest s x n r) c.in-Err.is (c.in_ok-known.ensures.found trusted s x holds lawful)
    (unless_closed x.state (closing s x.state n)) (delivery.Closed n r)
    (past_or_closed x.state n r (closing s x.state n)))
    (search rules) (search rules)

pub returns-then-not-is_open : goal.returns-then-not-is_open
returns-then-not-is_open g c = is_read_under (λ trusted x holds lawful.
    let s = c.args.config.now in
    let n = c.args.change in
    let r = c.args.revision in
    let latest = subst (IsLatest s x n r) c.in-Ok.is (c.in_ok-known.ensures.found trusted s x holds lawful) in
    closed_stale x.state n r c.in-Ok.known (closing s x.state n) latest.1
    (sym c.is_open.ensures ∙ c.if-not-is_open.true))
    (search rules) (search rules)

pub returns-then-is_submitting : goal.returns-then-is_submitting
returns-then-is_submitting g c = is_read_under (λ trusted x holds lawful.
    let s = c.args.config.now in
    let n = c.args.change in
    let r = c.args.revision in
    let k = c.in-Ok.known in
    let one = c.in_ok-place.ensures.kept.trusted_before trusted in
    let at_one = c.in_ok-known.ensures.kept.holds_on one _ x holds in
    let latest = subst (IsLatest s x n r) c.in-Ok.is (c.in_ok-known.ensures.found one s x holds lawful) in
    let opens : is_open k ≡ true = sym c.is_open.ensures ∙ c.if-not-is_open.false in
    let shown : is_submitting s x.state n ≡ true =
    submitting_so s x.state n c.in_ok-place.place (c.in_ok-place.ensures.found trusted x at_one lawful)
    ∙ sym c.is_submitting.ensures ∙ c.if-is_submitting.true in
    let refuses : step s x.state (delivery.Closed n r) ≡ refused refusal.Submitting =
    ap (settled_step s) (shown_raw s x.state n r k latest.1 opens shown) in
    search rules)
    (then c.in_ok-known.ensures.kept c.in_ok-place.ensures.kept) (search rules)

pub returns-in_err-place : goal.returns-in_err-place
returns-in_err-place g c =
    is_read_under (search rules) (then c.in_ok-known.ensures.kept c.in_err-place.ensures.kept) (search rules)

pub returns-in_err-left : goal.returns-in_err-left
returns-in_err-left g c = is_read_under (search rules)
    (then (then c.in_ok-known.ensures.kept c.in_ok-place.ensures.kept) c.in_err-left.ensures.kept) (search rules)

pub returns-in_err-edits : goal.returns-in_err-edits
returns-in_err-edits g c = is_read_under (search rules)
    (then (then c.in_ok-known.ensures.kept c.in_ok-place.ensures.kept) c.in_ok-left.ensures.kept) (search rules)
