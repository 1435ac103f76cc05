use Rattle.std.proofs.Common.{◌≡◌, ◌∙◌, ◌<◌, ◌+◌, true, refl, sym, ap, subst, arith, rules}
use Rattle.gate_types.specs.Counters.{Drawn, last_number}
use Rattle.gate_types.specs.declared.deliveries.Delivery.TheVariants as delivery
use Rattle.gate_types.specs.State.{is_open}
use Rattle.gate_types.specs.Settle.{settle}
use Rattle.gate_types.specs.Step.{made_ready, approval_reply, settled_step}
use Rattle.gate_book_trait.proofs.KeptLemmas.{then}
use Rattle.gate_book_trait.proofs.ReadingLemmas.{is_read_under}
use Rattle.gate_reads.specs.Moves.{Moves}
use Rattle.gate_ruling.specs.Guards.{IsLatest}
use Rattle.gate_ruling.proofs.Guarded.{unless_closed, past_or_closed, closed_stale}
use Rattle.gate_ruling.proofs.Drawn.{approval_past}
use Rattle.gate_ruling.proofs.Approved.{approving, approved_raw, already_raw, approval_acts, nowhere, somewhere}
use Rattle.gate_ruling.proofs.Put.{ready_moves}
use Rattle.gate_ruling.proofs.kinds.approved.approved.Goals as goal

pub returns-then-drawn-ge-LAST_NUMBER : goal.returns-then-drawn-ge-LAST_NUMBER
returns-then-drawn-ge-LAST_NUMBER g c = is_read_under (λ trusted x holds lawful.
    let s = c.args.config.now in
    let n = c.args.change in
    let r = c.args.revision in
    let k = c.in-Ok.known in
    let two = c.in_ok-drawn.ensures.kept.trusted_before trusted in
    let one = c.in_ok-stand_of.ensures.kept.trusted_before two in
    let at_one = c.in_ok-known.ensures.kept.holds_on one _ x holds in
    let at_two = c.in_ok-stand_of.ensures.kept.holds_on two _ x at_one in
    let latest = subst (IsLatest s x n r) c.in-Ok.is (c.in_ok-known.ensures.found one s x holds lawful) in
    let opens : is_open k ≡ true = sym c.is_open.ensures ∙ c.if-not-is_open.false in
    let away = nowhere s x.state n c.in_ok-stand_of.field-0 (c.in_ok-stand_of.ensures.found two x at_one lawful)
    (sym c.is_nowhere.ensures ∙ c.if-not-is_nowhere.false) in
    let drawn = ap (λ (d : Drawn). d.approval) (c.drawn.view_is
    ∙ c.in_ok-drawn.ensures.found trusted s x at_two lawful) in
    let top = c.if-drawn-ge-LAST_NUMBER.true in
    let t = made_ready n x.state in
    let over : last_number < t.counters.approval = omega (arith, drawn, top) in (
      ap (settled_step s) (approved_raw s x.state n r k latest.1 opens away)
          ∙ approval_past s (approval_reply n (settle s t)) t over,
      refl,
    ))
    (search rules) (search rules)

pub returns : goal.returns
returns g c = is_read_under (λ trusted x holds lawful.
    let s = c.args.config.now in
    let n = c.args.change in
    let r = c.args.revision in
    let k = c.in-Ok.known in
    let two = c.in_ok-drawn.ensures.kept.trusted_before trusted in
    let one = c.in_ok-stand_of.ensures.kept.trusted_before two in
    let at_one = c.in_ok-known.ensures.kept.holds_on one _ x holds in
    let at_two = c.in_ok-stand_of.ensures.kept.holds_on two _ x at_one in
    let latest = subst (IsLatest s x n r) c.in-Ok.is (c.in_ok-known.ensures.found one s x holds lawful) in
    let opens : is_open k ≡ true = sym c.is_open.ensures ∙ c.if-not-is_open.false in
    let away = nowhere s x.state n c.in_ok-stand_of.field-0 (c.in_ok-stand_of.ensures.found two x at_one lawful)
    (sym c.is_nowhere.ensures ∙ c.if-not-is_nowhere.false) in
    let drawn = ap (λ (d : Drawn). d.approval) (c.drawn.view_is
    ∙ c.in_ok-drawn.ensures.found trusted s x at_two lawful) in
    record {
      after = made_ready n x.state;
      accepted = approved_raw s x.state n r k latest.1 opens away;
      acts = approval_acts n (settle s (made_ready n x.state));
      touches = refl;
      moves = subst (λ es. Moves x es (made_ready n x.state)) (sym c.in_ok-made_ready.ensures)
          (ready_moves x n k lawful.lawful.sound.changes_rise latest.0 away.1 _ (ap (λ m. m + 1) drawn));
      makes_ready = record { change = k; known = latest.0; unready = away.1; changes = refl };
    })
    (let two = then c.in_ok-known.ensures.kept c.in_ok-stand_of.ensures.kept in
    then two c.in_ok-drawn.ensures.kept) (search rules)

pub returns-in-Err : goal.returns-in-Err
returns-in-Err g c = is_read_under (λ trusted x holds lawful.
    let s = c.args.config.now in
    let n = c.args.change in
    let r = c.args.revision in
    subst (IsLatest s x n r) c.in-Err.is (c.in_ok-known.ensures.found trusted s x holds lawful)
    (unless_closed x.state (approving s x.state n)) (delivery.Approved n r)
    (past_or_closed x.state n r (approving s x.state n)))
    (search rules) (search rules)

pub returns-then-not-is_open : goal.returns-then-not-is_open
returns-then-not-is_open g c = is_read_under (λ trusted x holds lawful.
    let s = c.args.config.now in
    let n = c.args.change in
    let r = c.args.revision in
    let latest = subst (IsLatest s x n r) c.in-Ok.is (c.in_ok-known.ensures.found trusted s x holds lawful) in
    closed_stale x.state n r c.in-Ok.known (approving s x.state n) latest.1
    (sym c.is_open.ensures ∙ c.if-not-is_open.true))
    (search rules) (search rules)

pub returns-then-not-is_nowhere : goal.returns-then-not-is_nowhere
returns-then-not-is_nowhere g c = is_read_under (λ trusted x holds lawful.
    let s = c.args.config.now in
    let n = c.args.change in
    let r = c.args.revision in
    let k = c.in-Ok.known in
    let one = c.in_ok-stand_of.ensures.kept.trusted_before trusted in
    let at_one = c.in_ok-known.ensures.kept.holds_on one _ x holds in
    let latest = subst (IsLatest s x n r) c.in-Ok.is (c.in_ok-known.ensures.found one s x holds lawful) in
    let opens : is_open k ≡ true = sym c.is_open.ensures ∙ c.if-not-is_open.false in
    already_raw s x.state n r k latest.1 opens
    (somewhere s x.state n c.in_ok-stand_of.field-0 (c.in_ok-stand_of.ensures.found trusted x at_one lawful)
    (sym c.is_nowhere.ensures ∙ c.if-not-is_nowhere.true)))
    (then c.in_ok-known.ensures.kept c.in_ok-stand_of.ensures.kept) (search rules)

pub returns-in_err-stand_of : goal.returns-in_err-stand_of
returns-in_err-stand_of g c =
    is_read_under (search rules) (then c.in_ok-known.ensures.kept c.in_err-stand_of.ensures.kept) (search rules)

pub returns-in_err-drawn : goal.returns-in_err-drawn
returns-in_err-drawn g c = is_read_under (search rules)
    (let two = then c.in_ok-known.ensures.kept c.in_ok-stand_of.ensures.kept in
    then two c.in_err-drawn.ensures.kept) (search rules)
