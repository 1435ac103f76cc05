use Rattle.std.proofs.Common.{◌≡◌, ◌∙◌, ◌+◌, ◌<◌, ◌≤◌, ◌||◌, ⊎_elim, sym, ap, subst, refl, arith, rules}
use Rattle.std.specs.Prelude.{nat_lt}
use Rattle.std.specs.List.{list_any}
use Rattle.std.specs.Ordering.{nat_cmp}
use Rattle.std.specs.BTreeMap.{is_at}
use Rattle.std.specs.Map.{lookup}
use Rattle.std.proofs.lemmas.Bool.{cases_lt, false≢true}
use Rattle.gate_types.specs.Counters.{Drawn, last_number}
use Rattle.gate_types.specs.Admit.{entered}
use Rattle.gate_admission.specs.Led.{IsLed}
use Rattle.gate_admission.specs.Counted.{sets_past}
use Rattle.gate_admission.specs.Candidates.{EntersByEdits}
use Rattle.gate_admission.proofs.Admitted.{tries}
use Rattle.gate_admission.proofs.Tries.{past_stays, none_past, idle_stays, next_entered, all_entered, none_for_next}
use Rattle.gate_book_trait.proofs.KeptLemmas.{then}
use Rattle.gate_book_trait.proofs.ReadingLemmas.{is_read_under}
use Rattle.gate_admission.proofs.admit.admitting.Goals as goal

pub returns-then-is_idle : goal.returns-then-is_idle
returns-then-is_idle g c = is_read_under (λ trusted x holds lawful v sound leads enters.
    let s = c.args.config.now in
    let es = c.as_slice.ensures.value in
    let so_far = subst (λ es. IsLed s x es v) (sym es) (record { sound = sound; leads = leads }) in
    let by = subst (λ es. EntersByEdits s x.state es v) (sym es) enters in
    let idle = c.is_idle.ensures c.if-is_idle.true in
    idle_stays s x c.args.edits.items v c.in_ok-waiting.waiting lawful.lawful.not_exhausted
    (record { sound = sound; leads = leads })
    (ap (list_any sets_past) (sym c.as_slice-2.ensures.value) ∙ idle.1)
    (c.in_ok-waiting.ensures.found trusted s x holds lawful v so_far by)
    (λ a. ap (λ es. lookup (is_at (nat_cmp a)) es) idle.0))
    (search rules) (search rules)

pub returns-then-is_past : goal.returns-then-is_past
returns-then-is_past g c = is_read_under (λ trusted x holds lawful v sound leads enters.
    let s = c.args.config.now in
    let one = c.in_ok-drawn.ensures.kept.trusted_before trusted in
    let next = c.in_ok-waiting.ensures.kept.holds_on one s x holds in
    let so_far = subst (λ es. IsLed s x es v) (sym c.as_slice-3.ensures.value)
    (record { sound = sound; leads = leads }) in
    past_stays s v
    (ap (λ (d : Drawn). nat_lt last_number d.approval || nat_lt last_number d.build || nat_lt
    last_number d.order)
    (sym (c.in_ok-drawn.ensures.found trusted s x next lawful v so_far))
    ∙ sym c.is_past.ensures ∙ c.if-is_past.true))
    (then c.in_ok-waiting.ensures.kept c.in_ok-drawn.ensures.kept) (search rules)

pub loop-order-init : goal.loop-order-init
loop-order-init g c =
    let drawn = c.in_ok-drawn.drawn in
    let few = none_past drawn.approval drawn.build drawn.order (sym c.is_past.ensures ∙ c.if-is_past.false) in
    let order : c.drawn.inside.order ≡ drawn.order = ap (λ (d : Drawn). d.order) c.drawn.view_is in
    record {
      kept = then c.in_ok-waiting.ensures.kept c.in_ok-drawn.ensures.kept;
      low = omega (arith, few.2, order);
      found = λ trusted x holds lawful v led enters.
          let s = c.args.config.now in
          let one = c.in_ok-drawn.ensures.kept.trusted_before trusted in
          let next = c.in_ok-waiting.ensures.kept.holds_on one s x holds in
          let so_far = subst (λ es. IsLed s x es v) (sym c.as_slice.ensures.value) led in
          let by = subst (λ es. EntersByEdits s x.state es v) (sym c.as_slice.ensures.value) enters in
          let so_far3 = subst (λ es. IsLed s x es v) (sym c.as_slice-3.ensures.value) led in
          let counters = c.in_ok-drawn.ensures.found trusted s x next lawful v so_far3 in
          let a : drawn.approval ≡ v.counters.approval = ap (λ (d : Drawn). d.approval) counters in
          let b : drawn.build ≡ v.counters.build = ap (λ (d : Drawn). d.build) counters in
          let o : drawn.order ≡ v.counters.order = ap (λ (d : Drawn). d.order) counters in
          record {
            entered = 0;
            few = omega arith;
            under = record {
              led = led;
              order = sym (order ∙ o);
              approval = omega (arith, a, few.0);
              build = omega (arith, b, few.1);
            };
            candidates = c.in_ok-waiting.ensures.found one s x holds lawful v so_far by;
          };
    }

pub returns-in_default : goal.returns-in_default
returns-in_default g c = is_read_under (λ trusted x holds lawful v sound leads enters.
    let s = c.args.config.now in
    let led : IsLed s x c.args.edits.items v = record { sound = sound; leads = leads } in
    let one = c.in_ok-entrant.ensures.kept.trusted_before trusted in
    let start = c.loop-order.invariant.kept.holds_on one s x holds in
    let h = c.loop-order.invariant.found one x holds lawful v led enters in
    let so_far = subst (λ es. IsLed s x es (tries s v h.entered)) (sym c.as_slice-in-loop-order.ensures.value)
    h.under.led in
    let none = rw c.in_default.is at (c.in_ok-entrant.ensures.found trusted x start lawful (tries s v h.entered) so_far
    h.candidates) in
    all_entered s x c.loop-order.edits.items c.loop-order.order v c.loop-order.waiting h
    c.loop-order.invariant.low none)
    (then c.loop-order.invariant.kept c.in_ok-entrant.ensures.kept) (search rules)

pub returns-in_default-new : goal.returns-in_default-new
returns-in_default-new g c = is_read_under (λ trusted x holds lawful v sound leads enters.
    let s = c.args.config.now in
    let led : IsLed s x c.args.edits.items v = record { sound = sound; leads = leads } in
    let one = c.in_ok-entrant.ensures.kept.trusted_before trusted in
    let start = c.loop-order.invariant.kept.holds_on one s x holds in
    let h = c.loop-order.invariant.found one x holds lawful v led enters in
    let so_far = subst (λ es. IsLed s x es (tries s v h.entered)) (sym c.as_slice-in-loop-order.ensures.value)
    h.under.led in
    let first = rw c.in-Some.is at (c.in_ok-entrant.ensures.found trusted x start lawful (tries s v h.entered) so_far
    h.candidates) in
    let last : last_number ≤ c.loop-order.order = ⊎_elim
    (λ (l : c.loop-order.order < last_number). absurd
    (false≢true (c.in_default-new.ensures.range.1 (omega arith, omega arith))))
    (λ (l : last_number ≤ c.loop-order.order). l)
    (cases_lt c.loop-order.order last_number) in
    none_for_next s x c.loop-order.edits.items c.loop-order.order v c.in-Some.entrant.ready c.loop-order.waiting h
    first.1.first last)
    (then c.loop-order.invariant.kept c.in_ok-entrant.ensures.kept) (search rules)

pub loop-order-preserved : goal.loop-order-preserved
loop-order-preserved g c = record {
  kept = then (then (then c.loop-order.invariant.kept c.in_ok-entrant.ensures.kept) c.in_ok-enter.ensures.kept)
      c.in_ok-add_needing.ensures.kept;
  low = (c.in-Some-new.ensures.range.0 refl).1;
  found = λ trusted x holds lawful v led enters.
      let s = c.args.config.now in
      let three = c.in_ok-add_needing.ensures.kept.trusted_before trusted in
      let two = c.in_ok-enter.ensures.kept.trusted_before three in
      let one = c.in_ok-entrant.ensures.kept.trusted_before two in
      let start = c.loop-order.invariant.kept.holds_on one s x holds in
      let next = c.in_ok-entrant.ensures.kept.holds_on two s x start in
      let last = c.in_ok-enter.ensures.kept.holds_on three s x next in
      let h = c.loop-order.invariant.found one x holds lawful v led enters in
      let u = tries s v h.entered in
      let so_far = subst (λ es. IsLed s x es u) (sym c.as_slice-in-loop-order.ensures.value) h.under.led in
      let first = rw c.in-Some.is at (c.in_ok-entrant.ensures.found two x start lawful u so_far h.candidates) in
      let r = c.in-Some.entrant.ready in
      let all = c.in_ok-enter.ensures.found three x next lawful u h.under.led first.1.first first.0
      (c.in-Some-new.ensures.value ∙ ap (λ n. n + 1) (sym h.under.order)) in
      next_entered s x c.loop-order.edits.items c.enter.new.edits.items c.loop-order.order v r c.loop-order.waiting
      c.add_needing.new.waiting h first.1.first all
      (c.in_ok-add_needing.ensures.found trusted s x last lawful (entered s u r)
      (subst (λ es. IsLed s x es (entered s u r)) (sym c.as_slice-in-loop-order-2.ensures.value) all) first.1.others);
}

pub returns : goal.returns
returns g c = is_read_under (λ trusted x holds lawful v sound leads enters.
    absurd (omega (arith, c.loop-order-test.false, c.loop-order.invariant.low)))
    (search rules) (search rules)

pub returns-in_err-drawn : goal.returns-in_err-drawn
returns-in_err-drawn g c =
    is_read_under (search rules) (then c.in_ok-waiting.ensures.kept c.in_err-drawn.ensures.kept) (search rules)

pub returns-in_err-entrant : goal.returns-in_err-entrant
returns-in_err-entrant g c =
    is_read_under (search rules) (then c.loop-order.invariant.kept c.in_err-entrant.ensures.kept) (search rules)

pub returns-in_err-enter : goal.returns-in_err-enter
returns-in_err-enter g c = is_read_under (search rules)
    (let two = then c.loop-order.invariant.kept c.in_ok-entrant.ensures.kept in
    then two c.in_err-enter.ensures.kept) (search rules)

pub returns-in_err-add_needing : goal.returns-in_err-add_needing
returns-in_err-add_needing g c = is_read_under (search rules)
    (let two = then c.loop-order.invariant.kept c.in_ok-entrant.ensures.kept in
    let three = then two c.in_ok-enter.ensures.kept in
    then three c.in_err-add_needing.ensures.kept) (search rules)
