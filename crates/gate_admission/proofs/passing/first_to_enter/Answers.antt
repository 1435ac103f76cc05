use Rattle.std.proofs.Common.{◌≡◌, true, sym, ap, subst, rules}
use Rattle.std.specs.Ordering.{nat_cmp}
use Rattle.std.specs.BTreeMap.{is_at}
use Rattle.std.specs.Map.{lookup}
use Rattle.gate_types.specs.Admit.{may_enter}
use Rattle.gate_admission.specs.Candidates.{EntersFirst}
use Rattle.gate_admission.specs.Entrants.{TellsEntrant}
use Rattle.gate_admission.proofs.Waiting.{nobody_left, passed, enters_first}
use Rattle.gate_book_trait.proofs.KeptLemmas.{then}
use Rattle.gate_book_trait.proofs.ReadingLemmas.{is_read_under}
use Rattle.gate_admission.proofs.passing.first_to_enter.Goals as goal

pub returns-in-Some-2 : goal.returns-in-Some-2
returns-in-Some-2 g c = is_read_under (λ trusted x holds lawful v led are.
    let s = c.args.config.now in
    let one = c.in_ok-found.ensures.kept.trusted_before trusted in
    let start = c.loop-ready.invariant.kept.holds_on one s x holds in
    let r = c.in-Some.ready in
    let now = c.loop-ready.invariant.found one x holds lawful v led are in
    let told = subst (TellsEntrant s v r) c.in-Some-2.is (c.in_ok-found.ensures.found trusted x start lawful v led) in
    let may = subst (λ t. may_enter s v t ≡ true) told.0 told.1.may in (
      told.1,
      subst (λ t. EntersFirst s v t c.next.new.waiting) (sym told.0)
          (enters_first s v led.sound c.loop-ready.waiting c.next.new.waiting r now c.in-Some.ensures.found
          c.in-Some.ensures.rest.0 may c.in-Some.ensures.least),
    ))
    (search rules) (search rules)

pub loop-ready-preserved : goal.loop-ready-preserved
loop-ready-preserved g c = record {
  kept = then c.loop-ready.invariant.kept c.in_ok-found.ensures.kept;
  found = λ trusted x holds lawful v led are.
      let s = c.args.config.now in
      let one = c.in_ok-found.ensures.kept.trusted_before trusted in
      let start = c.loop-ready.invariant.kept.holds_on one s x holds in
      let r = c.in-Some.ready in
      let now = c.loop-ready.invariant.found one x holds lawful v led are in
      let told = subst (TellsEntrant s v r) c.in_default-2.is
      (c.in_ok-found.ensures.found trusted x start lawful v led) in
      passed s v led.sound c.loop-ready.waiting c.next.new.waiting r now c.in-Some.ensures.found
      c.in-Some.ensures.rest.0 (told (now.ready r c.in-Some.ensures.found));
}

pub returns : goal.returns
returns g c = is_read_under (λ trusted x holds lawful v led are.
    nobody_left c.args.config.now v c.loop-ready.waiting (c.loop-ready.invariant.found trusted x holds lawful v led are)
    (λ a. ap (λ es. lookup (is_at (nat_cmp a)) es) c.in_default.ensures.none))
    (search rules) (search rules)
