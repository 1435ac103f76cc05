use Rattle.std.proofs.Common.{◌≡◌, ◌<◌, ◌≤◌, ◌==◌, length, Some, None, Err, refl, sym, ap, ◌∙◌, subst, rules, tests}
use Rattle.std.proofs.lemmas.List.{length_push}
use Rattle.std.proofs.lemmas.Result.{err_from_is_err_and}
use Rattle.std.proofs.lemmas.Iterator.Splits.{YieldsList-from_slice_split}
use Rattle.std.proofs.lemmas.Iterator.Consumers.{YieldsList-turn, YieldsList-end}
use Rattle.gate_types.specs.declared.deliveries.Refusal.TheVariants as refusal
use Rattle.gate_types.specs.Needs.{with_number}
use Rattle.gate_types.specs.Limits.{most_needs}
use Rattle.gate_wire.proofs.FooterLemmas.{needs_turn, needs_all, needs_beyond}
use Rattle.gate_wire.proofs.footers.needs.Goals as goal

pub loop-line-preserved-in-Continue-1 : goal.loop-line-preserved-in-Continue-1
loop-line-preserved-in-Continue-1 c =
    let road = YieldsList-from_slice_split _ (λ b. b == 10) c.args.message.now (cc) (cc) (cc) (λ x b q k. search (rules, tests)) in
    let turn = YieldsList-turn road c.loop-line.yielded _ c.loop-line.yielded_by _ _ c.in-Some.line c.in-Some.is c.next.ensures.steps in
    let names = sym c.change_named.ensures ∙ c.in-Some-change_named.is in record {
      so_far = c.in_ok-keep.ensures.ok ∙ needs_turn c.args.base.now _ _ _ _ c.in-Some.line.now (Some c.in-Some-change_named.change) c.loop-line.invariant.so_far turn
          names (length_push c.loop-line.yielded c.in-Some.line);
      few = c.in_ok-keep.ensures.few;
    }

pub returns-in_err-keep-clause-many : goal.returns-in_err-keep-clause-many
returns-in_err-keep-clause-many c = λ e.
    let p = err_from_is_err_and c.from_residual.result c.from_residual.ensures.1 in
    let refused = rw (p.1, p.2) at e in
    let same : c.in_err-keep.field-0.0 ≡ refusal.TooManyNeeds = cc in
    let many : most_needs < length (with_number c.loop-line.found.items c.in-Some-change_named.change) = c.in_err-keep.ensures.many (ap Err same) in
    let road = YieldsList-from_slice_split _ (λ b. b == 10) c.args.message.now (cc) (cc) (cc) (λ x b q k. search (rules, tests)) in
    let turn = YieldsList-turn road c.loop-line.yielded _ c.loop-line.yielded_by _ _ c.in-Some.line c.in-Some.is c.next.ensures.steps in
    let names = sym c.change_named.ensures ∙ c.in-Some-change_named.is in
    let next = needs_turn c.args.base.now _ _ _ _ c.in-Some.line.now (Some c.in-Some-change_named.change) c.loop-line.invariant.so_far turn names refl in
    needs_beyond c.args.base.now c.args.message.now _ _ next many

pub loop-line-preserved : goal.loop-line-preserved
loop-line-preserved c =
    let road = YieldsList-from_slice_split _ (λ b. b == 10) c.args.message.now (cc) (cc) (cc) (λ x b q k. search (rules, tests)) in
    let turn = YieldsList-turn road c.loop-line.yielded _ c.loop-line.yielded_by _ _ c.in-Some.line c.in-Some.is c.next.ensures.steps in
    let names = sym c.change_named.ensures ∙ c.in_default.is in record {
      so_far = needs_turn c.args.base.now _ _ _ _ c.in-Some.line.now None c.loop-line.invariant.so_far turn names (length_push c.loop-line.yielded c.in-Some.line);
      few = c.loop-line.invariant.few;
    }

pub returns-clause-ok : goal.returns-clause-ok
returns-clause-ok c =
    let road = YieldsList-from_slice_split _ (λ b. b == 10) c.args.message.now (cc) (cc) (cc) (λ x b q k. search (rules, tests)) in
    let end = YieldsList-end road c.loop-line.yielded _ c.loop-line.yielded_by _ _ c.in-None.is c.next.ensures.steps in
    c.loop-line.invariant.so_far ∙ needs_all c.args.base.now c.args.message.now _ end.1

pub returns-clause-few : goal.returns-clause-few
returns-clause-few c =
    let road = YieldsList-from_slice_split _ (λ b. b == 10) c.args.message.now (cc) (cc) (cc) (λ x b q k. search (rules, tests)) in
    let end = YieldsList-end road c.loop-line.yielded _ c.loop-line.yielded_by _ _ c.in-None.is c.next.ensures.steps in
    subst (λ found. length found ≤ most_needs) (c.loop-line.invariant.so_far ∙ needs_all c.args.base.now c.args.message.now _ end.1) c.loop-line.invariant.few
