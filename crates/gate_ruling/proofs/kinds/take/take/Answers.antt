use Rattle.std.proofs.Common.{◌≡◌, ◌∙◌, ◌<◌, ◌+◌, ◌-◌, Some, refl, sym, ap, subst, arith, rules}
use Rattle.std.specs.Prelude.{option_map, unwrap_or, min}
use Rattle.gate_types.specs.Counters.{Drawn, last_number}
use Rattle.gate_types.specs.declared.deliveries.Reply.TheVariants as reply
use Rattle.gate_types.specs.Choice.{choose}
use Rattle.gate_types.specs.Step.{with_build, settled_step}
use Rattle.gate_book_trait.proofs.ReadingLemmas.{is_read_under}
use Rattle.gate_reads.specs.Moves.{Moves}
use Rattle.gate_reads.specs.NextBuild.{under_number}
use Rattle.gate_ruling.proofs.Drawn.{build_past}
use Rattle.gate_ruling.proofs.Taken.{choice, some_choice, taken_raw, taken_moves}
use Rattle.gate_ruling.proofs.kinds.take.take.Goals as goal

pub returns-then-drawn-ge-LAST_NUMBER : goal.returns-then-drawn-ge-LAST_NUMBER
returns-then-drawn-ge-LAST_NUMBER g c = is_read_under (λ trusted x holds lawful.
    let s = c.args.config.now in
    let one = c.in_ok-build.ensures.kept.trusted_before trusted in
    let at_one = c.in_ok-drawn.ensures.kept.holds_on one _ x holds in
    let drawn = ap (λ (d : Drawn). d.build) (c.drawn.view_is ∙ c.in_ok-drawn.ensures.found one s x holds lawful) in
    let top = c.if-drawn-ge-LAST_NUMBER.true in
    let found : Some c.in-Some-2.build ≡ option_map (under_number c.in-Some.number) (choose s x.state) =
    sym c.in-Some-2.is ∙ c.in_ok-build.ensures.found trusted x at_one lawful in
    let a = some_choice s x.state c.in-Some.number c.in-Some-2.build found in
    let number = a.2 in
    let over : last_number < a.0.number = omega (arith, drawn, top, number) in (
      ap (settled_step s) (taken_raw s x.state a.0 a.1)
          ∙ build_past s (reply.Build a.0) (with_build a.0 x.state) over,
      refl,
    ))
    (search rules) (search rules)

pub returns : goal.returns
returns g c = is_read_under (λ trusted x holds lawful.
    let s = c.args.config.now in
    let b = c.in-Some-2.build in
    let one = c.in_ok-build.ensures.kept.trusted_before trusted in
    let at_one = c.in_ok-drawn.ensures.kept.holds_on one _ x holds in
    let drawn : c.drawn.inside.build ≡ x.state.counters.build =
    ap (λ (d : Drawn). d.build) (c.drawn.view_is ∙ c.in_ok-drawn.ensures.found one s x holds lawful) in
    let top = c.if-drawn-ge-LAST_NUMBER.false in
    let found : Some b ≡ option_map (under_number c.in-Some.number) (choose s x.state) =
    sym c.in-Some-2.is ∙ c.in_ok-build.ensures.found trusted x at_one lawful in
    let number : c.in-Some.number ≡ min c.drawn.inside.build (last_number - 1) + 1 =
    ap (λ o. unwrap_or o 0) (sym c.in-Some.is ∙ c.number_after.ensures) in
    let next : c.in-Some.number ≡ x.state.counters.build + 1 = omega (arith, drawn, top, number) in
    let chosen = choice s x.state c.in-Some.number b found next in
    record {
      after = with_build b x.state;
      accepted = taken_raw s x.state b chosen;
      acts = refl;
      touches = refl;
      moves = subst (λ es. Moves x es (with_build b x.state)) (sym c.in_ok-edits.ensures)
          (taken_moves s x b lawful.lawful.sound chosen);
      makes_ready = tt;
    })
    (search rules) (search rules)
