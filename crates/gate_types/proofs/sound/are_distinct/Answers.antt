use Rattle.std.proofs.Common.{map, sym, ap, ◌∙◌}
use Rattle.gate_types.specs.Settings.{are_distinct}
use Rattle.gate_types.proofs.DistinctLemmas.{double_here, double_later}
use Rattle.gate_types.proofs.sound.are_distinct.Goals as goal

pub returns-then-any_is_named : goal.returns-then-any_is_named
returns-then-any_is_named g c =
    let named = g.T.Named.named in
    let here = double_here named c.name.result.now c.in-Some.first.now c.in-Some.later.now c.name.ensures (sym c.any_is_named.ensures ∙ c.if-any_is_named.true) in
    sym (c.loop-first.invariant ∙ ap (λ vs. are_distinct (map named vs)) c.in-Some.ensures.cases.0 ∙ here)

pub loop-first-preserved : goal.loop-first-preserved
loop-first-preserved g c =
    let named = g.T.Named.named in
    let later = double_later named c.name.result.now c.in-Some.first.now c.in-Some.later.now c.name.ensures (sym c.any_is_named.ensures ∙ c.if-any_is_named.false) in
    c.loop-first.invariant ∙ ap (λ vs. are_distinct (map named vs)) c.in-Some.ensures.cases.0 ∙ later
