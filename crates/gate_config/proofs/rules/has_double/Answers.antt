use Rattle.std.proofs.Common.{map, sym, ap, ◌∙◌}
use Rattle.toml.specs.View.{view}
use Rattle.gate_config.specs.Rules.{has_double}
use Rattle.gate_config.proofs.DocumentLemmas.{double_here, double_later}
use Rattle.gate_config.proofs.rules.has_double.Goals as goal

pub returns-then-repeats : goal.returns-then-repeats
returns-then-repeats c =
    let here = double_here c.name_of.result.now c.in-Some.first.now c.in-Some.later.now c.name_of.ensures (sym c.repeats.ensures ∙ c.if-repeats.true) in
    sym (c.loop-first.invariant ∙ ap (λ vs. has_double (map view vs)) c.in-Some.ensures.cases.0 ∙ here)

pub loop-first-preserved : goal.loop-first-preserved
loop-first-preserved c =
    let later = double_later c.name_of.result.now c.in-Some.first.now c.in-Some.later.now c.name_of.ensures (sym c.repeats.ensures ∙ c.if-repeats.false) in
    c.loop-first.invariant ∙ ap (λ vs. has_double (map view vs)) c.in-Some.ensures.cases.0 ∙ later
