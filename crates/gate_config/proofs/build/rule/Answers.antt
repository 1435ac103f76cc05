use Rattle.std.proofs.Common.{ap, ◌∙◌, arith}
use Rattle.std.specs.Prelude.{unwrap_or}
use Rattle.toml.specs.View.{view}
use Rattle.gate_config.proofs.SoundLemmas.{small_numbers}
use Rattle.gate_config.proofs.build.rule.Goals as goal

pub overflow_cast-result : goal.overflow_cast-result
overflow_cast-result c =
    let small = (small_numbers (view c.args.value.now) c.requires).increase_by in
    let is = c.unwrap_or-increase_by.ensures ∙ ap (λ o. unwrap_or o 0) c.increase_by_of.ensures in
    omega (arith, small, is)

pub overflow_cast-result-2 : goal.overflow_cast-result-2
overflow_cast-result-2 c =
    let small = (small_numbers (view c.args.value.now) c.requires).decrease_by in
    let is = c.unwrap_or-decrease_by.ensures ∙ ap (λ o. unwrap_or o 0) c.decrease_by_of.ensures in
    omega (arith, small, is)
