use Rattle.std.proofs.Common.{◌≡◌, ap, ◌∙◌, arith, refl}
use Rattle.std.proofs.lemmas.Bool.{or_parts, not-false}
use Rattle.std.specs.Prelude.{unwrap_or}
use Rattle.toml.specs.View.{view}
use Rattle.gate_types.specs.Names.{is_name}
use Rattle.gate_config.specs.Document.{name_of}
use Rattle.gate_config.specs.Rules.{has_bad_name, is_bad_window}
use Rattle.gate_config.proofs.SoundLemmas.{small_numbers}
use Rattle.gate_config.proofs.build.queue.Goals as goal

pub name-requires : goal.name-requires
name-requires c =
    let d = view c.args.value.now in
    ap is_name c.name_of.ensures ∙ not-false (is_name (name_of d)) (or_parts (has_bad_name d) (is_bad_window d) c.requires).0

pub overflow_cast-result : goal.overflow_cast-result
overflow_cast-result c =
    let small = (small_numbers (view c.args.value.now) c.requires).window in
    let is = c.unwrap_or-window.ensures ∙ ap (λ o. unwrap_or o 0) c.window_of.ensures in
    omega (arith, small, is)

pub overflow_cast-result-2 : goal.overflow_cast-result-2
overflow_cast-result-2 c =
    let small = (small_numbers (view c.args.value.now) c.requires).floor in
    let is = c.unwrap_or-floor.ensures ∙ ap (λ o. unwrap_or o 0) c.floor_of.ensures in
    omega (arith, small, is)

pub returns : goal.returns
returns c =
    let name : c.in_ok-name.name ≡ name_of (view c.args.value.now) = c.in_ok-name.ensures ∙ c.name_of.ensures in
    let window = c.unwrap_or-window.ensures ∙ ap (λ o. unwrap_or o 0) c.window_of.ensures in
    let floor = c.unwrap_or-floor.ensures ∙ ap (λ o. unwrap_or o 0) c.floor_of.ensures in
    rw (name, window, floor, c.rule.ensures) refl
