use Rattle.std.proofs.Common.{rules, ◌≡◌, ◌∙◌, true, ap, sym, subst, refl}
use Rattle.gate_types.specs.Settings.{are_sound}
use Rattle.gate_types.specs.Rebase.{rebase}
use Rattle.gate_types.specs.Settle.{settle}
use Rattle.gate_types.specs.Step.{accepted}
use Rattle.gate_types.specs.Tables.{Leads}
use Rattle.gate_reads.specs.Moves.{in_state, swept}
use Rattle.gate_core.proofs.Results.{at_some}
use Rattle.gate_core.proofs.Steps.{moved_steps, exhausted_steps}
use Rattle.gate_core.specs.Thinned.{newly_ready, thinned}
use Rattle.gate_core.proofs.Thinning.{made_spare, thinned_leads}
use Rattle.gate_settling.proofs.KeptLemmas.{at_none}
use Rattle.gate_book_trait.proofs.ReadingLemmas.{is_read_under}
use Rattle.gate_core.proofs.ruled.settle.Goals as goal

pub returns-in_ok-thinned-in-Some : goal.returns-in_ok-thinned-in-Some
returns-in_ok-thinned-in-Some g c = is_read_under (λ trusted x holds lawful d moved.
    let s = c.args.config.now in
    let t = moved.after in
    let sound : are_sound s ≡ true = search rules in
    let admitted = c.in_ok-reply-in-Some.ensures.kept.trusted_before trusted in
    let settled = c.in_ok-all.ensures.kept.trusted_before admitted in
    let raw_sound = c.raw_step_is_sound.ensures s x.state d _ t sound lawful.lawful moved.accepted in
    let swept_sound = c.sweep_is_sound.ensures s (rebase s t) (c.rebase_is_sound.ensures s t raw_sound) in
    let led = c.in_ok-settling.ensures.found settled x holds lawful d _ t c.args.moved.edits.items moved.accepted moved.acts moved.touches moved.moves in
    let both = subst (λ es. Leads s x es (in_state x (swept s t))) (sym c.in_ok-settled.ensures) led in
    let there = c.in_ok-settling.ensures.kept.holds_on settled _ x holds in
    let done = at_some _ _ c.in_ok-all.field-0 c.in-Some.all c.in-Some.is (c.in_ok-all.ensures.found admitted x there lawful d _ t moved.accepted swept_sound both) in
    let here = c.in_ok-all.ensures.kept.holds_on admitted _ x there in
    let read = subst (λ es. Leads s x es (in_state x (settle s t))) (sym c.deref-in-Some.ensures.value) done.0 in
    let spoken = c.in_ok-reply-in-Some.ensures.found trusted x here lawful (settle s t) (c.admit_is_sound.ensures s (swept s t) sound swept_sound) read in
    let spare = made_spare s x c.args.moved.reply t c.in-Some.all.items lawful.lawful.sound moved.makes_ready done.0 in
    let thin = thinned_leads s x _ c.in-Some.all.items _ spare done.0 in
    let made = subst (λ es. Leads s x es (in_state x (settle s t))) (sym c.in_ok-thinned-in-Some.ensures) (subst (λ m. Leads s x (thinned m c.in-Some.all.items) (in_state x (settle s t))) (sym (c.newly_ready-ready.ensures ∙ ap (newly_ready c.args.moved.reply) c.deref.ensures.value)) thin) in
    record {
      after = settle s t;
      steps = moved_steps s x.state t d _ moved.accepted done.1 ∙ ap (λ r. accepted r (settle s t)) (sym spoken);
      leads = made;
    })
    (search rules) (search rules)

pub returns-in-None : goal.returns-in-None
returns-in-None g c = is_read_under (λ trusted x holds lawful d moved.
    let s = c.args.config.now in
    let t = moved.after in
    let sound : are_sound s ≡ true = search rules in
    let settled = c.in_ok-all.ensures.kept.trusted_before trusted in
    let raw_sound = c.raw_step_is_sound.ensures s x.state d _ t sound lawful.lawful moved.accepted in
    let swept_sound = c.sweep_is_sound.ensures s (rebase s t) (c.rebase_is_sound.ensures s t raw_sound) in
    let led = c.in_ok-settling.ensures.found settled x holds lawful d _ t c.args.moved.edits.items moved.accepted moved.acts moved.touches moved.moves in
    let both = subst (λ es. Leads s x es (in_state x (swept s t))) (sym c.in_ok-settled.ensures) led in
    let there = c.in_ok-settling.ensures.kept.holds_on settled _ x holds in
    let past = at_none _ _ c.in_ok-all.field-0 c.in-None.is (c.in_ok-all.ensures.found trusted x there lawful d _ t moved.accepted swept_sound both) in
    (exhausted_steps s x.state t d _ moved.accepted past, refl))
    (search rules) (search rules)
