use Rattle.std.proofs.Common.{◌≡◌, ◌∙◌, List, ℕ, Option, None, Some, false, Bor, refl, sym, ap, true≢false}
use Rattle.std.specs.Prelude.{is_some}
use Rattle.std.specs.Option.{option_copied, option_map_or}
use Rattle.gate_admission.specs.Candidates.{is_full, makes_room}
use Rattle.gate_admission.proofs.Along.{any_step, any_end}
use Rattle.gate_admission.proofs.room.first_reported.Goals as goal

-- nothing is borrowed where there is nothing
none_copied : (o : Option (Bor (List ℕ))) → is_some o ≡ false → option_copied o ≡ None
none_copied None h = refl
none_copied (Some q) h = absurd (true≢false h)

pub loop-edit-preserved : goal.loop-edit-preserved
loop-edit-preserved c = λ s.
    any_step (makes_room s) c.args.edits.now c.loop-edit.edit-index c.edit-item.result c.loop-edit-test.true c.edit-item.is
    (ap (λ (o : Option (List ℕ)). option_map_or (is_full s) o false)
    (sym c.reported-queue.ensures ∙ none_copied c.reported-queue.result (sym c.is_some.ensures ∙ c.if-is_some.false)))
    (c.loop-edit.invariant s)

pub returns : goal.returns
returns c = λ s. any_end (makes_room s) c.args.edits.now c.loop-edit.edit-index c.loop-edit-test.false (c.loop-edit.invariant s)
