use Rattle.std.proofs.Common.{◌∙◌, ◌++◌, map}
use Rattle.std.specs.Prelude.{filter}
use Rattle.std.proofs.lemmas.Result.{IfOk-weaker}
use Rattle.gate_types.specs.Slot.{is_running}
use Rattle.gate_ruling.specs.Leaving.{stop_of}
use Rattle.gate_ruling.proofs.Left.{lands_by}
use Rattle.gate_ruling.proofs.leaving.landing.Goals as goal

pub returns : goal.returns
returns c =
    IfOk-weaker c.with_stops.result _ _ (λ all made x lawful there reports live.
    lands_by c.args.config.now x c.args.queued.now c.args.verdict c.show_sound.ensures lawful there _ _ reports
    c.saturating_add.ensures _ live all.items
    (made ∙ (λ i. c.in_ok-edits.ensures i ++ map stop_of (filter (λ b. is_running b.outcome) c.args.builds.now))))
    c.with_stops.ensures
