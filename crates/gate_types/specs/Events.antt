-- Calls, and changes of the settings between them.
use Rattle.std.specs.Prelude.{if◌then◌else◌, List, [], ◌∷◌, fold}
use Rattle.gate_types.specs.Settings.{Settings}
use Rattle.gate_types.specs.declared.deliveries.Answer.{Answer}
use Rattle.gate_types.specs.Once.{Call, next_content, answer_of}
use Rattle.gate_types.specs.Adopt.{may_adopt, adopted_content}
use Rattle.gate_types.specs.Gated.{Gated}

-- a call, or other settings
pub data Event : Type 0 where
  called : Call → Event
  set : Settings → Event

-- after an event: other settings are adopted where they may be, and change nothing where they may not
abbrev pub next_gated : Gated → Event → Gated
next_gated g (called k) = record g { content = next_content g.settings g.content k }
next_gated g (set d) =
    if may_adopt g.settings d then record { settings = d; content = adopted_content g.settings d g.content } else g

-- after events
abbrev pub through : Gated → List Event → Gated
through g es = fold next_gated g es

-- what the calls among them are answered; a change of settings answers nothing
abbrev pub answers_through : Gated → List Event → List Answer
answers_through g [] = []
answers_through g (called k ∷ es) = answer_of g.settings g.content k ∷ answers_through (next_gated g (called k)) es
answers_through g (set d ∷ es) = answers_through (next_gated g (set d)) es
