-- What the reads show of the rows.
use Rattle.std.specs.Prelude.{ℕ, pos, List, [], ◌∷◌, Bool, ◌==◌, ◌&&◌}
use Rattle.std.specs.List.{list_any}
use Rattle.sqlite.specs.Order.{Row}
use Rattle.sqlite.specs.declared.types.Value.TheVariants.{Int, Text as Words}
use Rattle.gate_types.specs.declared.records.Build.{Build}
use Rattle.gate_schema.specs.AheadText.{ahead_text}
use Rattle.gate_types.specs.BuildText.{outcome_word}
use Rattle.gate_schema.specs.Rows.{ItemRow, NeedRow, bit, number_or_null}

-- a build
abbrev pub build_shown : Build → Row
build_shown b =
    Int (pos b.number) ∷ Words b.queue ∷ Int (pos b.serial) ∷ Int (pos b.change) ∷ Int (pos b.revision) ∷
    Words b.job ∷ Int (pos b.after) ∷ Words (ahead_text b.ahead) ∷ Words (outcome_word b.outcome) ∷
    Int (pos (bit b.live)) ∷ []

-- an item, and its queue
abbrev pub item_shown : ItemRow → Row
item_shown i =
    Int (pos i.item.serial) ∷ Words i.queue ∷ Int (pos i.item.change) ∷ Int (pos i.item.revision) ∷
    number_or_null i.item.ahead ∷ Int (pos (bit i.item.failing)) ∷ []

-- a need: the change that is needed
abbrev pub need_shown : NeedRow → Row
need_shown n = Int (pos n.needed) ∷ []

-- among these needs, a change needs another
abbrev pub needs_among : List NeedRow → ℕ → ℕ → Bool
needs_among needs needed number = list_any (λ n. n.change == number && n.needed == needed) needs
