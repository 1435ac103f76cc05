-- For the inside alone: the edits of an item that lands, beside those of one that leaves.
use Rattle.std.specs.Prelude.{ℕ, List, ◌∷◌}
use Rattle.gate_types.specs.declared.records.Item.{Item as ItemRow}
use Rattle.gate_types.specs.declared.records.Landing.{Landing}
use Rattle.gate_types.specs.declared.edits.Edit.{Edit}
use Rattle.gate_types.specs.declared.edits.Edit.TheVariants as edit
use Rattle.gate_queue_rules.specs.Edits.{window_edits}
use Rattle.gate_book_trait.specs.declared.rows.QueuedItem.{QueuedItem}

-- the landing of a row's item
abbrev pub landing_of_row : ItemRow → Landing
landing_of_row i = record { serial = i.serial; change = i.change; revision = i.revision }

-- the landing at its place, and the window behind the old one
abbrev pub landing_edits : QueuedItem → ℕ → ℕ → ℕ → List Edit
landing_edits k place old window =
    edit.PutLanding k.queue place (landing_of_row k.item) ∷ window_edits k.queue old window
