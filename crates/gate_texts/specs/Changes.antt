-- What is known of a change, by what a book tells.
use Rattle.std.specs.Prelude.{ℕ, Bool, List, option_map}
use Rattle.gate_types.specs.declared.records.Change.{Change}
use Rattle.gate_types.specs.Settings.{Settings}
use Rattle.gate_types.specs.State.{State}
use Rattle.gate_types.specs.JsonText.{Piece}
use Rattle.gate_types.specs.Tables.{approval_of}
use Rattle.gate_book_trait.specs.Reads.{queued_of}
use Rattle.gate_archive.specs.ChangeText.{need_object, change_object}
use Rattle.gate_texts.specs.Values.{written, bracketed, number_text, name_text}
use Rattle.gate_texts.specs.declared.change.Standing.{Standing}

-- its approval while it waits, and the item that it is
abbrev pub standing_of : Settings → State → ℕ → Standing
standing_of c s n = record { approval = approval_of s.ready n; queued = queued_of c s n }

-- the queue in which it is an item, or null
abbrev pub queue_name_text : Standing → List ℕ
queue_name_text w = name_text (option_map (λ k. k.queue) w.queued)

-- the serial of its item, or null
abbrev pub order_text : Standing → List ℕ
order_text w = number_text (option_map (λ k. k.item.serial) w.queued)

-- a need, where it stands, and what has become of it
abbrev pub need_told : ℕ → Standing → List ℕ → Piece
need_told n w state = need_object n (written (number_text w.approval)) (written (queue_name_text w)) state

-- a change, where it stands, its project's queue, whether that is full, and its needs
abbrev pub change_told : Change → Standing → List ℕ → Bool → List ℕ → Piece
change_told k w queue full needs =
    change_object k (written (number_text w.approval)) queue full (bracketed needs) (written (order_text w))
