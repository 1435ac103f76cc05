-- What is known of a change, as JSON: who asks why it waits reads it here.
use Rattle.std.specs.Prelude.{ℕ, Bool, nat_le, List, [], ◌∷◌, map, Option, option_map, codes}
use Rattle.std.specs.Option.{option_map_or}
use Rattle.gate_types.specs.declared.records.Change.{Change}
use Rattle.gate_types.specs.Settings.{Settings}
use Rattle.gate_types.specs.State.{State, known_change, project_of}
use Rattle.gate_types.specs.JsonText.{Piece, number, plain, boolean, array, member, object}
use Rattle.gate_types.specs.Tables.{approval_of}
use Rattle.gate_types.specs.Words.{stage_word}
use Rattle.gate_book_trait.specs.Reads.{queued_of, item_count}
use Rattle.gate_archive.specs.OrNull.{or_null}
use Rattle.gate_types.specs.Limits.{most_items}

-- the queue in which a change is an item
abbrev pub stands_in : Settings → State → ℕ → Option (List ℕ)
stands_in c s n = option_map (λ k. k.queue) (queued_of c s n)

-- the serial of its item
abbrev pub serial_of_change : Settings → State → ℕ → Option ℕ
serial_of_change c s n = option_map (λ k. k.item.serial) (queued_of c s n)

-- what has become of a need, of which maybe no revision came
abbrev pub need_word : Option Change → List ℕ
need_word known = option_map_or (λ k. stage_word k.stage) known (codes "unknown")

-- a need: its approval while it waits, the queue in which it is an item, and what has become of it
abbrev pub need_object : ℕ → Piece → Piece → List ℕ → Piece
need_object n approval stands state = object (
    member (codes "approval") approval ∷ member (codes "change") (number n) ∷ member (codes "stands") stands ∷
    member (codes "state") (plain state) ∷ [])

-- a need of a change
abbrev pub need_piece : Settings → State → ℕ → Piece
need_piece c s n =
    need_object n (or_null number (approval_of s.ready n)) (or_null plain (stands_in c s n))
    (need_word (known_change s n))

-- a queue takes no more items
abbrev pub takes_no_more : Settings → State → List ℕ → Bool
takes_no_more c s queue = nat_le most_items (item_count c s queue)

-- a change at its latest revision: its approval while it waits, its queue, and whether that is full; its needs, and the
-- serial of its item
abbrev pub change_object : Change → Piece → List ℕ → Bool → Piece → Piece → Piece
change_object k approval queue full needs order = object (
    member (codes "approval") approval ∷ member (codes "change") (number k.number) ∷
    member (codes "full") (boolean full) ∷ member (codes "needs") needs ∷ member (codes "order") order ∷
    member (codes "project") (plain k.project) ∷ member (codes "queue") (plain queue) ∷
    member (codes "revision") (number k.revision) ∷ member (codes "state") (plain (stage_word k.stage)) ∷ [])

-- the text of a change, with this queue
abbrev pub change_text_in : Settings → State → Change → List ℕ → List ℕ
change_text_in c s k queue =
    change_object k (or_null number (approval_of s.ready k.number)) queue (takes_no_more c s queue)
    (array (map (need_piece c s) k.needs)) (or_null number (serial_of_change c s k.number)) []

-- with the queue of its project
abbrev pub change_text : Settings → State → Change → List ℕ
change_text c s k = change_text_in c s k (project_of c s k.number).queue
