-- The builds that run, as JSON: queues in the order of the settings, items front to back, builds by number.
use Rattle.std.specs.Prelude.{ℕ, List, [], ◌∷◌, map, filter, length, take, flat_map, codes}
use Rattle.gate_types.specs.declared.records.Build.{Build}
use Rattle.gate_types.specs.State.{State}
use Rattle.gate_types.specs.Slot.{is_running}
use Rattle.gate_types.specs.JsonText.{Piece, number, plain, array, member, object}
use Rattle.gate_book_trait.specs.Reads.{live_builds}
use Rattle.gate_types.specs.Limits.{most_listed}

-- the live builds of an item that run, by number
abbrev pub running_of : State → ℕ → List Build
running_of s serial = filter (λ b. is_running b.outcome) (live_builds s serial)

-- those of all items
abbrev pub running_builds : State → List Build
running_builds s = flat_map (λ q. flat_map (λ i. running_of s i.serial) q.items) s.queues

-- a build that runs
abbrev pub running_piece : Build → Piece
running_piece b = object (
    member (codes "build") (number b.number) ∷ member (codes "change") (number b.change) ∷
    member (codes "job") (plain b.job) ∷ member (codes "order") (number b.serial) ∷
    member (codes "queue") (plain b.queue) ∷ member (codes "revision") (number b.revision) ∷ [])

-- builds, and how many there are
abbrev pub running_object : Piece → ℕ → Piece
running_object builds count =
    object (member (codes "builds") builds ∷ member (codes "running") (number count) ∷ [])

-- the text: the first 1,000 of them, and how many there are
abbrev pub running_text : State → List ℕ
running_text s =
    running_object (array (map running_piece (take most_listed (running_builds s)))) (length (running_builds s)) []
