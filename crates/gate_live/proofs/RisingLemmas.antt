-- The items of a lawful content's queue rise by serial, each after its columns are worked out, and its builds by number.
use Rattle.std.proofs.Common.{◌≡◌, ℕ, suc, Some, List, [], ◌∷◌, map, sym, arith}
use Rattle.std.specs.List.Sorted.{IsStrictlyIncreasing}
use Rattle.gate_types.specs.declared.records.Build.{Build}
use Rattle.gate_types.specs.Names.{same_name}
use Rattle.gate_types.specs.Settings.{Settings}
use Rattle.gate_types.specs.State.{Item, Queue, State}
use Rattle.gate_types.specs.Line.{Place}
use Rattle.gate_types.specs.Standing.{places_after, next_ahead, with_ahead, place_of}
use Rattle.gate_types.specs.Rows.{row_of, item_rows}
use Rattle.gate_types.specs.Once.{Content}
use Rattle.gate_types.specs.Forms.{IsLawfulContent}
use Rattle.gate_types.specs.Keys.{serial_of_item}
use Rattle.gate_types.specs.Rising.{RisesFrom}
use Rattle.gate_memory.specs.Builds.{number_of_build}
use Rattle.gate_book_trait.specs.Reads as read
use Rattle.gate_book_trait.proofs.Finding.{all_found}
use Rattle.gate_book_trait.proofs.ReadLemmas.{numbers_rise, all_rows}

-- ---- items, their places and their rows

abbrev item_serial : Item → ℕ
item_serial i = i.serial

places_rise : (c : Settings) (s : State) (q : Queue) (m : ℕ) (items : List Item) → RisesFrom (λ (n : ℕ). n) m (map item_serial items) →
    RisesFrom (λ (p : Place). p.item.serial) m (map (place_of c s q) items)
places_rise c s q m [] up = tt
places_rise c s q m (i ∷ items) up = (up.0, places_rise c s q (suc i.serial) items up.1)

rows_rise : (builds : List Build) (ahead : List Item) (m : ℕ) (ps : List Place) → RisesFrom (λ (p : Place). p.item.serial) m ps →
    RisesFrom serial_of_item m (map (row_of builds) (places_after builds ahead ps))
rows_rise builds ahead m [] up = tt
rows_rise builds ahead m (p ∷ ps) up = (up.0, rows_rise builds (next_ahead builds (with_ahead ahead p)) (suc p.item.serial) ps up.1)

-- the items of a queue that the content has
pub items_rise : (c : Settings) (x : Content) (name : List ℕ) (q : Queue) → IsLawfulContent c x → read.queue_named x.state name ≡ Some q →
    RisesFrom serial_of_item 0 (item_rows c x.state q)
items_rise c x name q lawful named =
    let s = x.state in
    let all = all_rows (λ (r : Queue). IsStrictlyIncreasing (map item_serial r.items)) s.queues lawful.lawful.sound.items_rise in
    let up : IsStrictlyIncreasing (map item_serial q.items) = all_found (λ (r : Queue). IsStrictlyIncreasing (map item_serial r.items)) (λ (r : Queue). same_name r.name name) s.queues q all (sym named) in
    rows_rise s.builds [] 0 (map (place_of c s q) q.items) (places_rise c s q 0 q.items (numbers_rise 0 (map item_serial q.items) (λ h. omega arith) up))

-- ---- builds

rise_by_numbers : (m : ℕ) (builds : List Build) → RisesFrom (λ (n : ℕ). n) m (map number_of_build builds) → RisesFrom number_of_build m builds
rise_by_numbers m [] up = tt
rise_by_numbers m (b ∷ bs) up = (up.0, rise_by_numbers (suc b.number) bs up.1)

pub builds_rise : (c : Settings) (x : Content) → IsLawfulContent c x → RisesFrom number_of_build 0 x.state.builds
builds_rise c x lawful =
    rise_by_numbers 0 x.state.builds (numbers_rise 0 (map number_of_build x.state.builds) (λ h. omega arith) lawful.lawful.sound.builds_rise)
