-- The rows that other rows of a sound state name are there.
use Rattle.std.proofs.Common.{◌≡◌, ℕ, true, ◌&&◌, Option, Some, None, List, [], map, refl, sym, ap, ◌∙◌, true≢false}
use Rattle.std.specs.Prelude.{◌==◌, find, length, option_map, unwrap_or}
use Rattle.std.specs.List.{AllPass}
use Rattle.std.specs.Option.{option_map_or}
use Rattle.std.proofs.lemmas.Bool.{and_parts}
use Rattle.std.proofs.lemmas.Option.{none-some}
use Rattle.gate_types.specs.declared.records.Build.{Build}
use Rattle.gate_types.specs.declared.records.Change.{Change}
use Rattle.gate_types.specs.declared.records.Item.{Item as ItemRow}
use Rattle.gate_types.specs.declared.records.Stage.TheVariants as stage
use Rattle.gate_types.specs.Names.{same_name}
use Rattle.gate_types.specs.Settings.{Settings}
use Rattle.gate_types.specs.State.{Queue, State, change_of, known_change, is_open, project_of}
use Rattle.gate_types.specs.Slot.{is_running}
use Rattle.gate_types.specs.Standing.{places, with_ahead, place_of}
use Rattle.gate_types.specs.Step.{build_of}
use Rattle.gate_types.specs.Rows.{item_of, row_of, item_rows}
use Rattle.gate_types.specs.Lawful.{IsSound, is_sound_item, is_sound_build}
use Rattle.gate_book_trait.specs.declared.rows.QueuedItem.{QueuedItem}
use Rattle.gate_book_trait.specs.Reads.{queued_items, item_at, window_of, landing_count}
use Rattle.gate_laws.proofs.Members.{every, found, not_found, to_flat, to_map}
use Rattle.gate_laws.proofs.Facts.{build_facts}
use Rattle.gate_laws.proofs.Places.{place_of_item}
use Rattle.gate_ruling.proofs.Stored.{Stored}

-- the change of a stored row is known
pub change_there : (c : Settings) (s : State) (name : List ℕ) (row : ItemRow) → IsSound c s → Stored c s name row →
    known_change s row.change ≡ None → ⊥
change_there c s name row sound h none =
    let unknown : Change =
    record { number = row.change; project = []; revision = 0; stage = stage.Closed; needs = [] } in
    let passes = every (λ i. is_sound_item c s h.queue i ≡ true) h.queue.items
    (every (λ (q : Queue). AllPass (is_sound_item c s q) q.items) s.queues sound.items_are_sound h.queue h.there)
    (item_of row) h.item in
    let opens = (and_parts (is_open (change_of s row.change)) ((change_of s row.change).revision == row.revision)
    (and_parts (is_open (change_of s row.change) && (change_of s row.change).revision == row.revision)
    (same_name (project_of c s row.change).queue h.queue.name) passes).0).0 in
    true≢false (sym opens ∙ ap (λ k. is_open (unwrap_or k unknown)) none)

-- the queue of a stored row has this window
pub window_stored : {c : Settings} {s : State} {name : List ℕ} {row : ItemRow} (h : Stored c s name row) →
    window_of s name ≡ Some h.queue.window
window_stored h = ap (option_map (λ (q : Queue). q.window)) h.first

-- so it has one
pub window_there : (c : Settings) (s : State) (name : List ℕ) (row : ItemRow) → Stored c s name row →
    window_of s name ≡ None → ⊥
window_there c s name row h none = none-some h.queue.window (sym none ∙ window_stored h)

-- its landings are those that are counted
pub landings_stored : {c : Settings} {s : State} {name : List ℕ} {row : ItemRow} (h : Stored c s name row) →
    landing_count s name ≡ length h.queue.landings
landings_stored h = ap (λ o. length (option_map_or (λ (q : Queue). q.landings) o [])) h.first

-- the item of a live running build has a row
pub item_there : (c : Settings) (s : State) (n : ℕ) (b : Build) → IsSound c s → build_of s n ≡ Some b →
    b.live && is_running b.outcome ≡ true → item_at c s b.serial ≡ None → ⊥
item_there c s n b sound known runs none = by_found (find (λ k. k.item.serial == b.serial) (queued_items c s)) refl none
  where
    sound_one : is_sound_build s b ≡ true
    sound_one = every (λ y. is_sound_build s y ≡ true) s.builds sound.builds_are_sound b
        (found (λ (y : Build). y.number == n) s.builds b known).0

    by_found : (o : Option QueuedItem) → find (λ k. k.item.serial == b.serial) (queued_items c s) ≡ o →
        option_map (λ k. k.item) o ≡ None → ⊥
    by_found None e f =
        let x = (build_facts s b sound_one).runs runs in
        let q = x.0 in
        let i = x.2 in
        let p = place_of_item c s q i x.3 in
        let place = with_ahead p.0 (place_of c s q i) in
        let row = row_of s.builds place in
        let k : QueuedItem = record { queue = q.name; item = row } in
        let there = to_flat (λ (o : Queue). map (λ r. record { queue = o.name; item = r }) (item_rows c s o)) s.queues
        q k x.1 (to_map (λ (r : ItemRow). record { queue = q.name; item = r }) (item_rows c s q) row
        (to_map (row_of s.builds) (places c s q) place p.1)) in
        true≢false (sym x.4 ∙ not_found (λ (k : QueuedItem). k.item.serial == b.serial) (queued_items c s) e k there)
    by_found (Some k) e f = none-some k.item (sym f)
