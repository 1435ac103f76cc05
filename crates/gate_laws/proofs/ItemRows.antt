-- The rows of a queue are of its items, one of each.
use Rattle.std.proofs.Common.{◌≡◌, List, [], ◌∷◌, map, length, refl, sym, ap, ◌∙◌}
use Rattle.std.proofs.lemmas.List.{length-map, map-id}
use Rattle.gate_types.specs.declared.records.Build.{Build}
use Rattle.gate_types.specs.Line.{Place}
use Rattle.gate_types.specs.Rows.{item_of, item_rows, row_of}
use Rattle.gate_types.specs.Settings.{Settings}
use Rattle.gate_types.specs.Standing.{next_ahead, place_of, places, places_after, with_ahead}
use Rattle.gate_types.specs.State.{Item, Queue, State}
use Rattle.gate_laws.proofs.Members.{map_map}

-- places keep their items
items_placed : (bs : List Build) (ahead : List Item) (ps : List Place) →
    map (λ (p : Place). p.item) (places_after bs ahead ps) ≡ map (λ (p : Place). p.item) ps
items_placed bs ahead [] = refl
items_placed bs ahead (p ∷ ps) = ap (λ l. p.item ∷ l) (items_placed bs (next_ahead bs (with_ahead ahead p)) ps)

-- they are of the queue's items
pub items_of_rows : (c : Settings) (s : State) (q : Queue) → map item_of (item_rows c s q) ≡ q.items
items_of_rows c s q =
    map_map item_of (row_of s.builds) (places c s q)
    ∙ items_placed s.builds [] (map (place_of c s q) q.items)
    ∙ map_map (λ (p : Place). p.item) (place_of c s q) q.items
    ∙ map-id q.items

-- as many rows as items
pub rows_length : (c : Settings) (s : State) (q : Queue) → length (item_rows c s q) ≡ length q.items
rows_length c s q = sym (length-map (item_rows c s q) item_of) ∙ ap length (items_of_rows c s q)
