-- The stored row of an item, and the item that it stands for.
use Rattle.std.proofs.Common.{◌≡◌, ℕ, true, Option, Some, None, List, [], refl, ap, ◌∙◌, subst}
use Rattle.std.specs.Prelude.{Contains}
use Rattle.std.specs.Option.{option_map_or}
use Rattle.gate_types.specs.declared.records.Item.{Item as ItemRow}
use Rattle.gate_types.specs.Names.{same_name}
use Rattle.gate_types.specs.Settings.{Settings}
use Rattle.gate_types.specs.State.{Queue, State}
use Rattle.gate_types.specs.Standing.{places}
use Rattle.gate_types.specs.Rows.{item_of, row_of, item_rows}
use Rattle.gate_types.specs.Rising.{In}
use Rattle.gate_book_trait.specs.Reads.{queue_named, items_in}
use Rattle.gate_laws.proofs.Members.{contains_in, from_map, found}
use Rattle.gate_laws.proofs.Places.{item_of_place}

-- a row of a queue stands for an item of the first queue of this name
pub record Stored (c : Settings) (s : State) (name : List ℕ) (row : ItemRow) : Type 0 where
  pub queue : Queue
  pub first : queue_named s name ≡ Some queue
  pub there : In queue s.queues
  pub named : same_name queue.name name ≡ true
  pub item : In (item_of row) queue.items

pub stored : (c : Settings) (s : State) (name : List ℕ) (row : ItemRow) → Contains (items_in c s name) row →
    Stored c s name row
stored c s name row h = by_queue (queue_named s name) refl (contains_in (items_in c s name) row h)
  where
    by_queue : (o : Option Queue) → queue_named s name ≡ o → In row (option_map_or (item_rows c s) o []) →
        Stored c s name row
    by_queue None e m = absurd m
    by_queue (Some q) e m =
        let x = found (λ (o : Queue). same_name o.name name) s.queues q e in
        let p = from_map (row_of s.builds) (places c s q) row m in
        let i = item_of_place c s q p.0 p.1 in
        record {
          queue = q;
          first = e;
          there = x.0;
          named = x.1;
          item = subst (λ y. In y q.items) (ap (λ r. r.item) i.3 ∙ ap item_of p.2) i.2;
        }
