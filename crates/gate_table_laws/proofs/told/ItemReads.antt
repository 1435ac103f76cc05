-- What is asked of items, of the file's rows and of a content.
use Rattle.std.proofs.Common.{◌≡◌, ℕ, ◌≤◌, ◌&&◌, Option, Some, None, List, refl, ap, ◌∙◌, arith}
use Rattle.std.specs.Prelude.{◌==◌, nat_lt, filter, find, flat_map, option_map}
use Rattle.gate_types.specs.declared.records.Item.{Item}
use Rattle.gate_types.specs.Forms.{IsLawfulContent}
use Rattle.gate_types.specs.Once.{Content}
use Rattle.gate_types.specs.Settings.{Settings}
use Rattle.gate_types.specs.Tables.{tables}
use Rattle.gate_schema.specs.Rows.{AreNamed, ItemRow, Stored, item_key}
use Rattle.gate_rows.specs.Matches.{Matches}
use Rattle.gate_book_trait.specs.Reads as content
use Rattle.gate_book_trait.specs.declared.rows.QueuedItem.{QueuedItem}
use Rattle.gate_found_rows.specs.Asked as file
use Rattle.gate_laws.proofs.Alone.{changes_once, item_changes, item_serials, serials_once}
use Rattle.gate_laws.proofs.Counts.{times}
use Rattle.gate_table_laws.proofs.told.ChangeReads.{needs_are}
use Rattle.gate_table_laws.proofs.told.Items.{found_once, items_are}

-- the item alone, of an item with its queue's name
item_alone : (o : Option ItemRow) →
    option_map (λ (r : ItemRow). r.item) o ≡ option_map (λ (k : QueuedItem). k.item) (option_map file.queued_item_of o)
item_alone None = refl
item_alone (Some r) = refl

module _ (c : Settings) (x : Content) (b : Stored) (lawful : IsLawfulContent c x) (told : Matches b (tables c x)) where
  -- the item of a serial
  pub item_is : AreNamed b → (serial : ℕ) → file.stored_item_at b serial ≡ content.item_at c x.state serial
  item_is named serial =
      item_alone (find (λ (r : ItemRow). item_key r == serial) b.items)
      ∙ ap (option_map (λ (k : QueuedItem). k.item)) (found_once c x b told named (λ i. i.serial) once serial)
    where
      once : (n : ℕ) → times n (flat_map item_serials x.state.queues) ≤ 1
      once n = let few = serials_once c x.state lawful.lawful.sound n in omega (arith, few)

  -- the item of a change, with its queue's name
  pub queued_is : AreNamed b → (n : ℕ) → file.stored_queued_of b n ≡ content.queued_of c x.state n
  queued_is named = found_once c x b told named (λ i. i.change) once
    where
      once : (n : ℕ) → times n (flat_map item_changes x.state.queues) ≤ 1
      once n = let few = changes_once c x.state lawful.lawful.sound n in omega (arith, few)

module _ (c : Settings) (x : Content) (b : Stored) (told : Matches b (tables c x)) where
  -- the items above a serial whose changes need another
  pub needing_is : (name : List ℕ) (n serial : ℕ) →
      file.stored_items_needing b name n serial ≡ content.items_needing x.state n serial (content.items_in c x.state name)
  needing_is name n serial =
      λ k. filter (λ (i : Item). nat_lt serial i.serial && needs_are c x b told n i.change k) (items_are c x b told name k)
