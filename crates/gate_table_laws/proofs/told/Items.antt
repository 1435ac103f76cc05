-- The rows of the file's items are the items of the content's queues, each under its queue's name.
use Rattle.std.proofs.Common.{◌≡◌, ℕ, suc, ◌≤◌, Bool, true, false, cond, Option, Some, None, List, [], ◌∷◌, map}
use Rattle.std.proofs.Common.{length, refl, sym, ap, ◌∙◌, subst}
use Rattle.std.specs.Prelude.{◌==◌, filter, find, flat_map, option_map}
use Rattle.std.specs.Option.{option_map_or}
use Rattle.std.proofs.lemmas.Bool.{eqb-true}
use Rattle.gate_types.specs.declared.records.Item.{Item as ItemOfRow}
use Rattle.gate_types.specs.Names.{same_name}
use Rattle.gate_types.specs.Once.{Content}
use Rattle.gate_types.specs.Rows.{item_of, item_rows}
use Rattle.gate_types.specs.Settings.{Settings}
use Rattle.gate_types.specs.State.{Item, Queue, State}
use Rattle.gate_types.specs.Tables.{tables}
use Rattle.gate_types.specs.Rising.{In}
use Rattle.gate_types.proofs.NameLemmas.{same_name_is}
use Rattle.gate_schema.specs.Rows.{AreNamed, ItemRow, QueueRow, Stored}
use Rattle.gate_rows.specs.Matches.{Matches, items_of, placed}
use Rattle.gate_book_trait.specs.Reads.{items_in, queue_named, queued_items}
use Rattle.gate_book_trait.specs.declared.rows.QueuedItem.{QueuedItem}
use Rattle.gate_book_trait.proofs.ReadLemmas as read
use Rattle.gate_found_rows.specs.Asked.{queued_item_of}
use Rattle.gate_laws.proofs.Alone.{same_name_of}
use Rattle.gate_laws.proofs.Counts.{one_of, one_part, times}
use Rattle.gate_laws.proofs.Members.{flat_same, found, from_filter, from_flat, from_map, map_map, to_filter}
use Rattle.gate_laws.proofs.Members.{to_flat, to_map}
use Rattle.gate_laws.proofs.ItemRows.{items_of_rows}
use Rattle.gate_table_laws.proofs.told.Lists.{lone_found, same_find}

-- ---- the rows of one queue's items

-- a row is of an item of the queue
pub row_item : (c : Settings) (s : State) (q : Queue) (i : ItemOfRow) → In i (item_rows c s q) → In (item_of i) q.items
row_item c s q i m = subst (In (item_of i)) (items_of_rows c s q) (to_map item_of (item_rows c s q) i m)

-- ---- the items of all queues

-- where a number of items stands once over all queues, rows that have it are one
module _ (c : Settings) (s : State) (key : Item → ℕ)
    (once : (n : ℕ) → times n (flat_map (λ (q : Queue). map key q.items) s.queues) ≤ 1) where
  -- the number of a row
  abbrev pub key_of : ItemOfRow → ℕ
  key_of i = key (item_of i)

  -- those of a queue's rows
  abbrev pub keys_of : Queue → List ℕ
  keys_of q = map key_of (item_rows c s q)

  -- the rows of a queue have the numbers of its items
  pub keys_are : (q : Queue) → keys_of q ≡ map key q.items
  keys_are q = sym (map_map key item_of (item_rows c s q)) ∙ ap (map key) (items_of_rows c s q)

  -- rows of one number are one, of one queue
  pub row_alone : (q r : Queue) (i j : ItemOfRow) → In q s.queues → In r s.queues → In i (item_rows c s q) →
      In j (item_rows c s r) → key_of i ≡ key_of j → (q ≡ r) × (i ≡ j)
  row_alone q r i j mq mr mi mj e =
      let all = flat_same keys_of (λ (q : Queue). map key q.items) s.queues (λ q m. keys_are q) in
      let few = subst (λ l. times (key_of i) l ≤ 1) (sym all) (once (key_of i)) in
      let there = subst (λ n. In n (keys_of r)) (sym e) (to_map key_of (item_rows c s r) j mj) in
      let part = one_part (key_of i) keys_of s.queues q r few mq mr (to_map key_of (item_rows c s q) i mi) there in
      let same = sym part.0 in
      (part.0, one_of key_of (item_rows c s q) i j part.1 mi (subst (λ w. In j (item_rows c s w)) same mj) e)

-- an item with its queue's name is of a queue
pub queued_from : (c : Settings) (s : State) (k : QueuedItem) → In k (queued_items c s) →
    (q : Queue) × In q s.queues × (i : ItemOfRow) × In i (item_rows c s q) × ((record { queue = q.name; item = i }) ≡ k)
queued_from c s k m =
    let at = from_flat (λ (q : Queue). map (λ i. record { queue = q.name; item = i }) (item_rows c s q)) s.queues k m in
    let here = from_map (λ i. record { queue = at.0.name; item = i }) (item_rows c s at.0) k at.2 in
    (at.0, at.1, here.0, here.1, here.2)

-- and one of a queue is there with its name
pub queued_to : (c : Settings) (s : State) (q : Queue) (i : ItemOfRow) → In q s.queues → In i (item_rows c s q) →
    In (record { queue = q.name; item = i }) (queued_items c s)
queued_to c s q i mq mi =
    to_flat (λ (q : Queue). map (λ i. record { queue = q.name; item = i }) (item_rows c s q)) s.queues q
    (record { queue = q.name; item = i }) mq (to_map (λ i. record { queue = q.name; item = i }) (item_rows c s q) i mi)

-- ---- what the file holds of them

-- how often a name stands among the queues
pub names_placed : (c : Settings) (s : State) (name : List ℕ) (n : ℕ) (qs : List Queue) →
    length (filter (λ (q : QueueRow). same_name q.name name) (placed n (map (read.rows_of_queue c s) qs))) ≡
    length (filter (λ (q : Queue). same_name q.name name) qs)
names_placed c s name n [] = refl
names_placed c s name n (q ∷ qs) = by_name (same_name q.name name) (names_placed c s name (suc n) qs)
  where
    rows : List QueueRow
    rows = filter (λ (r : QueueRow). same_name r.name name) (placed (suc n) (map (read.rows_of_queue c s) qs))

    by_name : (t : Bool) → length rows ≡ length (filter (λ (r : Queue). same_name r.name name) qs) →
        length (cond t ((record { name = q.name; place = n; window = q.window }) ∷ rows) rows) ≡
        length (cond t (q ∷ filter (λ (r : Queue). same_name r.name name) qs)
        (filter (λ (r : Queue). same_name r.name name) qs))
    by_name true e = ap (λ m. suc m) e
    by_name false e = e

module _ (c : Settings) (x : Content) (b : Stored) (told : Matches b (tables c x)) where
  -- the items of a queue, in order
  pub items_are : (name : List ℕ) → items_of name b.items ≡ items_in c x.state name
  items_are name = told.queues_are.items_are name ∙ read.items_are c x name

  -- the queue of a row
  pub queue_of_row : (r : ItemRow) → In r b.items →
      (q : Queue) × In q x.state.queues × (q.name ≡ r.queue) × In r.item (item_rows c x.state q)
  queue_of_row r m =
      let itself = same_name_of r.queue r.queue refl in
      let here = to_filter (λ (y : ItemRow). same_name y.queue r.queue) b.items r m itself in
      let row = to_map (λ (y : ItemRow). y.item) (filter (λ (y : ItemRow). same_name y.queue r.queue) b.items) r here in
      by_queue (queue_named x.state r.queue) refl (subst (In r.item) (items_are r.queue) row)
    where
      by_queue : (o : Option Queue) → queue_named x.state r.queue ≡ o →
          In r.item (option_map_or (item_rows c x.state) o []) →
          (q : Queue) × In q x.state.queues × (q.name ≡ r.queue) × In r.item (item_rows c x.state q)
      by_queue None e n = absurd n
      by_queue (Some q) e n =
          let at = found (λ (q : Queue). same_name q.name r.queue) x.state.queues q e in
          (q, at.0, same_name_is q.name r.queue at.1, n)

  -- the row of an item of a queue
  pub row_of_queue : AreNamed b → (q : Queue) (i : ItemOfRow) → In q x.state.queues → In i (item_rows c x.state q) →
      In (record { queue = q.name; item = i }) b.items
  row_of_queue named q i mq mi =
      let few : length (filter (λ (r : Queue). same_name r.name q.name) x.state.queues) ≤ 1 =
      subst (λ n. n ≤ 1) (ap (λ l. length (filter (λ (r : QueueRow). same_name r.name q.name) l))
      told.queues_are.places ∙ names_placed c x.state q.name 0 x.state.queues) (named q.name) in
      let at : queue_named x.state q.name ≡ Some q =
      lone_found (λ (r : Queue). same_name r.name q.name) x.state.queues q mq (same_name_of q.name q.name refl)
      few in
      let here : In i (items_in c x.state q.name) =
      subst (λ o. In i (option_map_or (item_rows c x.state) o [])) (sym at) mi in
      let row = from_map (λ (r : ItemRow). r.item) (filter (λ (r : ItemRow). same_name r.queue q.name) b.items) i
      (subst (In i) (sym (items_are q.name)) here) in
      let there = from_filter (λ (r : ItemRow). same_name r.queue q.name) b.items row.0 row.1 in
      let name = same_name_is row.0.queue q.name there.1 in
      subst (λ r. In r b.items) (λ k. record { queue = name k; item = row.2 k }) there.0

  -- what is found of a number that stands once over all queues
  pub found_once : AreNamed b → (key : Item → ℕ) →
      ((n : ℕ) → times n (flat_map (λ (q : Queue). map key q.items) x.state.queues) ≤ 1) → (n : ℕ) →
      option_map queued_item_of (find (λ (r : ItemRow). key (item_of r.item) == n) b.items) ≡
      find (λ (k : QueuedItem). key (item_of k.item) == n) (queued_items c x.state)
  found_once named key once n =
      same_find queued_item_of (λ (r : ItemRow). key (item_of r.item) == n)
      (λ (k : QueuedItem). key (item_of k.item) == n) b.items (queued_items c x.state) (λ r. refl) to from one
    where
      to : (r : ItemRow) → In r b.items → In (queued_item_of r) (queued_items c x.state)
      to r m =
          let at = queue_of_row r m in
          subst (λ name. In (record { queue = name; item = r.item }) (queued_items c x.state)) at.2
          (queued_to c x.state at.0 r.item at.1 at.3)

      from : (k : QueuedItem) → In k (queued_items c x.state) → (r : ItemRow) × In r b.items × (queued_item_of r ≡ k)
      from k m =
          let at = queued_from c x.state k m in
          (record { queue = at.0.name; item = at.2 }, row_of_queue named at.0 at.2 at.1 at.3, at.4)

      one : (j k : QueuedItem) → In j (queued_items c x.state) → In k (queued_items c x.state) →
          key (item_of j.item) == n ≡ true → key (item_of k.item) == n ≡ true → j ≡ k
      one j k mj mk ej ek =
          let a = queued_from c x.state j mj in
          let d = queued_from c x.state k mk in
          let same : key (item_of a.2) ≡ key (item_of d.2) =
          ap (λ (z : QueuedItem). key (item_of z.item)) a.4 ∙ eqb-true (key (item_of j.item)) n ej
          ∙ sym (eqb-true (key (item_of k.item)) n ek) ∙ sym (ap (λ (z : QueuedItem). key (item_of z.item)) d.4) in
          let alone = row_alone c x.state key once a.0 d.0 a.2 d.2 a.1 d.1 a.3 d.3 same in
          sym a.4 ∙ (λ k. record { queue = (alone.0 k).name; item = alone.1 k }) ∙ d.4
