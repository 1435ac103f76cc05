-- The rows of a sound state's queue: in order, and each of an item.
use Rattle.std.proofs.Common.{◌≡◌, ℕ, ◌≤◌, Bool, Option, Some, None, List, [], ◌∷◌, map, refl, sym, ap, ◌∙◌, subst}
use Rattle.std.proofs.Common.{arith, inl, inr, flat_map, true≢false}
use Rattle.std.specs.Prelude.{find, ◌==◌, nat_le, true}
use Rattle.std.specs.List.Sorted.{IsStrictlyIncreasing}
use Rattle.std.specs.Option.{option_map_or}
use Rattle.std.proofs.lemmas.Bool.{leb-true, eqb-true, eq-eqb}
use Rattle.gate_types.specs.declared.records.Item.{Item as ItemRow}
use Rattle.gate_types.specs.declared.records.Build.{Build}
use Rattle.gate_types.specs.Names.{same_name}
use Rattle.gate_types.specs.Settings.{Settings}
use Rattle.gate_types.specs.State.{Item, Queue, State}
use Rattle.gate_types.specs.Line.{Place}
use Rattle.gate_types.specs.Standing.{place_of, places_after, with_ahead, next_ahead}
use Rattle.gate_types.specs.Rows.{row_of, item_rows}
use Rattle.gate_types.specs.Lawful.{IsSound, serials_of, drawn_serials}
use Rattle.gate_types.specs.Keys.{serial_of_item}
use Rattle.gate_types.specs.Rising.{In}
use Rattle.gate_book_trait.specs.declared.rows.QueuedItem.{QueuedItem}
use Rattle.gate_book_trait.specs.Reads.{queue_named, items_in, queued_items, queued_of}
use Rattle.gate_laws.proofs.Members.{every, found, not_found, from_map, to_map, from_flat, to_flat, to_left}
use Rattle.gate_laws.proofs.Rising.{Rising, rising}
use Rattle.gate_laws.proofs.Alone.{change_alone}
use Rattle.gate_admission.proofs.QueueItems.{at_there}

-- ---- serials

serials_behind : (builds : List Build) (ahead : List Item) (ps : List Place) →
    map serial_of_item (map (row_of builds) (places_after builds ahead ps)) ≡ map (λ p. p.item.serial) ps
serials_behind builds ahead [] = refl
serials_behind builds ahead (p ∷ ps) =
    ap (λ ns. p.item.serial ∷ ns) (serials_behind builds (next_ahead builds (with_ahead ahead p)) ps)

place_serials : (c : Settings) (s : State) (q : Queue) (is : List Item) →
    map (λ (p : Place). p.item.serial) (map (place_of c s q) is) ≡ map (λ i. i.serial) is
place_serials c s q [] = refl
place_serials c s q (i ∷ is) = ap (λ ns. i.serial ∷ ns) (place_serials c s q is)

pub queue_in : (s : State) (name : List ℕ) (q : Queue) → queue_named s name ≡ Some q → In q s.queues
queue_in s name q e = (found (λ (r : Queue). same_name r.name name) s.queues q e).0

pub rows_rise : (c : Settings) (s : State) (q : Queue) → IsSound c s → In q s.queues →
    Rising serial_of_item (item_rows c s q)
rows_rise c s q sound there =
    rising serial_of_item (item_rows c s q)
    (subst IsStrictlyIncreasing (sym (serials_behind s.builds [] (map (place_of c s q) q.items)
    ∙ place_serials c s q q.items))
    (every (λ (r : Queue). IsStrictlyIncreasing (map (λ i. i.serial) r.items)) s.queues sound.items_rise q there))

pub items_rise : (c : Settings) (s : State) (name : List ℕ) → IsSound c s → Rising serial_of_item (items_in c s name)
items_rise c s name sound = by_found (queue_named s name) refl
  where
    by_found : (o : Option Queue) → queue_named s name ≡ o → Rising serial_of_item (option_map_or (item_rows c s) o [])
    by_found None e = tt
    by_found (Some q) e = rows_rise c s q sound (queue_in s name q e)

-- ---- the item of a row

pub record IsRowOf (q : Queue) (r : ItemRow) : Type 0 where
  pub item : Item
  pub there : In item q.items
  pub serial : item.serial ≡ r.serial
  pub change : item.change ≡ r.change

row_behind : (c : Settings) (s : State) (q : Queue) (ahead is : List Item) (r : ItemRow) →
    In r (map (row_of s.builds) (places_after s.builds ahead (map (place_of c s q) is))) →
    (i : Item) × In i is × (i.serial ≡ r.serial) × (i.change ≡ r.change)
row_behind c s q ahead [] r m = absurd m
row_behind c s q ahead (i ∷ is) r m = elim m [
  | inl e ↦ (i, inl refl, ap (λ (x : ItemRow). x.serial) e, ap (λ (x : ItemRow). x.change) e)
  | inr n ↦
      (let rest = row_behind c s q (next_ahead s.builds (with_ahead ahead (place_of c s q i))) is r n in
      (rest.0, inr rest.1, rest.2, rest.3))
]

pub row_is_of : (c : Settings) (s : State) (q : Queue) (r : ItemRow) → In r (item_rows c s q) → IsRowOf q r
row_is_of c s q r m =
    let at = row_behind c s q [] q.items r m in record { item = at.0; there = at.1; serial = at.2; change = at.3 }

-- a change stands in one row of a queue
pub row_once : (c : Settings) (s : State) (q : Queue) → IsSound c s → In q s.queues → (r t : ItemRow) →
    In r (item_rows c s q) → In t (item_rows c s q) → r.change ≡ t.change → r ≡ t
row_once c s q sound there r t m n e =
    let i = row_is_of c s q r m in
    let j = row_is_of c s q t n in
    let same = (change_alone c s sound q q i.item j.item there there i.there j.there (i.change ∙ e ∙ sym j.change)).1 in
    let serials : r.serial ≡ t.serial = sym i.serial ∙ ap (λ (k : Item). k.serial) same ∙ j.serial in
    let up = rows_rise c s q sound there in
    some_inj r t (sym (at_there (item_rows c s q) r up m)
    ∙ ap (λ k. find (λ (x : ItemRow). x.serial == k) (item_rows c s q)) serials
    ∙ at_there (item_rows c s q) t up n)
  where
    some_inj : (a b : ItemRow) → Some a ≡ Some b → a ≡ b
    some_inj a b f = ap (λ (o : Option ItemRow). option_map_or (λ x. x) o a) f

-- its row is the one that is found by its change
pub stored_tells : (c : Settings) (s : State) (name : List ℕ) (q : Queue) (r : ItemRow) → IsSound c s →
    queue_named s name ≡ Some q → In r (item_rows c s q) →
    (k : QueuedItem) × (queued_of c s r.change ≡ Some k) × (k.item.serial ≡ r.serial)
stored_tells c s name q r sound named m = by_found (queued_of c s r.change) refl
  where
    all : List QueuedItem
    all = queued_items c s

    rows : Queue → List QueuedItem
    rows p = map (λ i. record { queue = p.name; item = i }) (item_rows c s p)

    there : In q s.queues
    there = queue_in s name q named

    test : QueuedItem → Bool
    test k = k.item.change == r.change

    by_found : (o : Option QueuedItem) → find test all ≡ o →
        (k : QueuedItem) × (o ≡ Some k) × (k.item.serial ≡ r.serial)
    by_found None e =
        let own : In (record { queue = q.name; item = r }) all =
        to_flat rows s.queues q (record { queue = q.name; item = r }) there
        (to_map (λ i. record { queue = q.name; item = i }) (item_rows c s q) r m) in
        absurd (true≢false (sym (eq-eqb r.change r.change refl)
        ∙ not_found test all e (record { queue = q.name; item = r }) own))
    by_found (Some k) e =
        let at = found test all k e in
        let part = from_flat rows s.queues k at.0 in
        let row = from_map (λ i. record { queue = part.0.name; item = i }) (item_rows c s part.0) k part.2 in
        let i = row_is_of c s part.0 row.0 row.1 in
        let j = row_is_of c s q r m in
        let row_is : row.0 ≡ k.item = ap (λ (x : QueuedItem). x.item) row.2 in
        let changes : i.item.change ≡ j.item.change =
        i.change ∙ ap (λ (x : ItemRow). x.change) row_is ∙ eqb-true k.item.change r.change at.1 ∙ sym j.change in
        let same = (change_alone c s sound part.0 q i.item j.item part.1 there i.there j.there changes).1 in
        (k, refl, sym (i.serial ∙ ap (λ (x : ItemRow). x.serial) row_is) ∙ ap (λ (x : Item). x.serial) same ∙ j.serial)

-- the serials of a queue are drawn
pub row_drawn : (c : Settings) (s : State) (q : Queue) (r : ItemRow) → IsSound c s → In q s.queues →
    In r (item_rows c s q) → r.serial ≤ s.counters.order
row_drawn c s q r sound there m =
    let i = row_is_of c s q r m in
    let own : In i.item.serial (serials_of q) =
    to_left (map (λ (x : Item). x.serial) q.items) (map (λ x. x.serial) q.reports) i.item.serial
    (to_map (λ (x : Item). x.serial) q.items i.item i.there) in
    let all : In i.item.serial (drawn_serials s) =
    to_left (flat_map serials_of s.queues) (map (λ (b : Build). b.serial) s.builds) i.item.serial
    (to_flat serials_of s.queues q i.item.serial there own) in
    let low = leb-true i.item.serial s.counters.order
    (every (λ n. nat_le n s.counters.order ≡ true) (drawn_serials s) sound.serials_are_drawn i.item.serial all) in
    let e = i.serial in
    omega (arith, low, e)
