-- The items of all queues, each at its place in its queue, and what is found of them by key.
use Rattle.std.proofs.Common.{◌≡◌, ℕ, ◌≤◌, Bool, true, false, ◌||◌, cond, Option, Some, None, List, [], ◌∷◌, map}
use Rattle.std.proofs.Common.{refl, sym, ap, ◌∙◌, subst, arith}
use Rattle.std.specs.Prelude.{◌==◌, find, is_some, option_map}
use Rattle.std.specs.Option.{option_or}
use Rattle.std.specs.List.{flat_map}
use Rattle.std.proofs.lemmas.List.Concat.{flat_map-cons}
use Rattle.std.proofs.lemmas.List.Folds.{find-append}
use Rattle.gate_types.specs.declared.records.Build.{Build}
use Rattle.gate_types.specs.declared.records.Item.{Item as ItemRow}
use Rattle.gate_types.specs.Settings.{Settings}
use Rattle.gate_types.specs.State.{Item, Queue, State, has_change, is_queued}
use Rattle.gate_types.specs.Line.{Place}
use Rattle.gate_types.specs.Standing.{places, places_after, place_of, with_ahead, next_ahead, all_places}
use Rattle.gate_types.specs.Rows.{row_of, item_rows}
use Rattle.gate_types.specs.Lawful.{IsSound}
use Rattle.gate_types.specs.Rising.{In}
use Rattle.gate_laws.specs.Touch.{queue_of_change}
use Rattle.gate_laws.proofs.Members.{map_map, flat_same, from_flat, from_map, to_flat, in_contains}
use Rattle.gate_laws.proofs.Counts.{times}
use Rattle.gate_laws.proofs.Alone.{map-flat, serials_once, changes_once}
use Rattle.gate_book_trait.specs.declared.rows.QueuedItem.{QueuedItem}
use Rattle.gate_book_trait.specs.Reads.{queued_items, queued_of, item_at}
use Rattle.gate_book_trait.proofs.Finding.{find_map}
use Rattle.gate_reads.specs.Places.{IsAt}
use Rattle.gate_reads.proofs.Found.{any_found, some_mapped}

pub record Stood : Type 0 where
  pub queue : Queue
  pub place : Place

-- those of a queue
abbrev pub stood_in : Settings → State → Queue → List Stood
stood_in c s q = map (λ p. record { queue = q; place = p }) (places c s q)

abbrev pub stood : Settings → State → List Stood
stood c s = flat_map (stood_in c s) s.queues

-- the row that a book has of one
abbrev pub queued_as : State → Stood → QueuedItem
queued_as s x = record { queue = x.queue.name; item = row_of s.builds x.place }

pub stood_there : (c : Settings) (s : State) (x : Stood) → In x (stood c s) →
    In x.queue s.queues × In x.place (places c s x.queue)
stood_there c s x m =
    let q = from_flat (stood_in c s) s.queues x m in
    let p = from_map (λ r. record { queue = q.0; place = r }) (places c s q.0) x q.2 in
    subst (λ (y : Stood). In y.queue s.queues × In y.place (places c s y.queue)) p.2 (q.1, p.1)

pub at_stood : (c : Settings) (s : State) (x : Stood) (row : ItemRow) → In x (stood c s) →
    row ≡ row_of s.builds x.place → IsAt c s row x.place
at_stood c s x row m r =
    let there = stood_there c s x m in
    record {
      there = in_contains (all_places c s) x.place (to_flat (places c s) s.queues x.queue x.place there.0 there.1);
      row_is = r;
    }

-- ---- each key stands once

place_keys : (key : Item → ℕ) (c : Settings) (s : State) (q : Queue) (bs : List Build) (ahead is : List Item) →
    map (λ p. key p.item) (places_after bs ahead (map (place_of c s q) is)) ≡ map key is
place_keys key c s q bs ahead [] = refl
place_keys key c s q bs ahead (i ∷ is) =
    ap (λ ns. key i ∷ ns) (place_keys key c s q bs (next_ahead bs (with_ahead ahead (place_of c s q i))) is)

keys_are : (key : Item → ℕ) (c : Settings) (s : State) →
    map (λ x. key x.place.item) (stood c s) ≡ flat_map (λ q. map key q.items) s.queues
keys_are key c s =
    map-flat (λ (x : Stood). key x.place.item) (stood_in c s) s.queues
    ∙ flat_same (λ q. map (λ (x : Stood). key x.place.item) (stood_in c s q)) (λ q. map key q.items) s.queues
    (λ q m. map_map (λ (x : Stood). key x.place.item) (λ p. record { queue = q; place = p }) (places c s q)
    ∙ place_keys key c s q s.builds [] q.items)

abbrev pub serial_of : Stood → ℕ
serial_of x = x.place.item.serial

abbrev pub change_of : Stood → ℕ
change_of x = x.place.item.change

pub serial_once : (c : Settings) (s : State) → IsSound c s → (n : ℕ) → times n (map serial_of (stood c s)) ≤ 1
serial_once c s h n =
    let once = serials_once c s h n in
    let same = ap (times n) (keys_are (λ i. i.serial) c s) in
    omega (arith, once, same)

pub change_once : (c : Settings) (s : State) → IsSound c s → (n : ℕ) → times n (map change_of (stood c s)) ≤ 1
change_once c s h n =
    let once = changes_once c s h n in
    let same = ap (times n) (keys_are (λ i. i.change) c s) in
    omega (arith, once, same)

-- ---- what a book finds by key

pub queued_are : (c : Settings) (s : State) → queued_items c s ≡ map (queued_as s) (stood c s)
queued_are c s =
    flat_same (λ q. map (λ i. record { queue = q.name; item = i }) (item_rows c s q))
    (λ q. map (queued_as s) (stood_in c s q)) s.queues
    (λ q m. map_map (λ i. record { queue = q.name; item = i }) (row_of s.builds) (places c s q)
    ∙ sym (map_map (queued_as s) (λ p. record { queue = q; place = p }) (places c s q)))
    ∙ sym (map-flat (queued_as s) (stood_in c s) s.queues)

pub queued_is : (c : Settings) (s : State) (n : ℕ) →
    queued_of c s n ≡ option_map (queued_as s) (find (λ x. change_of x == n) (stood c s))
queued_is c s n =
    ap (find (λ (k : QueuedItem). k.item.change == n)) (queued_are c s)
    ∙ find_map (queued_as s) (λ k. k.item.change == n) (stood c s)

pub item_is : (c : Settings) (s : State) (n : ℕ) →
    item_at c s n ≡ option_map (λ x. row_of s.builds x.place) (find (λ x. serial_of x == n) (stood c s))
item_is c s n =
    ap (option_map (λ (k : QueuedItem). k.item)) (ap (find (λ (k : QueuedItem). k.item.serial == n)) (queued_are c s)
    ∙ find_map (queued_as s) (λ k. k.item.serial == n) (stood c s))
    ∙ by_found (find (λ x. serial_of x == n) (stood c s))
  where
    by_found : (o : Option Stood) → option_map (λ (k : QueuedItem). k.item) (option_map (queued_as s) o)
        ≡ option_map (λ x. row_of s.builds x.place) o
    by_found None = refl
    by_found (Some x) = refl

-- ---- the queue where a change stands

in_queue : (c : Settings) (s : State) (q : Queue) (n : ℕ) (ahead is : List Item) →
    option_map (λ (x : Stood). x.queue.name) (find (λ x. change_of x == n)
    (map (λ p. record { queue = q; place = p }) (places_after s.builds ahead (map (place_of c s q) is))))
    ≡ cond (has_change is n) (Some q.name) None
in_queue c s q n ahead [] = refl
in_queue c s q n ahead (i ∷ is) =
    by_change (i.change == n) _ (in_queue c s q n (next_ahead s.builds (with_ahead ahead (place_of c s q i))) is)
  where
    here : Stood
    here = record { queue = q; place = with_ahead ahead (place_of c s q i) }

    by_change : (t : Bool) (o : Option Stood) →
        option_map (λ (x : Stood). x.queue.name) o ≡ cond (has_change is n) (Some q.name) None →
        option_map (λ (x : Stood). x.queue.name) (cond t (Some here) o) ≡ cond (t || has_change is n) (Some q.name) None
    by_change true o r = refl
    by_change false o r = r

pub queue_is : (c : Settings) (s : State) (n : ℕ) →
    queue_of_change s n ≡ option_map (λ x. x.queue.name) (find (λ x. change_of x == n) (stood c s))
queue_is c s n = along s.queues
  where
    name_of : Option Stood → Option (List ℕ)
    name_of o = option_map (λ x. x.queue.name) o

    found_in : List Stood → Option Stood
    found_in xs = find (λ x. change_of x == n) xs

    or_named : (o r : Option Stood) → name_of (option_or o r) ≡ option_or (name_of o) (name_of r)
    or_named None r = refl
    or_named (Some x) r = refl

    by_queue : (t : Bool) (q : Queue) (o : Option Queue) (r : Option Stood) →
        option_map (λ (x : Queue). x.name) o ≡ name_of r →
        option_map (λ (x : Queue). x.name) (cond t (Some q) o) ≡ option_or (cond t (Some q.name) None) (name_of r)
    by_queue true q o r e = refl
    by_queue false q o r e = e

    along : (qs : List Queue) → option_map (λ q. q.name) (find (λ q. has_change q.items n) qs)
        ≡ name_of (found_in (flat_map (stood_in c s) qs))
    along [] = refl
    along (q ∷ qs) =
        by_queue (has_change q.items n) q (find (λ r. has_change r.items n) qs)
        (found_in (flat_map (stood_in c s) qs)) (along qs)
        ∙ ap (λ o. option_or o (name_of (found_in (flat_map (stood_in c s) qs)))) (sym (in_queue c s q n [] q.items))
        ∙ sym (or_named (found_in (stood_in c s q)) (found_in (flat_map (stood_in c s) qs)))
        ∙ ap name_of (sym (find-append (λ x. change_of x == n) (stood_in c s q) (flat_map (stood_in c s) qs))
        ∙ ap found_in (sym (flat_map-cons (stood_in c s) q qs)))

pub is_queued_is : (s : State) (n : ℕ) → is_queued s n ≡ is_some (queue_of_change s n)
is_queued_is s n =
    any_found (λ q. has_change q.items n) s.queues
    ∙ sym (some_mapped (λ (q : Queue). q.name) (find (λ q. has_change q.items n) s.queues))
