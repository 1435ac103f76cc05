-- Which items show an order: those that aren't failing, have nothing ahead, and whose jobs have ended.
use Rattle.std.proofs.Common.{◌≡◌, ℕ, suc, Bool, true, false, not, ◌&&◌, cond, Option, Some, List, [], ◌∷◌, ◌++◌, map}
use Rattle.std.proofs.Common.{length, refl, sym, ap, ◌∙◌, arith}
use Rattle.std.specs.Prelude.{◌==◌, filter, find, filter_map, is_some, option_map, option_and_then}
use Rattle.std.specs.Bool.{then_some}
use Rattle.std.specs.List.{cons_option, flat_map}
use Rattle.std.proofs.lemmas.Bool.{ne_eqb}
use Rattle.std.proofs.lemmas.List.{map-append}
use Rattle.std.proofs.lemmas.List.Elements.{filter-append}
use Rattle.std.proofs.lemmas.List.Concat.{flat_map-cons}
use Rattle.gate_types.specs.declared.records.Build.{Build}
use Rattle.gate_types.specs.Settings.{Settings}
use Rattle.gate_types.specs.State.{Item, Queue, State}
use Rattle.gate_types.specs.Line.{Place}
use Rattle.gate_types.specs.Standing.{is_failing, are_finished, with_ahead, next_ahead, places_after, place_of}
use Rattle.gate_types.specs.SubmitOrder.{Order, order_of, orders, shown_order, is_submitting}
use Rattle.gate_types.specs.Lawful.{IsSound}
use Rattle.gate_book_trait.proofs.Finding.{find_map}
use Rattle.gate_reads.specs.Places.{is_shown}
use Rattle.gate_reads.proofs.Found.{any_found, some_mapped, found_passing}
use Rattle.gate_reads.proofs.Stood.{Stood, stood_in, stood, serial_of, change_of, serial_once, change_once}

-- ---- the orders of all queues

abbrev pub order_as : Stood → Order
order_as x = record { queue = x.queue; item = x.place.item }

abbrev pub shows : State → Stood → Bool
shows s x = is_shown s.builds x.place

abbrev shown_in : List Build → Queue → List Place → List Stood
shown_in bs q ps = filter (λ x. is_shown bs x.place) (map (λ p. record { queue = q; place = p }) ps)

none_behind : (bs : List Build) (q : Queue) (i : Item) (is : List Item) (ps : List Place) →
    shown_in bs q (places_after bs (i ∷ is) ps) ≡ []
none_behind bs q i is [] = refl
none_behind bs q i is (p ∷ ps) =
    let here = with_ahead (i ∷ is) p in
    let rest = shown_in bs q (places_after bs (next_ahead bs here) ps) in
    ap (λ b. cond b (record { queue = q; place = here } ∷ rest) rest)
    (hidden (is_failing bs here) (length (i ∷ is) == 0)
    (are_finished bs here) (ne_eqb (suc (length is)) 0 (λ z. omega (arith, z))))
    ∙ by_failing (is_failing bs here) (λ js. none_behind bs q i js ps)
  where
    hidden : (f e d : Bool) → e ≡ false → not f && e && d ≡ false
    hidden true e d h = refl
    hidden false e d h = ap (λ b. b && d) h

    by_failing : (t : Bool) → ((js : List Item) → shown_in bs q (places_after bs (i ∷ js) ps) ≡ []) →
        shown_in bs q (places_after bs (cond t (i ∷ is) ((i ∷ is) ++ p.item ∷ [])) ps) ≡ []
    by_failing true rest = rest is
    by_failing false rest = rest (is ++ p.item ∷ [])

order_first : (bs : List Build) (q : Queue) (ps : List Place) (rest : List Order) →
    cons_option (option_and_then (λ p. then_some (are_finished bs p) (record { queue = q; item = p.item }))
    (find (λ p. not (is_failing bs p)) (places_after bs [] ps))) rest
    ≡ map order_as (shown_in bs q (places_after bs [] ps)) ++ rest
order_first bs q [] rest = refl
order_first bs q (p ∷ ps) rest = by_failing (is_failing bs here) (order_first bs q ps rest)
  where
    here : Place
    here = with_ahead [] p

    order : Place → Option Order
    order r = then_some (are_finished bs r) (record { queue = q; item = r.item })

    by_ended : (d : Bool) (behind : List Stood) → behind ≡ [] →
        cons_option (then_some d (record { queue = q; item = p.item })) rest
        ≡ map order_as (cond d (record { queue = q; place = here } ∷ behind) behind) ++ rest
    by_ended true behind e = ap (λ xs. record { queue = q; item = p.item } ∷ (map order_as xs ++ rest)) (sym e)
    by_ended false behind e = ap (λ xs. map order_as xs ++ rest) (sym e)

    by_failing : (t : Bool) → cons_option (option_and_then order
        (find (λ r. not (is_failing bs r)) (places_after bs [] ps))) rest
        ≡ map order_as (shown_in bs q (places_after bs [] ps)) ++ rest →
        (let after = places_after bs (cond t [] (p.item ∷ [])) ps in
        cons_option (option_and_then order (cond (not t) (Some here) (find (λ r. not (is_failing bs r)) after))) rest
        ≡ map order_as (cond (not t && 0 == 0 && are_finished bs here)
        (record { queue = q; place = here } ∷ shown_in bs q after) (shown_in bs q after)) ++ rest)
    by_failing true r = r
    by_failing false r =
        by_ended (are_finished bs here) (shown_in bs q (places_after bs (p.item ∷ []) ps))
        (none_behind bs q p.item [] ps)

orders_are : (c : Settings) (s : State) → orders c s ≡ map order_as (filter (shows s) (stood c s))
orders_are c s = along s.queues
  where
    along : (qs : List Queue) → filter_map (order_of c s) qs
        ≡ map order_as (filter (shows s) (flat_map (stood_in c s) qs))
    along [] = refl
    along (q ∷ qs) =
        ap (cons_option (order_of c s q)) (along qs)
        ∙ order_first s.builds q (map (place_of c s q) q.items)
        (map order_as (filter (shows s) (flat_map (stood_in c s) qs)))
        ∙ sym (map-append order_as (filter (shows s) (stood_in c s q)) (filter (shows s) (flat_map (stood_in c s) qs)))
        ∙ ap (map order_as) (sym (filter-append (shows s) (stood_in c s q) (flat_map (stood_in c s) qs))
        ∙ ap (filter (shows s)) (sym (flat_map-cons (stood_in c s) q qs)))

-- ---- the order of a number, and of a change

-- what is found, if its order is shown
abbrev pub if_shown : State → Option Stood → Option Stood
if_shown s o = option_and_then (λ x. then_some (shows s x) x) o

pub shown_is : (c : Settings) (s : State) → IsSound c s → (n : ℕ) →
    shown_order c s n ≡ option_map order_as (if_shown s (find (λ x. serial_of x == n) (stood c s)))
shown_is c s h n =
    ap (find (λ (o : Order). o.item.serial == n)) (orders_are c s)
    ∙ find_map order_as (λ o. o.item.serial == n) (filter (shows s) (stood c s))
    ∙ ap (option_map order_as) (found_passing serial_of (shows s) n (stood c s) (serial_once c s h n))

pub submitting_is : (c : Settings) (s : State) → IsSound c s → (n : ℕ) →
    is_submitting c s n ≡ is_some (if_shown s (find (λ x. change_of x == n) (stood c s)))
submitting_is c s h n =
    any_found (λ (o : Order). o.item.change == n) (orders c s)
    ∙ ap (λ os. is_some (find (λ (o : Order). o.item.change == n) os)) (orders_are c s)
    ∙ ap is_some (find_map order_as (λ o. o.item.change == n) (filter (shows s) (stood c s)))
    ∙ some_mapped order_as (find (λ x. change_of x == n) (filter (shows s) (stood c s)))
    ∙ ap is_some (found_passing change_of (shows s) n (stood c s) (change_once c s h n))
