-- The items of a queue before the first that isn't failing, and the order that this one shows.
use Rattle.std.proofs.Common.{◌≡◌, ℕ, Bool, true, false, not, cond, Option, Some, None, List, [], ◌∷◌, ◌++◌, refl}
use Rattle.std.proofs.Common.{sym, ap, ◌∙◌, subst}
use Rattle.std.specs.Prelude.{Contains, find, option_and_then}
use Rattle.std.specs.Bool.{then_some}
use Rattle.std.specs.Option.{option_map_or}
use Rattle.std.proofs.lemmas.Option.{none-some}
use Rattle.gate_types.specs.declared.records.Build.{Build}
use Rattle.gate_types.specs.declared.records.Item.{Item as ItemRow}
use Rattle.gate_types.specs.Settings.{Settings}
use Rattle.gate_types.specs.State.{Item, Queue, State}
use Rattle.gate_types.specs.Line.{Place}
use Rattle.gate_types.specs.Standing.{is_failing, are_finished, next_ahead, places, all_places}
use Rattle.gate_types.specs.SubmitOrder.{order_of}
use Rattle.gate_types.specs.Rows.{row_of, item_of, item_rows}
use Rattle.gate_types.specs.Rising.{In}
use Rattle.gate_laws.proofs.Members.{in_contains, to_map}
use Rattle.gate_laws.proofs.Leads.{made}
use Rattle.gate_book_trait.specs.Reads.{queue_named, items_in, first_above}
use Rattle.gate_reads.specs.Orders.{order_in, IsRowOf, TellsOrder}
use Rattle.gate_reads.specs.Places.{IsAt}
use Rattle.gate_reads.proofs.KnownPlaces.{named_is, there_too}
use Rattle.gate_reads.proofs.Walking.{IsLeft, place_behind, places_from, step_along, end_along, rows_are}

abbrev passes : List Build → Place → Bool
passes bs p = not (is_failing bs p)

-- up to this serial all items are failing
pub record Passed (c : Settings) (s : State) (q : Queue) (above : ℕ) : Type 0 where
  pub rest : List Item
  pub left : IsLeft c s q above [] rest
  pub same : find (passes s.builds) (places c s q) ≡ find (passes s.builds) (places_from c s q [] rest)

pub passed_front : (c : Settings) (s : State) (q : Queue) → IsLeft c s q 0 [] q.items → Passed c s q 0
passed_front c s q l = record { rest = q.items; left = l; same = refl }

-- the order, by the first item that isn't failing
order_by : (c : Settings) (s : State) (q : Queue) (o : Option Place) → find (passes s.builds) (places c s q) ≡ o →
    order_of c s q ≡ option_and_then (λ p. then_some (are_finished s.builds p) (made q p)) o
order_by c s q o e = ap (option_and_then (λ p. then_some (are_finished s.builds p) (made q p))) e

pub passed_end : (c : Settings) (s : State) (q : Queue) (above : ℕ) → Passed c s q above →
    first_above above (item_rows c s q) ≡ None → order_of c s q ≡ None
passed_end c s q above h e =
    order_by c s q None (h.same ∙ ap (λ is. find (passes s.builds) (places_from c s q [] is))
    (end_along c s q above [] h.rest h.left e))

pub passed_next : (c : Settings) (s : State) (q : Queue) (above : ℕ) (row : ItemRow) → Passed c s q above →
    first_above above (item_rows c s q) ≡ Some row → row.failing ≡ true → Passed c s q row.serial
passed_next c s q above row h e f =
    let next = step_along c s q above [] h.rest row h.left e in
    let p = place_behind c s q [] next.item in
    let failing : is_failing s.builds p ≡ true = sym (ap (λ (r : ItemRow). r.failing) next.row_is) ∙ f in
    let ahead : next_ahead s.builds p ≡ [] = ap (λ t. cond t [] ([] ++ next.item ∷ [])) failing in
    let tail = places_from c s q (next_ahead s.builds p) next.after in
    record {
      rest = next.after;
      left = subst (λ a. IsLeft c s q row.serial a next.after) ahead next.left;
      same = h.same ∙ ap (λ is. find (passes s.builds) (places_from c s q [] is)) next.rest_is
          ∙ ap (λ t. cond (not t) (Some p) (find (passes s.builds) tail)) failing
          ∙ ap (λ a. find (passes s.builds) (places_from c s q a next.after)) ahead;
    }

-- the first that isn't failing
pub record IsHere (c : Settings) (s : State) (q : Queue) (row : ItemRow) : Type 0 where
  pub place : Place
  pub there : In place (places c s q)
  pub row_is : row ≡ row_of s.builds place
  pub order_is : order_of c s q ≡ then_some (are_finished s.builds place) (made q place)

pub passed_here : (c : Settings) (s : State) (q : Queue) (above : ℕ) (row : ItemRow) → Passed c s q above →
    first_above above (item_rows c s q) ≡ Some row → row.failing ≡ false → IsHere c s q row
passed_here c s q above row h e f =
    let next = step_along c s q above [] h.rest row h.left e in
    let p = place_behind c s q [] next.item in
    let failing : is_failing s.builds p ≡ false = sym (ap (λ (r : ItemRow). r.failing) next.row_is) ∙ f in
    record {
      place = p;
      there = next.there;
      row_is = next.row_is;
      order_is = order_by c s q (Some p)
          (h.same ∙ ap (λ is. find (passes s.builds) (places_from c s q [] is)) next.rest_is
          ∙ ap (λ t. cond (not t) (Some p) (find (passes s.builds)
          (places_from c s q (next_ahead s.builds p) next.after)))
          failing);
    }

-- ---- what is told of it

pub at_here : (c : Settings) (s : State) (name : List ℕ) (q : Queue) (row : ItemRow) → queue_named s name ≡ Some q →
    (here : IsHere c s q row) → IsAt c s row here.place
at_here c s name q row e here =
    record {
      there = in_contains (all_places c s) here.place
          (there_too c s name q here.place e here.there);
      row_is = here.row_is;
    }

-- the row of a place stands among those of its queue
pub stored_at : (c : Settings) (s : State) (name : List ℕ) (q : Queue) (p : Place) (row : ItemRow) →
    queue_named s name ≡ Some q → In p (places c s q) → row ≡ row_of s.builds p → Contains (items_in c s name) row
stored_at c s name q p row e m r =
    in_contains (items_in c s name) row
    (subst (In row) (sym (rows_are c s name q e))
    (subst (λ (i : ItemRow). In i (item_rows c s q)) (sym r) (to_map (row_of s.builds) (places c s q) p m)))

pub row_of_order : (c : Settings) (s : State) (name : List ℕ) (q : Queue) (p : Place) (row : ItemRow) →
    queue_named s name ≡ Some q → In p (places c s q) → row ≡ row_of s.builds p → IsRowOf c s name row (made q p)
row_of_order c s name q p row e m r = record {
  stored = stored_at c s name q p row e m r;
  queue = sym (named_is s name q e);
  item = ap item_of r;
}

pub tells_here : (c : Settings) (s : State) (name : List ℕ) (q : Queue) (row : ItemRow) (ended : Bool) →
    queue_named s name ≡ Some q → (here : IsHere c s q row) → ended ≡ are_finished s.builds here.place →
    TellsOrder c s name (then_some ended row) (order_in c s name)
tells_here c s name q row ended e here f =
    subst (TellsOrder c s name (then_some ended row))
    (sym (ap (option_and_then (order_of c s)) e ∙ here.order_is ∙ ap (λ t. then_some t (made q here.place)) (sym f)))
    (by_ended ended)
  where
    by_ended : (t : Bool) → TellsOrder c s name (then_some t row) (then_some t (made q here.place))
    by_ended true = row_of_order c s name q here.place row e here.there here.row_is
    by_ended false = tt

pub tells_none : (c : Settings) (s : State) (name : List ℕ) →
    ((q : Queue) → queue_named s name ≡ Some q → order_of c s q ≡ None) → TellsOrder c s name None (order_in c s name)
tells_none c s name h = by_queue (queue_named s name) refl
  where
    by_queue : (o : Option Queue) → queue_named s name ≡ o → TellsOrder c s name None (option_and_then (order_of c s) o)
    by_queue None e = tt
    by_queue (Some q) e = subst (TellsOrder c s name None) (sym (h q e)) tt

-- where a row is found, there is a queue
pub some_queue : (c : Settings) (s : State) (name : List ℕ) (above : ℕ) (row : ItemRow) →
    first_above above (items_in c s name) ≡ Some row → (q : Queue) × (queue_named s name ≡ Some q)
some_queue c s name above row e = by_queue (queue_named s name) refl
  where
    by_queue : (o : Option Queue) → queue_named s name ≡ o → (q : Queue) × (queue_named s name ≡ Some q)
    by_queue None k =
        absurd (none-some row (sym (ap (λ (o : Option Queue). first_above above
        (option_map_or (item_rows c s) o [])) k) ∙ e))
    by_queue (Some q) k = (q, k)
