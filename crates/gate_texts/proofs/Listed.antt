-- The orders of queues, one after another.
use Rattle.std.proofs.Common.{◌≡◌, ℕ, suc, ◌+◌, Option, Some, None, List, [], ◌∷◌, ◌++◌, map, drop, refl, sym, ap}
use Rattle.std.proofs.Common.{◌∙◌, append_assoc, append-nil, arith}
use Rattle.std.specs.Prelude.{filter_map, option_map, option_and_then, unwrap_or}
use Rattle.gate_types.specs.declared.records.Change.{Change}
use Rattle.gate_types.specs.declared.records.Item.{Item as ItemRow}
use Rattle.gate_types.specs.declared.records.Stage.TheVariants as stage
use Rattle.std.specs.List.{cons_option}
use Rattle.gate_types.specs.Settings.{Settings}
use Rattle.gate_types.specs.State.{Item, State, known_change, change_of, known_or_closed}
use Rattle.gate_types.specs.SubmitOrder.{Order, order_of, orders}
use Rattle.gate_types.specs.JsonText.{joined, array}
use Rattle.gate_types.specs.OrderList.{shown, order_list_text}
use Rattle.gate_reads.specs.Orders.{order_in, IsRowOf, TellsOrder}
use Rattle.gate_reads.proofs.Queues.{IsThere}
use Rattle.gate_texts.specs.Listed.{order_piece, comma_behind, with_order}

-- ---- one order

project_told : (s : State) (n : ℕ) (known : Option Change) → known ≡ known_change s n →
    (known_or_closed known).project ≡ (change_of s n).project
project_told s n known e = ap (λ (o : Option Change). (known_or_closed o).project) e ∙ by_known (known_change s n)
  where
    by_known : (o : Option Change) → (known_or_closed o).project
        ≡ (unwrap_or o (record { number = n; project = []; revision = 0; stage = stage.Closed; needs = [] })).project
    by_known None = refl
    by_known (Some k) = refl

pub order_told : (c : Settings) (s : State) (name : List ℕ) (i : ItemRow) (o : Order) (known : Option Change) →
    IsRowOf c s name i o → known ≡ known_change s i.change →
    order_piece i (known_or_closed known).project name [] ≡ shown s o []
order_told c s name i o known at e =
    (λ k. order_piece i (project_told s i.change known e k) (at.queue k) [])
    ∙ ap (λ (j : Item). shown s (record { queue = o.queue; item = j }) []) at.item

pub told_some : (c : Settings) (s : State) (name : List ℕ) (i : ItemRow) (o : Option Order) (text : List ℕ) →
    TellsOrder c s name (Some i) o → ((r : Order) → IsRowOf c s name i r → text ≡ shown s r []) →
    Some text ≡ option_map (λ r. shown s r []) o
told_some c s name i (Some r) text t h = ap Some (h r t)
told_some c s name i None text t h = absurd t

pub told_none : (c : Settings) (s : State) (name : List ℕ) (o : Option Order) → TellsOrder c s name None o →
    None ≡ option_map (λ r. shown s r []) o
told_none c s name (Some r) t = absurd t
told_none c s name None t = refl

-- ---- commas

shown-rest : (s : State) (o : Order) (rest : List ℕ) → shown s o rest ≡ shown s o [] ++ rest
shown-rest s o rest = simp append_assoc

pub joined-rest : (s : State) (os : List Order) (rest : List ℕ) →
    joined (map (shown s) os) rest ≡ joined (map (shown s) os) [] ++ rest
joined-rest s [] rest = refl
joined-rest s (x ∷ []) rest = shown-rest s x rest
joined-rest s (x ∷ y ∷ ys) rest =
    let behind = joined (map (shown s) (y ∷ ys)) [] in
    ap (λ l. shown s x (44 ∷ l)) (joined-rest s (y ∷ ys) rest)
    ∙ shown-rest s x (44 ∷ (behind ++ rest))
    ∙ sym (ap (λ l. l ++ rest) (shown-rest s x (44 ∷ behind)) ∙ append_assoc (shown s x []) (44 ∷ behind) rest)

comma_some : (s : State) (y : Order) (ys : List Order) →
    comma_behind (joined (map (shown s) (y ∷ ys)) []) ≡ 44 ∷ []
comma_some s y [] = refl
comma_some s y (z ∷ zs) = refl

joined-push : (s : State) (os : List Order) (o : Order) → joined (map (shown s) (os ++ o ∷ [])) []
    ≡ joined (map (shown s) os) [] ++ (comma_behind (joined (map (shown s) os) []) ++ shown s o [])
joined-push s [] o = refl
joined-push s (x ∷ []) o = shown-rest s x (44 ∷ shown s o [])
joined-push s (x ∷ y ∷ ys) o =
    let behind = joined (map (shown s) (y ∷ ys)) [] in
    let last = 44 ∷ shown s o [] in
    ap (λ l. shown s x (44 ∷ l)) (joined-push s (y ∷ ys) o ∙ ap (λ b. behind ++ (b ++ shown s o [])) (comma_some s y ys))
    ∙ shown-rest s x (44 ∷ (behind ++ last))
    ∙ sym (ap (λ l. l ++ last) (shown-rest s x (44 ∷ behind)) ∙ append_assoc (shown s x []) (44 ∷ behind) last)

-- ---- the queues, one after another

-- the orders before a queue stand in the list
pub record Listed (c : Settings) (s : State) (k : ℕ) (list : List ℕ) : Type 0 where
  pub done : List Order
  pub list_is : list ≡ joined (map (shown s) done) []
  pub left : done ++ filter_map (order_of c s) (drop k s.queues) ≡ orders c s

pub listed_front : (c : Settings) (s : State) (list : List ℕ) → list ≡ [] → Listed c s 0 list
listed_front c s list e = record { done = []; list_is = e; left = refl }

pub listed_next : {c : Settings} {s : State} {k : ℕ} {name : List ℕ} → (there : IsThere c s k name) →
    (list new : List ℕ) (order : Option (List ℕ)) → Listed c s k list →
    order ≡ option_map (λ o. shown s o []) (order_in c s name) → new ≡ with_order list order → Listed c s (k + 1) new
listed_next {c} {s} {k} there list new order h e n =
    by_order (order_of c s there.queue) refl
  where
    step : k + 1 ≡ suc k
    step = omega arith

    rest : List Order
    rest = filter_map (order_of c s) (drop (suc k) s.queues)

    left_with : (o : Option Order) → order_of c s there.queue ≡ o → h.done ++ cons_option o rest ≡ orders c s
    left_with o f =
        ap (λ p. h.done ++ cons_option p rest) (sym f)
        ∙ ap (λ qs. h.done ++ filter_map (order_of c s) qs) (sym there.here) ∙ h.left

    new_with : (o : Option Order) → order_of c s there.queue ≡ o →
        new ≡ with_order (joined (map (shown s) h.done) []) (option_map (λ r. shown s r []) o)
    new_with o f =
        n ∙ (λ i. with_order (h.list_is i) ((e
        ∙ ap (λ p. option_map (λ r. shown s r []) (option_and_then (order_of c s) p)) there.named
        ∙ ap (option_map (λ r. shown s r [])) f) i))

    by_order : (o : Option Order) → order_of c s there.queue ≡ o → Listed c s (k + 1) new
    by_order None f = record {
      done = h.done;
      list_is = new_with None f;
      left = ap (λ m. h.done ++ filter_map (order_of c s) (drop m s.queues)) step ∙ left_with None f;
    }
    by_order (Some o) f = record {
      done = h.done ++ o ∷ [];
      list_is = new_with (Some o) f ∙ sym (joined-push s h.done o);
      left = ap (λ m. (h.done ++ o ∷ []) ++ filter_map (order_of c s) (drop m s.queues)) step
          ∙ append_assoc h.done (o ∷ []) rest ∙ left_with (Some o) f;
    }

pub listed_end : (c : Settings) (s : State) (k : ℕ) (list text : List ℕ) → Listed c s k list → drop k s.queues ≡ [] →
    text ≡ 91 ∷ (list ++ 93 ∷ []) → text ≡ order_list_text c s
listed_end c s k list text h e t =
    let all : h.done ≡ orders c s = sym (append-nil h.done)
    ∙ ap (λ qs. h.done ++ filter_map (order_of c s) qs) (sym e) ∙ h.left in
    t ∙ ap (λ l. 91 ∷ (l ++ 93 ∷ [])) h.list_is ∙ ap (λ l. 91 ∷ l) (sym (joined-rest s h.done (93 ∷ [])))
    ∙ ap (λ os. array (map (shown s) os) []) all
