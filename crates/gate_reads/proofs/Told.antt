-- What is told of an item that is found by key.
use Rattle.std.proofs.Common.{◌≡◌, ℕ, true, false, Option, Some, None, refl, sym, ap, ◌∙◌, subst}
use Rattle.std.specs.Prelude.{◌==◌, find, is_some, option_map}
use Rattle.std.specs.Bool.{then_some}
use Rattle.std.proofs.lemmas.Bool.{eqb-true}
use Rattle.gate_types.specs.declared.records.Ready.{Ready}
use Rattle.gate_types.specs.Settings.{Settings, are_sound}
use Rattle.gate_types.specs.State.{State, is_queued, is_ready}
use Rattle.gate_types.specs.SubmitOrder.{shown_order}
use Rattle.gate_types.specs.Tables.{approval_of}
use Rattle.gate_types.specs.Rows.{row_of}
use Rattle.gate_types.specs.Lawful.{IsSound}
use Rattle.gate_laws.proofs.Members.{found}
use Rattle.gate_book_trait.specs.declared.rows.QueuedItem.{QueuedItem}
use Rattle.gate_book_trait.specs.Reads.{queued_of}
use Rattle.gate_reads.specs.Orders.{IsRowOf}
use Rattle.gate_reads.specs.Stands.{IsQueuedAs}
use Rattle.gate_reads.proofs.Found.{any_found, found_itself, some_before, none_before}
use Rattle.gate_reads.proofs.Stood.{Stood, stood, stood_there, queued_as, serial_of, change_of, change_once}
use Rattle.gate_reads.proofs.Stood.{queued_is, queue_is, is_queued_is}
use Rattle.gate_reads.proofs.ShownOrders.{shows, if_shown, order_as, shown_is}
use Rattle.gate_reads.proofs.Passing.{row_of_order, stored_at}
use Rattle.gate_reads.proofs.Queues.{named_itself}

-- an order that is shown, and its row, which is found by the change
pub record IsFoundBy (c : Settings) (s : State) (number n : ℕ) (x : Stood) : Type 0 where
  pub found_by : queued_of c s n ≡ Some (queued_as s x)
  pub shown : shown_order c s number ≡ Some (order_as x)
  pub row : IsRowOf c s x.queue.name (row_of s.builds x.place) (order_as x)

pub found_by_change : (c : Settings) (s : State) → are_sound c ≡ true → IsSound c s → (number : ℕ) (x : Stood) →
    find (λ y. serial_of y == number) (stood c s) ≡ Some x → shows s x ≡ true → (n : ℕ) → n ≡ change_of x →
    IsFoundBy c s number n x
found_by_change c s a h number x e shown n k =
    let m = (found (λ y. serial_of y == number) (stood c s) x e).0 in
    let there = stood_there c s x m in
    record {
      found_by = ap (queued_of c s) k ∙ queued_is c s (change_of x)
          ∙ ap (option_map (queued_as s)) (found_itself change_of (stood c s) x m (change_once c s h (change_of x)));
      shown = shown_is c s h number
          ∙ ap (λ o. option_map order_as (if_shown s o)) e ∙ ap (λ b. option_map order_as (then_some b x)) shown;
      row = row_of_order c s x.queue.name x.queue x.place (row_of s.builds x.place)
          (named_itself c s a h x.queue there.0) there.1 refl;
    }

-- a change that is found stands in the queue that its row tells of
pub queued_so : (c : Settings) (s : State) → are_sound c ≡ true → IsSound c s → (n : ℕ) (k : QueuedItem) →
    queued_of c s n ≡ Some k → IsQueuedAs c s n k
queued_so c s a h n k e =
    let it = some_before (queued_as s) _ k (sym (queued_is c s n) ∙ e) in
    let m = found (λ y. change_of y == n) (stood c s) it.0 it.1 in
    let there = stood_there c s it.0 m.0 in
    let queue = queue_is c s n ∙ ap (option_map (λ x. x.queue.name)) it.1 in
    subst (IsQueuedAs c s n) it.2 (record {
      queued = is_queued_is s n ∙ ap is_some queue;
      queue = queue;
      stored = stored_at c s it.0.queue.name it.0.queue it.0.place (row_of s.builds it.0.place)
          (named_itself c s a h it.0.queue there.0) there.1 refl;
      change = eqb-true (change_of it.0) n m.1;
    })

-- where none is found, it stands in no queue
pub not_queued : (c : Settings) (s : State) (n : ℕ) → queued_of c s n ≡ None → is_queued s n ≡ false
not_queued c s n e =
    is_queued_is s n ∙ ap is_some (queue_is c s n
    ∙ ap (option_map (λ x. x.queue.name)) (none_before (queued_as s) _ (sym (queued_is c s n) ∙ e)))

-- a change is ready just where it has an approval
pub ready_so : (s : State) (n : ℕ) → is_ready s n ≡ is_some (approval_of s.ready n)
ready_so s n = any_found (λ (r : Ready). r.change == n) s.ready ∙ by_found (find (λ (r : Ready). r.change == n) s.ready)
  where
    by_found : (o : Option Ready) → is_some o ≡ is_some (option_map (λ (r : Ready). r.approval) o)
    by_found None = refl
    by_found (Some r) = refl
