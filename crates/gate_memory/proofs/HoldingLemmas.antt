-- Queues that are held: changed one by one, and looked through.
use Rattle.std.proofs.Common.{◌≡◌, ℕ, suc, ◌<◌, Bool, Option, List, ◌∷◌, length, drop, get_or, map, sym, ap, ◌∙◌}
use Rattle.std.specs.Prelude.{find, option_map}
use Rattle.std.specs.Option.{option_or}
use Rattle.std.proofs.lemmas.List.Folds.{find-append}
use Rattle.gate_types.specs.declared.records.Item.{Item}
use Rattle.gate_book_trait.specs.RowReads.{queued_rows}
use Rattle.gate_book_trait.specs.declared.rows.QueuedItem.{QueuedItem}
use Rattle.gate_book_trait.proofs.Finding.{rest_at, find_map}
use Rattle.gate_memory.specs.HeldQueues.{LiveQueue, live_queued}

-- a queue of which nothing that counts has changed
pub record Stays {X : Type 0} (holds : X → LiveQueue) (kept_so : X → Type 0) (old new : X) : Type 0 where
  pub rows : holds new ≡ holds old
  pub kept : kept_so new

-- a queue after room was made
pub record Roomy {X : Type 0} (holds : X → LiveQueue) (kept_so : X → Type 0) (room_in : ℕ → X → Type 0) (n : ℕ)
    (old new : X) : Type 0 where
  pub rows : holds new ≡ holds old
  pub kept : kept_so new
  pub room : room_in n new

-- a queue after an edit
pub record Edited {X : Type 0} (holds : X → LiveQueue) (edited : LiveQueue → LiveQueue) (kept_so : X → Type 0)
    (room_in : ℕ → X → Type 0) (old new : X) : Type 0 where
  pub rows : holds new ≡ edited (holds old)
  pub kept : kept_so new
  pub room : (n : ℕ) → room_in (suc n) old → room_in n new

-- ---- looks

-- the queue's name beside an item
abbrev pub with_name : LiveQueue → Item → QueuedItem
with_name l i = record { queue = l.rows.name; item = i }

-- where this queue has one that passes, or none
pub queued_at : {X : Type 0} (holds : X → LiveQueue) (test : Item → Bool) (queues : List X) (k : ℕ) (t : X)
    (o : Option Item) → k < length queues → t ≡ get_or queues k t → o ≡ find test (holds t).rows.items →
    find (λ q. test q.item) (live_queued (map holds (drop k queues)))
    ≡ option_or (option_map (with_name (holds t)) o)
    (find (λ q. test q.item) (live_queued (map holds (drop (suc k) queues))))
queued_at {X = X} holds test queues k t o l at e =
    let rest : Option QueuedItem = find (λ q. test q.item) (live_queued (map holds (drop (suc k) queues))) in
    ap (λ (ts : List X). find (λ q. test q.item) (live_queued (map holds ts)))
    (rest_at queues k t l ∙ ap (λ y. y ∷ drop (suc k) queues) (sym at))
    ∙ find-append (λ q. test q.item) (queued_rows (holds t).rows) (live_queued (map holds (drop (suc k) queues)))
    ∙ ap (λ p. option_or p rest) (find_map (with_name (holds t)) (λ q. test q.item) (holds t).rows.items
    ∙ ap (option_map (with_name (holds t))) (sym e))
