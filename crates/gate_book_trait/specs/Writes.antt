-- What asking a book for the history of a queue writes.
use Rattle.std.specs.Prelude.{◌≡◌, ⊤, true, false, ℕ, List, ◌++◌, Option, Some, None, Result, MatchResult}
use Rattle.gate_types.specs.State.{Queue, State}
use Rattle.gate_types.specs.History.{history_text}
use Rattle.gate_types.specs.Tap.{has_failed, Took, TookFront}
use Rattle.gate_types.specs.declared.tap.Tap.{Tap}
use Rattle.gate_book_trait.specs.Reads.{queue_named}
use Rattle.gate_book_trait.specs.declared.fault.HistoryFault.{HistoryFault}
use Rattle.gate_book_trait.specs.declared.fault.HistoryFault.TheVariants as fault

-- there is a queue of this name, and the writer took bytes of the front and its history text
pub record OfQueue (s : State) (name front : List ℕ) (Takes : List ℕ → Type 0) : Type 0 where
  pub queue : Queue
  pub named : queue_named s name ≡ Some queue
  pub taken : Takes (front ++ history_text queue)

-- why it was not written whole: no queue has the name, or a beginning was written
abbrev pub LeavesHistory : {W : Type 0} → State → List ℕ → List ℕ → (W → Option (List ℕ)) → Tap W → Tap W →
    HistoryFault → Type 0
LeavesHistory s name front held old new fault.NoQueue = queue_named s name ≡ None
LeavesHistory s name front held old new fault.Unavailable = ⊤
LeavesHistory s name front held old new _ = OfQueue s name front (TookFront held old new)

-- the front and the history text of the queue are written, or why not
abbrev pub WritesHistory : {W : Type 0} → State → List ℕ → List ℕ → (W → Option (List ℕ)) → Tap W → Tap W →
    Result (Unit {0}) HistoryFault → Type 0
WritesHistory s name front held old new result =
    MatchResult result (λ _. OfQueue s name front (Took held old new)) (LeavesHistory s name front held old new)

-- what a fault leaves of the writer: it has failed at `Write` alone, and nothing was written before a first byte
abbrev pub StopsWriterBy : {W : Type 0} → Tap W → Tap W → HistoryFault → Type 0
StopsWriterBy old new fault.NoQueue = new ≡ old
StopsWriterBy old new fault.Unavailable = new ≡ old
StopsWriterBy old new fault.Broken = has_failed new ≡ false
StopsWriterBy old new fault.Write = has_failed new ≡ true

-- the writer has not failed where all is written, or is left by a fault so
abbrev pub StopsHistoryWriter : {W : Type 0} → Tap W → Tap W → Result (Unit {0}) HistoryFault → Type 0
StopsHistoryWriter old new result = MatchResult result (λ _. has_failed new ≡ false) (StopsWriterBy old new)
