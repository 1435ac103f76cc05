-- What asking a book for a history from a place, or for deliveries, writes.
use Rattle.std.specs.Prelude.{◌≡◌, ◌≤◌, ⊤, true, false, ℕ, List, length, take, ◌++◌, Option, Some, None, Result}
use Rattle.std.specs.Prelude.{MatchResult}
use Rattle.std.specs.Io.KnownBytes.{Appends}
use Rattle.gate_types.specs.declared.records.Id.{Id}
use Rattle.gate_types.specs.declared.records.Kept.{Kept}
use Rattle.gate_types.specs.declared.tap.Tap.{Tap}
use Rattle.gate_types.specs.State.{Queue, State}
use Rattle.gate_types.specs.Tap.{inside, has_failed, Took, TookFront}
use Rattle.gate_book_trait.specs.Reads.{queue_named}
use Rattle.gate_book_trait.specs.declared.fault.HistoryFault.{HistoryFault}
use Rattle.gate_book_trait.specs.declared.fault.HistoryFault.TheVariants as history
use Rattle.gate_archive.specs.HistoryFrom.{history_from}
use Rattle.gate_archive.specs.Feed.{fed, feed_lines, feed_text}
use Rattle.gate_archive.specs.declared.fault.FeedFault.{FeedFault}
use Rattle.gate_archive.specs.declared.fault.FeedFault.TheVariants as feed
use Rattle.gate_types.specs.Limits.{most_listed}

-- ---- a history from a place

-- there is a queue of this name, and the writer took bytes of the front and of its history text from a place
pub record OfQueueFrom (s : State) (name : List ℕ) (from : ℕ) (front : List ℕ) (Takes : List ℕ → Type 0)
    : Type 0 where
  pub queue : Queue
  pub named : queue_named s name ≡ Some queue
  pub taken : Takes (front ++ history_from from queue)

-- why it was not written whole: no queue has the name, or a beginning was written
abbrev pub LeavesHistoryFrom : {W : Type 0} → State → List ℕ → ℕ → List ℕ → (W → Option (List ℕ)) → Tap W → Tap W →
    HistoryFault → Type 0
LeavesHistoryFrom s name from front held old new history.NoQueue = queue_named s name ≡ None
LeavesHistoryFrom s name from front held old new history.Unavailable = ⊤
LeavesHistoryFrom s name from front held old new _ = OfQueueFrom s name from front (TookFront held old new)

-- the front and the history text from a place are written, or why not
abbrev pub WritesHistoryFrom : {W : Type 0} → State → List ℕ → ℕ → List ℕ → (W → Option (List ℕ)) → Tap W → Tap W →
    Result (Unit {0}) HistoryFault → Type 0
WritesHistoryFrom s name from front held old new result =
    MatchResult result (λ _. OfQueueFrom s name from front (Took held old new))
    (LeavesHistoryFrom s name from front held old new)

-- ---- deliveries

-- a tap's writer took some first bytes of these, or all
abbrev pub TookSome : {W : Type 0} → (W → Option (List ℕ)) → Tap W → Tap W → List ℕ → Type 0
TookSome held old new bytes =
    (n : ℕ) × (n ≤ length bytes) × Appends (held (inside old)) (held (inside new)) (take n bytes)

-- these are the deliveries that are asked for, and the writer took bytes of the front and of their lines
pub record OfFeed (kept : List Kept) (after : Option Id) (most : ℕ) (front : List ℕ) (Takes : List Kept → List ℕ →
    Type 0) : Type 0 where
  pub told : List Kept
  pub are : fed after most kept ≡ Some told
  pub taken : Takes told (front ++ feed_lines told)

-- why they were not written whole: no delivery has the id, or a beginning was written
abbrev pub LeavesFeed : {W : Type 0} → List Kept → Option Id → ℕ → List ℕ → (W → Option (List ℕ)) → Tap W → Tap W →
    FeedFault → Type 0
LeavesFeed kept after most front held old new feed.NoDelivery = fed after most kept ≡ None
LeavesFeed kept after most front held old new feed.Unavailable = ⊤
LeavesFeed kept after most front held old new _ = OfFeed kept after most front (λ told. TookSome held old new)

-- the front and the lines of at most so many deliveries, all or those behind that of an id, are written, and how many
-- there are is told; or why not
abbrev pub WritesFeed : {W : Type 0} → List Kept → Option Id → ℕ → List ℕ → (W → Option (List ℕ)) → Tap W → Tap W →
    Result ℕ FeedFault → Type 0
WritesFeed kept after most front held old new result =
    MatchResult result (λ n. OfFeed kept after most front (λ told text. Took held old new text × (n ≡ length told)))
    (LeavesFeed kept after most front held old new)

-- what a fault leaves of the writer: it has failed at `Write` alone, and nothing was written before a first byte
abbrev pub StopsFeedBy : {W : Type 0} → Tap W → Tap W → FeedFault → Type 0
StopsFeedBy old new feed.NoDelivery = new ≡ old
StopsFeedBy old new feed.Unavailable = new ≡ old
StopsFeedBy old new feed.Broken = has_failed new ≡ false
StopsFeedBy old new feed.Write = has_failed new ≡ true

-- the writer has not failed where all is written, or is left by a fault so
abbrev pub StopsFeed : {W : Type 0} → Tap W → Tap W → Result ℕ FeedFault → Type 0
StopsFeed old new result = MatchResult result (λ _. has_failed new ≡ false) (StopsFeedBy old new)

-- ---- deliveries, and how many there are

-- these are the deliveries that are asked for, and the writer took bytes of the front and of their text
pub record OfFeedText (kept : List Kept) (after : Option Id) (front : List ℕ) (Takes : List ℕ → Type 0) : Type 0 where
  pub told : List Kept
  pub are : fed after most_listed kept ≡ Some told
  pub taken : Takes (front ++ feed_text told)

-- why it was not written whole: no delivery has the id, or a beginning was written
abbrev pub LeavesFeedText : {W : Type 0} → List Kept → Option Id → List ℕ → (W → Option (List ℕ)) → Tap W → Tap W →
    FeedFault → Type 0
LeavesFeedText kept after front held old new feed.NoDelivery = fed after most_listed kept ≡ None
LeavesFeedText kept after front held old new feed.Unavailable = ⊤
LeavesFeedText kept after front held old new _ = OfFeedText kept after front (TookFront held old new)

-- the front and the text of at most 1,000 deliveries, all or those behind that of an id, are written, or why not
abbrev pub WritesFeedText : {W : Type 0} → List Kept → Option Id → List ℕ → (W → Option (List ℕ)) → Tap W → Tap W →
    Result (Unit {0}) FeedFault → Type 0
WritesFeedText kept after front held old new result =
    MatchResult result (λ _. OfFeedText kept after front (Took held old new))
    (LeavesFeedText kept after front held old new)

-- the writer has not failed where all is written, or is left by a fault so
abbrev pub StopsText : {W : Type 0} → Tap W → Tap W → Result (Unit {0}) FeedFault → Type 0
StopsText old new result = MatchResult result (λ _. has_failed new ≡ false) (StopsFeedBy old new)
