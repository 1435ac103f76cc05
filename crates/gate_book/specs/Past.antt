-- What the rows of a book in memory tell of the past, and the writing of deliveries part by part.
use Rattle.std.specs.Prelude.{ℕ, ◌≡◌, true, false, List, map, flat_map, Option, Result, MatchResult}
use Rattle.gate_types.specs.Tables.{QueueRows}
use Rattle.gate_types.specs.Tap.{has_failed, Took, TookFront}
use Rattle.gate_types.specs.declared.tap.Tap.{Tap}
use Rattle.gate_archive.specs.declared.rows.LeftItem.{LeftItem}
use Rattle.gate_archive.specs.declared.fault.FeedFault.{FeedFault}
use Rattle.gate_archive.specs.declared.fault.FeedFault.TheVariants as fault

-- the reports of a queue, each with its name
abbrev pub left_rows : QueueRows → List LeftItem
left_rows q = map (λ r. record { queue = q.name; report = r.report }) q.reports

-- those of all queues
abbrev pub all_left : List QueueRows → List LeftItem
all_left queues = flat_map left_rows queues

-- lines were written, or a beginning where a fault came
abbrev pub IsFed : {W : Type 0} → (W → Option (List ℕ)) → Tap W → Tap W → List ℕ → Result (Unit {0}) FeedFault → Type 0
IsFed held old new text result = MatchResult result (λ _. Took held old new text) (λ _. TookFront held old new text)

-- what a fault leaves of the writer once something was written
abbrev pub BreaksOffFeed : {W : Type 0} → Tap W → FeedFault → Type 0
BreaksOffFeed new fault.NoDelivery = ⊥
BreaksOffFeed new fault.Unavailable = ⊥
BreaksOffFeed new fault.Broken = has_failed new ≡ false
BreaksOffFeed new fault.Write = has_failed new ≡ true

-- the writer has not failed, or is left by a fault so
abbrev pub LeavesFeedTap : {W : Type 0} → Tap W → Result (Unit {0}) FeedFault → Type 0
LeavesFeedTap new result = MatchResult result (λ _. has_failed new ≡ false) (BreaksOffFeed new)

-- nothing is written, or a beginning
abbrev pub LeavesKeptLines : {W : Type 0} → (W → Option (List ℕ)) → Tap W → Tap W → List ℕ → FeedFault → Type 0
LeavesKeptLines held old new text fault.NoDelivery = ⊥
LeavesKeptLines held old new text fault.Unavailable = new ≡ old
LeavesKeptLines held old new text fault.Broken = TookFront held old new text × (has_failed new ≡ false)
LeavesKeptLines held old new text fault.Write = TookFront held old new text × (has_failed new ≡ true)

-- the front and so many lines are written, or what a fault leaves
abbrev pub WritesKeptLines : {W : Type 0} → (W → Option (List ℕ)) → Tap W → Tap W → List ℕ → ℕ →
    Result ℕ FeedFault → Type 0
WritesKeptLines held old new text count result =
    MatchResult result (λ n. Took held old new text × (n ≡ count) × (has_failed new ≡ false))
    (LeavesKeptLines held old new text)
