-- What is read of the accepted deliveries, in the order in which they were accepted, and what is written of it.
use Rattle.std.specs.Prelude.{◌≡◌, ◌≢◌, ⊤, true, false, ℕ, ℤ, Bool, IsTrue, List, [], ◌∷◌, drop, filter, length, map}
use Rattle.std.specs.Prelude.{take, Option, Some, None, Result, MatchResult}
use Rattle.std.specs.Ordering.{is_gt}
use Rattle.sqlite.specs.Order.{Row, value_cmp}
use Rattle.sqlite.specs.State.{HasCleanDisk, State}
use Rattle.sqlite.specs.declared.types.Value.TheVariants.{Int, Text as Words, Blob as Octets}
use Rattle.sqlite_trees.specs.Tree.{rowid}
use Rattle.sqlite_value.specs.Order.{column}
use Rattle.gate_types.specs.Tap.{has_failed, Took}
use Rattle.gate_types.specs.declared.records.Id.{Id}
use Rattle.gate_types.specs.declared.records.Kept.{Kept}
use Rattle.gate_types.specs.declared.tap.Tap.{Tap}
use Rattle.gate_archive.specs.Feed.{behind_id, with_id}
use Rattle.gate_archive.specs.Writes.{TookSome}
use Rattle.gate_archive.specs.declared.fault.FeedFault.{FeedFault}
use Rattle.gate_archive.specs.declared.fault.FeedFault.TheVariants as fault
use Rattle.gate_schema.specs.Rows.{kept_columns}
use Rattle.gate_queue_queries.specs.Streamed.{body}
use Rattle.gate_archive_queries.specs.declared.delivery_rows.Accepted.{Accepted}
use Rattle.gate_archive_queries.specs.declared.delivery_rows.FeedPlace.{FeedPlace}

-- ---- the place of a delivery

-- a row stands above a rowid
abbrev pub is_above : ℤ → Row → Bool
is_above place r = is_gt (value_cmp (rowid r) (Int place))

-- of these rows, those above a rowid hold these deliveries
abbrev pub HoldAbove : List Row → ℤ → List Kept → Type 0
HoldAbove rows place ks = map (drop 1) (filter (is_above place) rows) ≡ map kept_columns ks

-- of deliveries whose rows these are, none has the id, or the rows above the place hold those behind the one of the id
abbrev pub IsPlaceOf : List Row → List Kept → Id → Option FeedPlace → Type 0
IsPlaceOf rows kept id None = behind_id id kept ≡ None
IsPlaceOf rows kept id (Some place) = (ks : List Kept) × (behind_id id kept ≡ Some ks) × HoldAbove rows place.rowid ks

-- there is no row, or the first holds this place
abbrev pub IsFirstOf : List Row → Option FeedPlace → Type 0
IsFirstOf rows None = rows ≡ []
IsFirstOf rows (Some place) =
    (row : Row) × (rest : List Row) × (rows ≡ row ∷ rest) × (column row 0 ≡ Int place.rowid)

-- ---- the rows

-- what is told of a delivery
abbrev pub accepted : Kept → Accepted
accepted k = record { id = k.id; said = k.said }

-- what is shown of it
abbrev pub accepted_shown : Accepted → Row
accepted_shown a = Octets a.id.0 ∷ Words a.said ∷ []

-- its line, wherever it stands
abbrev pub accepted_line : ℕ → Accepted → List ℕ
accepted_line n a = with_id a.id a.said (10 ∷ [])

-- ---- what is written

-- a part behind the first byte wasn't written whole: some first bytes of it were
abbrev pub CutsPart : {W : Type 0} → (W → Option (List ℕ)) → Tap W → Tap W → List ℕ → FeedFault → Type 0
CutsPart held old new text fault.NoDelivery = ⊥
CutsPart held old new text fault.Unavailable = ⊥
CutsPart held old new text fault.Broken = TookSome held old new text × (has_failed new ≡ false)
CutsPart held old new text fault.Write = TookSome held old new text × (has_failed new ≡ true)

-- a part behind the first byte is written, or some first bytes of it
abbrev pub WritesFeedPart : {W : Type 0} → (W → Option (List ℕ)) → Tap W → Tap W → List ℕ →
    Result (Unit {0}) FeedFault → Type 0
WritesFeedPart held old new text result =
    MatchResult result (λ _. Took held old new text × (has_failed new ≡ false)) (CutsPart held old new text)

-- why the lines weren't written whole: the first row could not be read, or some first bytes were written
abbrev pub CutsDeliveries : {W : Type 0} → (W → Option (List ℕ)) → Tap W → Tap W → List ℕ → FeedFault → Type 0
CutsDeliveries held old new text fault.NoDelivery = ⊥
CutsDeliveries held old new text fault.Unavailable = ⊤
CutsDeliveries held old new text _ = TookSome held old new text

-- the front and the lines of at most so many deliveries are written, and how many there are is told; or why not
abbrev pub WritesDeliveries : {W : Type 0} → (W → Option (List ℕ)) → Tap W → Tap W → List ℕ → ℕ → List Accepted →
    Result ℕ FeedFault → Type 0
WritesDeliveries held old new front most told result =
    MatchResult result (λ n. Took held old new (body front accepted_line most told) × (n ≡ length (take most told)))
    (CutsDeliveries held old new (body front accepted_line most told))

-- a call that wrote, or was to write, found the connection open
abbrev pub OpenedFeed : State → State → Result ℕ FeedFault → Type 0
OpenedFeed old new result =
    HasCleanDisk new → MatchResult result (λ _. IsTrue old.is_open) (λ f. f ≢ fault.Unavailable → IsTrue old.is_open)
