-- What is read by key of the rows that a walk asks for, with what the delivery makes of it.
use Rattle.std.specs.Prelude.{ℕ, Bool, true, false, ◌&&◌, ◌||◌, not, ◌==◌, nat_lt, ◌≡◌, ◌<◌, ◌≤◌, ◌-◌}
use Rattle.std.specs.Prelude.{if◌then◌else◌, List, [], ◌∷◌, filter, take, length, Option, Some, None, find}
use Rattle.std.specs.List.{list_any}
use Rattle.std.specs.Option.{option_map_or}
use Rattle.gate_types.specs.declared.records.Change.{Change}
use Rattle.gate_types.specs.declared.records.Item.{Item as ItemRow}
use Rattle.gate_types.specs.declared.records.Build.{Build}
use Rattle.gate_types.specs.Names.{same_name}
use Rattle.gate_types.specs.Settings.{Settings}
use Rattle.gate_types.specs.State.{State, known_change, known_or_closed, change_of, is_landed}
use Rattle.gate_types.specs.Step.{with_ending}
use Rattle.gate_walk.specs.declared.walk.Next.{Next}
use Rattle.gate_walk.specs.declared.walk.Next.TheVariants as next
use Rattle.gate_walk.specs.Walk.{SeenNeed}
use Rattle.gate_walk.specs.Rescan.{TakenOut}
use Rattle.gate_book_trait.specs.Reads.{items_in, queued_of, first_above}
use Rattle.gate_book_trait.specs.declared.rows.QueuedItem.{QueuedItem}
use Rattle.gate_reads.specs.declared.touched.Event.{Event}
use Rattle.gate_reads.specs.declared.touched.Event.TheVariants as event
use Rattle.gate_reads.specs.declared.touched.TouchedItem.{TouchedItem}

-- ---- what befell the touched item

-- it left its queue
abbrev pub is_out : Event → Bool
is_out (event.Ended n e) = false
is_out (event.Left v) = true
is_out event.Landed = true

-- it landed
abbrev pub has_landed : Event → Bool
has_landed (event.Ended n e) = false
has_landed (event.Left v) = false
has_landed event.Landed = true

-- what a walk is told was taken out
abbrev pub taken_out : TouchedItem → Option TakenOut
taken_out k = if is_out k.event
    then Some (record { change = k.item.change; failing = k.item.failing; landed = has_landed k.event }) else None

-- ---- a row

-- a change has landed, the touched one by the delivery
abbrev pub landed_now : State → TouchedItem → ℕ → Bool
landed_now s k n = is_landed (known_or_closed (known_change s n)) || has_landed k.event && k.item.change == n

-- an item stands in the touched queue still
abbrev pub stands_still : TouchedItem → QueuedItem → Bool
stands_still k q = same_name q.queue k.queue && not (is_out k.event && q.item.serial == k.item.serial)

-- where it stands, by its row: whether it is failing
abbrev pub standing_by : TouchedItem → Option QueuedItem → Option Bool
standing_by k None = None
standing_by k (Some q) = if stands_still k q then Some q.item.failing else None

-- a need
abbrev pub need_now : Settings → State → TouchedItem → ℕ → SeenNeed
need_now c s k n =
    record { change = n; landed = landed_now s k n; standing = standing_by k (queued_of c s n) }

-- the needs of a change, none where it isn't known
abbrev pub needs_known : Option Change → List ℕ
needs_known known = option_map_or (λ j. j.needs) known []

-- a build: the one that ended has its outcome
abbrev pub build_now : Event → Build → Build
build_now (event.Ended n e) b = if b.number == n then with_ending e b else b
build_now _ b = b

-- ---- the row that is wanted

-- the first row lies above this number: it is that of the touched item, or the next one
abbrev pub first_behind : TouchedItem → ℕ
first_behind k = if is_out k.event then k.item.serial else k.item.serial - 1

-- a row's change needs one of these
abbrev pub is_needing : State → List ℕ → ItemRow → Bool
is_needing s gone r = list_any (λ n. list_any (λ m. m == n) (change_of s r.change).needs) gone

-- the first row above a serial whose change needs one of these
abbrev pub first_needing_any : State → List ℕ → ℕ → List ItemRow → Option ItemRow
first_needing_any s gone serial rows = find (λ r. nat_lt serial r.serial && is_needing s gone r) rows

-- the row that is wanted next
abbrev pub row_for : Settings → State → List ℕ → List ℕ → Next → Option ItemRow
row_for c s name gone (next.Go n) = first_above n (items_in c s name)
row_for c s name gone (next.Need n) = first_needing_any s gone n (items_in c s name)
row_for c s name gone next.Stop = None

-- it lies behind this serial
abbrev pub IsFrom : ℕ → Next → Type 0
IsFrom n (next.Go m) = m ≡ n
IsFrom n (next.Need m) = m ≡ n
IsFrom n next.Stop = Unit {0}

-- a serial is above that behind which a row is wanted; none is, where none is wanted
abbrev pub IsAbove : ℕ → Next → Type 0
IsAbove n (next.Go m) = m < n
IsAbove n (next.Need m) = m < n
IsAbove n next.Stop = ⊥

-- ---- the rows that are kept

-- the rows above a serial whose change needs one of these
abbrev pub needing_any : State → List ℕ → ℕ → List ItemRow → List ItemRow
needing_any s gone serial rows = filter (λ r. nat_lt serial r.serial && is_needing s gone r) rows

-- a row before others, merged with rows, where `join` joins those others
abbrev pub joined_behind : ItemRow → (List ItemRow → List ItemRow) → List ItemRow → List ItemRow
joined_behind a join [] = a ∷ join []
joined_behind a join (b ∷ bs) = if nat_lt b.serial a.serial then b ∷ joined_behind a join bs
    else (if b.serial == a.serial then a ∷ join bs else a ∷ join (b ∷ bs))

-- the rows of two lists by their serials, a row of both once
abbrev pub merged : List ItemRow → List ItemRow → List ItemRow
merged [] bs = bs
merged (a ∷ rest) bs = joined_behind a (merged rest) bs

-- of a queue's rows those are kept that lie above a serial, no higher than this one, and whose change needs one of the
-- first changes that have gone, as many as were asked about
pub record AreKept (s : State) (gone : List ℕ) (limit : ℕ) (items kept : List ItemRow) (asked : ℕ) : Type 0 where
  pub above : ℕ
  pub no_higher : above ≤ limit
  pub rows : kept ≡ needing_any s (take asked gone) above items
  pub were_asked : asked ≤ length gone
