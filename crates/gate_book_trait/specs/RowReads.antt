-- What the rows of a content answer.
use Rattle.std.specs.Prelude.{ℕ, Bool, ◌&&◌, ◌==◌, ◌≡◌, ◌≢◌, ◌<◌, nat_lt, List, [], ◌∷◌, map, filter, find, length}
use Rattle.std.specs.Prelude.{Option, option_and_then, option_to_list, flat_map, IsSome}
use Rattle.std.specs.List.{AllByRecursion, list_any}
use Rattle.std.specs.Option.{option_map_or}
use Rattle.gate_types.specs.declared.records.Item.{Item}
use Rattle.gate_types.specs.declared.records.Plan.{Plan}
use Rattle.gate_types.specs.declared.records.Ready.{Ready}
use Rattle.gate_types.specs.declared.rows.ChangeRow.{ChangeRow}
use Rattle.gate_types.specs.declared.rows.LandingRow.{LandingRow}
use Rattle.gate_types.specs.Names.{same_name}
use Rattle.gate_types.specs.Tables.{QueueRows, approval_of, needs_in}
use Rattle.gate_types.specs.Rising.{RisesFrom}
use Rattle.gate_book_trait.specs.declared.rows.QueuedItem.{QueuedItem}

-- the queue of a name
abbrev pub rows_named : List QueueRows → List ℕ → Option QueueRows
rows_named queues name = find (λ q. same_name q.name name) queues

-- its items
abbrev pub items_named : List QueueRows → List ℕ → List Item
items_named queues name = option_map_or (λ q. q.items) (rows_named queues name) []

-- how many landings have a lower serial
abbrev pub count_landings_below : ℕ → QueueRows → ℕ
count_landings_below serial q = length (filter (λ r. nat_lt r.landing.serial serial) q.landings)

-- the serial of a landing
abbrev pub landing_serial : LandingRow → ℕ
landing_serial r = r.landing.serial

-- its landings rise by serial
abbrev pub LandingsRise : QueueRows → Type 0
LandingsRise q = RisesFrom landing_serial 0 q.landings

-- an item above a serial whose change needs this one
abbrev pub is_needing_in : List ChangeRow → ℕ → ℕ → Item → Bool
is_needing_in rows n serial i = nat_lt serial i.serial && list_any (λ m. m == n) (needs_in rows i.change)

-- the items of these that are such
abbrev pub needing_in : List ChangeRow → ℕ → ℕ → List Item → List Item
needing_in rows n serial items = filter (is_needing_in rows n serial) items

-- a ready change that needs this one
abbrev pub is_ready_needing : List ChangeRow → ℕ → Ready → Bool
is_ready_needing rows n r = list_any (λ m. m == n) (needs_in rows r.change)

-- those of these that do
abbrev pub ready_needing_in : List ChangeRow → ℕ → List Ready → List Ready
ready_needing_in rows n ready = filter (is_ready_needing rows n) ready

-- the plans of these items, item by item
abbrev pub plans_of_rows : List Plan → List Item → List Plan
plans_of_rows plans items = flat_map (λ i. option_to_list (find (λ p. p.serial == i.serial) plans)) items

-- the items of a queue, each with its name
abbrev pub queued_rows : QueueRows → List QueuedItem
queued_rows q = map (λ i. record { queue = q.name; item = i }) q.items

-- the items of all queues
abbrev pub all_queued : List QueueRows → List QueuedItem
all_queued queues = flat_map queued_rows queues

-- the approval number of a change, while it is ready
abbrev pub approval_in : List ChangeRow → ℕ → Option ℕ
approval_in rows n = option_and_then (λ r. r.approval) (find (λ r. r.change.number == n) rows)

-- no two are of one change
abbrev pub Differ : List Ready → Type 0
Differ [] = Unit {0}
Differ (r ∷ rs) = AllByRecursion (λ s. r.change ≢ s.change) rs × Differ rs

-- a list that the rows tell: it rises by approval, names each change once, and each row has its change's approval
pub record AreReady (rows : List ChangeRow) (ready : List Ready) : Type 0 where
  pub rise : RisesFrom (λ r. r.approval) 0 ready
  pub differ : Differ ready
  pub fit : AllByRecursion (λ r. r.change < 18446744073709551616) ready
  pub told : AllByRecursion (λ r. r.approval ≡ approval_of ready r.change.number) rows
  pub known : AllByRecursion (λ r. IsSome (find (λ k. k.change.number == r.change) rows)) ready
