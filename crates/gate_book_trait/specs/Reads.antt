-- What a book is asked for: each answer, of a content.
use Rattle.std.specs.Prelude.{ℕ, ◌&&◌, ◌==◌, ◌≢◌, nat_lt, nat_le, ◌≡◌, List, [], map, filter, find, fold, length}
use Rattle.std.specs.Prelude.{take, Option, Some, None, option_map, option_to_list, flat_map, Result, MatchResult}
use Rattle.std.specs.List.{list_any}
use Rattle.std.specs.Option.{option_map_or}
use Rattle.gate_types.specs.declared.records.Item.{Item as ItemRow}
use Rattle.gate_types.specs.declared.records.Landing.{Landing}
use Rattle.gate_types.specs.declared.records.Build.{Build}
use Rattle.gate_types.specs.declared.records.Plan.{Plan}
use Rattle.gate_types.specs.declared.records.Ready.{Ready}
use Rattle.gate_types.specs.Names.{same_name}
use Rattle.gate_types.specs.Settings.{Settings}
use Rattle.gate_types.specs.State.{Queue, State, change_of}
use Rattle.gate_types.specs.Rows.{item_rows}
use Rattle.gate_book_trait.specs.declared.fault.BookFault.{BookFault}
use Rattle.gate_book_trait.specs.declared.fault.BookFault.TheVariants as fault
use Rattle.gate_book_trait.specs.declared.rows.QueuedItem.{QueuedItem}

-- a read answers this, or a fault that doesn't blame a row
abbrev pub Answers : {T : Type 0} → T → Result T BookFault → Type 0
Answers value result = MatchResult result (λ found. found ≡ value) (λ f. f ≢ fault.Damaged)

-- the queue of a name
abbrev pub queue_named : State → List ℕ → Option Queue
queue_named s name = find (λ q. same_name q.name name) s.queues

-- how many of its items may be tested at once, where there is such a queue
abbrev pub window_of : State → List ℕ → Option ℕ
window_of s name = option_map (λ q. q.window) (queue_named s name)

-- the rows of its items, front to back; none where there is no such queue
abbrev pub items_in : Settings → State → List ℕ → List ItemRow
items_in c s name = option_map_or (item_rows c s) (queue_named s name) []

-- its landings
abbrev pub landings_in : State → List ℕ → List Landing
landings_in s name = option_map_or (λ q. q.landings) (queue_named s name) []

-- how many of each it has
abbrev pub item_count : Settings → State → List ℕ → ℕ
item_count c s name = length (items_in c s name)

abbrev pub landing_count : State → List ℕ → ℕ
landing_count s name = length (landings_in s name)

-- how many of its landings have a lower serial
abbrev pub landings_before : State → List ℕ → ℕ → ℕ
landings_before s name serial = length (filter (λ l. nat_lt l.serial serial) (landings_in s name))

-- how many reports it has made
abbrev pub reports_in : State → List ℕ → ℕ
reports_in s name = option_map_or (λ q. length q.reports) (queue_named s name) 0

-- the items of all queues, each with its queue's name
abbrev pub queued_items : Settings → State → List QueuedItem
queued_items c s = flat_map (λ q. map (λ i. record { queue = q.name; item = i }) (item_rows c s q)) s.queues

-- the item of a change, with its queue's name
abbrev pub queued_of : Settings → State → ℕ → Option QueuedItem
queued_of c s n = find (λ k. k.item.change == n) (queued_items c s)

-- the item of a serial
abbrev pub item_at : Settings → State → ℕ → Option ItemRow
item_at c s serial = option_map (λ k. k.item) (find (λ k. k.item.serial == serial) (queued_items c s))

-- the first item of a queue above a serial
abbrev pub first_above : ℕ → List ItemRow → Option ItemRow
first_above serial items = find (λ i. nat_lt serial i.serial) items

-- the first items of a queue above a serial, no more than this many
abbrev pub first_items_above : ℕ → ℕ → List ItemRow → List ItemRow
first_items_above serial most items = take most (filter (λ i. nat_lt serial i.serial) items)

-- its items above one serial, up to another
abbrev pub items_between : ℕ → ℕ → List ItemRow → List ItemRow
items_between above last items = filter (λ i. nat_lt above i.serial && nat_le i.serial last) items

-- the last item of a queue below a serial
abbrev pub last_item_below : ℕ → List ItemRow → Option ItemRow
last_item_below serial items = fold (λ last i. Some i) None (filter (λ i. nat_lt i.serial serial) items)

-- the items of a queue above a serial whose change needs this one
abbrev pub items_needing : State → ℕ → ℕ → List ItemRow → List ItemRow
items_needing s n serial items =
    filter (λ i. nat_lt serial i.serial && list_any (λ m. m == n) (change_of s i.change).needs) items

-- the ready changes that need this one, in order of approval
abbrev pub ready_needing : State → ℕ → List Ready
ready_needing s n = filter (λ r. list_any (λ m. m == n) (change_of s r.change).needs) s.ready

-- the plan of the item or the landing of a serial
abbrev pub plan_at : State → ℕ → Option Plan
plan_at s serial = find (λ p. p.serial == serial) s.plans

-- the live builds of a serial, by number
abbrev pub live_builds : State → ℕ → List Build
live_builds s serial = filter (λ b. b.live && b.serial == serial) s.builds

-- the live builds of these items, item by item, each one's by number
abbrev pub builds_of_items : State → List ItemRow → List Build
builds_of_items s items = flat_map (λ i. live_builds s i.serial) items

-- the plans of these items, item by item
abbrev pub plans_of_items : State → List ItemRow → List Plan
plans_of_items s items = flat_map (λ i. option_to_list (plan_at s i.serial)) items
