-- For the inside alone: rows as they are after edits, told from the stored ones.
use Rattle.std.specs.Prelude.{ℕ, Bool, false, not, ◌&&◌, ◌==◌, nat_lt, if◌then◌else◌, List, [], ◌∷◌, ◌++◌, filter}
use Rattle.std.specs.Prelude.{find, fold, max, Option, Some, None, option_and_then, is_some, option_map}
use Rattle.std.specs.Option.{option_or}
use Rattle.gate_types.specs.declared.records.Change.{Change}
use Rattle.gate_types.specs.declared.records.Item.{Item as ItemRow}
use Rattle.gate_types.specs.declared.records.Ready.{Ready}
use Rattle.gate_types.specs.declared.records.Stage.{Stage}
use Rattle.gate_types.specs.declared.edits.Edit.{Edit}
use Rattle.gate_types.specs.declared.edits.Edit.TheVariants as edit
use Rattle.gate_types.specs.Names.{same_name}
use Rattle.gate_book_trait.specs.declared.rows.QueuedItem.{QueuedItem}
use Rattle.gate_types.specs.Rows.{edited_items}
use Rattle.gate_admission.specs.declared.items.Fate.{Fate}
use Rattle.gate_admission.specs.declared.items.Fate.TheVariants as fate

-- a change at another stage
abbrev pub staged : Stage → Change → Change
staged g k = record k { stage = g }

-- what is known of a change after an edit
abbrev pub change_put : ℕ → Option Change → Edit → Option Change
change_put n before (edit.PutChange k approval) = if k.number == n then Some k else before
change_put n before (edit.SetStage m g) = if m == n then option_map (staged g) before else before
change_put n before _ = before

-- what the last put of a change's row puts
abbrev pub row_put : ℕ → Option Change → Edit → Option Change
row_put n before (edit.PutChange k approval) = if k.number == n then Some k else before
row_put n before _ = before

-- the same of a list of edits
abbrev pub last_put : ℕ → List Edit → Option Change
last_put n edits = fold (row_put n) None edits

-- the stage that a change was set to behind its last put
abbrev pub stage_put : ℕ → Option Stage → Edit → Option Stage
stage_put n before (edit.PutChange k approval) = if k.number == n then None else before
stage_put n before (edit.SetStage m g) = if m == n then Some g else before
stage_put n before _ = before

-- the same of a list of edits
abbrev pub last_stage : ℕ → List Edit → Option Stage
last_stage n edits = fold (stage_put n) None edits

-- what is known of a change, at a stage if it was set to one
abbrev pub at_last : Option Stage → Option Change → Option Change
at_last None k = k
at_last (Some g) k = option_map (staged g) k

-- a change in the ready list under this approval, if it has one
abbrev pub with_approval : Option ℕ → ℕ → List Ready → List Ready
with_approval None n ready = ready
with_approval (Some a) n ready =
    filter (λ r. nat_lt r.approval a) ready ++
    (record { approval = a; change = n } ∷ filter (λ r. not (nat_lt r.approval a)) ready)

-- the ready list without a change
abbrev pub ready_without : ℕ → List Ready → List Ready
ready_without n ready = filter (λ r. not (r.change == n)) ready

-- the ready list after an edit
abbrev pub ready_after : List Ready → Edit → List Ready
ready_after ready (edit.PutChange k approval) = with_approval approval k.number (ready_without k.number ready)
ready_after ready (edit.SetStage n g) = ready_without n ready
ready_after ready _ = ready

-- what an edit makes of the item of a serial in a queue, whatever it was
abbrev pub fate_after : List ℕ → ℕ → Fate → Edit → Fate
fate_after name serial before (edit.PutItem queue i) =
    if same_name queue name && i.serial == serial then fate.Put i else before
fate_after name serial before (edit.DropItem k) = if k == serial then fate.Dropped else before
fate_after name serial before (edit.LandItem k) = if k == serial then fate.Dropped else before
fate_after name serial before _ = before

-- the item by what became of it, and as it was stored
abbrev pub by_fate : Option ItemRow → Fate → Option ItemRow
by_fate stored fate.Stays = stored
by_fate stored (fate.Put i) = Some i
by_fate stored fate.Dropped = None

-- the items of a queue after edits
abbrev pub items_after : List ℕ → List ItemRow → List Edit → List ItemRow
items_after name items edits = fold (edited_items name) items edits

-- the item of a serial
abbrev pub row_of_serial : ℕ → List ItemRow → Option ItemRow
row_of_serial serial items = find (λ i. i.serial == serial) items

-- an item, if it has this serial
abbrev pub if_at : ℕ → ItemRow → Option ItemRow
if_at serial i = if i.serial == serial then Some i else None

-- an item, if it is of this change
abbrev pub if_of : ℕ → ItemRow → Option ItemRow
if_of n i = if i.change == n then Some i else None

-- the item of a serial, if it is of this change
abbrev pub item_if : ℕ → ℕ → List ItemRow → Option ItemRow
item_if n serial items = option_and_then (if_of n) (row_of_serial serial items)

-- the serial under which an edit puts this change
abbrev pub serial_put : ℕ → Edit → Option ℕ
serial_put n (edit.PutItem queue i) = if i.change == n then Some i.serial else None
serial_put n _ = None

-- the item of a serial, if there is one, if it is of this change
abbrev pub item_if_at : ℕ → List ItemRow → Option ℕ → Option ItemRow
item_if_at n items None = None
item_if_at n items (Some serial) = item_if n serial items

-- the first item of this change among those whose serials edits put under it
abbrev pub item_put : ℕ → List ItemRow → List Edit → Option ItemRow
item_put n items [] = None
item_put n items (e ∷ edits) = option_or (item_if_at n items (serial_put n e)) (item_put n items edits)

-- the item of this change where it was stored
abbrev pub item_left : ℕ → Option QueuedItem → List ItemRow → Option ItemRow
item_left n stored items = item_if_at n items (option_map (λ k. k.item.serial) stored)

-- the greater serial
abbrev pub later : Option ℕ → Option ℕ → Option ℕ
later None b = b
later (Some a) None = Some a
later (Some a) (Some b) = Some (max a b)

-- the serial that an edit puts into a queue, if it is below this one
abbrev pub put_below : List ℕ → ℕ → Edit → Option ℕ
put_below name below (edit.PutItem queue i) =
    if same_name queue name && nat_lt i.serial below then Some i.serial else None
put_below name below _ = None

-- the greatest of these
abbrev pub last_put_below : List ℕ → ℕ → List Edit → Option ℕ
last_put_below name below edits = fold (λ last e. later last (put_below name below e)) None edits

-- an edit puts an item into a queue where none had its serial
abbrev pub grows : List ℕ → List ItemRow → Edit → Bool
grows name items (edit.PutItem queue i) = same_name queue name && not (is_some (row_of_serial i.serial items))
grows name items _ = false

-- an edit drops one of these items, or lands it
abbrev pub shrinks : List ItemRow → Edit → Bool
shrinks items (edit.DropItem serial) = is_some (row_of_serial serial items)
shrinks items (edit.LandItem serial) = is_some (row_of_serial serial items)
shrinks items _ = false

-- one, if it is so
abbrev pub one_if : Bool → ℕ
one_if b = if b then 1 else 0
