-- Edits without those that tell nothing.
use Rattle.std.specs.Prelude.{◌≡◌, ℕ, Bool, true, false, ◌==◌, ◌||◌, if◌then◌else◌, List, [], ◌∷◌, ◌++◌, Option, Some}
use Rattle.std.specs.Prelude.{None}
use Rattle.std.specs.List.{list_any}
use Rattle.std.specs.Ordering.{nat_cmp}
use Rattle.std.specs.BTreeSet.{BTreeSet, contains}
use Rattle.gate_types.specs.declared.edits.Counter.{Counter}
use Rattle.gate_types.specs.declared.edits.Counter.TheVariants as counter
use Rattle.gate_types.specs.declared.edits.Edit.{Edit}
use Rattle.gate_types.specs.declared.edits.Edit.TheVariants as edit
use Rattle.gate_types.specs.Names.{same_name}
use Rattle.gate_reads.specs.declared.raw.PendingReply.{PendingReply}
use Rattle.gate_reads.specs.declared.raw.PendingReply.TheVariants as pending
use Rattle.gate_core.specs.declared.thinned.Later.{Later}

-- ---- what a later edit sets again

-- it puts the row of a change
abbrev pub puts_row : ℕ → Edit → Bool
puts_row n (edit.PutChange k approval) = k.number == n
puts_row n _ = false

-- it sets the stage of a change
abbrev pub sets_stage : ℕ → Edit → Bool
sets_stage n (edit.SetStage m g) = m == n
sets_stage n _ = false

-- two counters are the same
abbrev pub same_counter : Counter → Counter → Bool
same_counter counter.Approval counter.Approval = true
same_counter counter.Build counter.Build = true
same_counter counter.Order counter.Order = true
same_counter _ _ = false

-- it draws from this counter
abbrev pub draws : Counter → Edit → Bool
draws k (edit.SetCounter j n) = same_counter k j
draws k _ = false

-- it sets the window of this queue
abbrev pub sets_window : List ℕ → Edit → Bool
sets_window name (edit.SetWindow queue w) = same_name queue name
sets_window name _ = false

-- it sets the row of a change, a counter or a window, and one of these does again
abbrev pub is_replaced : Edit → List Edit → Bool
is_replaced (edit.PutChange k approval) later = list_any (puts_row k.number) later
is_replaced (edit.SetCounter k n) later = list_any (draws k) later
is_replaced (edit.SetWindow queue w) later = list_any (sets_window queue) later
is_replaced _ later = false

-- ---- the change that enters at once

-- the change that a delivery makes ready, if it makes one so whose stage no edit sets
abbrev pub newly_ready : PendingReply → List Edit → Option ℕ
newly_ready (pending.Now r) edits = None
newly_ready (pending.PlaceOf n) edits = if list_any (sets_stage n) edits then None else Some n

-- it puts the change that was made ready as one that isn't: it entered at once
abbrev pub puts_back : Option ℕ → Edit → Bool
puts_back (Some n) (edit.PutChange k None) = k.number == n
puts_back _ _ = false

-- ---- the edits that are left

-- those that no later one replaces, without the put of the change that entered at once
abbrev pub thinned : Option ℕ → List Edit → List Edit
thinned ready [] = []
thinned ready (e ∷ es) = if is_replaced e es || puts_back ready e then thinned ready es else e ∷ thinned ready es

-- ---- what is noted of later edits

-- one of them draws from this counter
abbrev pub has_drawn : Later → Counter → Bool
has_drawn s counter.Approval = s.approval
has_drawn s counter.Build = s.build
has_drawn s counter.Order = s.order

-- that noted
abbrev pub drawn_noted : Counter → Later → Later
drawn_noted counter.Approval s = record s { approval = true }
drawn_noted counter.Build s = record s { build = true }
drawn_noted counter.Order s = record s { order = true }

-- one of these names is this one
abbrev pub is_among_names : List ℕ → List (List ℕ) → Bool
is_among_names name names = list_any (λ queue. same_name queue name) names

-- the window of a queue is noted besides
pub record HasNoted (queue : List ℕ) (old new : Later) : Type 0 where
  pub windows : new.windows.items ≡ old.windows.items ++ queue ∷ []
  pub changes : new.changes ≡ old.changes
  pub counters : (k : Counter) → has_drawn new k ≡ has_drawn old k

-- these are the numbers of the changes that the edits put
abbrev pub AreNumbersOf : List Edit → BTreeSet ℕ → Type 0
AreNumbersOf edits numbers = (n : ℕ) → contains nat_cmp numbers n ≡ list_any (puts_row n) edits

-- this is what the edits set
pub record IsNotedOf (edits : List Edit) (s : Later) : Type 0 where
  pub changes : AreNumbersOf edits s.changes
  pub counters : (k : Counter) → has_drawn s k ≡ list_any (draws k) edits
  pub windows : (name : List ℕ) → is_among_names name s.windows.items ≡ list_any (sets_window name) edits
