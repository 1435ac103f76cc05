-- For the inside alone: which ready changes might enter by what edits did.
use Rattle.std.specs.Prelude.{ℕ, Bool, false, ◌&&◌, ◌||◌, not, ◌==◌, nat_le, ◌≡◌, true, if◌then◌else◌, List, [], ◌∷◌}
use Rattle.std.specs.Prelude.{◌++◌, filter, fold, flat_map, length, find, Option, None, Some, Contains}
use Rattle.std.specs.List.{list_any}
use Rattle.std.specs.Option.{option_map_or}
use Rattle.std.specs.Ordering.{nat_cmp}
use Rattle.std.specs.BTreeMap.{BTreeMap, get}
use Rattle.gate_types.specs.declared.records.Ready.{Ready}
use Rattle.gate_types.specs.declared.records.Stage.{Stage}
use Rattle.gate_types.specs.declared.records.Stage.TheVariants as stage
use Rattle.gate_types.specs.declared.edits.Edit.{Edit}
use Rattle.gate_types.specs.declared.edits.Edit.TheVariants as edit
use Rattle.gate_types.specs.Settings.{Settings}
use Rattle.gate_types.specs.State.{State, change_of, is_landed}
use Rattle.gate_types.specs.Admit.{may_enter, entered}
use Rattle.gate_book_trait.specs.Reads.{queue_named, ready_needing}
use Rattle.gate_admission.specs.Seen.{ready_after}
use Rattle.gate_types.specs.Limits.{most_items}

-- ---- what edits let in

-- a ready change needs this one
abbrev pub needs_it : State → ℕ → Ready → Bool
needs_it v n r = list_any (λ m. m == n) (change_of v r.change).needs

-- an edit puts the change of a number, or sets its stage
abbrev pub puts_or_sets : ℕ → Edit → Bool
puts_or_sets n (edit.PutChange k approval) = k.number == n
puts_or_sets n (edit.SetStage m g) = m == n
puts_or_sets n _ = false

-- the queue of a name has its 1,000 items
abbrev pub is_full : State → List ℕ → Bool
is_full s name = option_map_or (λ q. nat_le most_items (length q.items)) (queue_named s name) false

-- the queue that an edit reports a leaving item of
abbrev pub reported : Edit → Option (List ℕ)
reported (edit.PutReport queue place report) = Some queue
reported _ = None

-- an item leaves a queue that was full
abbrev pub makes_room : State → Edit → Bool
makes_room s e = option_map_or (is_full s) (reported e) false

-- whether it is the stage of what landed
abbrev pub is_landing : Stage → Bool
is_landing stage.Landed = true
is_landing _ = false

-- an edit puts a ready change or sets its stage, or puts or sets one that it needs as landed
abbrev pub lets_in : State → Ready → Edit → Bool
lets_in v r (edit.PutChange k approval) = k.number == r.change || is_landed k && needs_it v k.number r
lets_in v r (edit.SetStage n g) = n == r.change || is_landing g && needs_it v n r
lets_in v r _ = false

-- whoever may enter v may by edits of s, where nobody might
abbrev pub EntersByEdits : Settings → State → List Edit → State → Type 0
EntersByEdits c s edits v =
    (r : Ready) → Contains v.ready r → may_enter c v r ≡ true →
    list_any (λ e. makes_room s e || lets_in v r e) edits ≡ true

-- ---- who is looked at

-- the ready changes that edits put
abbrev pub put_ready : List Edit → List Ready
put_ready edits = fold ready_after [] edits

-- the ready changes that need one, but for those that the edits put or set
abbrev pub left_needing : State → List Edit → ℕ → List Ready
left_needing s edits n = filter (λ r. not (list_any (puts_or_sets r.change) edits)) (ready_needing s n)

-- a ready change alone, unless it is put
abbrev pub if_left : Bool → Ready → List Ready
if_left is_put r = if is_put then [] else r ∷ []

-- those that need a change that an edit puts or sets as landed
abbrev pub let_in_by : State → List Edit → Edit → List Ready
let_in_by s edits (edit.PutChange k approval) = if is_landed k then left_needing s edits k.number else []
let_in_by s edits (edit.SetStage n g) = if is_landing g then left_needing s edits n else []
let_in_by s edits _ = []

-- those that the edits put, or that need a change that they put as landed
abbrev pub let_in : State → List Edit → List Ready
let_in s edits = put_ready edits ++ flat_map (let_in_by s edits) edits

-- rows of ready changes, among them each that may enter
pub record AreToLookAt (c : Settings) (v : State) (rows : List Ready) : Type 0 where
  pub ready : (r : Ready) → Contains rows r → Contains v.ready r
  pub all : (r : Ready) → Contains v.ready r → may_enter c v r ≡ true → Contains rows r

-- the change under an approval once a ready one is added
abbrev pub change_under : ℕ → Option ℕ → Ready → Option ℕ
change_under a before r = if r.approval == a then Some r.change else before

-- ---- changes by the numbers of their approvals

-- a ready change is one of these
abbrev pub IsAmong : BTreeMap ℕ ℕ → Ready → Type 0
IsAmong waiting r = get nat_cmp waiting r.approval ≡ Some r.change

-- each is ready, and whoever may enter is one of them
pub record AreCandidates (c : Settings) (v : State) (waiting : BTreeMap ℕ ℕ) : Type 0 where
  pub ready : (r : Ready) → IsAmong waiting r → Contains v.ready r
  pub all : (r : Ready) → Contains v.ready r → may_enter c v r ≡ true → IsAmong waiting r

-- the same but for those who need this change
pub record AreOthers (c : Settings) (v : State) (n : ℕ) (waiting : BTreeMap ℕ ℕ) : Type 0 where
  pub ready : (r : Ready) → IsAmong waiting r → Contains v.ready r
  pub others : (r : Ready) → Contains v.ready r → may_enter c v r ≡ true → needs_it v n r ≡ false → IsAmong waiting r

-- the first ready change that may enter; these are the candidates once it has, but for those who need it
pub record EntersFirst (c : Settings) (v : State) (r : Ready) (waiting : BTreeMap ℕ ℕ) : Type 0 where
  pub first : find (may_enter c v) v.ready ≡ Some r
  pub others : AreOthers c (entered c v r) r.change waiting
