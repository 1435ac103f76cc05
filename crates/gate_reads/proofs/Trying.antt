-- The items of a queue before the first for which a build is due.
use Rattle.std.proofs.Common.{◌≡◌, ℕ, zero, suc, ◌-◌, Bool, true, false, ◌||◌, cond, Some, None, List, [], ◌∷◌, ◌++◌}
use Rattle.std.proofs.Common.{map, take, refl, sym, ap, ◌∙◌, arith, lt-ltb, true≢false}
use Rattle.std.specs.Prelude.{◌==◌, nat_lt, if◌then◌else◌, slice_get, option_map}
use Rattle.std.specs.List.{flat_map}
use Rattle.std.proofs.lemmas.List.{map-append}
use Rattle.std.proofs.lemmas.List.Concat.{flat_map-cons}
use Rattle.std.proofs.lemmas.Option.{none-some}
use Rattle.gate_types.specs.declared.records.Build.{Build}
use Rattle.gate_types.specs.declared.records.Entry.{Entry}
use Rattle.gate_types.specs.declared.records.Item.{Item as ItemRow}
use Rattle.gate_types.specs.Settings.{Settings}
use Rattle.gate_types.specs.State.{Item, Queue, State}
use Rattle.gate_types.specs.Line.{Place, item_entry}
use Rattle.gate_types.specs.Standing.{is_failing, next_ahead, places}
use Rattle.gate_types.specs.Choice.{builds_for, choices}
use Rattle.gate_reads.proofs.Walking.{IsLeft, IsNext, place_behind, places_from}

pub first_some : {X : Type 0} (f : X → X) (b : X) (xs ys : List X) → Some b ≡ option_map f (slice_get xs 0) →
    Some b ≡ option_map f (slice_get (xs ++ ys) 0)
first_some f b [] ys e = absurd (none-some b (sym e))
first_some f b (x ∷ xs) ys e = e

pub first_none : {X : Type 0} (f : X → X) (xs ys : List X) → None ≡ option_map f (slice_get xs 0) →
    slice_get (xs ++ ys) 0 ≡ slice_get ys 0
first_none f [] ys e = refl
first_none f (x ∷ xs) ys e = absurd (none-some (f x) e)

-- whether one more item may be tested
abbrev pub is_open : ℕ → ℕ → Bool
is_open window left = window == 0 || nat_lt 0 left

-- the places that are left within the window
abbrev pub open_places : ℕ → ℕ → List Place → List Place
open_places window left ps = if window == 0 then ps else take left ps

-- up to this serial no build is due; these changes are ahead of what is left
pub record Tried (c : Settings) (s : State) (q : Queue) (above left : ℕ) (ahead : List Entry) : Type 0 where
  pub items : List Item
  pub rest : List Item
  pub ahead_is : ahead ≡ map item_entry items
  pub behind : IsLeft c s q above items rest
  pub due : slice_get (choices c s q) 0
      ≡ slice_get (flat_map (builds_for s q) (open_places q.window left (places_from c s q items rest))) 0

pub tried_front : (c : Settings) (s : State) (q : Queue) (left : ℕ) (ahead : List Entry) → IsLeft c s q 0 [] q.items →
    left ≡ q.window → ahead ≡ [] → Tried c s q 0 left ahead
tried_front c s q left ahead l e a = record {
  items = [];
  rest = q.items;
  ahead_is = a;
  behind = l;
  due = ap (λ n. slice_get (flat_map (builds_for s q) (open_places q.window n (places c s q))) 0) (sym e);
}

none_open : (s : State) (q : Queue) (window left : ℕ) (ps : List Place) → is_open window left ≡ false →
    slice_get (flat_map (builds_for s q) (open_places window left ps)) 0 ≡ None
none_open s q window zero ps e = by_window (window == 0) e
  where
    by_window : (b : Bool) → (b || false) ≡ false → slice_get (flat_map (builds_for s q) (cond b ps [])) 0 ≡ None
    by_window true e = absurd (true≢false e)
    by_window false e = refl
none_open s q window (suc left) ps e = by_window (window == 0) (nat_lt 0 (suc left))
    (lt-ltb 0 (suc left) (omega arith)) e
  where
    by_window : (b t : Bool) → t ≡ true → (b || t) ≡ false →
        slice_get (flat_map (builds_for s q) (cond b ps (take (suc left) ps))) 0 ≡ None
    by_window true t h e = absurd (true≢false e)
    by_window false t h e = absurd (true≢false (sym h ∙ e))

pub tried_closed : (c : Settings) (s : State) (q : Queue) (above left : ℕ) (ahead : List Entry) →
    Tried c s q above left ahead → is_open q.window left ≡ false → slice_get (choices c s q) 0 ≡ None
tried_closed c s q above left ahead h e = h.due ∙ none_open s q q.window left (places_from c s q h.items h.rest) e

-- ---- the next row

-- the first place that is left, and the others
pub open_first : (s : State) (q : Queue) (window left : ℕ) (p : Place) (ps : List Place) → is_open window left ≡ true →
    flat_map (builds_for s q) (open_places window left (p ∷ ps))
    ≡ builds_for s q p ++ flat_map (builds_for s q) (open_places window (left - 1) ps)
open_first s q window zero p ps e = by_window (window == 0) e
  where
    by_window : (b : Bool) → (b || false) ≡ true → flat_map (builds_for s q) (cond b (p ∷ ps) [])
        ≡ builds_for s q p ++ flat_map (builds_for s q) (cond b ps (take (0 - 1) ps))
    by_window true e = flat_map-cons (builds_for s q) p ps
    by_window false e = absurd (true≢false (sym e))
open_first s q window (suc left) p ps e =
    let less : left ≡ suc left - 1 = omega arith in
    by_window (window == 0)
    ∙ ap (λ n. builds_for s q p ++ flat_map (builds_for s q) (open_places window n ps)) less
  where
    by_window : (b : Bool) → flat_map (builds_for s q) (cond b (p ∷ ps) (p ∷ take left ps))
        ≡ builds_for s q p ++ flat_map (builds_for s q) (cond b ps (take left ps))
    by_window true = flat_map-cons (builds_for s q) p ps
    by_window false = flat_map-cons (builds_for s q) p (take left ps)

-- its place
abbrev pub place_next : {c : Settings} {s : State} {q : Queue} {items rest : List Item} {row : ItemRow} →
    IsNext c s q items rest row → Place
place_next {c} {s} {q} {items} n = place_behind c s q items n.item

-- what is ahead of the row behind it
pub longer_is : (bs : List Build) (p : Place) → map item_entry (next_ahead bs p)
    ≡ (if is_failing bs p then map item_entry p.ahead else map item_entry p.ahead ++ item_entry p.item ∷ [])
longer_is bs p = by_failing (is_failing bs p)
  where
    by_failing : (t : Bool) → map item_entry (cond t p.ahead (p.ahead ++ p.item ∷ []))
        ≡ cond t (map item_entry p.ahead) (map item_entry p.ahead ++ item_entry p.item ∷ [])
    by_failing true = refl
    by_failing false = map-append item_entry p.ahead (p.item ∷ [])

-- what is pushed for a row
abbrev pub with_row : ItemRow → List Entry → List Entry
with_row row ahead = if row.failing then ahead else ahead ++ record
    { change = row.change; revision = row.revision } ∷ []
