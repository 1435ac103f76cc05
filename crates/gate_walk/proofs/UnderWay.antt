-- A walk under way: before each visit the queue is settled below the row that is wanted, and at the stop all of it.
use Rattle.std.proofs.Common.{◌≡◌, ℕ, suc, ◌+◌, ◌<◌, ◌≤◌, Bool, true, false, ◌&&◌, cond, Option, Some, None, List, []}
use Rattle.std.proofs.Common.{◌∷◌, ◌++◌, map, length, inl, inr, refl, sym, ap, ◌∙◌, subst, arith, append-nil}
use Rattle.std.proofs.Common.{append_assoc, true≢false}
use Rattle.std.specs.Prelude.{◌==◌, nat_lt, nat_le, filter, find, option_map, Result, Ok, Err, OnOk, IfOk}
use Rattle.std.proofs.lemmas.Bool.{and_parts, ltb-true, lt-ltb, leb-true, le-leb}
use Rattle.gate_types.specs.Window.{bounds_by, Bounds}
use Rattle.gate_types.specs.declared.records.Item.{Item as ItemRow}
use Rattle.gate_types.specs.declared.edits.Edit.{Edit}
use Rattle.gate_types.specs.Standing.{places_after}
use Rattle.gate_types.specs.Rows.{fold_edits}
use Rattle.gate_types.specs.Rising.{RisesFrom}
use Rattle.gate_walk.specs.Walk.{Seen, Carry, Walk, behind_visit, fails, verdict_by, visit_edits, carried, is_asked_for}
use Rattle.gate_walk.specs.Walk.{walk_edits, walk_from}
use Rattle.gate_walk.specs.Next.{need, stop, next_of, wanted}
use Rattle.gate_walk.specs.Rescan.{walk_start, stored, ahead_at, row_seen, rows_from, settled_to}
use Rattle.gate_walk.specs.Delivery.{IsWalked, build_ended, touch_of, begins}
use Rattle.gate_walk.specs.declared.walk.QueueFacts.{QueueFacts}
use Rattle.gate_walk.specs.declared.walk.Touched.{Touched}
use Rattle.gate_walk.specs.TakenOut.{out_of}
use Rattle.gate_walk.specs.declared.walk.Next.{Next as CodeNext}
use Rattle.gate_walk.specs.Views.{next_of_code}
use Rattle.gate_walk.specs.UnderWay.{Delivered, queue_after, bounds_after, stale_rows, delivered_rows, places_of}
use Rattle.gate_walk.specs.UnderWay.{tables_settled, tables_settled_below, begun_walk, rows_seen, walk_by, next_by}
use Rattle.gate_walk.specs.UnderWay.{row_wanted, AreWanted, HasVisited, IsBehindLast, rows_walked, IsFor, Starts, GoesOn}
use Rattle.gate_walk.specs.UnderWay.{Ends, Visits}
use Rattle.gate_laws.proofs.Members.{found}
use Rattle.gate_laws.proofs.LiveBuildsCount.{place_serial}
use Rattle.gate_queue_rules.proofs.Ordered.{row_serial, rises}
use Rattle.gate_walk.proofs.Parting.{none_under, all_onward, under, onward, cut, under_at, under_behind, rise_at}
use Rattle.gate_walk.proofs.Parting.{low_at, onward_onward, onward_many, found_first, none_found, find_in, AllFail}
use Rattle.gate_walk.proofs.Parting.{all_fail, parts_at}
use Rattle.gate_walk.proofs.SoFar.{carried_on}
use Rattle.gate_walk.proofs.NextRows.{walk_stops, seen_serial, test_of, wanted_is, find_past, passed, below_push}
use Rattle.gate_walk.proofs.NextRows.{below_up}
use Rattle.gate_walk.proofs.Deliveries.{touched_queue_is_walked}

-- ---- the walk of a delivery

pub walked : (x : Delivered) → IsWalked x.settings x.before x.delivery x.after x.queue x.item
walked x = elim (touched_queue_is_walked x.settings x.before x.delivery x.reply x.after x.queues_ahead x.queue x.queues_behind x.items_ahead x.item x.items_behind x.sound x.lawful x.is_accepted x.queues x.items x.on_item) [
  | inl same ↦ absurd (true≢false (sym same.0 ∙ x.acts))
  | inr w ↦ w.1
]

abbrev see : Delivered → ItemRow → Seen
see x = row_seen x.settings x.after (stale_rows x)

-- the rows from the touched serial on
abbrev rows_on : Delivered → List Seen
rows_on x = onward seen_serial x.item.serial (rows_seen x)

-- what is told of the first of them
abbrev told_by : Delivered → List Seen → List Edit
told_by x us = walk_from (queue_after x).name (bounds_after x) (begun_walk x) us

under_seen : (x : Delivered) (p : ℕ) (rows : List ItemRow) → under seen_serial p (map (see x) rows) ≡ map (see x) (under row_serial p rows)
under_seen x p [] = refl
under_seen x p (r ∷ rows) = by_test (nat_lt r.serial p) (under_seen x p rows)
  where
    by_test : (t : Bool) → under seen_serial p (map (see x) rows) ≡ map (see x) (under row_serial p rows) →
        cond t (see x r ∷ under seen_serial p (map (see x) rows)) (under seen_serial p (map (see x) rows)) ≡ map (see x) (cond t (r ∷ under row_serial p rows) (under row_serial p rows))
    by_test true h = ap (λ l. see x r ∷ l) h
    by_test false h = h

onward_seen : (x : Delivered) (n : ℕ) (rows : List ItemRow) → onward seen_serial n (map (see x) rows) ≡ map (see x) (onward row_serial n rows)
onward_seen x n [] = refl
onward_seen x n (r ∷ rows) = by_test (nat_le n r.serial) (onward_seen x n rows)
  where
    by_test : (t : Bool) → onward seen_serial n (map (see x) rows) ≡ map (see x) (onward row_serial n rows) →
        cond t (see x r ∷ onward seen_serial n (map (see x) rows)) (onward seen_serial n (map (see x) rows)) ≡ map (see x) (cond t (r ∷ onward row_serial n rows) (onward row_serial n rows))
    by_test true h = ap (λ l. see x r ∷ l) h
    by_test false h = h

-- rows from a number on rise from it
onward_rise : {X : Type 0} (key : X → ℕ) (p m : ℕ) (xs : List X) → RisesFrom key m xs → RisesFrom key p (onward key p xs)
onward_rise key p m [] r = tt
onward_rise {X = X} key p m (x ∷ xs) r = by_test (nat_le p (key x)) refl (onward_rise key p (suc (key x)) xs r.1)
  where
    by_test : (t : Bool) → nat_le p (key x) ≡ t → RisesFrom key p (onward key p xs) → RisesFrom key p (cond t (x ∷ onward key p xs) (onward key p xs))
    by_test true e rest =
        let low = leb-true p (key x) e in
        (low, subst (RisesFrom key (suc (key x))) (sym (all_onward key p (suc (key x)) xs (omega (arith, low)) r.1)) r.1)
    by_test false e rest = rest

seen_rise : (x : Delivered) → RisesFrom seen_serial 0 (rows_seen x)
seen_rise x = rises seen_serial (rows_seen x) (walked x).rise

on_rise : (x : Delivered) → RisesFrom seen_serial x.item.serial (rows_on x)
on_rise x = onward_rise seen_serial x.item.serial 0 (rows_seen x) (seen_rise x)

-- the rows of the items rise too
rows_rise : (x : Delivered) → RisesFrom row_serial 0 (stale_rows x)
rows_rise x = back 0 (stale_rows x) (seen_rise x)
  where
    back : (n : ℕ) (rows : List ItemRow) → RisesFrom seen_serial n (map (see x) rows) → RisesFrom row_serial n rows
    back n [] r = tt
    back n (y ∷ rows) r = (r.0, back (suc y.serial) rows r.1)

-- ---- how far the queue is settled

-- what is told of the rows below a serial settles the queue below it
settled_under : (x : Delivered) (p : ℕ) → x.item.serial ≤ p → fold_edits (delivered_rows x) (told_by x (under seen_serial p (rows_on x))) ≡ tables_settled_below x p
settled_under x p l =
    let w = (walked x).walks in
    let i = x.item.serial in
    let last = rows_from i (stale_rows x) in
    let rise = onward_rise row_serial i 0 (stale_rows x) (rows_rise x) in
    let ps = places_of x in
    let rest = onward_onward row_serial i p (stale_rows x) l in
    let many : length (onward place_serial p ps) ≡ length (onward row_serial p last) =
    onward_many place_serial p ps ∙ ap (λ ns. length (filter (λ n. nat_le p n) ns)) (sym w.rows_of_places) ∙ sym (onward_many row_serial p (stale_rows x)) ∙ ap length (sym rest) in
    ap (λ us. fold_edits (delivered_rows x) (told_by x us)) (ap (under seen_serial p) (onward_seen x i (stale_rows x)) ∙ under_seen x p last)
    ∙ w.so_far (under row_serial p last) (onward row_serial p last) (under place_serial p ps) (onward place_serial p ps) (cut row_serial p i last rise) (cut place_serial p 0 ps (rises place_serial ps w.places_rise)) many
    ∙ ap (λ rows. settled_to (bounds_after x) x.after.builds (places_after x.after.builds [] (under place_serial p ps)) rows (queue_after x)) rest

-- all that is told settles all of it
settled_all : (x : Delivered) → fold_edits (delivered_rows x) (told_by x (rows_on x)) ≡ tables_settled x
settled_all x = ap (λ us. fold_edits (delivered_rows x) (told_by x us)) (onward_seen x x.item.serial (stale_rows x)) ∙ (walked x).settles

-- what is carried after visits, and what was told
abbrev carry_by : Delivered → List Seen → Carry
carry_by x vs = (walk_by x vs).carry

abbrev edits_by : Delivered → List Seen → List Edit
edits_by x vs = (walk_by x vs).told

-- the queue and its bounds stay
abbrev name_by : Delivered → List Seen → List ℕ
name_by x vs = (walk_by x vs).name

name_same : (x : Delivered) (vs : List Seen) → name_by x vs ≡ (queue_after x).name
name_same x [] = refl
name_same x (v ∷ vs) = name_same x vs

bounds_same : (x : Delivered) (vs : List Seen) → (walk_by x vs).bounds ≡ bounds_after x
bounds_same x [] = refl
bounds_same x (v ∷ vs) = bounds_same x vs

carry_next : (x : Delivered) (v : Seen) (vs : List Seen) → carry_by x (v ∷ vs) ≡ carried (bounds_after x) (carry_by x vs) v
carry_next x v vs = ap (λ f. carried f (carry_by x vs) v) (bounds_same x vs)

edits_next : (x : Delivered) (v : Seen) (vs : List Seen) → edits_by x (v ∷ vs) ≡ edits_by x vs ++ visit_edits (queue_after x).name (bounds_after x) (carry_by x vs) v
edits_next x v vs = λ k. edits_by x vs ++ visit_edits (name_same x vs k) (bounds_same x vs k) (carry_by x vs) v

-- ---- the first rows of a walk, and more of them

-- what is carried behind rows, the first of which is asked for whatever is carried
abbrev carry_behind : Delivered → List Seen → Carry
carry_behind x [] = begun_walk x
carry_behind x (u ∷ us) = carried_on (queue_after x).name (bounds_after x) (carried (bounds_after x) (begun_walk x) u) us

carried_more : (name : List ℕ) (bounds : Bounds) (k : Carry) (us vs : List Seen) → carried_on name bounds k (us ++ vs) ≡ carried_on name bounds (carried_on name bounds k us) vs
carried_more name bounds k [] vs = refl
carried_more name bounds k (u ∷ us) vs = carried_more name bounds (cond (is_asked_for k u) (carried bounds k u) k) us vs

edits_more : (name : List ℕ) (bounds : Bounds) (k : Carry) (us vs : List Seen) → walk_edits name bounds k (us ++ vs) ≡ walk_edits name bounds k us ++ walk_edits name bounds (carried_on name bounds k us) vs
edits_more name bounds k [] vs = refl
edits_more name bounds k (u ∷ us) vs = by_test (is_asked_for k u) (edits_more name bounds (carried bounds k u) us vs) (edits_more name bounds k us vs)
  where
    by_test : (t : Bool) → walk_edits name bounds (carried bounds k u) (us ++ vs) ≡ walk_edits name bounds (carried bounds k u) us ++ walk_edits name bounds (carried_on name bounds (carried bounds k u) us) vs →
        walk_edits name bounds k (us ++ vs) ≡ walk_edits name bounds k us ++ walk_edits name bounds (carried_on name bounds k us) vs →
        cond t (visit_edits name bounds k u ++ walk_edits name bounds (carried bounds k u) (us ++ vs)) (walk_edits name bounds k (us ++ vs))
        ≡ cond t (visit_edits name bounds k u ++ walk_edits name bounds (carried bounds k u) us) (walk_edits name bounds k us) ++ walk_edits name bounds (carried_on name bounds (cond t (carried bounds k u) k) us) vs
    by_test true a b = ap (λ l. visit_edits name bounds k u ++ l) a ∙ sym (append_assoc (visit_edits name bounds k u) (walk_edits name bounds (carried bounds k u) us) (walk_edits name bounds (carried_on name bounds (carried bounds k u) us) vs))
    by_test false a b = b

-- rows that aren't asked for change nothing
unasked_carry : (name : List ℕ) (bounds : Bounds) (k : Carry) (vs : List Seen) → AllFail (is_asked_for k) vs → carried_on name bounds k vs ≡ k
unasked_carry name bounds k [] h = refl
unasked_carry name bounds k (v ∷ vs) h = ap (λ t. carried_on name bounds (cond t (carried bounds k v) k) vs) h.0 ∙ unasked_carry name bounds k vs h.1

unasked_edits : (name : List ℕ) (bounds : Bounds) (k : Carry) (vs : List Seen) → AllFail (is_asked_for k) vs → walk_edits name bounds k vs ≡ []
unasked_edits name bounds k [] h = refl
unasked_edits name bounds k (v ∷ vs) h = ap (λ t. cond t (visit_edits name bounds k v ++ walk_edits name bounds (carried bounds k v) vs) (walk_edits name bounds k vs)) h.0 ∙ unasked_edits name bounds k vs h.1

-- the same behind rows of which the last is that of some visit
carry_on : (x : Delivered) (us : List Seen) (u : Seen) (vs : List Seen) → carry_behind x ((us ++ u ∷ []) ++ vs) ≡ carried_on (queue_after x).name (bounds_after x) (carry_behind x (us ++ u ∷ [])) vs
carry_on x [] u vs = refl
carry_on x (y ∷ us) u vs = carried_more (queue_after x).name (bounds_after x) (carried (bounds_after x) (begun_walk x) y) (us ++ u ∷ []) vs

told_on : (x : Delivered) (us : List Seen) (u : Seen) (vs : List Seen) → told_by x ((us ++ u ∷ []) ++ vs) ≡ told_by x (us ++ u ∷ []) ++ walk_edits (queue_after x).name (bounds_after x) (carry_behind x (us ++ u ∷ [])) vs
told_on x [] u vs = ap (λ l. l ++ walk_edits (queue_after x).name (bounds_after x) (carried (bounds_after x) (begun_walk x) u) vs) (sym (append-nil (visit_edits (queue_after x).name (bounds_after x) (begun_walk x) u)))
told_on x (y ∷ us) u vs =
    let k = carried (bounds_after x) (begun_walk x) y in
    let first = visit_edits (queue_after x).name (bounds_after x) (begun_walk x) y in
    ap (λ l. first ++ l) (edits_more (queue_after x).name (bounds_after x) k (us ++ u ∷ []) vs)
    ∙ sym (append_assoc first (walk_edits (queue_after x).name (bounds_after x) k (us ++ u ∷ [])) (walk_edits (queue_after x).name (bounds_after x) (carried_on (queue_after x).name (bounds_after x) k (us ++ u ∷ [])) vs))

-- a row behind a serial that isn't wanted isn't asked for
unasked : (k : Carry) (n m : ℕ) (vs ws : List Seen) → n < m → RisesFrom seen_serial m (vs ++ ws) → AllFail (test_of k n) vs → AllFail (is_asked_for k) vs
unasked k n m [] ws l r h = tt
unasked k n m (v ∷ vs) ws l r h =
    let low : m ≤ v.row.serial = r.0 in
    (ap (λ t. t && is_asked_for k v) (sym (lt-ltb n v.row.serial (omega arith))) ∙ h.0, unasked k n (suc v.row.serial) vs ws (omega arith) r.1 h.1)

-- ---- visits of the rows that are wanted

-- the rows up to the last visit, the first visit of which is by no row before it
abbrev EndsWith : List Seen → List Seen → Type 0
EndsWith [] us = us ≡ []
EndsWith (v ∷ vs) us = (bs : List Seen) × (us ≡ bs ++ v ∷ [])

-- the visits have told what is to be told of the rows that were passed
record Reached (x : Delivered) (vs : List Seen) : Type 0 where
  passed : List Seen
  left : List Seen
  parts : rows_on x ≡ passed ++ left
  last : EndsWith vs passed
  carries : carry_by x vs ≡ carry_behind x passed
  tells : edits_by x vs ≡ told_by x passed

-- the row that is wanted, and those before it
record Reaches (x : Delivered) (vs : List Seen) (v : Seen) : Type 0 where
  front : List Seen
  behind : List Seen
  parts : rows_on x ≡ front ++ v ∷ behind
  tells : edits_by x vs ≡ told_by x front
  carries_on : carry_by x (v ∷ vs) ≡ carry_behind x (front ++ v ∷ [])
  tells_on : edits_by x (v ∷ vs) ≡ told_by x (front ++ v ∷ [])

-- behind a visit: the rows that are left, as their test finds them
record Behind (x : Delivered) (u : Seen) (k : Carry) (passed : List Seen) : Type 0 where
  ahead : List Seen
  passed_is : passed ≡ ahead ++ u ∷ []
  left : List Seen
  parts : rows_on x ≡ (ahead ++ u ∷ []) ++ left
  rise : RisesFrom seen_serial (suc u.row.serial) left
  finds : wanted k.gone (next_of k u.row.serial) (rows_seen x) ≡ find (test_of k u.row.serial) left

rows_behind : (x : Delivered) (u : Seen) (vs : List Seen) (h : Reached x (u ∷ vs)) → Behind x u (carry_by x (u ∷ vs)) h.passed
rows_behind x u vs h =
    let k = carry_by x (u ∷ vs) in
    let n = u.row.serial in
    let ahead = h.last.0 in
    let parts : rows_on x ≡ (ahead ++ u ∷ []) ++ h.left = h.parts ∙ ap (λ l. l ++ h.left) h.last.1 in
    let rise = subst (RisesFrom seen_serial x.item.serial) (parts ∙ append_assoc ahead (u ∷ []) h.left) (on_rise x) in
    let low = low_at seen_serial x.item.serial ahead u h.left rise in
    let at = rise_at seen_serial x.item.serial ahead u h.left rise in
    let below = below_push (suc n) ahead u (below_up n (suc n) ahead (omega arith) at.0) (omega arith) in
    record {
      ahead = ahead;
      passed_is = h.last.1;
      left = h.left;
      parts = parts;
      rise = at.1;
      finds =
          wanted_is k n (rows_seen x)
          ∙ sym (find_in (test_of k n) (λ v. nat_le x.item.serial v.row.serial) (rows_seen x) (λ v e. le-leb x.item.serial v.row.serial (let more = ltb-true n v.row.serial (and_parts (nat_lt n v.row.serial) (is_asked_for k v) e).0 in omega (arith, more, low))))
          ∙ ap (find (test_of k n)) parts
          ∙ find_past (test_of k n) (ahead ++ u ∷ []) h.left (passed k n (ahead ++ u ∷ []) below);
    }

reaches_first : (x : Delivered) (v : Seen) → row_wanted x [] ≡ Some v → Reaches x [] v
reaches_first x v e =
    let f = found_first (λ w. nat_le x.item.serial w.row.serial) (rows_seen x) v e in
    record { front = []; behind = f.0; parts = f.1; tells = refl; carries_on = carry_next x v []; tells_on = edits_next x v [] ∙ sym (append-nil (visit_edits (queue_after x).name (bounds_after x) (begun_walk x) v)) }

reaches_next : (x : Delivered) (u : Seen) (vs : List Seen) (v : Seen) → Reached x (u ∷ vs) → row_wanted x (u ∷ vs) ≡ Some v → Reaches x (u ∷ vs) v
reaches_next x u vs v h e =
    let name = (queue_after x).name in
    let bounds = bounds_after x in
    let k = carry_by x (u ∷ vs) in
    let n = u.row.serial in
    let b = rows_behind x u vs h in
    let at = parts_at (test_of k n) b.left v (sym b.finds ∙ e) in
    let us = b.ahead ++ u ∷ [] in
    let zs = at.before in
    let passed_is : h.passed ≡ us = b.passed_is in
    let none = unasked k n (suc n) zs (v ∷ at.behind) (omega arith) (subst (RisesFrom seen_serial (suc n)) at.parts b.rise) at.fail in
    let asked : is_asked_for k v ≡ true = (and_parts (nat_lt n v.row.serial) (is_asked_for k v) at.passes).1 in
    let carries : carry_behind x us ≡ k = sym (h.carries ∙ ap (carry_behind x) passed_is) in
    let carry_front : carry_behind x (us ++ zs) ≡ k = carry_on x b.ahead u zs ∙ ap (λ c. carried_on name bounds c zs) carries ∙ unasked_carry name bounds k zs none in
    let told_front : told_by x (us ++ zs) ≡ told_by x us =
    told_on x b.ahead u zs ∙ (λ j. told_by x us ++ walk_edits name bounds (carries j) zs) ∙ ap (λ l. told_by x us ++ l) (unasked_edits name bounds k zs none) ∙ append-nil (told_by x us) in
    let tells : edits_by x (u ∷ vs) ≡ told_by x (us ++ zs) = h.tells ∙ ap (told_by x) passed_is ∙ sym told_front in
    let carry_zs : carried_on name bounds k (zs ++ v ∷ []) ≡ carried bounds k v =
    carried_more name bounds k zs (v ∷ []) ∙ ap (λ c. carried_on name bounds c (v ∷ [])) (unasked_carry name bounds k zs none) ∙ ap (λ t. cond t (carried bounds k v) k) asked in
    let told_zs : walk_edits name bounds k (zs ++ v ∷ []) ≡ visit_edits name bounds k v =
    edits_more name bounds k zs (v ∷ []) ∙ (λ j. unasked_edits name bounds k zs none j ++ walk_edits name bounds (unasked_carry name bounds k zs none j) (v ∷ []))
    ∙ ap (λ t. cond t (visit_edits name bounds k v ++ []) []) asked ∙ append-nil (visit_edits name bounds k v) in
    let grouped : (us ++ zs) ++ v ∷ [] ≡ us ++ (zs ++ v ∷ []) = append_assoc us zs (v ∷ []) in
    record {
      front = us ++ zs;
      behind = at.behind;
      parts = b.parts ∙ ap (λ l. us ++ l) at.parts ∙ sym (append_assoc us zs (v ∷ at.behind));
      tells = tells;
      carries_on = carry_next x v (u ∷ vs) ∙ sym (ap (carry_behind x) grouped ∙ carry_on x b.ahead u (zs ++ v ∷ []) ∙ ap (λ c. carried_on name bounds c (zs ++ v ∷ [])) carries ∙ carry_zs);
      tells_on = edits_next x v (u ∷ vs) ∙ sym (ap (told_by x) grouped ∙ told_on x b.ahead u (zs ++ v ∷ []) ∙ (λ j. told_by x us ++ walk_edits name bounds (carries j) (zs ++ v ∷ []))
          ∙ (λ j. (sym (h.tells ∙ ap (told_by x) passed_is)) j ++ told_zs j));
    }

reaches : (x : Delivered) (vs : List Seen) (v : Seen) → Reached x vs → row_wanted x vs ≡ Some v → Reaches x vs v
reaches x [] v h e = reaches_first x v e
reaches x (u ∷ vs) v h e = reaches_next x u vs v h e

reached : (x : Delivered) (vs : List Seen) → AreWanted x vs → Reached x vs
reached x [] w = record { passed = []; left = rows_on x; parts = refl; last = refl; carries = refl; tells = refl }
reached x (v ∷ vs) w =
    let r = reaches x vs v (reached x vs w.1) w.0 in
    record { passed = r.front ++ v ∷ []; left = r.behind; parts = r.parts ∙ sym (append_assoc r.front (v ∷ []) r.behind); last = (r.front, refl); carries = r.carries_on; tells = r.tells_on }

-- ---- what the laws of the calls ask for

-- before the visit of the row that is wanted, and behind it
pub settled_before : (x : Delivered) (vs : List Seen) (v : Seen) → AreWanted x vs → row_wanted x vs ≡ Some v → fold_edits (delivered_rows x) (edits_by x vs) ≡ tables_settled_below x v.row.serial
settled_before x vs v w e =
    let r = reaches x vs v (reached x vs w) e in
    let rise = subst (RisesFrom seen_serial x.item.serial) r.parts (on_rise x) in
    let low = low_at seen_serial x.item.serial r.front v r.behind rise in
    ap (fold_edits (delivered_rows x)) (r.tells ∙ ap (told_by x) (sym (ap (under seen_serial v.row.serial) r.parts ∙ under_at seen_serial x.item.serial r.front v r.behind rise)))
    ∙ settled_under x v.row.serial low

pub settled_behind : (x : Delivered) (vs : List Seen) (v : Seen) → AreWanted x vs → row_wanted x vs ≡ Some v → fold_edits (delivered_rows x) (edits_by x (v ∷ vs)) ≡ tables_settled_below x (v.row.serial + 1)
settled_behind x vs v w e =
    let r = reaches x vs v (reached x vs w) e in
    let rise = subst (RisesFrom seen_serial x.item.serial) r.parts (on_rise x) in
    let low = low_at seen_serial x.item.serial r.front v r.behind rise in
    let next : v.row.serial + 1 ≡ suc v.row.serial = omega arith in
    ap (fold_edits (delivered_rows x)) (r.tells_on ∙ ap (told_by x) (sym (ap (under seen_serial (suc v.row.serial)) r.parts ∙ under_behind seen_serial x.item.serial r.front v r.behind rise)))
    ∙ settled_under x (suc v.row.serial) (omega (arith, low)) ∙ ap (tables_settled_below x) (sym next)

-- where no row is wanted
pub settled_at_end : (x : Delivered) (vs : List Seen) → AreWanted x vs → row_wanted x vs ≡ None → fold_edits (delivered_rows x) (edits_by x vs) ≡ tables_settled x
settled_at_end x [] w e = ap (λ us. fold_edits (delivered_rows x) (told_by x us)) (sym (none_found (λ v. nat_le x.item.serial v.row.serial) (rows_seen x) e)) ∙ settled_all x
settled_at_end x (u ∷ vs) w e =
    let name = (queue_after x).name in
    let bounds = bounds_after x in
    let h = reached x (u ∷ vs) w in
    let k = carry_by x (u ∷ vs) in
    let n = u.row.serial in
    let b = rows_behind x u vs h in
    let us = b.ahead ++ u ∷ [] in
    let passed_is : h.passed ≡ us = b.passed_is in
    let carries : carry_behind x us ≡ k = sym (h.carries ∙ ap (carry_behind x) passed_is) in
    let none = unasked k n (suc n) b.left [] (omega arith) (subst (RisesFrom seen_serial (suc n)) (sym (append-nil b.left)) b.rise) (all_fail (test_of k n) b.left (sym b.finds ∙ e)) in
    let told : told_by x (us ++ b.left) ≡ told_by x us =
    told_on x b.ahead u b.left ∙ (λ j. told_by x us ++ walk_edits name bounds (carries j) b.left) ∙ ap (λ l. told_by x us ++ l) (unasked_edits name bounds k b.left none) ∙ append-nil (told_by x us) in
    ap (fold_edits (delivered_rows x)) (h.tells ∙ ap (told_by x) passed_is ∙ sym told ∙ ap (told_by x) (sym b.parts)) ∙ settled_all x

-- ---- the calls

-- nothing has been visited, and nothing is settled but the items before the touched one, which stay as they are
pub starts : (x : Delivered) (w : Walk) (queue : QueueFacts) (touched : Touched) →
    w ≡ record { name = queue.settings.now.name; bounds = bounds_by queue.settings.now; touched = touched.serial; told = []; carry = walk_start (option_map out_of touched.out) touched.ahead queue.reports queue.window } →
    IsFor x queue touched → Starts x w
starts x w queue touched begins f =
    let i = x.item.serial in
    let none : under seen_serial i (rows_on x) ≡ [] = none_under seen_serial i i (rows_on x) (omega arith) (on_rise x) in
    let is : w ≡ walk_by x [] = begins ∙ (λ k. record { name = f.name k; bounds = f.bounds k; touched = f.serial k; told = []; carry = f.begins k }) in
    record {
      visited = record { is = is; were_wanted = tt };
      settled = ap (fold_edits (delivered_rows x)) (ap (λ (z : Walk). z.told) is ∙ ap (told_by x) (sym none)) ∙ settled_under x i (omega arith);
    }

-- the serials that are asked for rise
pub is_behind : (x : Delivered) (vs : List Seen) (v : Seen) → row_wanted x vs ≡ Some v → IsBehindLast x vs v
is_behind x [] v e = leb-true x.item.serial v.row.serial (found (λ w. nat_le x.item.serial w.row.serial) (rows_seen x) v e).1
is_behind x (u ∷ vs) v e =
    let k = carry_by x (u ∷ vs) in
    let n = u.row.serial in
    let f = found (test_of k n) (rows_seen x) v (sym (wanted_is k n (rows_seen x)) ∙ e) in
    ltb-true n v.row.serial (and_parts (nat_lt n v.row.serial) (is_asked_for k v) f.1).0

-- where a build ended, the walk begins with nothing taken out
begun_after_build : (x : Delivered) → touch_of x.delivery ≡ build_ended → (k : Carry) → k ≡ begun_walk x → k ≡ begins (queue_after x) x.item build_ended (stored x.settings x.before x.queue)
begun_after_build x t k e = e ∙ ap (λ y. begins (queue_after x) x.item y (stored x.settings x.before x.queue)) t

-- a visit of the row that is wanted
pub goes_on : (x : Delivered) (old new : Walk) (v : Seen) (vs : List Seen) (next : CodeNext) → new ≡ behind_visit old v → next_of_code next ≡ next_of new.carry v.row.serial →
    HasVisited x old vs → row_wanted x vs ≡ Some v → GoesOn x old new v vs next
goes_on x old new v vs next visits answers h e =
    let is : new ≡ walk_by x (v ∷ vs) = visits ∙ ap (λ w. behind_visit w v) h.is in
    let wanted_all : AreWanted x (v ∷ vs) = (e, h.were_wanted) in
    let wants : next_of_code next ≡ next_by x (v ∷ vs) = answers ∙ ap (λ (w : Walk). next_of w.carry v.row.serial) is in
    let tells : rows_walked x new ≡ fold_edits (delivered_rows x) (edits_by x (v ∷ vs)) = ap (rows_walked x) is in
    record {
      before = ap (rows_walked x) h.is ∙ settled_before x vs v h.were_wanted e;
      behind = tells ∙ settled_behind x vs v h.were_wanted e;
      at_stop = λ s. tells ∙ settled_at_end x (v ∷ vs) wanted_all (ap (λ n. wanted (carry_by x (v ∷ vs)).gone n (rows_seen x)) (sym wants ∙ ap next_of_code s));
      visited = record { is = is; were_wanted = wanted_all };
      wants = wants;
      is_behind = is_behind x vs v e;
      stops = record {
        at_once = λ none ended mark stays.
            let rows = stored x.settings x.before x.queue in
            let o = queue_after x in
            let k : old.carry ≡ begins o x.item build_ended rows = begun_after_build x ended old.carry (ap (λ (w : Walk). w.carry) h.is ∙ ap (carry_by x) none) in
            answers ∙ ap (λ (w : Walk). next_of w.carry v.row.serial) visits
            ∙ ap (λ c. next_of (carried old.bounds c v) v.row.serial) k
            ∙ walk_stops.at_once old.bounds (length o.reports) o.window (ahead_at x.item.serial rows) v (ap (λ c. fails c v) (sym k) ∙ mark) (ap (λ c. verdict_by c v) (sym k) ∙ stays);
        no_further = λ same mark fine.
            answers ∙ ap (λ (w : Walk). next_of w.carry v.row.serial) visits
            ∙ walk_stops.not_further old.bounds v.row.serial old.carry v same mark fine
            ∙ ap (λ (w : Walk). cond (length w.carry.gone == 0) stop (need v.row.serial)) (sym visits);
      };
    }

-- no row is wanted
pub ends : (x : Delivered) (old : Walk) (vs : List Seen) → HasVisited x old vs → row_wanted x vs ≡ None → Ends x old old vs
ends x old vs h e = record { settled = ap (rows_walked x) h.is ∙ settled_at_end x vs h.were_wanted e; same = refl; visited = h }

-- what a visit answers, where the row is there
pub visit_settles : {X E : Type 0} (see_by : X → Seen) (old new : Walk) (seen : Option X) (v : X) (answer : Result CodeNext E) → seen ≡ Some v →
    OnOk answer (new ≡ behind_visit old (see_by v)) → IfOk answer (λ n. next_of_code n ≡ next_of new.carry (see_by v).row.serial) →
    IfOk answer (λ n. (x : Delivered) (vs : List Seen) → HasVisited x old vs → row_wanted x vs ≡ option_map see_by seen → Visits x old new vs (option_map see_by seen) n)
visit_settles see_by old new seen v (Ok n) is visits answers =
    λ x vs h e. subst (λ s. Visits x old new vs (option_map see_by s) n) (sym is) (goes_on x old new (see_by v) vs n visits answers h (e ∙ ap (option_map see_by) is))
visit_settles see_by old new seen v (Err e) is visits answers = tt
