-- A walk over one queue leaves what settling it leaves: by what became of the touched item.
use Rattle.std.proofs.Common.{◌≡◌, ℕ, suc, ◌+◌, ◌≤◌, Bool, true, false, not, cond, Option, Some, None, List, [], ◌∷◌}
use Rattle.std.proofs.Common.{◌++◌, map, length, refl, sym, ap, ◌∙◌, subst, arith, append_assoc, length-append}
use Rattle.gate_types.specs.Window.{Bounds}
use Rattle.gate_types.specs.declared.records.Build.{Build}
use Rattle.gate_types.specs.declared.records.Item.{Item as ItemRow}
use Rattle.gate_types.specs.declared.records.Landing.{Landing}
use Rattle.gate_types.specs.declared.records.Report.{Report}
use Rattle.gate_types.specs.declared.edits.Edit.{Edit}
use Rattle.gate_types.specs.State.{Item, has_change}
use Rattle.gate_types.specs.Line.{Place}
use Rattle.gate_types.specs.Standing.{is_failing, with_ahead, next_ahead, places_after}
use Rattle.gate_types.specs.Rows.{Rows, row_of, numbered_reports, fold_edits}
use Rattle.gate_types.specs.Rising.{RisesFrom}
use Rattle.gate_queue_rules.specs.Settled.{settled_rows}
use Rattle.gate_walk.specs.Walk.{Seen, Carry, is_asked_for, carried, visit_edits, walk_from}
use Rattle.gate_walk.specs.Rescan.{settled_to}
use Rattle.gate_queue_rules.proofs.Ordered.{GoWith, row_serial, build_number, ahead_rise, ahead_with}
use Rattle.gate_walk.proofs.Slots.{all_count}
use Rattle.gate_walk.proofs.Steps.{Known}
use Rattle.gate_walk.proofs.Resets.{Right, asked, rows_seen, last_serial, none_parts, Quiet, visits, same, NotLanded}
use Rattle.gate_walk.proofs.Needs.{needing}
use Rattle.gate_walk.proofs.Passes.{landed_place, Behind, passing, cast}
use Rattle.gate_walk.proofs.Folded.{told, walk_settles}
use Rattle.gate_walk.proofs.Events.{forced, forced_told, all_before, nones, quiet_split, front_right}
use Rattle.gate_walk.proofs.Events.{known_front, known_start, TouchedAt, seen_as, touched, taken_out, landed_out}
use Rattle.gate_walk.proofs.SoFar.{right_first, carried_on, asked_more, told_so_far}
use Rattle.gate_walk.proofs.Front.{Front, front_kept}
use Rattle.gate_walk.proofs.Moved.{Elsewhere, Others, still_quiet, visits_rows}
use Rattle.gate_laws.proofs.LiveBuildsCount.{place_serial}
use Rattle.gate_laws.proofs.Places.{ahead_end}

-- ---- rows, places, edits

nones_told : (front : List Place) (es : List (Option (List Edit))) → told (nones front ++ es) ≡ told es
nones_told [] es = refl
nones_told (p ∷ ps) es = nones_told ps es

pub rows_split : (bs : List Build) (ahead : List Item) (front ps : List Place) → map (row_of bs) (places_after bs ahead (front ++ ps)) ≡ map (row_of bs) (places_after bs ahead front) ++ map (row_of bs) (places_after bs (ahead_end bs ahead front) ps)
rows_split bs ahead [] ps = refl
rows_split bs ahead (p ∷ front) ps = ap (λ l. row_of bs (with_ahead ahead p) ∷ l) (rows_split bs (next_ahead bs (with_ahead ahead p)) front ps)

go_rows : (bs : List Build) (now : Place → Place) → ((p : Place) → p.item.serial ≡ (now p).item.serial) → (ahead : List Item) (ps : List Place) → GoWith (map (row_of bs) (places_after bs ahead ps)) (map now ps)
go_rows bs now h ahead [] = tt
go_rows bs now h ahead (p ∷ ps) = (h p, go_rows bs now h (next_ahead bs (with_ahead ahead p)) ps)

go_append : (is js : List ItemRow) (ps qs : List Place) → GoWith is ps → GoWith js qs → GoWith (is ++ js) (ps ++ qs)
go_append [] js [] qs g h = h
go_append [] js (p ∷ ps) qs g h = absurd g
go_append (i ∷ is) js [] qs g h = absurd g
go_append (i ∷ is) js (p ∷ ps) qs g h = (g.0, go_append is js ps qs g.1 h)

map_same : (ps : List Place) → map same ps ≡ ps
map_same [] = refl
map_same (p ∷ ps) = ap (λ l. p ∷ l) (map_same ps)

rise_back : (n : ℕ) (is : List ItemRow) (ps : List Place) → GoWith is ps → RisesFrom place_serial n ps → RisesFrom row_serial n is
rise_back n [] [] g r = tt
rise_back n [] (p ∷ ps) g r = absurd g
rise_back n (i ∷ is) [] g r = absurd g
rise_back n (i ∷ is) (p ∷ ps) g r =
    let same : i.serial ≡ p.item.serial = g.0 in
    let from : n ≤ p.item.serial = r.0 in
    (omega arith, rise_back (suc i.serial) is ps g.1 (subst (λ m. RisesFrom place_serial (suc m) ps) (sym same) r.1))

-- the rows of a queue before the walk: its items by what they were, all else as it is
abbrev pub stale : List ℕ → ℕ → List ItemRow → List Build → List Report → Rows
stale name w is cs rs = record { name = name; window = w; items = is; builds = cs; reports = numbered_reports 0 rs }

rows_of_many : (bs : List Build) (ahead : List Item) (ps : List Place) → length (map (row_of bs) (places_after bs ahead ps)) ≡ length ps
rows_of_many bs ahead [] = refl
rows_of_many bs ahead (p ∷ ps) = ap suc (rows_of_many bs (next_ahead bs (with_ahead ahead p)) ps)

-- a walk over the rows from one item on is right, row by row
pub record Walked (name : List ℕ) (bounds : Bounds) (w : ℕ) (cs : List Build) (is : List ItemRow) (ps : List Place) (rs : List Report) (k : Carry) (vs : List Seen) : Type 0 where
  pub front : List Place
  pub front_rows : List ItemRow
  pub right : Right name bounds cs (length rs) w [] (places_after cs [] ps) is (nones front ++ forced name bounds k vs)
  pub parts : is ≡ front_rows ++ rows_seen vs
  pub front_many : length front ≡ length front_rows
  pub go : GoWith is ps
  pub rise : RisesFrom place_serial 0 ps
  pub numbers : RisesFrom build_number 0 cs

-- what it leaves
pub walked_settles : (name : List ℕ) (bounds : Bounds) (w : ℕ) (cs : List Build) (is : List ItemRow) (ls : List Landing) (ps : List Place) (rs : List Report) (items : List Item) (k : Carry) (vs : List Seen) → Walked name bounds w cs is ps rs k vs →
    fold_edits (stale name w is cs rs) (walk_from name bounds k vs) ≡ settled_rows bounds ps cs (record { name = name; window = w; landings = ls; items = items; reports = rs })
walked_settles name bounds w cs is ls ps rs items k vs h =
    ap (fold_edits (stale name w is cs rs)) (sym (nones_told h.front (forced name bounds k vs) ∙ forced_told name bounds k vs))
    ∙ walk_settles name bounds w (length rs) cs is ls ps rs items (nones h.front ++ forced name bounds k vs) refl h.go (rise_back 0 is ps h.go h.rise) h.numbers h.right

-- ---- and between two visits

places_split : (bs : List Build) (ahead : List Item) (xs ys : List Place) → places_after bs ahead (xs ++ ys) ≡ places_after bs ahead xs ++ places_after bs (ahead_end bs ahead xs) ys
places_split bs ahead [] ys = refl
places_split bs ahead (x ∷ xs) ys = ap (λ l. with_ahead ahead x ∷ l) (places_split bs (next_ahead bs (with_ahead ahead x)) xs ys)

places_many : (bs : List Build) (ahead : List Item) (ps : List Place) → length (places_after bs ahead ps) ≡ length ps
places_many bs ahead [] = refl
places_many bs ahead (p ∷ ps) = ap suc (places_many bs (next_ahead bs (with_ahead ahead p)) ps)

nones_many : (ps : List Place) → length (nones ps) ≡ length ps
nones_many [] = refl
nones_many (p ∷ ps) = ap suc (nones_many ps)

rows_many : (vs : List Seen) → length (rows_seen vs) ≡ length vs
rows_many [] = refl
rows_many (v ∷ vs) = ap suc (rows_many vs)

rows_append : (us vs : List Seen) → rows_seen (us ++ vs) ≡ rows_seen us ++ rows_seen vs
rows_append [] vs = refl
rows_append (u ∷ us) vs = ap (λ l. u.row ∷ l) (rows_append us vs)

asked_many : (name : List ℕ) (bounds : Bounds) (k : Carry) (vs : List Seen) → length (asked name bounds k vs) ≡ length vs
asked_many name bounds k [] = refl
asked_many name bounds k (v ∷ vs) = by_test (is_asked_for k v) (asked_many name bounds (carried bounds k v) vs) (asked_many name bounds k vs)
  where
    by_test : (t : Bool) → length (asked name bounds (carried bounds k v) vs) ≡ length vs → length (asked name bounds k vs) ≡ length vs →
        length (cond t (Some (visit_edits name bounds k v) ∷ asked name bounds (carried bounds k v) vs) (None ∷ asked name bounds k vs)) ≡ suc (length vs)
    by_test true a b = ap suc a
    by_test false a b = ap suc b

forced_many : (name : List ℕ) (bounds : Bounds) (k : Carry) (vs : List Seen) → length (forced name bounds k vs) ≡ length vs
forced_many name bounds k [] = refl
forced_many name bounds k (v ∷ vs) = ap suc (asked_many name bounds (carried bounds k v) vs)

-- the rest of what is told is of the rest of the rows
forced_more : (name : List ℕ) (bounds : Bounds) (k : Carry) (us vs : List Seen) → (rest : List (Option (List Edit))) × (forced name bounds k (us ++ vs) ≡ forced name bounds k us ++ rest)
forced_more name bounds k [] vs = (forced name bounds k vs, refl)
forced_more name bounds k (u ∷ us) vs = (asked name bounds (carried_on name bounds (carried bounds k u) us) vs, ap (λ l. Some (visit_edits name bounds k u) ∷ l) (asked_more name bounds (carried bounds k u) us vs))

go_first : (is js : List ItemRow) (ps qs : List Place) → length is ≡ length ps → GoWith (is ++ js) (ps ++ qs) → GoWith is ps
go_first [] js [] qs e g = tt
go_first [] js (p ∷ ps) qs e g = absurd (omega (arith, e))
go_first (i ∷ is) js [] qs e g = absurd (omega (arith, e))
go_first (i ∷ is) js (p ∷ ps) qs e g = (g.0, go_first is js ps qs (omega (arith, e)) g.1)

rise_first : (n : ℕ) (ps qs : List Place) → RisesFrom place_serial n (ps ++ qs) → RisesFrom place_serial n ps
rise_first n [] qs r = tt
rise_first n (p ∷ ps) qs r = (r.0, rise_first (suc p.item.serial) ps qs r.1)

go_many : (is : List ItemRow) (ps : List Place) → GoWith is ps → length is ≡ length ps
go_many [] [] g = refl
go_many [] (p ∷ ps) g = absurd g
go_many (i ∷ is) [] g = absurd g
go_many (i ∷ is) (p ∷ ps) g = ap suc (go_many is ps g.1)

pub walked_so_far : (name : List ℕ) (bounds : Bounds) (w : ℕ) (cs : List Build) (is : List ItemRow) (ls : List Landing) (ps : List Place) (rs : List Report) (items : List Item) (k : Carry) (vs us ws : List Seen) (xs ys : List Place) → Walked name bounds w cs is ps rs k vs →
    vs ≡ us ++ ws → ps ≡ xs ++ ys → length ys ≡ length ws →
    fold_edits (stale name w is cs rs) (walk_from name bounds k us) ≡ settled_to bounds cs (places_after cs [] xs) (rows_seen ws) (record { name = name; window = w; landings = ls; items = items; reports = rs })
walked_so_far name bounds w cs is ls ps rs items k vs us ws xs ys h ev ep en =
    let first = h.front_rows ++ rows_seen us in
    let es = nones h.front ++ forced name bounds k us in
    let more = forced_more name bounds k us ws in
    let told_all : nones h.front ++ forced name bounds k vs ≡ es ++ more.0 =
    ap (λ l. nones h.front ++ forced name bounds k l) ev ∙ ap (λ l. nones h.front ++ l) more.1 ∙ sym (append_assoc (nones h.front) (forced name bounds k us) more.0) in
    let rows : is ≡ first ++ rows_seen ws = h.parts ∙ ap (λ l. h.front_rows ++ rows_seen l) ev ∙ ap (λ l. h.front_rows ++ l) (rows_append us ws) ∙ sym (append_assoc h.front_rows (rows_seen us) (rows_seen ws)) in
    let places : places_after cs [] ps ≡ places_after cs [] xs ++ places_after cs (ahead_end cs [] xs) ys = ap (places_after cs []) ep ∙ places_split cs [] xs ys in
    let whole : Right name bounds cs (length rs) w [] (places_after cs [] xs ++ places_after cs (ahead_end cs [] xs) ys) (first ++ rows_seen ws) (es ++ more.0) =
    cast (λ i. Right name bounds cs (length rs) w [] (places i) (rows i) (told_all i)) h.right in
    let many_rows : length (first ++ rows_seen ws) ≡ length ps = ap length (sym rows) ∙ go_many is ps h.go in
    let a1 : length (first ++ rows_seen ws) ≡ length first + length (rows_seen ws) = length-append first (rows_seen ws) in
    let a2 : length ps ≡ length xs + length ys = ap length ep ∙ length-append xs ys in
    let a3 : length (rows_seen ws) ≡ length ws = rows_many ws in
    let as_many : length first ≡ length xs = omega (arith, en) in
    let b1 : length (places_after cs [] xs) ≡ length xs = places_many cs [] xs in
    let b2 : length first ≡ length h.front_rows + length (rows_seen us) = length-append h.front_rows (rows_seen us) in
    let b3 : length es ≡ length (nones h.front) + length (forced name bounds k us) = length-append (nones h.front) (forced name bounds k us) in
    let b4 : length (nones h.front) ≡ length h.front = nones_many h.front in
    let b5 : length (forced name bounds k us) ≡ length us = forced_many name bounds k us in
    let b6 : length (rows_seen us) ≡ length us = rows_many us in
    let b7 : length h.front ≡ length h.front_rows = h.front_many in
    let right = right_first name bounds cs (length rs) w [] (places_after cs [] xs) (places_after cs (ahead_end cs [] xs) ys) first (rows_seen ws) es more.0 (omega arith) (omega arith) whole in
    let go_all : GoWith (first ++ rows_seen ws) (xs ++ ys) = cast (λ i. GoWith (rows i) (ep i)) h.go in
    let rise_all = subst (RisesFrom row_serial 0) rows (rise_back 0 is ps h.go h.rise) in
    ap (λ l. fold_edits (stale name w l cs rs) (walk_from name bounds k us)) rows
    ∙ ap (fold_edits (stale name w (first ++ rows_seen ws) cs rs)) (sym (nones_told h.front (forced name bounds k us) ∙ forced_told name bounds k us))
    ∙ told_so_far name bounds w cs (places_after cs [] xs) first (rows_seen ws) ls items rs es (ahead_with cs [] first xs (go_first first (rows_seen ws) xs ys as_many go_all)) rise_all
    (ahead_rise cs 0 [] xs (rise_first 0 xs ys (subst (RisesFrom place_serial 0) ep h.rise))) h.numbers right

-- ---- the touched item stands

-- the queue as it was, and what became of the builds of one item
pub record Stands (stand : ℕ → Option Bool) (bs cs : List Build) (front : List Place) (p : Place) (behind : List Place) : Type 0 where
  pub quiet : Quiet stand bs [] [] (front ++ p ∷ behind)
  pub elsewhere : Elsewhere p.item.serial bs cs
  pub others : Others p.item.serial front × Others p.item.serial behind
  pub counting : all_count cs (with_ahead (ahead_end bs [] front) p) ≡ true
  pub fails_still : is_failing bs (with_ahead (ahead_end bs [] front) p) ≡ true → is_failing cs (with_ahead (ahead_end bs [] front) p) ≡ true
  pub not_landed : NotLanded p.item.change behind
  pub builds_rise : RisesFrom build_number 0 cs
  pub places_rise : RisesFrom place_serial 0 (front ++ p ∷ behind)

-- the items from the touched one on, as visits see them
abbrev pub seen_standing : (ℕ → Option Bool) → List Build → List Build → List Place → Place → List Place → List Seen
seen_standing stand bs cs front p behind =
    (let at = with_ahead (ahead_end bs [] front) p in seen_as stand cs at (is_failing bs at) ∷ visits stand cs same (next_ahead bs at) behind)

pub walk_standing : (name : List ℕ) (bounds : Bounds) (w : ℕ) (stand : ℕ → Option Bool) (bs cs : List Build) (front : List Place) (p : Place) (behind : List Place) (rs : List Report) → Stands stand bs cs front p behind →
    Walked name bounds w cs (map (row_of bs) (places_after bs [] (front ++ p ∷ behind))) (front ++ p ∷ behind) rs
    (needing (last_serial (ahead_end bs [] front)) [] [] (length rs) w) (seen_standing stand bs cs front p behind)
walk_standing name bounds w stand bs cs front p behind rs h =
    let a = ahead_end bs [] front in
    let at = with_ahead a p in
    let parts = quiet_split stand bs [] [] front (p ∷ behind) h.quiet in
    let sf = still_quiet stand p.item.serial bs cs [] [] front h.elsewhere h.others.0 parts.0 in
    let before = all_before [] front in
    let own = parts.1.0 in
    let sb = still_quiet stand p.item.serial bs cs (before ++ p.item ∷ []) (next_ahead bs at) behind h.elsewhere h.others.1 parts.1.1 in
    let known = known_front stand bs [] [] front (known_start stand) parts.0 in
    let t : TouchedAt stand cs before at (is_failing bs at) = record {
      counting = h.counting;
      met = (none_parts bs before at own.stays).0;
      standing = own.standing;
      fresh = own.fresh;
      fails_still = h.fails_still;
    } in
    let vs = seen_standing stand bs cs front p behind in
    let k = needing (last_serial a) [] [] (length rs) w in
    let behind_it = touched name bounds stand cs (length rs) w before at (is_failing bs at) behind known t sb.quiet h.not_landed in
    let whole = front_right name bounds stand cs (length rs) w [] [] front (p ∷ behind) (rows_seen vs) (forced name bounds k vs) sf.quiet
    (subst (λ (x : List Item). Right name bounds cs (length rs) w before (places_after cs x (p ∷ behind)) (rows_seen vs) (forced name bounds k vs)) (sym sf.ahead_same) behind_it) in
    let rows : map (row_of cs) (places_after cs [] front) ++ rows_seen vs ≡ map (row_of bs) (places_after bs [] (front ++ p ∷ behind)) =
    (λ i. sf.rows i ++ (row_of bs at ∷ (visits_rows stand cs same (next_ahead bs at) behind ∙ sb.rows) i)) ∙ sym (rows_split bs [] front (p ∷ behind)) in
    record {
      front = front;
      front_rows = map (row_of cs) (places_after cs [] front);
      right = subst (λ (l : List ItemRow). Right name bounds cs (length rs) w [] (places_after cs [] (front ++ p ∷ behind)) l (nones front ++ forced name bounds k vs)) rows whole;
      parts = sym rows;
      front_many = sym (rows_of_many cs [] front);
      go = subst (GoWith (map (row_of bs) (places_after bs [] (front ++ p ∷ behind)))) (map_same (front ++ p ∷ behind)) (go_rows bs same (λ x. refl) [] (front ++ p ∷ behind));
      rise = h.places_rise;
      numbers = h.builds_rise;
    }

-- ---- it was taken out, and didn't land

pub record Left (stand : ℕ → Option Bool) (bs cs : List Build) (front : List Place) (p : Place) (behind : List Place) : Type 0 where
  pub quiet : Quiet stand bs [] [] front
  pub quiet_behind : Quiet stand bs (all_before [] front ++ p.item ∷ []) (next_ahead bs (with_ahead (ahead_end bs [] front) p)) behind
  pub none_stands : stand p.item.change ≡ None
  pub fresh : has_change (all_before [] front) p.item.change ≡ false
  pub elsewhere : Elsewhere p.item.serial bs cs
  pub others : Others p.item.serial front × Others p.item.serial behind
  pub not_landed : NotLanded p.item.change behind
  pub builds_rise : RisesFrom build_number 0 cs
  pub places_rise : RisesFrom place_serial 0 (front ++ behind)

-- the rows that are left, as they were
abbrev pub rows_left : List Build → List Place → Place → List Place → List ItemRow
rows_left bs front p behind =
    (let a = ahead_end bs [] front in map (row_of bs) (places_after bs [] front) ++ map (row_of bs) (places_after bs (next_ahead bs (with_ahead a p)) behind))

-- what the walk begins with
abbrev pub carry_left : List Build → List Place → Place → ℕ → ℕ → Carry
carry_left bs front p n w = (let a = ahead_end bs [] front in
    record { resets = not (is_failing bs (with_ahead a p)); passes = false; ahead = last_serial a; gone = p.item.change ∷ []; marks = []; reports = n; window = w })

abbrev pub seen_left : (ℕ → Option Bool) → List Build → List Build → List Place → Place → List Place → List Seen
seen_left stand bs cs front p behind = (let a = ahead_end bs [] front in visits stand cs same (next_ahead bs (with_ahead a p)) behind)

pub walk_left : (name : List ℕ) (bounds : Bounds) (w : ℕ) (stand : ℕ → Option Bool) (bs cs : List Build) (front : List Place) (p : Place) (behind : List Place) (rs : List Report) → Left stand bs cs front p behind →
    Walked name bounds w cs (rows_left bs front p behind) (front ++ behind) rs (carry_left bs front p (length rs) w) (seen_left stand bs cs front p behind)
walk_left name bounds w stand bs cs front p behind rs h =
    let a = ahead_end bs [] front in
    let at = with_ahead a p in
    let sf = still_quiet stand p.item.serial bs cs [] [] front h.elsewhere h.others.0 h.quiet in
    let before = all_before [] front in
    let sb = still_quiet stand p.item.serial bs cs (before ++ p.item ∷ []) (next_ahead bs at) behind h.elsewhere h.others.1 h.quiet_behind in
    let known = known_front stand bs [] [] front (known_start stand) h.quiet in
    let vs = seen_left stand bs cs front p behind in
    let k = carry_left bs front p (length rs) w in
    let behind_it = taken_out name bounds stand cs (length rs) w before a p.item (is_failing bs at) behind known h.none_stands h.fresh sb.quiet h.not_landed in
    let whole = front_right name bounds stand cs (length rs) w [] [] front behind (rows_seen vs) (forced name bounds k vs) sf.quiet
    (subst (λ (x : List Item). Right name bounds cs (length rs) w before (places_after cs x behind) (rows_seen vs) (forced name bounds k vs)) (sym sf.ahead_same) behind_it) in
    let rows : map (row_of cs) (places_after cs [] front) ++ rows_seen vs ≡ rows_left bs front p behind =
    λ i. sf.rows i ++ (visits_rows stand cs same (next_ahead bs at) behind ∙ sb.rows) i in
    record {
      front = front;
      front_rows = map (row_of cs) (places_after cs [] front);
      right = subst (λ (l : List ItemRow). Right name bounds cs (length rs) w [] (places_after cs [] (front ++ behind)) l (nones front ++ forced name bounds k vs)) rows whole;
      parts = sym rows;
      front_many = sym (rows_of_many cs [] front);
      rise = h.places_rise;
      numbers = h.builds_rise;
      go = go_append (map (row_of bs) (places_after bs [] front)) (map (row_of bs) (places_after bs (next_ahead bs at) behind)) front behind
          (subst (GoWith (map (row_of bs) (places_after bs [] front))) (map_same front) (go_rows bs same (λ x. refl) [] front))
          (subst (GoWith (map (row_of bs) (places_after bs (next_ahead bs at) behind))) (map_same behind) (go_rows bs same (λ x. refl) (next_ahead bs at) behind));
    }

-- ---- it landed

pub record Lands (stand : ℕ → Option Bool) (bs cs : List Build) (front : List Place) (p : Place) (behind : List Place) : Type 0 where
  pub quiet : Quiet stand bs [] [] front
  pub first : ahead_end bs [] front ≡ []
  pub passes : is_failing bs (with_ahead [] p) ≡ false
  pub quiet_behind : Quiet stand bs (all_before [] front ++ p.item ∷ []) (p.item ∷ []) behind
  pub fresh : has_change (all_before [] front) p.item.change ≡ false
  pub elsewhere : Elsewhere p.item.serial bs cs
  pub others : Others p.item.serial front × Others p.item.serial behind
  pub in_front : Front p.item cs front
  pub is_behind : Behind p.item cs behind
  pub builds_rise : RisesFrom build_number 0 cs
  pub places_rise : RisesFrom place_serial 0 (map (landed_place p.item) front ++ map (landed_place p.item) behind)

abbrev pub seen_landed : (ℕ → Option Bool) → List Build → Place → List Place → List Seen
seen_landed stand cs p behind = visits stand cs (landed_place p.item) (p.item ∷ []) behind

pub walk_landed : (name : List ℕ) (bounds : Bounds) (w : ℕ) (stand : ℕ → Option Bool) (bs cs : List Build) (front : List Place) (p : Place) (behind : List Place) (rs : List Report) → Lands stand bs cs front p behind →
    Walked name bounds w cs (map (row_of bs) (places_after bs [] front) ++ map (row_of bs) (places_after bs (p.item ∷ []) behind)) (map (landed_place p.item) front ++ map (landed_place p.item) behind) rs (passing [] [] (length rs) w) (seen_landed stand cs p behind)
walk_landed name bounds w stand bs cs front p behind rs h =
    let now = landed_place p.item in
    let sf = still_quiet stand p.item.serial bs cs [] [] front h.elsewhere h.others.0 h.quiet in
    let before = all_before [] front in
    let sb = still_quiet stand p.item.serial bs cs (before ++ p.item ∷ []) (p.item ∷ []) behind h.elsewhere h.others.1 h.quiet_behind in
    let fk = front_kept stand cs p.item [] [] front h.in_front h.fresh sf.quiet in
    let none : ahead_end cs [] (map now front) ≡ [] = fk.ahead_same ∙ sf.ahead_same ∙ h.first in
    let known = subst (λ (a : List Item). Known stand [] [] before a before) h.first (known_front stand bs [] [] front (known_start stand) h.quiet) in
    let vs = seen_landed stand cs p behind in
    let k = passing [] [] (length rs) w in
    let behind_it = landed_out name bounds stand cs (length rs) w before p.item behind known h.fresh h.is_behind sb.quiet in
    let whole = front_right name bounds stand cs (length rs) w [] [] (map now front) (map now behind) (rows_seen vs) (forced name bounds k vs) fk.quiet
    (cast (λ i. Right name bounds cs (length rs) w (sym fk.before_same i) (places_after cs (sym none i) (map now behind)) (rows_seen vs) (forced name bounds k vs)) behind_it) in
    let rows : map (row_of cs) (places_after cs [] (map now front)) ++ rows_seen vs ≡ map (row_of bs) (places_after bs [] front) ++ map (row_of bs) (places_after bs (p.item ∷ []) behind) =
    λ i. (fk.rows ∙ sf.rows) i ++ (visits_rows stand cs now (p.item ∷ []) behind ∙ sb.rows) i in
    record {
      front = map now front;
      front_rows = map (row_of cs) (places_after cs [] (map now front));
      right = subst (λ (l : List ItemRow). Right name bounds cs (length rs) w [] (places_after cs [] (map now front ++ map now behind)) l (nones (map now front) ++ forced name bounds k vs)) rows whole;
      parts = sym rows;
      front_many = sym (rows_of_many cs [] (map now front));
      go = go_append (map (row_of bs) (places_after bs [] front)) (map (row_of bs) (places_after bs (p.item ∷ []) behind)) (map now front) (map now behind) (go_rows bs now (λ x. refl) [] front) (go_rows bs now (λ x. refl) (p.item ∷ []) behind);
      rise = h.places_rise;
      numbers = h.builds_rise;
    }
