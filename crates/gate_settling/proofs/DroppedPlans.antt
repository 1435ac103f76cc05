-- The edits of a walk drop the plans of those items that go, and no other.
use Rattle.std.proofs.Common.{◌≡◌, ℕ, Bool, true, false, not, ◌&&◌, ◌||◌, cond, Option, Some, None, is_some, List, []}
use Rattle.std.proofs.Common.{◌∷◌, ◌++◌, map, fold, ◌<◌, refl, sym, ap, ◌∙◌, inl, inr, true≢false, arith}
use Rattle.std.specs.Prelude.{◌==◌, nat_lt, filter}
use Rattle.std.specs.List.{list_any, All, AllPass}
use Rattle.std.proofs.lemmas.Bool.{eq-eqb, eqb-true, ne_eqb, or_cases, or_parts}
use Rattle.std.proofs.lemmas.List.Elements.{All-head, All-tail, All-nil, All-cons, All-append}
use Rattle.std.proofs.lemmas.List.Folds.{list_any-append}
use Rattle.std.proofs.lemmas.List.Sums.{fold-append}
use Rattle.gate_types.specs.declared.records.Build.{Build}
use Rattle.gate_types.specs.declared.records.Item.{Item as ItemRow}
use Rattle.gate_types.specs.declared.records.Plan.{Plan}
use Rattle.gate_types.specs.declared.records.Verdict.{Verdict}
use Rattle.gate_types.specs.declared.edits.Edit.{Edit}
use Rattle.gate_types.specs.declared.edits.Edit.TheVariants as edit
use Rattle.gate_types.specs.Names.{same_name}
use Rattle.gate_types.specs.State.{Queue, put_by}
use Rattle.gate_types.specs.Sweep.{without_plans}
use Rattle.gate_types.specs.Window.{Bounds}
use Rattle.gate_types.specs.Rows.{edited_items}
use Rattle.gate_types.specs.Tables.{edited_plans}
use Rattle.gate_queue_rules.specs.Edits.{window_behind}
use Rattle.gate_walk.specs.Walk.{Seen, Carry, Walk, is_same_row, row_by, row_edits, verdict_by, stopped_by}
use Rattle.gate_walk.specs.Walk.{window_edits_by, visit_edits}
use Rattle.gate_walk.specs.UnderWay.{Delivered, rows_seen, stale_rows, walk_by, next_by, row_wanted, AreWanted}
use Rattle.gate_walk.proofs.UnderWay.{is_behind}
use Rattle.gate_laws.proofs.Members.{from_map, any_to}
use Rattle.gate_laws.proofs.Plans.{plans_all_stay}
use Rattle.gate_settling.proofs.SeamLemmas.{is_own}
use Rattle.gate_settling.proofs.WantedLemmas.{wanted_in}
use Rattle.gate_book_trait.proofs.ReadLemmas.{and_first, and_second}

-- ---- the plans that are left

-- an edit drops the item of a serial, or lands it
abbrev pub drops : ℕ → Edit → Bool
drops n (edit.DropItem m) = n == m
drops n (edit.LandItem m) = n == m
drops n _ = false

-- one of some edits does
abbrev pub is_dropped : List Edit → ℕ → Bool
is_dropped es n = list_any (drops n) es

-- those that go in turn are those that go at all
twice : (a b : ℕ → Bool) (ps : List Plan) →
    without_plans b (without_plans a ps) ≡ without_plans (λ n. a n || b n) ps
twice a b [] = refl
twice a b (p ∷ ps) = by_test (a p.serial) (b p.serial) (twice a b ps)
  where
    by_test : (t u : Bool) → without_plans b (without_plans a ps) ≡ without_plans (λ n. a n || b n) ps →
        filter (λ (q : Plan). not (b q.serial)) (cond (not t) (p ∷ without_plans a ps) (without_plans a ps))
        ≡ cond (not (t || b p.serial)) (p ∷ without_plans (λ n. a n || b n) ps)
        (without_plans (λ n. a n || b n) ps)
    by_test true u h = h
    by_test false u h = ap (λ l. cond (not (b p.serial)) (p ∷ l) l) h

-- edits of a queue's own leave the plans that they don't drop
pub plans_left : (qs : List Queue) (name : List ℕ) (es : List Edit) (ps : List Plan) → AllPass (is_own qs name) es →
    fold edited_plans ps es ≡ without_plans (is_dropped es) ps
plans_left qs name [] ps all = sym (plans_all_stay ps (λ n. false) (λ n. refl))
plans_left qs name (e ∷ es) ps all =
    plans_left qs name es (edited_plans ps e) (All-tail (λ d. is_own qs name d ≡ true) e es all)
    ∙ one e (All-head (λ d. is_own qs name d ≡ true) e es all)
  where
    one : (d : Edit) → is_own qs name d ≡ true →
        without_plans (is_dropped es) (edited_plans ps d) ≡ without_plans (is_dropped (d ∷ es)) ps
    one (edit.DropItem m) h = twice (λ n. n == m) (is_dropped es) ps
    one (edit.LandItem m) h = absurd (true≢false (sym h))
    one (edit.PutPlan p) h = absurd (true≢false (sym h))
    one _ h = refl

-- ---- the rows that are left

-- a row has this serial
abbrev pub is_there : ℕ → List ItemRow → Bool
is_there n rows = list_any (λ r. r.serial == n) rows

abbrev serial_of : ItemRow → ℕ
serial_of r = r.serial

there_put : (n : ℕ) (i : ItemRow) (rows : List ItemRow) →
    is_there n (put_by serial_of i rows) ≡ (i.serial == n || is_there n rows)
there_put n i [] = refl
there_put n i (x ∷ xs) = by_equal (i.serial == x.serial) refl (nat_lt i.serial x.serial) (there_put n i xs)
  where
    again : (t r : Bool) → t || r ≡ (t || (t || r))
    again true r = refl
    again false r = refl

    swap : (s t r : Bool) → t || (s || r) ≡ (s || (t || r))
    swap true true r = refl
    swap true false r = refl
    swap false t r = refl

    by_equal : (b : Bool) → i.serial == x.serial ≡ b → (l : Bool) →
        is_there n (put_by serial_of i xs) ≡ (i.serial == n || is_there n xs) →
        is_there n (cond b (i ∷ xs) (cond l (i ∷ x ∷ xs) (x ∷ put_by serial_of i xs)))
        ≡ (i.serial == n || (x.serial == n || is_there n xs))
    by_equal true e l h =
        again (i.serial == n) (is_there n xs)
        ∙ ap (λ t. i.serial == n || (t || is_there n xs)) (ap (λ m. m == n) (eqb-true i.serial x.serial e))
    by_equal false e true h = refl
    by_equal false e false h = ap (λ t. x.serial == n || t) h
        ∙ swap (i.serial == n) (x.serial == n) (is_there n xs)

there_without : (n m : ℕ) (rows : List ItemRow) →
    is_there n (filter (λ r. not (r.serial == m)) rows) ≡ (not (n == m) && is_there n rows)
there_without n m [] = off (not (n == m))
  where
    off : (b : Bool) → false ≡ (b && false)
    off true = refl
    off false = refl
there_without n m (r ∷ rows) = by_test (r.serial == m) refl (r.serial == n) refl (there_without n m rows)
  where
    first : (b : Bool) → b ≡ false → true ≡ (not b && true)
    first true e = absurd (true≢false e)
    first false e = refl

    by_test : (t : Bool) → r.serial == m ≡ t → (u : Bool) → r.serial == n ≡ u →
        is_there n (filter (λ x. not (x.serial == m)) rows) ≡ (not (n == m) && is_there n rows) →
        is_there n (cond (not t) (r ∷ filter (λ x. not (x.serial == m)) rows) (filter (λ x. not (x.serial == m)) rows))
        ≡ (not (n == m) && (u || is_there n rows))
    by_test true l true k h =
        let same : n == m ≡ true = ap (λ z. z == m) (sym (eqb-true r.serial n k)) ∙ l in
        h ∙ ap (λ b. not b && is_there n rows) same ∙ sym (ap (λ b. not b && true) same)
    by_test true l false k h = h
    by_test false l true k h =
        ap (λ b. b || is_there n (filter (λ x. not (x.serial == m)) rows)) k
        ∙ first (n == m) (ap (λ z. z == m) (sym (eqb-true r.serial n k)) ∙ l)
    by_test false l false k h = ap (λ b. b || is_there n (filter (λ x. not (x.serial == m)) rows)) k ∙ h

or_there : (a b : Bool) → b ≡ true → a || b ≡ true
or_there true b h = refl
or_there false b h = h

-- a row that no edit drops stays
pub stays_there : (at : List ℕ) (n : ℕ) (es : List Edit) (rows : List ItemRow) → is_dropped es n ≡ false →
    is_there n rows ≡ true → is_there n (fold (edited_items at) rows es) ≡ true
stays_there at n [] rows d h = h
stays_there at n (e ∷ es) rows d h =
    let both = or_parts (drops n e) (is_dropped es n) d in
    stays_there at n es (edited_items at rows e) both.1 (one e both.0)
  where
    by_put : (i : ItemRow) (t : Bool) → is_there n (cond t (put_by serial_of i rows) rows) ≡ true
    by_put i true = there_put n i rows ∙ or_there (i.serial == n) (is_there n rows) h
    by_put i false = h

    one : (x : Edit) → drops n x ≡ false → is_there n (edited_items at rows x) ≡ true
    one (edit.DropItem m) k = there_without n m rows ∙ (λ z. not (k z) && h z)
    one (edit.LandItem m) k = there_without n m rows ∙ (λ z. not (k z) && h z)
    one (edit.PutItem queue i) k = by_put i (same_name queue at)
    one _ k = h

-- an edit puts the row of a serial
abbrev pub puts : ℕ → Edit → Bool
puts n (edit.PutItem queue i) = i.serial == n
puts n _ = false

abbrev pub PutsNot : ℕ → Edit → Type 0
PutsNot n e = puts n e ≡ false

still_out : (n m : ℕ) (rows : List ItemRow) → is_there n rows ≡ false →
    is_there n (filter (λ r. not (r.serial == m)) rows) ≡ false
still_out n m rows h = there_without n m rows ∙ ap (λ b. not (n == m) && b) h ∙ off (not (n == m))
  where
    off : (b : Bool) → b && false ≡ false
    off true = refl
    off false = refl

-- a row that isn't there doesn't come where none puts it
out_stays : (at : List ℕ) (n : ℕ) (e : Edit) (rows : List ItemRow) → PutsNot n e → is_there n rows ≡ false →
    is_there n (edited_items at rows e) ≡ false
out_stays at n (edit.PutItem queue i) rows k h = by_put (same_name queue at)
  where
    by_put : (t : Bool) → is_there n (cond t (put_by serial_of i rows) rows) ≡ false
    by_put true = there_put n i rows ∙ (λ z. k z || h z)
    by_put false = h
out_stays at n (edit.DropItem m) rows k h = still_out n m rows h
out_stays at n (edit.LandItem m) rows k h = still_out n m rows h
out_stays at n _ rows k h = h

all_out : (at : List ℕ) (n : ℕ) (es : List Edit) (rows : List ItemRow) → All (PutsNot n) es →
    is_there n rows ≡ false → is_there n (fold (edited_items at) rows es) ≡ false
all_out at n [] rows all h = h
all_out at n (e ∷ es) rows all h =
    all_out at n es (edited_items at rows e) (All-tail (PutsNot n) e es all)
    (out_stays at n e rows (All-head (PutsNot n) e es all) h)

-- a row that is dropped, and not put again, is out
dropped_out : (at : List ℕ) (n : ℕ) (es : List Edit) (rows : List ItemRow) → All (PutsNot n) es →
    is_dropped es n ≡ true → is_there n (fold (edited_items at) rows es) ≡ false
dropped_out at n [] rows all d = absurd (true≢false (sym d))
dropped_out at n (e ∷ es) rows all d =
    by_first (drops n e) refl d
    (dropped_out at n es (edited_items at rows e) (All-tail (PutsNot n) e es all))
  where
    out : (x : Edit) → drops n x ≡ true → is_there n (edited_items at rows x) ≡ false
    out (edit.DropItem m) k = there_without n m rows ∙ ap (λ b. not b && is_there n rows) k
    out (edit.LandItem m) k = there_without n m rows ∙ ap (λ b. not b && is_there n rows) k
    out (edit.PutChange j a) k = absurd (true≢false (sym k))
    out (edit.SetStage m g) k = absurd (true≢false (sym k))
    out (edit.PutItem queue i) k = absurd (true≢false (sym k))
    out (edit.PutPlan p) k = absurd (true≢false (sym k))
    out (edit.PutLanding queue m l) k = absurd (true≢false (sym k))
    out (edit.PutReport queue m r) k = absurd (true≢false (sym k))
    out (edit.PutBuild b) k = absurd (true≢false (sym k))
    out (edit.SetOutcome m u) k = absurd (true≢false (sym k))
    out (edit.StopBuild m) k = absurd (true≢false (sym k))
    out (edit.SetWindow queue w) k = absurd (true≢false (sym k))
    out (edit.SetCounter j m) k = absurd (true≢false (sym k))
    out (edit.Keep j) k = absurd (true≢false (sym k))

    by_first : (t : Bool) → drops n e ≡ t → t || is_dropped es n ≡ true →
        (is_dropped es n ≡ true → is_there n (fold (edited_items at) (edited_items at rows e) es) ≡ false) →
        is_there n (fold (edited_items at) (edited_items at rows e) es) ≡ false
    by_first true k c later = all_out at n es (edited_items at rows e) (All-tail (PutsNot n) e es all) (out e k)
    by_first false k c later = later c

-- ---- the edits of a visit

stops_drop_none : (n : ℕ) (bs : List Build) → is_dropped (map (λ (b : Build). edit.StopBuild b.number) bs) n ≡ false
stops_drop_none n [] = refl
stops_drop_none n (b ∷ bs) = stops_drop_none n bs

stops_put_none : (n : ℕ) (bs : List Build) → All (PutsNot n) (map (λ (b : Build). edit.StopBuild b.number) bs)
stops_put_none n [] = All-nil (PutsNot n)
stops_put_none n (b ∷ bs) =
    All-cons (PutsNot n) (edit.StopBuild b.number) (map (λ (x : Build). edit.StopBuild x.number) bs) refl
    (stops_put_none n bs)

row_drops : (name : List ℕ) (n reports : ℕ) (stored row : ItemRow) (v : Option Verdict) →
    is_dropped (row_edits name reports stored row v) n ≡ (is_some v && n == row.serial)
row_drops name n reports stored row None = by_test (is_same_row stored row)
  where
    by_test : (t : Bool) → is_dropped (cond t [] (edit.PutItem name row ∷ [])) n ≡ false
    by_test true = refl
    by_test false = refl
row_drops name n reports stored row (Some v) = one (n == row.serial)
  where
    one : (b : Bool) → b || false ≡ b
    one true = refl
    one false = refl

row_puts : (name : List ℕ) (n reports : ℕ) (stored row : ItemRow) (v : Option Verdict) →
    is_some v || not (row.serial == n) ≡ true → All (PutsNot n) (row_edits name reports stored row v)
row_puts name n reports stored row None h = by_test (is_same_row stored row)
  where
    it_isnt : (b : Bool) → not b ≡ true → b ≡ false
    it_isnt true e = absurd (true≢false (sym e))
    it_isnt false e = refl

    by_test : (t : Bool) → All (PutsNot n) (cond t [] (edit.PutItem name row ∷ []))
    by_test true = All-nil (PutsNot n)
    by_test false = All-cons (PutsNot n) (edit.PutItem name row) [] (it_isnt (row.serial == n) h) (All-nil (PutsNot n))
row_puts name n reports stored row (Some v) h =
    All-cons (PutsNot n) _ (edit.DropItem row.serial ∷ []) refl
    (All-cons (PutsNot n) (edit.DropItem row.serial) [] refl (All-nil (PutsNot n)))

window_drops_none : (name : List ℕ) (n : ℕ) (bounds : Bounds) (window : ℕ) (v : Option Verdict) →
    is_dropped (window_edits_by name bounds window v) n ≡ false
window_drops_none name n bounds window v = by_test (window == window_behind bounds window v)
  where
    by_test : (t : Bool) → is_dropped (cond t [] (edit.SetWindow name (window_behind bounds window v) ∷ [])) n ≡ false
    by_test true = refl
    by_test false = refl

window_puts_none : (name : List ℕ) (n : ℕ) (bounds : Bounds) (window : ℕ) (v : Option Verdict) →
    All (PutsNot n) (window_edits_by name bounds window v)
window_puts_none name n bounds window v = by_test (window == window_behind bounds window v)
  where
    new : Edit
    new = edit.SetWindow name (window_behind bounds window v)

    by_test : (t : Bool) → All (PutsNot n) (cond t [] (new ∷ []))
    by_test true = All-nil (PutsNot n)
    by_test false = All-cons (PutsNot n) new [] refl (All-nil (PutsNot n))

-- it drops the visited row, where there is a verdict
visit_drops : (name : List ℕ) (n : ℕ) (bounds : Bounds) (k : Carry) (v : Seen) →
    is_dropped (visit_edits name bounds k v) n ≡ (is_some (verdict_by k v) && n == v.row.serial)
visit_drops name n bounds k v =
    let stops = map (λ (b : Build). edit.StopBuild b.number) (stopped_by k v) in
    let row = row_edits name k.reports v.row (row_by k v) (verdict_by k v) in
    let window = window_edits_by name bounds k.window (verdict_by k v) in
    list_any-append (drops n) (stops ++ row) window
    ∙ (λ z. list_any-append (drops n) stops row z || window_drops_none name n bounds k.window (verdict_by k v) z)
    ∙ (λ z. (stops_drop_none n (stopped_by k v) z || row_drops name n k.reports v.row (row_by k v) (verdict_by k v) z) || false)
    ∙ one (is_some (verdict_by k v) && n == v.row.serial)
  where
    one : (b : Bool) → b || false ≡ b
    one true = refl
    one false = refl

visit_puts : (name : List ℕ) (n : ℕ) (bounds : Bounds) (k : Carry) (v : Seen) →
    is_some (verdict_by k v) || not (v.row.serial == n) ≡ true → All (PutsNot n) (visit_edits name bounds k v)
visit_puts name n bounds k v h =
    let stops = map (λ (b : Build). edit.StopBuild b.number) (stopped_by k v) in
    let row = row_edits name k.reports v.row (row_by k v) (verdict_by k v) in
    All-append (PutsNot n) (stops ++ row) (window_edits_by name bounds k.window (verdict_by k v))
    (All-append (PutsNot n) stops row (stops_put_none n (stopped_by k v))
    (row_puts name n k.reports v.row (row_by k v) (verdict_by k v) h))
    (window_puts_none name n bounds k.window (verdict_by k v))

-- ---- the edits of visits

abbrev told_by : Delivered → List Seen → List Edit
told_by d vs = (walk_by d vs).told

-- either those before dropped it, or the last one did
drop_cases : (d : Delivered) (v : Seen) (vs : List Seen) (n : ℕ) →
    is_dropped (told_by d (v ∷ vs)) n ≡ (is_dropped (told_by d vs) n ||
    (is_some (verdict_by (walk_by d vs).carry v) && n == v.row.serial))
drop_cases d v vs n =
    let b = walk_by d vs in
    list_any-append (drops n) b.told (visit_edits b.name b.bounds b.carry v)
    ∙ ap (λ t. is_dropped b.told n || t) (visit_drops b.name n b.bounds b.carry v)

-- what is dropped lies before what is wanted
drops_before : (d : Delivered) (vs : List Seen) (n : ℕ) → AreWanted d vs → is_dropped (told_by d vs) n ≡ true →
    (v : Seen) → row_wanted d vs ≡ Some v → n < v.row.serial
drops_before d [] n w h v e = absurd (true≢false (sym h))
drops_before d (u ∷ us) n w h v e =
    let behind : u.row.serial < v.row.serial = is_behind d (u ∷ us) v e in
    elim (or_cases (is_dropped (told_by d us) n) (is_some (verdict_by (walk_by d us).carry u) && n == u.row.serial)
    (sym (drop_cases d u us n) ∙ h)) [
      | inl a ↦ (let before : n < u.row.serial = drops_before d us n w.1 a u w.0 in omega (arith, before, behind))
      | inr b ↦ (let here : n ≡ u.row.serial = eqb-true n u.row.serial
          (and_second (is_some (verdict_by (walk_by d us).carry u)) (n == u.row.serial) b) in omega (arith, here, behind))
    ]

-- what is dropped was there
pub drops_seen : (d : Delivered) (vs : List Seen) (n : ℕ) → AreWanted d vs → is_dropped (told_by d vs) n ≡ true →
    is_there n (stale_rows d) ≡ true
drops_seen d [] n w h = absurd (true≢false (sym h))
drops_seen d (u ∷ us) n w h =
    elim (or_cases (is_dropped (told_by d us) n) (is_some (verdict_by (walk_by d us).carry u) && n == u.row.serial)
    (sym (drop_cases d u us n) ∙ h)) [
      | inl a ↦ drops_seen d us n w.1 a
      | inr b ↦ (
          let here : n ≡ u.row.serial = eqb-true n u.row.serial
          (and_second (is_some (verdict_by (walk_by d us).carry u)) (n == u.row.serial) b) in
          let r = from_map _ (stale_rows d) u (wanted_in (walk_by d us).carry.gone (next_by d us) (rows_seen d) u w.0) in
          any_to (λ (x : ItemRow). x.serial == n) (stale_rows d) r.0 r.1
          (eq-eqb r.0.serial n (ap (λ (y : Seen). y.row.serial) r.2 ∙ sym here)))
    ]

-- what is dropped is out
pub drops_are_out : (d : Delivered) (at : List ℕ) (vs : List Seen) (n : ℕ) (rows : List ItemRow) → AreWanted d vs →
    is_dropped (told_by d vs) n ≡ true → is_there n (fold (edited_items at) rows (told_by d vs)) ≡ false
drops_are_out d at [] n rows w h = absurd (true≢false (sym h))
drops_are_out d at (v ∷ vs) n rows w h =
    ap (is_there n) (fold-append (edited_items at) rows (told_by d vs) visit)
    ∙ by_visit (is_some (verdict_by b.carry v) && n == v.row.serial) refl
    (drops_are_out d at vs n rows w.1)
  where
    b : Walk
    b = walk_by d vs

    visit : List Edit
    visit = visit_edits b.name b.bounds b.carry v

    so_far : List ItemRow
    so_far = fold (edited_items at) rows (told_by d vs)

    some_or : (a c : Bool) → a ≡ true → a || c ≡ true
    some_or true c e = refl
    some_or false c e = absurd (true≢false (sym e))

    either : (a c : Bool) → a || c ≡ true → c ≡ false → a ≡ true
    either true c e f = refl
    either false c e f = absurd (true≢false (sym e ∙ f))

    by_visit : (t : Bool) → is_some (verdict_by b.carry v) && n == v.row.serial ≡ t →
        (is_dropped (told_by d vs) n ≡ true → is_there n so_far ≡ false) →
        is_there n (fold (edited_items at) so_far visit) ≡ false
    by_visit true e earlier =
        dropped_out at n visit so_far
        (visit_puts b.name n b.bounds b.carry v (some_or (is_some (verdict_by b.carry v)) _
        (and_first (is_some (verdict_by b.carry v)) (n == v.row.serial) e)))
        (visit_drops b.name n b.bounds b.carry v ∙ e)
    by_visit false e earlier =
        let before = either (is_dropped (told_by d vs) n) _ (sym (drop_cases d v vs n) ∙ h) e in
        let low : n < v.row.serial = drops_before d vs n w.1 before v w.0 in
        all_out at n visit so_far
        (visit_puts b.name n b.bounds b.carry v (or_there (is_some (verdict_by b.carry v)) _
        (ap not (ne_eqb v.row.serial n (λ same. absurd (omega (arith, low, same)))))))
        (earlier before)
