-- The parts of a walk: where lines have changed, where only needs are followed.
use Rattle.std.proofs.Common.{◌≡◌, ℕ, ◌+◌, Bool, true, false, not, ◌&&◌, ◌||◌, cond, Option, Some, None, is_some}
use Rattle.std.proofs.Common.{List, [], ◌∷◌, ◌++◌, map, length, refl, sym, ap, ◌∙◌, subst, true≢false, arith}
use Rattle.std.proofs.Common.{length-append}
use Rattle.std.specs.Prelude.{filter, ◌==◌, ◌-◌, slice_get, option_map}
use Rattle.std.specs.List.{list_any, list_all}
use Rattle.std.proofs.lemmas.Bool.{and_parts, eqb-true, ne_eqb}
use Rattle.std.proofs.lemmas.List.Folds.{list_any-append}
use Rattle.std.proofs.lemmas.Option.{slice_get-get_or}
use Rattle.std.proofs.Math.Seq.{get_or-append_seam}
use Rattle.gate_types.specs.Window.{Bounds}
use Rattle.gate_types.specs.declared.records.Build.{Build}
use Rattle.gate_types.specs.declared.records.Item.{Item as ItemRow}
use Rattle.gate_types.specs.declared.records.Verdict.{Verdict}
use Rattle.gate_types.specs.declared.records.Verdict.TheVariants as verdict
use Rattle.gate_types.specs.declared.edits.Edit.{Edit}
use Rattle.gate_types.specs.State.{Item, has_change}
use Rattle.gate_types.specs.Line.{Place}
use Rattle.gate_types.specs.Slot.{are_met_by, counts, is_running, is_cut}
use Rattle.gate_types.specs.Standing.{is_failing, with_ahead, next_ahead, places_after}
use Rattle.gate_types.specs.Sweep.{verdict_of, fails_for_good, judge, next_staying}
use Rattle.gate_types.specs.Rows.{row_of}
use Rattle.gate_queue_rules.specs.Edits.{stops, next_reports, window_behind}
use Rattle.gate_walk.specs.Walk.{Seen, Mark, Carry, fails, verdict_by, window_edits_by, visit_edits, carried, is_asked_for}
use Rattle.gate_walk.proofs.Slots.{is_live_of, live_of, all_count, all_ended, EndedIfCut, Lost, counts_no_more}
use Rattle.gate_walk.proofs.Slots.{none_counts}
use Rattle.gate_walk.proofs.Steps.{seen, Known, Sees, known_visited, blocked_seen, met_seen, fails_seen, verdict_seen}
use Rattle.gate_walk.proofs.Steps.{edits_for, edits_seen}

-- ---- what a walk has to give, row by row

-- the edits of a row that is asked for are those of a look at the whole queue, but for a row that stays as it is
-- stored; a row that isn't asked for does
abbrev pub RightAt : List ℕ → Bounds → List Build → ℕ → ℕ → List Item → Place → ItemRow → Option (List Edit) → Type 0
RightAt name bounds bs n w staying p i (Some edits) = edits ≡ edits_for name bs n staying p i ++ window_edits_by name bounds w (verdict_of bs staying p)
RightAt name bounds bs n w staying p i None = (i ≡ row_of bs p) × (verdict_of bs staying p ≡ None) × (filter (stops p (is_cut bs p)) bs ≡ [])

-- so it is with each row, behind that many reports, under that window
abbrev pub Right : List ℕ → Bounds → List Build → ℕ → ℕ → List Item → List Place → List ItemRow → List (Option (List Edit)) → Type 0
Right name bounds bs n w staying [] [] [] = Unit {0}
Right name bounds bs n w staying (p ∷ ps) (i ∷ is) (e ∷ es) =
    RightAt name bounds bs n w staying p i e ×
    Right name bounds bs (next_reports n (verdict_of bs staying p)) (window_behind bounds w (verdict_of bs staying p)) (next_staying staying (judge bs staying p)) ps is es
Right name bounds bs n w staying _ _ _ = ⊥

-- the edits of each row that is asked for
abbrev pub asked : List ℕ → Bounds → Carry → List Seen → List (Option (List Edit))
asked name bounds k [] = []
asked name bounds k (v ∷ vs) = cond (is_asked_for k v) (Some (visit_edits name bounds k v) ∷ asked name bounds (carried bounds k v) vs) (None ∷ asked name bounds k vs)

abbrev pub rows_seen : List Seen → List ItemRow
rows_seen vs = map (λ v. v.row) vs

-- ---- small things

-- the serial of the last one
abbrev pub last_serial : List Item → Option ℕ
last_serial xs = option_map (λ i. i.serial) (slice_get xs (length xs - 1))

pub first_last : (xs : List Item) → not (is_some (last_serial xs)) ≡ (length xs == 0)
first_last [] = refl
first_last (x ∷ xs) =
    ap (λ (o : Option Item). not (is_some (option_map (λ i. i.serial) o))) (slice_get-get_or (x ∷ xs) (length (x ∷ xs) - 1) x (omega arith))
    ∙ sym (ne_eqb (length (x ∷ xs)) 0 (λ e. omega (arith, e)))

pub last_push : (xs : List Item) (i : Item) → last_serial (xs ++ i ∷ []) ≡ Some i.serial
last_push xs i =
    let more : length (xs ++ i ∷ []) ≡ length xs + 1 = length-append xs (i ∷ []) in
    let at : length (xs ++ i ∷ []) - 1 ≡ length xs = omega arith in
    ap (λ (m : ℕ). option_map (λ j. j.serial) (slice_get (xs ++ i ∷ []) m)) at
    ∙ ap (λ (o : Option Item). option_map (λ j. j.serial) o) (slice_get-get_or (xs ++ i ∷ []) (length xs) i (omega arith))
    ∙ ap (λ (j : Item). Some j.serial) (get_or-append_seam xs i [] i)

last_next : (xs : List Item) (i : Item) (a : Option ℕ) (f : Bool) → a ≡ last_serial xs → cond f a (Some i.serial) ≡ last_serial (cond f xs (xs ++ i ∷ []))
last_next xs i a true e = e
last_next xs i a false e = sym (last_push xs i)

pub none_parts : (bs : List Build) (staying : List Item) (p : Place) → verdict_of bs staying p ≡ None → (are_met_by staying p.needs ≡ true) × (fails_for_good bs p ≡ false)
none_parts bs staying p h = by_both (are_met_by staying p.needs) (fails_for_good bs p) h
  where
    some_none : {X : Type 0} (x : X) → Some x ≡ None → ⊥
    some_none x e = true≢false (ap is_some e)

    by_both : (m f : Bool) → cond (not m) (Some verdict.Needs) (cond f (Some verdict.Failed) None) ≡ None → (m ≡ true) × (f ≡ false)
    by_both false f e = absurd (some_none verdict.Needs e)
    by_both true true e = absurd (some_none verdict.Failed e)
    by_both true false e = (refl, refl)

pub none_from : (bs : List Build) (staying : List Item) (p : Place) → are_met_by staying p.needs ≡ true → fails_for_good bs p ≡ false → verdict_of bs staying p ≡ None
none_from bs staying p m f = λ k. cond (not (m k)) (Some verdict.Needs) (cond (f k) (Some verdict.Failed) None)

-- ---- where the line has changed

one_stop : (test : Build → Bool) (b : Build) (x : Bool) (l f : List Build) → filter test l ≡ f → filter test (cond x (b ∷ l) l) ≡ cond (x && test b) (b ∷ f) f
one_stop test b true l f h = λ k. cond (test b) (b ∷ h k) (h k)
one_stop test b false l f h = h

three : (l s z : Bool) → z ≡ true → (l && s) && true ≡ (l && s && z)
three true true z h = sym h
three true false z h = refl
three false s z h = refl

stop_all : (bs : List Build) (n : ℕ) (old new : Place) (going : Bool) → Lost n old new → all_count bs old ≡ true → filter (λ b. true) (live_of bs new) ≡ filter (stops new going) bs
stop_all [] n old new going g h = refl
stop_all (b ∷ bs) n old new going g h =
    let both = and_parts (not (is_live_of old b) || counts old b) (all_count bs old) h in
    let off = counts_no_more bs n old new b g both.0 in
    one_stop (λ c. true) b (is_live_of new b) (live_of bs new) (filter (stops new going) bs) (stop_all bs n old new going g both.1)
    ∙ ap (λ t. cond t (b ∷ filter (stops new going) bs) (filter (stops new going) bs))
    (three b.live (b.serial == new.item.serial) (not (counts new b) || going && is_running b.outcome) (ap (λ t. not t || going && is_running b.outcome) off))

-- ---- where it hasn't

table : (l s c g : Bool) → not (l && s) || c ≡ true → (l && s) && g ≡ (l && s && (not c || g))
table true true true g h = refl
table true true false g h = absurd (true≢false (sym h))
table true false c g h = refl
table false s c g h = refl

pub stop_running : (bs : List Build) (p : Place) (going : Bool) → all_count bs p ≡ true → filter (λ b. going && is_running b.outcome) (live_of bs p) ≡ filter (stops p going) bs
stop_running [] p going h = refl
stop_running (b ∷ bs) p going h =
    let both = and_parts (not (is_live_of p b) || counts p b) (all_count bs p) h in
    one_stop (λ c. going && is_running c.outcome) b (is_live_of p b) (live_of bs p) (filter (stops p going) bs) (stop_running bs p going both.1)
    ∙ ap (λ t. cond t (b ∷ filter (stops p going) bs) (filter (stops p going) bs)) (table b.live (b.serial == p.item.serial) (counts p b) (going && is_running b.outcome) both.0)

-- none stops of an item that stays, where no build still runs for it once it is cut
pub none_stop : (bs : List Build) (p : Place) → all_count bs p ≡ true → EndedIfCut bs p → filter (stops p (is_cut bs p)) bs ≡ []
none_stop bs p h e = by_cut (is_cut bs p) refl
  where
    never : (cs : List Build) → filter (λ b. false && is_running b.outcome) cs ≡ []
    never [] = refl
    never (c ∷ cs) = never cs

    one : (b : Build) (l r : Bool) (f : List Build) → not l || not r ≡ true → cond l (cond r (b ∷ f) f) f ≡ f
    one b false r f k = refl
    one b true false f k = refl
    one b true true f k = absurd (true≢false (sym k))

    push : (b : Build) (l : Bool) (f : List Build) → filter (λ x. true && is_running x.outcome) (cond l (b ∷ f) f) ≡ cond l (cond (is_running b.outcome) (b ∷ filter (λ x. true && is_running x.outcome) f) (filter (λ x. true && is_running x.outcome) f)) (filter (λ x. true && is_running x.outcome) f)
    push b true f = refl
    push b false f = refl

    ended : (cs : List Build) → all_ended cs p ≡ true → filter (λ b. true && is_running b.outcome) (live_of cs p) ≡ []
    ended [] k = refl
    ended (c ∷ cs) k =
        let both = and_parts (not (is_live_of p c) || not (is_running c.outcome)) (all_ended cs p) k in
        push c (is_live_of p c) (live_of cs p)
        ∙ one c (is_live_of p c) (is_running c.outcome) (filter (λ b. true && is_running b.outcome) (live_of cs p)) both.0
        ∙ ended cs both.1

    by_cut : (t : Bool) → is_cut bs p ≡ t → filter (stops p t) bs ≡ []
    by_cut false k = sym (stop_running bs p false h) ∙ never (live_of bs p)
    by_cut true k = sym (stop_running bs p true h) ∙ ended bs (e k)

-- ---- behind a visit

pub known_next : (stand : ℕ → Option Bool) (bounds : Bounds) (bs : List Build) (before staying : List Item) (k : Carry) (v : Seen) (p : Place) → Sees bs staying k v p →
    Known stand k.marks k.gone before p.ahead staying → has_change before p.item.change ≡ false → is_some (stand p.item.change) ≡ true →
    Known stand (carried bounds k v).marks (carried bounds k v).gone (before ++ p.item ∷ []) (next_ahead bs p) (next_staying staying (judge bs staying p))
known_next stand bounds bs before staying k v p s kn fresh there =
    let base = known_visited stand k.marks k.gone before p.ahead staying p.item (is_failing bs p) (is_some (verdict_of bs staying p)) kn fresh there in
    let after : Option Verdict → Bool → ℕ → Type 0 = λ w f c.
    Known stand (k.marks ++ record { change = c; failing = f } ∷ []) (cond (is_some w) (k.gone ++ c ∷ []) k.gone) (before ++ p.item ∷ []) (next_ahead bs p) (next_staying staying (judge bs staying p)) in
    subst (λ (c : ℕ). after (verdict_by k v) (fails k v) c) (sym s.same_item.1)
    (subst (λ (w : Option Verdict). after w (fails k v) p.item.change) (sym (verdict_seen bs staying k v p s))
    (subst (λ (f : Bool). after (verdict_of bs staying p) f p.item.change) (sym (fails_seen bs staying k v p s)) base))

pub ahead_next : (bounds : Bounds) (bs : List Build) (staying : List Item) (k : Carry) (v : Seen) (p : Place) → Sees bs staying k v p → (carried bounds k v).ahead ≡ last_serial (next_ahead bs p)
ahead_next bounds bs staying k v p s =
    (λ i. cond (fails_seen bs staying k v p s i) k.ahead (Some (s.same_item.0 i)))
    ∙ last_next p.ahead p.item k.ahead (is_failing bs p) s.ahead

-- a row that is asked for, where the visit sees what is so
pub right_at : (name : List ℕ) (bounds : Bounds) (bs : List Build) (staying : List Item) (k : Carry) (v : Seen) (p : Place) → Sees bs staying k v p →
    RightAt name bounds bs k.reports k.window staying p v.row (Some (visit_edits name bounds k v))
right_at name bounds bs staying k v p s =
    λ i. edits_seen name bs staying k v p s i ++ window_edits_by name bounds k.window (verdict_seen bs staying k v p s i)

-- and all behind it
pub right_visit : (name : List ℕ) (bounds : Bounds) (bs : List Build) (staying : List Item) (k : Carry) (v : Seen) (p : Place) (ps : List Place) (vs : List Seen) → Sees bs staying k v p →
    Right name bounds bs (carried bounds k v).reports (carried bounds k v).window (next_staying staying (judge bs staying p)) ps (rows_seen vs) (asked name bounds (carried bounds k v) vs) →
    Right name bounds bs k.reports k.window staying (p ∷ ps) (rows_seen (v ∷ vs)) (Some (visit_edits name bounds k v) ∷ asked name bounds (carried bounds k v) vs)
right_visit name bounds bs staying k v p ps vs s h = (
  right_at name bounds bs staying k v p s,
  subst (λ (w : Option Verdict). Right name bounds bs (next_reports k.reports w) (window_behind bounds k.window w) (next_staying staying (judge bs staying p)) ps (rows_seen vs) (asked name bounds (carried bounds k v) vs))
      (verdict_seen bs staying k v p s) h,
)

-- ---- the queue before

-- an item of a settled state, its row right
pub record QuietAt (stand : ℕ → Option Bool) (bs : List Build) (before : List Item) (p : Place) : Type 0 where
  pub counting : all_count bs p ≡ true
  pub ended : EndedIfCut bs p
  pub stays : verdict_of bs before p ≡ None
  pub standing : stand p.item.change ≡ Some (is_failing bs p)
  pub fresh : has_change before p.item.change ≡ false
  pub open_needs : list_all (λ n. not (n.landed && has_change before n.change)) p.needs ≡ true

-- so with each of these
abbrev pub Quiet : (ℕ → Option Bool) → List Build → List Item → List Item → List Place → Type 0
Quiet stand bs before ahead [] = Unit {0}
Quiet stand bs before ahead (p ∷ ps) =
    QuietAt stand bs before (with_ahead ahead p) × Quiet stand bs (before ++ p.item ∷ []) (next_ahead bs (with_ahead ahead p)) ps

-- the items as visits see them: each row as it was, by what was ahead; all else as it is
abbrev pub visits : (ℕ → Option Bool) → List Build → (Place → Place) → List Item → List Place → List Seen
visits stand bs now ahead [] = []
visits stand bs now ahead (p ∷ ps) = seen stand bs (with_ahead ahead p) (now p) ∷ visits stand bs now (next_ahead bs (with_ahead ahead p)) ps

-- a change is no landing's
abbrev pub NotLanded : ℕ → List Place → Type 0
NotLanded t [] = Unit {0}
NotLanded t (p ∷ ps) = (list_any (λ l. l.change == t) p.landings ≡ false) × NotLanded t ps

abbrev pub same : Place → Place
same p = p

in_more : (xs : List Item) (i : Item) (n : ℕ) → has_change xs n ≡ true → has_change (xs ++ i ∷ []) n ≡ true
in_more xs i n h = list_any-append (λ (j : Item). j.change == n) xs (i ∷ []) ∙ ap (λ t. t || (i.change == n || false)) h

-- a change that lost its place in the lines: each of them has changed, down to the last
pub reset : (name : List ℕ) (bounds : Bounds) (stand : ℕ → Option Bool) (bs : List Build) (t : ℕ) (passes : Bool) (a : Option ℕ) (gone : List ℕ) (marks : List Mark) (n w : ℕ) (before was ahead staying : List Item) (ps : List Place) →
    Known stand marks gone before ahead staying → a ≡ last_serial ahead → has_change before t ≡ true → has_change was t ≡ true → has_change ahead t ≡ false →
    Quiet stand bs before was ps → NotLanded t ps →
    Right name bounds bs n w staying (places_after bs ahead ps) (rows_seen (visits stand bs same was ps))
    (asked name bounds (record { resets = true; passes = passes; ahead = a; gone = gone; marks = marks; reports = n; window = w }) (visits stand bs same was ps))
reset name bounds stand bs t passes a gone marks n w before was ahead staying [] kn ea tb tw ta q l = tt
reset name bounds stand bs t passes a gone marks n w before was ahead staying (p ∷ ps) kn ea tb tw ta q l =
    let k : Carry = record { resets = true; passes = passes; ahead = a; gone = gone; marks = marks; reports = n; window = w } in
    let old = with_ahead was p in
    let new = with_ahead ahead p in
    let v = seen stand bs old p in
    let own = q.0 in
    let parts = none_parts bs before old own.stays in
    let other : (p.item.change == t) ≡ false = apart (p.item.change == t) refl in
    let lost : Lost t old new = record { was_ahead = tw; is_not_ahead = ta; not_itself = other; not_landed = l.0; same_item = refl; same_landings = refl } in
    let s : Sees bs staying k v new = record {
      same_item = (refl, refl, refl);
      same_jobs = refl;
      same_fast = refl;
      blocked = blocked_seen stand marks gone before ahead staying p.needs kn parts.0;
      met = met_seen stand marks gone before ahead staying p.needs kn parts.0;
      outcomes = λ job. sym (none_counts bs t old new lost own.counting job);
      stopping = λ going. stop_all bs t old new going lost own.counting;
      ahead = ea;
      first = ap (λ o. not (is_some o)) ea ∙ first_last ahead;
    } in
    let next = next_ahead bs new in
    let k2 = carried bounds k v in
    right_visit name bounds bs staying k v new (places_after bs next ps) (visits stand bs same (next_ahead bs old) ps) s
    (reset name bounds stand bs t k2.passes k2.ahead k2.gone k2.marks k2.reports k2.window (before ++ p.item ∷ []) (next_ahead bs old) next (next_staying staying (judge bs staying new)) ps
    (known_next stand bounds bs before staying k v new s kn own.fresh (ap is_some own.standing))
    (ahead_next bounds bs staying k v new s)
    (in_more before p.item t tb)
    (stays_in (is_failing bs old) tw)
    (stays_out (is_failing bs new) other)
    q.1 l.1)
  where
    apart : (x : Bool) → (p.item.change == t) ≡ x → (p.item.change == t) ≡ false
    apart true e = absurd (true≢false (sym tb ∙ ap (has_change before) (sym (eqb-true p.item.change t e)) ∙ q.0.fresh))
    apart false e = e

    stays_in : (f : Bool) → has_change was t ≡ true → has_change (cond f was (was ++ p.item ∷ [])) t ≡ true
    stays_in true h = h
    stays_in false h = in_more was p.item t h

    stays_out : (f : Bool) → (p.item.change == t) ≡ false → has_change (cond f ahead (ahead ++ p.item ∷ [])) t ≡ false
    stays_out true e = ta
    stays_out false e = list_any-append (λ (j : Item). j.change == t) ahead (p.item ∷ []) ∙ (λ k. ta k || (e k || false))
