-- What a delivery has left of the touched queue, of the rows of its items, of their needs, jobs and builds.
use Rattle.std.proofs.Common.{◌≡◌, ℕ, suc, ◌+◌, ◌<◌, ◌≤◌, Bool, false, not, ◌&&◌, ◌||◌, cond, Some, List, [], ◌∷◌}
use Rattle.std.proofs.Common.{◌++◌, map, length, inl, inr, refl, sym, ap, ◌∙◌, subst, arith}
use Rattle.std.specs.Prelude.{◌==◌, if◌then◌else◌, filter}
use Rattle.std.proofs.lemmas.Bool.{eq-eqb, ne_eqb}
use Rattle.std.proofs.lemmas.Option.{same_Some, none-some}
use Rattle.std.proofs.lemmas.List.{map-id, map-append, length-append, length-map}
use Rattle.std.proofs.lemmas.List.Elements.{filter-append}
use Rattle.std.proofs.lemmas.List.Filters.{length-filter_both}
use Rattle.gate_types.specs.declared.records.Item.{Item as ItemRow}
use Rattle.gate_types.specs.declared.records.Need.{Need}
use Rattle.gate_types.specs.declared.records.Verdict.{Verdict}
use Rattle.gate_types.specs.declared.records.Verdict.TheVariants as verdict
use Rattle.gate_types.specs.declared.deliveries.Delivery.{Delivery}
use Rattle.gate_types.specs.declared.deliveries.Delivery.TheVariants as delivery
use Rattle.gate_types.specs.declared.deliveries.Ending.{Ending}
use Rattle.gate_types.specs.Settings.{Settings}
use Rattle.gate_types.specs.State.{Item, Queue, State, plan_of}
use Rattle.gate_types.specs.Line.{Place}
use Rattle.gate_types.specs.Standing.{needs_of, place_of}
use Rattle.gate_types.specs.Sweep.{report_of, without_runs}
use Rattle.gate_types.specs.Step.{left_queue, end_build}
use Rattle.gate_types.specs.Window.{grow, bounds_of}
use Rattle.gate_types.specs.Rows.{item_of, item_rows}
use Rattle.gate_laws.specs.Touch.{has_serial}
use Rattle.gate_walk.specs.Rescan.{HasLeft, HasLanded, live_under, place_after_landing, without_row}
use Rattle.gate_walk.specs.Kinds.{IsIn}
use Rattle.gate_walk.specs.Delivery.{Touch, build_ended, item_left, item_landed, moved, touch_of, standing_rows}
use Rattle.gate_reads.specs.Moves.{Columns, row_by_columns}
use Rattle.gate_reads.specs.Touches.{event_of}
use Rattle.gate_reads.specs.Windows.{window_now}
use Rattle.gate_reads.specs.declared.touched.TouchedItem.{TouchedItem}
use Rattle.gate_reads.specs.declared.touched.Event.{Event}
use Rattle.gate_reads.specs.declared.touched.Event.TheVariants as event
use Rattle.gate_laws.proofs.Members.{every, map_map, from_append, to_left, to_right, none_to}
use Rattle.gate_laws.proofs.Parts.{ItemsRise}
use Rattle.gate_queue_rules.proofs.Ordered.{AllBelow, rises}
use Rattle.gate_walk.proofs.Parting.{rise_at}
use Rattle.gate_types.specs.Once.{Content}
use Rattle.gate_types.specs.Rising.{RisesFrom, In}
use Rattle.gate_types.proofs.PlainLemmas.{or_false}
use Rattle.gate_settling.specs.Touching.{Touching}
use Rattle.gate_settling.specs.Rows.{is_out, has_landed, build_now}
use Rattle.gate_settling.proofs.ColumnLemmas.{columns_of, columns_found}
use Rattle.gate_settling.proofs.SeamLemmas.{no_drop}
use Rattle.gate_settling.proofs.ListLemmas.{each_same}
use Rattle.gate_settling.proofs.BuildLemmas.{live_elsewhere, live_ended}
use Rattle.gate_settling.proofs.LeavesLemmas.{Leaves, leaves}

-- a need once the delivery is done
abbrev pub need_after : Event → ℕ → Need → Need
need_after e n m = record { change = m.change; landed = m.landed || has_landed e && n == m.change }

-- how many reports a queue then has
abbrev pub reports_now : Event → ℕ → ℕ
reports_now e n = if is_out e then n + 1 else n

-- what is left: the rows of the items that stand, with what a visit sees of each; the reports; the window
pub record Left (c : Settings) (s t : State) (k : Touch) (q o : Queue) (i : Item) (e : Event) : Type 0 where
  pub rows : standing_rows k i (item_rows c s q) ≡ map (row_by_columns (columns_of c s)) o.items
  pub fewer : (j : Item) → In j o.items → In j q.items
  pub needs : (j : Item) → In j o.items → needs_of t j.change ≡ map (need_after e i.change) (needs_of s j.change)
  pub jobs : (j : Item) → In j o.items → (plan_of t j.serial).jobs ≡ (plan_of s j.serial).jobs
  pub fast : (j : Item) → In j o.items → (plan_of t j.serial).fast ≡ (plan_of s j.serial).fast
  pub builds : (j : Item) → In j o.items →
      live_under t.builds j.serial ≡ map (build_now e) (live_under s.builds j.serial)
  pub reports : length o.reports ≡ reports_now e (length q.reports)
  pub window : o.window ≡ window_now e (bounds_of c o) q.window
  pub name : o.name ≡ q.name

-- ---- the item apart

below_apart : (n : ℕ) (js : List Item) → AllBelow (λ j. j.serial) n js → (j : Item) → In j js → j.serial == n ≡ false
below_apart n [] b j m = absurd m
below_apart n (k ∷ js) b j m = elim m [
  | inl e ↦ subst (λ (z : Item). z.serial == n ≡ false) e
      (let low : k.serial < n = b.0 in ne_eqb k.serial n (λ same. absurd (omega arith)))
  | inr r ↦ below_apart n js b.1 j r
]

above_apart : (n low : ℕ) (js : List Item) → n < low → RisesFrom (λ j. j.serial) low js → (j : Item) → In j js →
    j.serial == n ≡ false
above_apart n low [] l r j m = absurd m
above_apart n low (k ∷ js) l r j m = elim m [
  | inl e ↦ subst (λ (z : Item). z.serial == n ≡ false) e
      (let more : low ≤ k.serial = r.0 in ne_eqb k.serial n (λ same. absurd (omega arith)))
  | inr t ↦ (let more : low ≤ k.serial = r.0 in above_apart n (suc k.serial) js (omega arith) r.1 j t)
]

-- no other item of the queue has the serial
apart : (is js : List Item) (i : Item) → RisesFrom (λ (j : Item). j.serial) 0 (is ++ i ∷ js) →
    ((j : Item) → In j is → j.serial == i.serial ≡ false) × ((j : Item) → In j js → j.serial == i.serial ≡ false)
apart is js i r =
    let parts = rise_at (λ (j : Item). j.serial) 0 is i js r in
    (below_apart i.serial is parts.0, above_apart i.serial (suc i.serial) js (omega arith) parts.1)

-- the rows without that of the item
rows_left : (cols : ℕ → Columns) (is js : List Item) (i : Item) →
    ((j : Item) → In j is → j.serial == i.serial ≡ false) → ((j : Item) → In j js → j.serial == i.serial ≡ false) →
    without_row i.serial (map (row_by_columns cols) (is ++ i ∷ js)) ≡ map (row_by_columns cols) (is ++ js)
rows_left cols is js i before behind =
    let test : ItemRow → Bool = λ r. not (r.serial == i.serial) in
    let rest = filter test (map (row_by_columns cols) js) in
    let none : (ks : List Item) → ((j : Item) → In j ks → j.serial == i.serial ≡ false) →
    has_serial ks i.serial ≡ false =
    none_to (λ (j : Item). j.serial == i.serial) in
    ap (filter test) (map-append (row_by_columns cols) is (i ∷ js))
    ∙ filter-append test (map (row_by_columns cols) is) (row_by_columns cols i ∷ map (row_by_columns cols) js)
    ∙ (λ k. no_drop cols i.serial is (none is before) k
    ++ cond (not (eq-eqb i.serial i.serial refl k)) (row_by_columns cols i ∷ rest) rest)
    ∙ ap (λ l. map (row_by_columns cols) is ++ l) (no_drop cols i.serial js (none js behind))
    ∙ sym (map-append (row_by_columns cols) is js)

-- ---- reports

-- one report more
one_more : (v : Verdict) (q : Queue) (is js : List Item) (i : Item) → q.items ≡ is ++ i ∷ js →
    (left_queue v i.change q).items ≡ is ++ js → length (left_queue v i.change q).reports ≡ length q.reports + 1
one_more v q is js i whole left =
    let gone = filter (λ (j : Item). j.change == i.change) q.items in
    let all = length-filter_both (λ (j : Item). j.change == i.change) (λ j. not (j.change == i.change)) (λ j. refl)
    q.items in
    let many = ap length whole ∙ length-append is (i ∷ js) in
    let fewer = ap length left ∙ length-append is js in
    let told = length-append q.reports (map (report_of v) gone) in
    let each = length-map gone (report_of v) in
    omega (arith, all, many, fewer, told, each)

-- ---- an item that is out

-- an item of a queue of a sound state, and what is apart of it
record Apart (c : Settings) (s : State) (q : Queue) (is : List Item) (i : Item) (js : List Item) : Type 0 where
  there : In q s.queues
  before : (j : Item) → In j is → j.serial == i.serial ≡ false
  behind : (j : Item) → In j js → j.serial == i.serial ≡ false

is_apart : (c : Settings) (s : State) (q : Queue) (is : List Item) (i : Item) (js : List Item) → IsIn c s q is i js →
    Apart c s q is i js
is_apart c s q is i js h =
    let m = subst (In q) (sym h.queues) (to_right h.before (q ∷ h.after) q (inl refl)) in
    let rise = rises (λ (j : Item). j.serial) q.items (every ItemsRise s.queues h.sound.items_rise q m) in
    let both = apart is js i (subst (RisesFrom (λ (j : Item). j.serial) 0) h.items rise) in
    record { there = m; before = both.0; behind = both.1 }

rows_out : (c : Settings) (s : State) (q : Queue) (is : List Item) (i : Item) (js : List Item) → IsIn c s q is i js →
    without_row i.serial (item_rows c s q) ≡ map (row_by_columns (columns_of c s)) (is ++ js)
rows_out c s q is i js h =
    let a = is_apart c s q is i js h in
    ap (without_row i.serial) (columns_found c s h.sound q a.there ∙ ap (map (row_by_columns (columns_of c s))) h.items)
    ∙ rows_left (columns_of c s) is js i a.before a.behind

others_in : (q : Queue) (is : List Item) (i : Item) (js : List Item) → q.items ≡ is ++ i ∷ js → (j : Item) →
    In j (is ++ js) → In j q.items
others_in q is i js e j m = subst (In j) (sym e) (elim (from_append is js j m) [
  | inl l ↦ to_left is (i ∷ js) j l
  | inr r ↦ to_right is (i ∷ js) j (inr r)
])

other_serial : (c : Settings) (s : State) (q : Queue) (is : List Item) (i : Item) (js : List Item) →
    IsIn c s q is i js → (j : Item) → In j (is ++ js) → j.serial == i.serial ≡ false
other_serial c s q is i js h j m =
    let a = is_apart c s q is i js h in
    elim (from_append is js j m) [ inl l ↦ a.before j l | inr r ↦ a.behind j r ]

builds_out : (c : Settings) (s t : State) (q : Queue) (is : List Item) (i : Item) (js : List Item) →
    IsIn c s q is i js → t.builds ≡ without_runs (λ n. n == i.serial) s.builds → (j : Item) → In j (is ++ js) →
    live_under t.builds j.serial ≡ live_under s.builds j.serial
builds_out c s t q is i js h e j m =
    ap (λ bs. live_under bs j.serial) e
    ∙ live_elsewhere i.serial j.serial (other_serial c s q is i js h j m) s.builds

-- needs of which none has landed since
needs_same : (e : Event) (n : ℕ) → has_landed e ≡ false → (ms : List Need) → ms ≡ map (need_after e n) ms
needs_same e n h [] = refl
needs_same e n h (m ∷ ms) = λ k. record {
  change = m.change;
  landed = sym (ap (λ b. m.landed || b && n == m.change) h ∙ or_false m.landed) k;
} ∷ needs_same e n h ms k

-- it didn't land
left_out : (c : Settings) (s t : State) (q o : Queue) (is : List Item) (i : Item) (js : List Item) (v : Verdict) →
    IsIn c s q is i js → HasLeft c s t q o i (is ++ js) →
    length o.reports ≡ length q.reports + 1 → o.window ≡ window_now (event.Left v) (bounds_of c o) q.window →
    o.name ≡ q.name → Left c s t item_left q o i (event.Left v)
left_out c s t q o is i js v h l reports window name =
    let inside : (j : Item) → In j o.items → In j (is ++ js) = λ j m. subst (In j) l.items m in
    let place = each_same (place_of c t o) (place_of c s q) (is ++ js) l.places in
    record {
      rows = rows_out c s q is i js h ∙ ap (map (row_by_columns (columns_of c s))) (sym l.items);
      fewer = λ j m. others_in q is i js h.items j (inside j m);
      needs = λ j m. ap (λ (p : Place). p.needs) (place j (inside j m))
          ∙ needs_same (event.Left v) i.change refl (needs_of s j.change);
      jobs = λ j m. ap (λ (p : Place). p.jobs) (place j (inside j m));
      fast = λ j m. ap (λ (p : Place). p.fast) (place j (inside j m));
      builds = λ j m. builds_out c s t q is i js h l.builds j (inside j m)
          ∙ sym (map-id (live_under s.builds j.serial));
      reports = reports;
      window = window;
      name = name;
    }

-- it landed
landed_out : (c : Settings) (s t : State) (q o : Queue) (is : List Item) (i : Item) (js : List Item) →
    IsIn c s q is i js → HasLanded c s t q o i (is ++ js) →
    length o.reports ≡ length q.reports + 1 → o.window ≡ grow q.window (bounds_of c o).rule → o.name ≡ q.name →
    Left c s t item_landed q o i event.Landed
landed_out c s t q o is i js h l reports window name =
    let inside : (j : Item) → In j o.items → In j (is ++ js) = λ j m. subst (In j) l.items m in
    let place = each_same (place_of c t o) (λ j. place_after_landing i (place_of c s q j)) (is ++ js)
    (l.places ∙ map_map (place_after_landing i) (place_of c s q) (is ++ js)) in
    record {
      rows = rows_out c s q is i js h ∙ ap (map (row_by_columns (columns_of c s))) (sym l.items);
      fewer = λ j m. others_in q is i js h.items j (inside j m);
      needs = λ j m. ap (λ (p : Place). p.needs) (place j (inside j m));
      jobs = λ j m. ap (λ (p : Place). p.jobs) (place j (inside j m));
      fast = λ j m. ap (λ (p : Place). p.fast) (place j (inside j m));
      builds = λ j m. builds_out c s t q is i js h l.builds j (inside j m)
          ∙ sym (map-id (live_under s.builds j.serial));
      reports = reports;
      window = window;
      name = name;
    }

-- ---- kind by kind

-- a report for an item that left its queue
told : (c : Settings) (s : State) (q : Queue) (is : List Item) (i : Item) (js : List Item) (v : Verdict) →
    IsIn c s q is i js → (left_queue v i.change q).items ≡ is ++ js →
    length (left_queue v i.change q).reports ≡ length q.reports + 1
told c s q is i js v h e = one_more v q is js i h.items e

ended_left : (c : Settings) (s t : State) (q : Queue) (is : List Item) (i : Item) (js : List Item) (n : ℕ)
    (e : Ending) → IsIn c s q is i js → t ≡ end_build e n s → Left c s t build_ended q q i (event.Ended n e)
ended_left c s t q is i js n e h same =
    let a = is_apart c s q is i js h in
    subst (λ u. Left c s u build_ended q q i (event.Ended n e)) (sym same) (record {
      rows = columns_found c s h.sound q a.there;
      fewer = λ j m. m;
      needs = λ j m. needs_same (event.Ended n e) i.change refl (needs_of s j.change);
      jobs = λ j m. refl;
      fast = λ j m. refl;
      builds = λ j m. live_ended e n j.serial s.builds;
      reports = refl;
      window = refl;
      name = refl;
    })

left_by_kind : (c : Settings) (s t : State) (d : Delivery) (q : Queue) (is : List Item) (i : Item) (js : List Item) →
    IsIn c s q is i js → Leaves c s d q is i js t → (e : Event) → event_of d ≡ Some e →
    Left c s t (touch_of d) q (moved c d q i) i e
left_by_kind c s t (delivery.Revision n name r message) q is i js h l e ev =
    subst (Left c s t item_left q (left_queue verdict.Superseded i.change q) i) (same_Some _ _ ev)
    (left_out c s t q _ is i js verdict.Superseded h l (told c s q is i js _ h l.items) refl refl)
left_by_kind c s t (delivery.Approved n r) q is i js h l e ev = absurd (none-some e ev)
left_by_kind c s t (delivery.Withdrawn n r) q is i js h l e ev =
    subst (Left c s t item_left q (left_queue verdict.Withdrawn i.change q) i) (same_Some _ _ ev)
    (left_out c s t q _ is i js verdict.Withdrawn h l (told c s q is i js _ h l.items) refl refl)
left_by_kind c s t (delivery.Closed n r) q is i js h l e ev =
    subst (Left c s t item_left q (left_queue verdict.Closed i.change q) i) (same_Some _ _ ev)
    (left_out c s t q _ is i js verdict.Closed h l (told c s q is i js _ h l.items) refl refl)
left_by_kind c s t (delivery.Landed n) q is i js h l e ev =
    subst (Left c s t item_landed q (moved c (delivery.Landed n) q i) i) (same_Some _ _ ev)
    (landed_out c s t q _ is i js h l (told c s q is i js _ h l.items) refl refl)
left_by_kind c s t (delivery.Refused n) q is i js h l e ev =
    subst (Left c s t item_left q (moved c (delivery.Refused n) q i) i) (same_Some _ _ ev)
    (left_out c s t q _ is i js verdict.Refused h l (told c s q is i js _ h l.items) refl refl)
left_by_kind c s t (delivery.Take worker) q is i js h l e ev = absurd (none-some e ev)
left_by_kind c s t (delivery.Result n f) q is i js h l e ev =
    subst (Left c s t build_ended q q i) (same_Some _ _ ev) (ended_left c s t q is i js n f h l)

-- ---- of a delivery under way

abbrev pub is_in : {c : Settings} → {x : Content} → {k : TouchedItem} → (h : Touching c x k) →
    IsIn c x.state h.queue h.items_ahead (item_of k.item) h.items_behind
is_in h = record {
  sound = h.lawful.lawful.sound;
  before = h.queues_ahead;
  after = h.queues_behind;
  queues = h.queues;
  items = h.items;
}

pub left : {c : Settings} {x : Content} {k : TouchedItem} (h : Touching c x k) →
    Left c x.state h.after (touch_of h.delivery) h.queue (moved c h.delivery h.queue (item_of k.item)) (item_of k.item)
    k.event
left {c = c} {x = x} {k = k} h =
    let i = item_of k.item in
    left_by_kind c x.state h.after h.delivery h.queue h.items_ahead i h.items_behind (is_in h)
    (leaves c x.state h.delivery h.reply h.after h.queue h.items_ahead i h.items_behind (is_in h) h.on_item
    h.is_accepted h.acts) k.event h.event
