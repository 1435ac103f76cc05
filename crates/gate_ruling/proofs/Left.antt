-- An item leaves its queue: its report and the end of its row, then its builds.
use Rattle.std.proofs.Common.{◌≡◌, ℕ, ◌+◌, ◌<◌, Bool, true, false, not, cond, List, [], ◌∷◌, ◌++◌, map, length}
use Rattle.std.proofs.Common.{filter, refl, sym, ap, ◌∙◌, ◌||◌, subst, arith, inl, inr, true≢false}
use Rattle.std.specs.Prelude.{◌==◌, min, nat_lt, Contains}
use Rattle.std.specs.List.{list_any}
use Rattle.std.specs.Option.{option_map_or}
use Rattle.std.specs.List.Sorted.{IsStrictlyIncreasing}
use Rattle.std.proofs.lemmas.Bool.{eq-eqb, eqb-true, false_from_ne_true, le-ltb, lt-ltb, ne_eqb}
use Rattle.std.proofs.lemmas.List.{map-id}
use Rattle.gate_types.specs.declared.records.Build.{Build}
use Rattle.gate_types.specs.declared.records.Item.{Item as ItemRow}
use Rattle.gate_types.specs.declared.records.Plan.{Plan}
use Rattle.gate_types.specs.declared.records.Report.{Report}
use Rattle.gate_types.specs.declared.records.Verdict.{Verdict}
use Rattle.gate_types.specs.declared.rows.ReportRow.{ReportRow}
use Rattle.gate_types.specs.declared.edits.Edit.{Edit}
use Rattle.gate_types.specs.declared.edits.Edit.TheVariants as edit
use Rattle.gate_types.specs.Names.{same_name}
use Rattle.gate_types.specs.Settings.{Settings, are_sound}
use Rattle.gate_types.specs.State.{Item, Queue, State, plan_of, put_by, put_plan}
use Rattle.gate_types.specs.Slot.{is_running}
use Rattle.gate_types.specs.Sweep.{report_of, without_plans}
use Rattle.gate_types.specs.Step.{left_queue, is_of_change, landed_plan, leave}
use Rattle.gate_types.specs.Rows.{item_of, numbered_reports}
use Rattle.gate_types.specs.Once.{Content}
use Rattle.gate_types.specs.Tables.{change_row, edited_changes, edited_counters, edited_kept, edited_plans}
use Rattle.gate_types.specs.Tables.{edited_queue, unmark, unmarked}
use Rattle.gate_types.specs.Lawful.{IsSound, has_plan, is_of_a_landing}
use Rattle.gate_types.specs.Forms.{IsLawfulContent}
use Rattle.gate_types.specs.Keys.{serial_of_plan}
use Rattle.gate_types.specs.Rising.{In}
use Rattle.gate_types.proofs.PlainLemmas.{same_truth}
use Rattle.gate_types.proofs.NameLemmas.{same_name_is}
use Rattle.gate_book_trait.specs.Reads.{items_in, reports_in, live_builds}
use Rattle.gate_book_trait.specs.declared.rows.QueuedItem.{QueuedItem}
use Rattle.gate_laws.proofs.Members.{any_to, every, map_same, map_map, filter_all, filter_same, filter_none}
use Rattle.gate_laws.proofs.Plans.{plan_there}
use Rattle.gate_laws.proofs.Rising.{Rising, rising}
use Rattle.gate_laws.proofs.Alone.{serial_alone, change_alone, name_alone, same_name_of}
use Rattle.gate_walk.proofs.Leaving.{one_leaves}
use Rattle.gate_reads.specs.Moves.{Columns, row_by_columns, in_state, Moves}
use Rattle.gate_ruling.specs.Leaving.{stop_of, out_of_queue}
use Rattle.gate_ruling.proofs.Folded.{shown, shown_after, by_parts, leave_it, moves_on}
use Rattle.gate_ruling.proofs.Few.{few_reports}
use Rattle.gate_ruling.proofs.Stored.{Stored, stored}
use Rattle.gate_ruling.proofs.Stopped.{stopped}
use Rattle.gate_queue_rules.proofs.Folds.{put_last}

-- ---- lists

-- what one element alone passes
only_one : {X : Type 0} (key : X → ℕ) (t : X → Bool) (xs : List X) (x : X) → Rising key xs → In x xs →
    t x ≡ true → ((y : X) → In y xs → t y ≡ true → y ≡ x) → filter t xs ≡ x ∷ []
only_one key t [] x r m h alone = absurd m
only_one {X = X} key t (y ∷ ys) x r m h alone = elim m [
  | inl e ↦ (let rest = filter_none t ys (λ z mz. false_from_ne_true (t z) (λ hz.
      let same : z ≡ y = alone z (inr mz) hz ∙ sym e in
      let above : key y < key z = r.0 z mz in
      let equal = ap key same in
      absurd (omega (arith, above, equal)))) in
      ap (λ b. cond b (y ∷ filter t ys) (filter t ys)) (ap t e ∙ h) ∙ (λ k. e k ∷ rest k))
  | inr n ↦ ap (λ b. cond b (y ∷ filter t ys) (filter t ys)) (false_from_ne_true (t y) (λ hy.
      let same : y ≡ x = alone y (inl refl) hy in
      let above : key y < key x = r.0 x n in
      let equal = ap key same in
      absurd (omega (arith, above, equal))))
      ∙ only_one key t ys x r.1 n h (λ z mz. alone z (inr mz))
]

-- rows by columns are dropped as their items are
dropped : (columns : ℕ → Columns) (n : ℕ) (is : List Item) →
    filter (λ (j : ItemRow). not (j.serial == n)) (map (row_by_columns columns) is)
    ≡ map (row_by_columns columns) (filter (λ (i : Item). not (i.serial == n)) is)
dropped columns n [] = refl
dropped columns n (i ∷ is) = by_test (i.serial == n) (dropped columns n is)
  where
    by_test : (t : Bool) → filter (λ (j : ItemRow). not (j.serial == n)) (map (row_by_columns columns) is)
        ≡ map (row_by_columns columns) (filter (λ (i : Item). not (i.serial == n)) is) →
        cond (not t) (row_by_columns columns i ∷ filter (λ (j : ItemRow). not (j.serial == n)) (map (row_by_columns columns) is))
        (filter (λ (j : ItemRow). not (j.serial == n)) (map (row_by_columns columns) is))
        ≡ map (row_by_columns columns) (cond (not t) (i ∷ filter (λ (i : Item). not (i.serial == n)) is)
        (filter (λ (i : Item). not (i.serial == n)) is))
    by_test true h = h
    by_test false h = ap (λ l. row_by_columns columns i ∷ l) h

-- ---- one queue

-- in any queue the item's serial is the item's, and so is its change
same_test : (c : Settings) (s : State) (name : List ℕ) (row : ItemRow) → IsSound c s → Stored c s name row →
    (q : Queue) → In q s.queues → (i : Item) → In i q.items → i.serial == row.serial ≡ (i.change == row.change)
same_test c s name row sound h q mq i mi =
    same_truth (i.serial == row.serial) (i.change == row.change)
    (λ e. let one = serial_alone c s sound q h.queue i (item_of row) mq h.there mi h.item
    (eqb-true i.serial row.serial e) in
    eq-eqb i.change row.change (ap (λ (j : Item). j.change) one.1))
    (λ e. let one = change_alone c s sound q h.queue i (item_of row) mq h.there mi h.item
    (eqb-true i.change row.change e) in
    eq-eqb i.serial row.serial (ap (λ (j : Item). j.serial) one.1))

-- the items that leave: the one of the row from its queue, none from another
gone : (c : Settings) (s : State) (name : List ℕ) (row : ItemRow) → IsSound c s → (h : Stored c s name row) →
    filter (λ (i : Item). i.change == row.change) h.queue.items ≡ item_of row ∷ []
gone c s name row sound h =
    only_one (λ (i : Item). i.serial) (λ i. i.change == row.change) h.queue.items (item_of row)
    (rising (λ (i : Item). i.serial) h.queue.items
    (every (λ (q : Queue). IsStrictlyIncreasing (map (λ i. i.serial) q.items)) s.queues sound.items_rise h.queue
    h.there)) h.item
    (eq-eqb row.change row.change refl) (λ i mi e.
    (change_alone c s sound h.queue h.queue i (item_of row) h.there h.there mi h.item
    (eqb-true i.change row.change e)).1)

none_gone : (c : Settings) (s : State) (name : List ℕ) (row : ItemRow) → IsSound c s → Stored c s name row →
    (q : Queue) → In q s.queues → same_name name q.name ≡ false →
    filter (λ (i : Item). i.change == row.change) q.items ≡ []
none_gone c s name row sound h q mq apart =
    filter_none (λ (i : Item). i.change == row.change) q.items (λ i mi. false_from_ne_true (i.change == row.change)
    (λ e.
    let one = change_alone c s sound q h.queue i (item_of row) mq h.there mi h.item (eqb-true i.change row.change e) in
    let named = same_name_of name q.name (sym (same_name_is h.queue.name name h.named)
    ∙ ap (λ (o : Queue). o.name) (sym one.0)) in
    true≢false (sym named ∙ apart)))

reports_left : (c : Settings) (s : State) (name : List ℕ) (row : ItemRow) (v : Verdict) → are_sound c ≡ true →
    IsSound c s → (h : Stored c s name row) → (q : Queue) → In q s.queues → (t : Bool) → same_name name q.name ≡ t →
    cond t (put_by (λ (x : ReportRow). x.place)
    (record { place = length h.queue.reports + 1; report = report_of v (item_of row) }) (numbered_reports 0 q.reports))
    (numbered_reports 0 q.reports) ≡ numbered_reports 0 (left_queue v row.change q).reports
reports_left c s name row v settings sound h q mq true e =
    let one : h.queue ≡ q = name_alone c s settings sound h.queue q h.there mq
    (same_name_of h.queue.name q.name (same_name_is h.queue.name name h.named ∙ same_name_is name q.name e)) in
    let report = report_of v (item_of row) in
    let place = length h.queue.reports + 1 in
    subst (λ o. put_by (λ (x : ReportRow). x.place) (record { place = place; report = report }) (numbered_reports 0 o.reports)
    ≡ numbered_reports 0 (left_queue v row.change o).reports) one
    (put_last 0 h.queue.reports report (length h.queue.reports) (omega arith)
    ∙ ap (λ l. numbered_reports 0 (h.queue.reports ++ map (report_of v) l)) (sym (gone c s name row sound h)))
reports_left c s name row v settings sound h q mq false e =
    ap (numbered_reports 0) (sym (nothing_more q.reports)
    ∙ ap (λ l. q.reports ++ map (report_of v) l) (sym (none_gone c s name row sound h q mq e)))
  where
    nothing_more : (rs : List Report) → rs ++ [] ≡ rs
    nothing_more [] = refl
    nothing_more (r ∷ rs) = ap (λ l. r ∷ l) (nothing_more rs)

queue_left : (c : Settings) (s : State) (k : QueuedItem) (v : Verdict) → are_sound c ≡ true → IsSound c s →
    (h : Stored c s k.queue k.item) → (columns : ℕ → Columns) (q : Queue) → In q s.queues →
    shown_after columns (out_of_queue k (edit.DropItem k.item.serial) (length h.queue.reports + 1) v) q
    ≡ shown columns (left_queue v k.item.change q)
queue_left c s k v settings sound h columns q mq =
    let items = dropped columns k.item.serial q.items
    ∙ ap (map (row_by_columns columns)) (filter_same (λ (i : Item). not (i.serial == k.item.serial))
    (λ i. not (i.change == k.item.change)) q.items
    (λ i mi. ap not (same_test c s k.queue k.item sound h q mq i mi))) in
    let reports = reports_left c s k.queue k.item v settings sound h q mq (same_name k.queue q.name) refl in
    λ i. record (shown columns q) { items = items i; reports = reports i }

-- ---- the plan of what lands

-- a row below all others is put in front
put_front : (x : Plan) (ys : List Plan) → ((y : Plan) → In y ys → x.serial < y.serial) →
    put_by serial_of_plan x ys ≡ x ∷ ys
put_front x [] below = refl
put_front x (y ∷ ys) below =
    let less : x.serial < y.serial = below y (inl refl) in
    ap (λ b. cond b (x ∷ ys) (cond (nat_lt x.serial y.serial) (x ∷ y ∷ ys) (y ∷ put_by serial_of_plan x ys)))
    (ne_eqb x.serial y.serial (λ e. omega (arith, less, e)))
    ∙ ap (λ b. cond b (x ∷ y ∷ ys) (y ∷ put_by serial_of_plan x ys)) (lt-ltb x.serial y.serial less)

-- among plans that rise, one without its mark is as one taken out and put so
unmark_put : (n : ℕ) (ps : List Plan) (p : Plan) → Rising serial_of_plan ps → In p ps → p.serial ≡ n →
    unmark n ps ≡ put_by serial_of_plan (unmarked p) (filter (λ q. not (q.serial == n)) ps)
unmark_put n [] p up m e = absurd m
unmark_put n (q ∷ qs) p up m e = by_place (q.serial == n) refl m (λ k. unmark_put n qs p up.1 k e)
  where
    others : ((y : Plan) → In y qs → n < y.serial) → (unmark n qs ≡ qs) × (filter (λ r. not (r.serial == n)) qs ≡ qs)
    others above = (
      map_same (λ (r : Plan). cond (r.serial == n) (unmarked r) r) (λ r. r) qs
          (λ r k. ap (λ b. cond b (unmarked r) r) (ne_eqb r.serial n (λ f. let l = above r k in omega (arith, l, f))))
          ∙ map-id qs,
      filter_all (λ (r : Plan). not (r.serial == n)) qs
          (λ r k. ap not (ne_eqb r.serial n (λ f. let l = above r k in omega (arith, l, f)))),
    )

    by_place : (b : Bool) → q.serial == n ≡ b → In p (q ∷ qs) → (In p qs →
        unmark n qs ≡ put_by serial_of_plan (unmarked p) (filter (λ r. not (r.serial == n)) qs)) →
        cond b (unmarked q) q ∷ unmark n qs
        ≡ put_by serial_of_plan (unmarked p)
        (cond (not b) (q ∷ filter (λ r. not (r.serial == n)) qs) (filter (λ r. not (r.serial == n)) qs))
    by_place true t k rest =
        let at : q.serial ≡ n = eqb-true q.serial n t in
        let above = λ (y : Plan) (z : In y qs).
        let l = up.0 y z in let low : n < y.serial = omega (arith, l, at) in low in
        let both = others above in
        let same : q ≡ p = elim k [ inl f ↦ f | inr f ↦ (let l = up.0 p f in absurd (omega (arith, l, at, e))) ] in
        ap (λ l. unmarked q ∷ l) both.0 ∙ ap (λ r. unmarked r ∷ qs) same
        ∙ sym (ap (put_by serial_of_plan (unmarked p)) both.1
        ∙ put_front (unmarked p) qs (λ y z. let l = above y z in omega (arith, l, e)))
    by_place false t k rest =
        let there : In p qs = elim k [
          | inl f ↦ absurd (true≢false (sym (eq-eqb q.serial n (ap serial_of_plan f ∙ e)) ∙ t))
          | inr f ↦ f
        ] in
        let less : q.serial < p.serial = up.0 p there in
        let left = filter (λ (r : Plan). not (r.serial == n)) qs in
        ap (λ l. q ∷ l) (rest there)
        ∙ sym (ap (λ b. cond b (unmarked p ∷ left) (cond (nat_lt p.serial q.serial) (unmarked p ∷ q ∷ left)
        (q ∷ put_by serial_of_plan (unmarked p) left)))
        (ne_eqb p.serial q.serial (λ f. omega (arith, less, f)))
        ∙ ap (λ b. cond b (unmarked p ∷ q ∷ left) (q ∷ put_by serial_of_plan (unmarked p) left))
        (le-ltb p.serial q.serial (omega arith)))

-- an item has a plan
is_planned : (c : Settings) (s : State) (k : QueuedItem) → IsSound c s → Stored c s k.queue k.item →
    has_plan s.plans k.item.serial ≡ true
is_planned c s k sound h =
    sound.planned.kept k.item.serial ∙ ap (λ b. b || is_of_a_landing s.queues k.item.serial)
    (any_to (λ (q : Queue). list_any (λ i. i.serial == k.item.serial) q.items) s.queues h.queue h.there
    (any_to (λ (i : Item). i.serial == k.item.serial) h.queue.items (item_of k.item) h.item
    (eq-eqb k.item.serial k.item.serial refl)))

-- which keeps its jobs where it lands
unmark_is : (s : State) (n : ℕ) → Rising serial_of_plan s.plans → has_plan s.plans n ≡ true →
    unmark n s.plans ≡ put_by serial_of_plan (landed_plan s n) (filter (λ p. not (p.serial == n)) s.plans)
unmark_is s n up has =
    let there = plan_there s.plans n has in
    unmark_put n s.plans (plan_of s n) up there.0 there.1
    ∙ (λ i. put_by serial_of_plan (record {
      serial = there.1 i;
      jobs = (plan_of s n).jobs;
      fast = false;
    }) (filter (λ p. not (p.serial == n)) s.plans))

-- ---- all tables

-- the item left its queue, and its builds go on
abbrev unqueued : Verdict → ℕ → State → State
unqueued v n s = record s { queues = map (left_queue v n) s.queues; plans = without_plans (is_of_change n s) s.plans }

out : (c : Settings) (x : Content) (k : QueuedItem) (v : Verdict) → are_sound c ≡ true → IsSound c x.state →
    (h : Stored c x.state k.queue k.item) →
    Moves x (out_of_queue k (edit.DropItem k.item.serial) (length h.queue.reports + 1) v)
    (unqueued v k.item.change x.state)
out c x k v settings sound h =
    let edits = out_of_queue k (edit.DropItem k.item.serial) (length h.queue.reports + 1) v in
    by_parts x edits (unqueued v k.item.change x.state) (record {
      changes = refl;
      queues = λ columns.
          map_same (shown_after columns edits) (λ q. shown columns (left_queue v k.item.change q)) x.state.queues
          (queue_left c x.state k v settings sound h columns)
          ∙ sym (map_map (shown columns) (left_queue v k.item.change) x.state.queues);
      plans = λ i. without_plans (λ n. sym (one_leaves c x.state sound h.queue (item_of k.item) k.item.change h.there
          h.item refl n) i) x.state.plans;
      builds = refl;
      counters = refl;
      kept = refl;
    })

-- the same of an item that lands, whose plan loses its mark
out_landed : (c : Settings) (x : Content) (k : QueuedItem) (v : Verdict) → are_sound c ≡ true → IsSound c x.state →
    (h : Stored c x.state k.queue k.item) →
    Moves x (out_of_queue k (edit.LandItem k.item.serial) (length h.queue.reports + 1) v)
    (put_plan (landed_plan x.state k.item.serial) (unqueued v k.item.change x.state))
out_landed c x k v settings sound h =
    let s = x.state in
    let n = k.item.serial in
    let edits = out_of_queue k (edit.LandItem n) (length h.queue.reports + 1) v in
    by_parts x edits (put_plan (landed_plan s n) (unqueued v k.item.change s)) (record {
      changes = refl;
      queues = λ columns.
          map_same (shown_after columns edits) (λ q. shown columns (left_queue v k.item.change q)) s.queues
          (queue_left c s k v settings sound h columns)
          ∙ sym (map_map (shown columns) (left_queue v k.item.change) s.queues);
      plans = unmark_is s n (rising serial_of_plan s.plans sound.planned.rise) (is_planned c s k sound h)
          ∙ (λ i. put_by serial_of_plan (landed_plan s n) (without_plans (λ m. sym (one_leaves c s sound h.queue
          (item_of k.item) k.item.change h.there h.item refl m) i) s.plans));
      builds = refl;
      counters = refl;
      kept = refl;
    })

-- its running builds stop, whatever the plans
stops : (c : Settings) (x : Content) (k : QueuedItem) (v : Verdict) (plans : List Plan) → IsSound c x.state →
    Stored c x.state k.queue k.item →
    Moves (in_state x (record (unqueued v k.item.change x.state) { plans = plans }))
    (map stop_of (filter (λ b. is_running b.outcome) (live_builds x.state k.item.serial)))
    (record (leave v k.item.change x.state) { plans = plans })
stops c x k v plans sound h =
    let t : State = record (unqueued v k.item.change x.state) { plans = plans } in
    let runs = filter (λ (b : Build). is_running b.outcome) (live_builds x.state k.item.serial) in
    by_parts (in_state x t) (map stop_of runs) (record (leave v k.item.change x.state) { plans = plans }) (record {
      changes = leave_it edited_changes stop_of (map (change_row t.ready) t.changes) (λ b. refl) runs;
      queues = λ columns. map_same (shown_after columns (map stop_of runs)) (shown columns) t.queues
          (λ q m. leave_it (λ r e. edited_queue e r) stop_of (shown columns q) (λ b. refl) runs);
      plans = leave_it edited_plans stop_of t.plans (λ b. refl) runs;
      builds = stopped c x.state k.queue k.item sound h;
      counters = leave_it edited_counters stop_of t.counters (λ b. refl) runs;
      kept = leave_it edited_kept stop_of x.kept (λ b. refl) runs;
    })

leaves : (c : Settings) (x : Content) (k : QueuedItem) (v : Verdict) → are_sound c ≡ true → IsSound c x.state →
    (h : Stored c x.state k.queue k.item) →
    Moves x (out_of_queue k (edit.DropItem k.item.serial) (length h.queue.reports + 1) v
    ++ map stop_of (filter (λ b. is_running b.outcome) (live_builds x.state k.item.serial)))
    (leave v k.item.change x.state)
leaves c x k v settings sound h =
    moves_on x (unqueued v k.item.change x.state)
    (leave v k.item.change x.state) (out_of_queue k (edit.DropItem k.item.serial) (length h.queue.reports + 1) v)
    (map stop_of (filter (λ b. is_running b.outcome) (live_builds x.state k.item.serial)))
    (out c x k v settings sound h) (stops c x k v (unqueued v k.item.change x.state).plans sound h)

lands : (c : Settings) (x : Content) (k : QueuedItem) (v : Verdict) → are_sound c ≡ true → IsSound c x.state →
    (h : Stored c x.state k.queue k.item) →
    Moves x (out_of_queue k (edit.LandItem k.item.serial) (length h.queue.reports + 1) v
    ++ map stop_of (filter (λ b. is_running b.outcome) (live_builds x.state k.item.serial)))
    (put_plan (landed_plan x.state k.item.serial) (leave v k.item.change x.state))
lands c x k v settings sound h =
    let t = put_plan (landed_plan x.state k.item.serial) (unqueued v k.item.change x.state) in
    moves_on x t (put_plan (landed_plan x.state k.item.serial) (leave v k.item.change x.state))
    (out_of_queue k (edit.LandItem k.item.serial) (length h.queue.reports + 1) v)
    (map stop_of (filter (λ b. is_running b.outcome) (live_builds x.state k.item.serial)))
    (out_landed c x k v settings sound h) (stops c x k v t.plans sound h)

-- the edits of an item that leaves, by what a book answered
pub leaves_by : (c : Settings) (x : Content) (k : QueuedItem) (v : Verdict) → are_sound c ≡ true →
    IsLawfulContent c x → Contains (items_in c x.state k.queue) k.item → (reports place : ℕ) →
    reports ≡ reports_in x.state k.queue → place ≡ min (reports + 1) 18446744073709551615 → (builds : List Build) →
    builds ≡ live_builds x.state k.item.serial → (edits : List Edit) →
    edits ≡ out_of_queue k (edit.DropItem k.item.serial) place v
    ++ map stop_of (filter (λ b. is_running b.outcome) builds) →
    Moves x edits (leave v k.item.change x.state)
leaves_by c x k v settings lawful there reports place told above builds live edits made =
    let h = stored c x.state k.queue k.item there in
    let few = few_reports c x lawful h.queue h.there in
    let count : reports ≡ length h.queue.reports = told
    ∙ ap (λ o. option_map_or (λ (q : Queue). length q.reports) o 0) h.first in
    let at : place ≡ length h.queue.reports + 1 = omega (arith, few, count, above) in
    subst (λ es. Moves x es (leave v k.item.change x.state))
    (sym (made ∙ (λ i. out_of_queue k (edit.DropItem k.item.serial) (at i) v
    ++ map stop_of (filter (λ b. is_running b.outcome) (live i)))))
    (leaves c x k v settings lawful.lawful.sound h)

-- and of one that lands
pub lands_by : (c : Settings) (x : Content) (k : QueuedItem) (v : Verdict) → are_sound c ≡ true →
    IsLawfulContent c x → Contains (items_in c x.state k.queue) k.item → (reports place : ℕ) →
    reports ≡ reports_in x.state k.queue → place ≡ min (reports + 1) 18446744073709551615 → (builds : List Build) →
    builds ≡ live_builds x.state k.item.serial → (edits : List Edit) →
    edits ≡ out_of_queue k (edit.LandItem k.item.serial) place v
    ++ map stop_of (filter (λ b. is_running b.outcome) builds) →
    Moves x edits (put_plan (landed_plan x.state k.item.serial) (leave v k.item.change x.state))
lands_by c x k v settings lawful there reports place told above builds live edits made =
    let h = stored c x.state k.queue k.item there in
    let few = few_reports c x lawful h.queue h.there in
    let count : reports ≡ length h.queue.reports = told
    ∙ ap (λ o. option_map_or (λ (q : Queue). length q.reports) o 0) h.first in
    let at : place ≡ length h.queue.reports + 1 = omega (arith, few, count, above) in
    subst (λ es. Moves x es (put_plan (landed_plan x.state k.item.serial) (leave v k.item.change x.state)))
    (sym (made ∙ (λ i. out_of_queue k (edit.LandItem k.item.serial) (at i) v
    ++ map stop_of (filter (λ b. is_running b.outcome) (live i)))))
    (lands c x k v settings lawful.lawful.sound h)
