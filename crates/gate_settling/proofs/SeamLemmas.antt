-- The row equation of settling: what settles one queue's rows settles, behind the raw edits, all tables.
use Rattle.std.proofs.Common.{◌≡◌, ℕ, Bool, true, false, not, ◌||◌, cond, List, [], ◌∷◌, ◌++◌, map, fold, refl, sym}
use Rattle.std.proofs.Common.{ap, ◌∙◌, true≢false, inl, inr}
use Rattle.std.specs.Prelude.{filter, ◌==◌}
use Rattle.std.specs.List.{AllPass, list_all}
use Rattle.std.proofs.lemmas.Bool.{and_parts, or_parts}
use Rattle.std.proofs.lemmas.List.Elements.{All-head, All-tail, All-weaker}
use Rattle.std.proofs.lemmas.List.Sums.{fold-append}
use Rattle.gate_types.specs.declared.records.Item.{Item as ItemRow}
use Rattle.gate_types.specs.declared.records.Build.{Build}
use Rattle.gate_types.specs.declared.edits.Edit.{Edit}
use Rattle.gate_types.specs.declared.edits.Edit.TheVariants as edit
use Rattle.gate_types.specs.Names.{same_name}
use Rattle.gate_types.specs.Settings.{Settings}
use Rattle.gate_types.specs.State.{Item, Queue, State}
use Rattle.gate_types.specs.Window.{bounds_of}
use Rattle.gate_types.specs.Sweep.{judged, swept_queue}
use Rattle.gate_types.specs.Rows.{Rows, edited, edited_items, edited_builds, edited_reports, edited_window}
use Rattle.gate_types.specs.Rows.{fold_edits, item_rows}
use Rattle.gate_types.specs.Once.{Content}
use Rattle.gate_types.specs.Tables.{QueueRows, tables, queue_rows, edited_changes, edited_queue}
use Rattle.gate_types.specs.Tables.{edited_landings, edited_plans, edited_build_rows, edited_counters, edited_kept}
use Rattle.gate_types.specs.Tables.{edited_tables, fold_all, Leads}
use Rattle.gate_types.specs.Rising.{In}
use Rattle.gate_types.proofs.NameLemmas.{same_name_is}
use Rattle.gate_laws.specs.Touch.{has_serial, rebase_one, settle_one}
use Rattle.gate_queue_rules.specs.Settled.{swept_of, rows_in}
use Rattle.gate_walk.specs.Rescan.{rows_with}
use Rattle.gate_reads.specs.Moves.{Columns, row_by_columns, tables_by, swept, in_state, Moves}
use Rattle.gate_laws.proofs.Members.{map_map}
use Rattle.gate_laws.proofs.Elements.{rest_of}
use Rattle.gate_laws.proofs.TableParts.{all_parts}
use Rattle.gate_settling.proofs.ListLemmas.{first_or}
use Rattle.gate_settling.proofs.ColumnLemmas.{HasColumns, columns_of}

-- ---- the fold of edits acts on each part of a queue by itself

queue_parts : (q : QueueRows) (es : List Edit) → fold (λ r e. edited_queue e r) q es ≡ record {
  name = q.name;
  window = fold (edited_window q.name) q.window es;
  items = fold (edited_items q.name) q.items es;
  landings = fold (edited_landings q.name) q.landings es;
  reports = fold (edited_reports q.name) q.reports es;
}
queue_parts q [] = refl
queue_parts q (e ∷ es) = queue_parts (edited_queue e q) es

pub row_parts : (r : Rows) (es : List Edit) → fold_edits r es ≡ record {
  name = r.name;
  window = fold (edited_window r.name) r.window es;
  items = fold (edited_items r.name) r.items es;
  builds = fold (edited_builds r.name) r.builds es;
  reports = fold (edited_reports r.name) r.reports es;
}
row_parts r [] = refl
row_parts r (e ∷ es) = row_parts (edited r e) es

-- ---- a queue's own edits

-- no queue of another name has an item of this serial
abbrev pub is_of : List Queue → List ℕ → ℕ → Bool
is_of qs name n = list_all (λ q. same_name q.name name || not (has_serial q.items n)) qs

-- the edit is of the queue of this name: of its rows, of a serial that no other queue's item has, or it stops a build
abbrev pub is_own : List Queue → List ℕ → Edit → Bool
is_own qs name (edit.PutItem queue i) = same_name queue name
is_own qs name (edit.DropItem n) = is_of qs name n
is_own qs name (edit.PutReport queue n r) = same_name queue name
is_own qs name (edit.StopBuild n) = true
is_own qs name (edit.SetWindow queue w) = same_name queue name
is_own qs name _ = false

-- edits that each leave a thing leave it together
leave_it : {Y : Type 0} (f : Y → Edit → Y) (own : Edit → Bool) (y : Y) →
    ((e : Edit) → own e ≡ true → f y e ≡ y) → (es : List Edit) → AllPass own es → fold f y es ≡ y
leave_it f own y h [] all = refl
leave_it f own y h (e ∷ es) all =
    ap (λ z. fold f z es) (h e (All-head (λ d. own d ≡ true) e es all))
    ∙ leave_it f own y h es (All-tail (λ d. own d ≡ true) e es all)

changes_stay : (qs : List Queue) (name : List ℕ) (rows : _) (e : Edit) → is_own qs name e ≡ true →
    edited_changes rows e ≡ rows
changes_stay qs name rows (edit.PutChange k a) h = absurd (true≢false (sym h))
changes_stay qs name rows (edit.SetStage n g) h = absurd (true≢false (sym h))
changes_stay qs name rows _ h = refl

counters_stay : (qs : List Queue) (name : List ℕ) (d : _) (e : Edit) → is_own qs name e ≡ true →
    edited_counters d e ≡ d
counters_stay qs name d (edit.SetCounter k n) h = absurd (true≢false (sym h))
counters_stay qs name d _ h = refl

kept_stay : (qs : List Queue) (name : List ℕ) (rows : _) (e : Edit) → is_own qs name e ≡ true →
    edited_kept rows e ≡ rows
kept_stay qs name rows (edit.Keep k) h = absurd (true≢false (sym h))
kept_stay qs name rows _ h = refl

landings_stay : (qs : List Queue) (name at : List ℕ) (rows : _) (e : Edit) → is_own qs name e ≡ true →
    edited_landings at rows e ≡ rows
landings_stay qs name at rows (edit.PutLanding queue n l) h = absurd (true≢false (sym h))
landings_stay qs name at rows _ h = refl

-- they act on a queue's builds as on all builds
same_builds : (qs : List Queue) (name at : List ℕ) (bs : List Build) (es : List Edit) → AllPass (is_own qs name) es →
    fold edited_build_rows bs es ≡ fold (edited_builds at) bs es
same_builds qs name at bs [] all = refl
same_builds qs name at bs (e ∷ es) all =
    ap (λ z. fold edited_build_rows z es) (same_step e (All-head (λ d. is_own qs name d ≡ true) e es all))
    ∙ same_builds qs name at (edited_builds at bs e) es (All-tail (λ d. is_own qs name d ≡ true) e es all)
  where
    same_step : (d : Edit) → is_own qs name d ≡ true → edited_build_rows bs d ≡ edited_builds at bs d
    same_step (edit.PutBuild b) h = absurd (true≢false (sym h))
    same_step (edit.SetOutcome n u) h = absurd (true≢false (sym h))
    same_step _ h = refl

-- ---- another queue

-- what is of this name is of no queue of another
off : (queue name other : List ℕ) → same_name queue name ≡ true → same_name other name ≡ false →
    same_name queue other ≡ false
off queue name other own not_it = by_test (same_name queue other) refl
  where
    by_test : (t : Bool) → same_name queue other ≡ t → t ≡ false
    by_test true e =
        let there : same_name other name ≡ true = ap (λ z. same_name z name) (sym (same_name_is queue other e)) ∙ own in
        absurd (true≢false (sym there ∙ not_it))
    by_test false e = refl

pub no_drop : (cols : ℕ → Columns) (n : ℕ) (is : List Item) → has_serial is n ≡ false →
    filter (λ (j : ItemRow). not (j.serial == n)) (map (row_by_columns cols) is) ≡ map (row_by_columns cols) is
no_drop cols n [] h = refl
no_drop cols n (i ∷ is) h =
    let both = or_parts (i.serial == n) (has_serial is n) h in
    let rest = filter (λ (j : ItemRow). not (j.serial == n)) (map (row_by_columns cols) is) in
    ap (λ t. cond (not t) (row_by_columns cols i ∷ rest) rest) both.0
    ∙ ap (λ l. row_by_columns cols i ∷ l) (no_drop cols n is both.1)

not_there : (t s : Bool) → t ≡ false → t || not s ≡ true → s ≡ false
not_there true s e h = absurd (true≢false e)
not_there false true e h = absurd (true≢false (sym h))
not_there false false e h = refl

-- an own edit leaves the rows of a queue of another name
other_stays : (o : Queue) (qs : List Queue) (name : List ℕ) (cols : ℕ → Columns) → same_name o.name name ≡ false →
    (e : Edit) → is_own (o ∷ qs) name e ≡ true →
    edited_queue e (queue_rows (map (row_by_columns cols) o.items) o) ≡ queue_rows (map (row_by_columns cols) o.items) o
other_stays o qs name cols apart (edit.PutItem queue i) h = rw (off queue name o.name h apart) refl
other_stays o qs name cols apart (edit.DropItem n) h =
    let both = and_parts (same_name o.name name || not (has_serial o.items n)) _ h in
    λ k. queue_rows (no_drop cols n o.items (not_there (same_name o.name name) (has_serial o.items n) apart both.0) k) o
other_stays o qs name cols apart (edit.PutReport queue n r) h = rw (off queue name o.name h apart) refl
other_stays o qs name cols apart (edit.StopBuild n) h = refl
other_stays o qs name cols apart (edit.SetWindow queue w) h = rw (off queue name o.name h apart) refl
other_stays o qs name cols apart (edit.LandItem n) h = absurd (true≢false (sym h))
other_stays o qs name cols apart (edit.PutChange k a) h = absurd (true≢false (sym h))
other_stays o qs name cols apart (edit.SetStage n g) h = absurd (true≢false (sym h))
other_stays o qs name cols apart (edit.PutPlan p) h = absurd (true≢false (sym h))
other_stays o qs name cols apart (edit.PutLanding queue n l) h = absurd (true≢false (sym h))
other_stays o qs name cols apart (edit.PutBuild b) h = absurd (true≢false (sym h))
other_stays o qs name cols apart (edit.SetOutcome n u) h = absurd (true≢false (sym h))
other_stays o qs name cols apart (edit.SetCounter k n) h = absurd (true≢false (sym h))
other_stays o qs name cols apart (edit.Keep k) h = absurd (true≢false (sym h))

-- own among more queues is own among fewer
own_tail : (o : Queue) (qs : List Queue) (name : List ℕ) (es : List Edit) → AllPass (is_own (o ∷ qs) name) es →
    AllPass (is_own qs name) es
own_tail o qs name es h = weaker es h
  where
    fewer : (e : Edit) → is_own (o ∷ qs) name e ≡ true → is_own qs name e ≡ true
    fewer (edit.DropItem n) k = (and_parts (same_name o.name name || not (has_serial o.items n)) _ k).1
    fewer (edit.PutItem queue i) k = k
    fewer (edit.PutReport queue n r) k = k
    fewer (edit.StopBuild n) k = k
    fewer (edit.SetWindow queue w) k = k
    fewer (edit.LandItem n) k = absurd (true≢false (sym k))
    fewer (edit.PutChange j a) k = absurd (true≢false (sym k))
    fewer (edit.SetStage n g) k = absurd (true≢false (sym k))
    fewer (edit.PutPlan p) k = absurd (true≢false (sym k))
    fewer (edit.PutLanding queue n l) k = absurd (true≢false (sym k))
    fewer (edit.PutBuild b) k = absurd (true≢false (sym k))
    fewer (edit.SetOutcome n u) k = absurd (true≢false (sym k))
    fewer (edit.SetCounter j n) k = absurd (true≢false (sym k))
    fewer (edit.Keep j) k = absurd (true≢false (sym k))

    weaker : (ds : List Edit) → AllPass (is_own (o ∷ qs) name) ds → AllPass (is_own qs name) ds
    weaker ds k = All-weaker (λ e. is_own (o ∷ qs) name e ≡ true) (λ e. is_own qs name e ≡ true) fewer ds k

-- ---- queues

-- what a rebase and a sweep of one queue alone make of each queue
abbrev pub one_of : Settings → State → List ℕ → Queue → Queue
one_of c t name q =
    cond (same_name q.name name) (swept_queue (bounds_of c q) (judged c (rebase_one name c t) q) q) q

-- the edits settle the rows of the queue of this name, by these columns
abbrev pub SettlesRows : Settings → State → List ℕ → (ℕ → Columns) → List Edit → Queue → Type 0
SettlesRows c t name cols es q = same_name q.name name ≡ true →
    fold_edits (rows_with q (map (row_by_columns cols) q.items) t.builds) es ≡ rows_in c (swept c t) (swept_of c t q)

-- the columns of a queue of another name stay
abbrev pub OthersStay : Settings → State → List ℕ → (ℕ → Columns) → Queue → Type 0
OthersStay c t name cols q = same_name q.name name ≡ false → HasColumns c (swept c t) cols (swept_of c t q)

-- what edits make of a queue's rows, by these columns
abbrev edited_by : (ℕ → Columns) → List Edit → Queue → QueueRows
edited_by cols es q = fold (λ r e. edited_queue e r) (queue_rows (map (row_by_columns cols) q.items) q) es

-- the rows of a queue once all is settled
abbrev settled_by : Settings → State → Queue → QueueRows
settled_by c t q = queue_rows (item_rows c (swept c t) (swept_of c t q)) (swept_of c t q)

-- the queue of the name
own_done : (c : Settings) (t : State) (cols : ℕ → Columns) (name : List ℕ) (es : List Edit) (q : Queue)
    (qs : List Queue) → AllPass (is_own qs name) es →
    fold_edits (rows_with q (map (row_by_columns cols) q.items) t.builds) es ≡ rows_in c (swept c t) (swept_of c t q) →
    edited_by cols es q ≡ settled_by c t q
own_done c t cols name es q qs all rows =
    let start = queue_rows (map (row_by_columns cols) q.items) q in
    let parts = sym (row_parts (rows_with q (map (row_by_columns cols) q.items) t.builds) es) ∙ rows in
    let landings = leave_it (edited_landings q.name) (is_own qs name) start.landings
    (landings_stay qs name q.name start.landings) es all in
    queue_parts start es ∙ (λ i. record {
      name = q.name;
      window = (parts i).window;
      items = (parts i).items;
      landings = landings i;
      reports = (parts i).reports;
    })

-- a queue of another name
other_done : (c : Settings) (t : State) (cols : ℕ → Columns) (name : List ℕ) (es : List Edit) (q : Queue)
    (qs : List Queue) → AllPass (is_own (q ∷ qs) name) es → same_name q.name name ≡ false → swept_of c t q ≡ q →
    HasColumns c (swept c t) cols (swept_of c t q) → edited_by cols es q ≡ settled_by c t q
other_done c t cols name es q qs all apart alone right =
    leave_it (λ r e. edited_queue e r) (is_own (q ∷ qs) name) (queue_rows (map (row_by_columns cols) q.items) q)
    (other_stays q qs name cols apart) es all
    ∙ ap (λ (o : Queue). queue_rows (map (row_by_columns cols) o.items) o) (sym alone)
    ∙ ap (λ l. queue_rows l (swept_of c t q)) (sym right)

queues_done : (c : Settings) (t : State) (cols : ℕ → Columns) (name : List ℕ) (es : List Edit) (qs : List Queue) →
    AllPass (is_own qs name) es → ((q : Queue) → In q qs → SettlesRows c t name cols es q) →
    ((q : Queue) → In q qs → OthersStay c t name cols q) → map (swept_of c t) qs ≡ map (one_of c t name) qs →
    map (edited_by cols es) qs ≡ map (settled_by c t) qs
queues_done c t cols name es [] all rows stay alone = refl
queues_done c t cols name es (q ∷ qs) all rows stay alone =
    let rest = queues_done c t cols name es qs (own_tail q qs name es all) (λ o m. rows o (inr m))
    (λ o m. stay o (inr m)) (ap rest_of alone) in
    λ i. here (same_name q.name name) refl (ap (first_or q) alone) i ∷ rest i
  where
    here : (b : Bool) → same_name q.name name ≡ b → swept_of c t q ≡ one_of c t name q →
        edited_by cols es q ≡ settled_by c t q
    here true e a = own_done c t cols name es q qs (own_tail q qs name es all) (rows q (inl refl) e)
    here false e a = other_done c t cols name es q qs all e
        (a ∙ ap (λ b. cond b (swept_queue (bounds_of c q) (judged c (rebase_one name c t) q) q) q) e)
        (stay q (inl refl) e)

-- ---- all tables

-- what settles one queue by itself, by the columns of before
pub record SettlesOne (c : Settings) (x : Content) (t : State) (name : List ℕ) (edits : List Edit) : Type 0 where
  pub alone : swept c t ≡ settle_one name c t
  pub own : AllPass (is_own t.queues name) edits
  pub rows : (q : Queue) → In q t.queues → SettlesRows c t name (columns_of c x.state) edits q
  pub others : (q : Queue) → In q t.queues → OthersStay c t name (columns_of c x.state) q
  pub plans : fold edited_plans t.plans edits ≡ (swept c t).plans
  pub builds : fold (edited_builds name) t.builds edits ≡ (swept c t).builds

pub settled_queue_leads : (c : Settings) (x : Content) (t : State) (name : List ℕ) (raw edits : List Edit) →
    tables c x ≡ tables_by (columns_of c x.state) x → Moves x raw t → SettlesOne c x t name edits →
    Leads c x (raw ++ edits) (in_state x (swept c t))
settled_queue_leads c x t name raw edits found moves k =
    let cols = columns_of c x.state in
    let v = swept c t in
    let start = tables_by cols (in_state x t) in
    let own = is_own t.queues name in
    let changes = leave_it edited_changes own start.changes (changes_stay t.queues name start.changes) edits k.own in
    let counters = leave_it edited_counters own t.counters (counters_stay t.queues name t.counters) edits k.own in
    let kept = leave_it edited_kept own x.kept (kept_stay t.queues name x.kept) edits k.own in
    let builds = same_builds t.queues name name t.builds edits k.own ∙ k.builds in
    let queues = map_map (λ (q : QueueRows). fold (λ r e. edited_queue e r) q edits)
    (λ (q : Queue). queue_rows (map (row_by_columns cols) q.items) q) t.queues
    ∙ queues_done c t cols name edits t.queues k.own k.rows k.others (ap (λ (s : State). s.queues) k.alone)
    ∙ sym (map_map (λ (q : Queue). queue_rows (item_rows c v q) q) (swept_of c t) t.queues) in
    fold-append edited_tables (tables c x) raw edits
    ∙ ap (λ z. fold_all z edits) (ap (λ z. fold_all z raw) found ∙ moves cols)
    ∙ all_parts start edits
    ∙ (λ i. record {
      changes = changes i;
      queues = queues i;
      plans = k.plans i;
      builds = builds i;
      counters = counters i;
      kept = kept i;
    })
