-- The edits of a change that enters lead to the state in which it has entered.
use Rattle.std.proofs.Common.{◌≡◌, ◌≢◌, ℕ, ◌+◌, ◌<◌, ◌≤◌, inl, inr, ⊎_elim, Bool, true, false, not, cond, Option}
use Rattle.std.proofs.Common.{Some, None, List, [], ◌∷◌, ◌++◌, map, flat_map, refl, sym, ap, ◌∙◌, subst, true≢false}
use Rattle.std.proofs.Common.{arith}
use Rattle.std.specs.Prelude.{find, nat_lt, ◌==◌, option_map}
use Rattle.std.specs.Option.{option_map_or}
use Rattle.std.proofs.lemmas.Bool.{eqb-true, eq-eqb, ne_eqb, le-ltb}
use Rattle.std.proofs.lemmas.Option.{none-some}
use Rattle.std.proofs.lemmas.List.Concat.{flat_map-cons}
use Rattle.gate_types.specs.declared.records.Build.{Build}
use Rattle.gate_types.specs.declared.records.Change.{Change}
use Rattle.gate_types.specs.declared.records.Item.{Item as ItemRow}
use Rattle.gate_types.specs.declared.records.Plan.{Plan}
use Rattle.gate_types.specs.declared.records.Ready.{Ready}
use Rattle.gate_types.specs.declared.records.Stage.{Stage}
use Rattle.gate_types.specs.declared.rows.ChangeRow.{ChangeRow}
use Rattle.gate_types.specs.declared.edits.Edit.{Edit}
use Rattle.gate_types.specs.declared.edits.Edit.TheVariants as edit
use Rattle.gate_types.specs.declared.edits.Counter.TheVariants as counter
use Rattle.gate_types.specs.Names.{same_name}
use Rattle.gate_types.specs.Settings.{Settings, are_sound}
use Rattle.gate_types.specs.State.{Item, Queue, State, put_by, known_change, project_of}
use Rattle.gate_types.specs.Once.{Content}
use Rattle.gate_types.specs.Rows.{item_rows}
use Rattle.gate_types.specs.Admit.{may_enter, with_item, next_item, next_plan, entered}
use Rattle.gate_types.specs.Lawful.{IsSound}
use Rattle.gate_types.specs.Tables.{Tables, QueueRows, tables, queue_rows, change_row, approval_of, edited_queue}
use Rattle.gate_types.specs.Tables.{at_stage, change_known, edited_tables, fold_all}
use Rattle.gate_types.specs.Keys.{number_of_change, serial_of_item}
use Rattle.gate_types.specs.Rising.{In}
use Rattle.gate_types.proofs.NameLemmas.{same_name_is}
use Rattle.gate_book_trait.specs.Reads.{queue_named}
use Rattle.gate_laws.proofs.Members.{all, found, map_map, map_same}
use Rattle.gate_laws.proofs.Rising.{Rising, rising}
use Rattle.gate_laws.proofs.Counts.{times, times-append, distinct_to}
use Rattle.gate_laws.proofs.Alone.{changes_once, item_changes, name_alone, same_name_of}
use Rattle.gate_laws.proofs.Drawn.{item_drawn, build_drawn}
use Rattle.gate_laws.proofs.AdmitIsSound.{one_sound}
use Rattle.gate_reads.specs.Moves.{in_state}
use Rattle.gate_admission.specs.Led.{IsLed}
use Rattle.gate_admission.specs.Seen.{ready_without}
use Rattle.gate_admission.specs.Enters.{entering_row, entering_edits}
use Rattle.gate_admission.proofs.Rows.{find_dropped}
use Rattle.gate_admission.proofs.Standing.{row_drawn, queue_in}
use Rattle.gate_admission.proofs.EnteringRow.{CanBeEntered, enters_behind, others_stay}

-- ---- changes

-- the approvals of others stay
approval_without : (n m : ℕ) (rs : List Ready) →
    approval_of (ready_without n rs) m ≡ cond (n == m) None (approval_of rs m)
approval_without n m rs =
    ap (option_map (λ (r : Ready). r.approval)) (find_dropped (λ (r : Ready). r.change) m n rs) ∙ by_test (n == m)
  where
    by_test : (b : Bool) → option_map (λ (r : Ready). r.approval) (cond b None (find (λ r. r.change == m) rs)) ≡
        cond b None (approval_of rs m)
    by_test true = refl
    by_test false = refl

other_row : (n : ℕ) (rs : List Ready) (k : Change) → k.number ≢ n → change_row rs k ≡ change_row (ready_without n rs) k
other_row n rs k ne =
    ap (λ (a : Option ℕ). let row : ChangeRow = record { change = k; approval = a } in row)
    (sym (approval_without n k.number rs
    ∙ ap (λ b. cond b None (approval_of rs k.number)) (ne_eqb n k.number (λ e. ne (sym e)))))

other_rows : (n : ℕ) (rs : List Ready) (ks : List Change) → ((k : Change) → In k ks → k.number ≢ n) →
    map (change_row rs) ks ≡ map (change_row (ready_without n rs)) ks
other_rows n rs ks h = map_same (change_row rs) (change_row (ready_without n rs)) ks (λ k m. other_row n rs k (h k m))

same_change : (a b : Change) → Some a ≡ Some b → a ≡ b
same_change a b g = ap (λ (o : Option Change). option_map_or (λ x. x) o a) g

-- the row of a change that is no longer ready
changes_enter : (n : ℕ) (rs : List Ready) (k : Change) (ks : List Change) → Rising (λ (j : Change). j.number) ks →
    find (λ (j : Change). j.number == n) ks ≡ Some k →
    put_by number_of_change (record { change = k; approval = None }) (map (change_row rs) ks) ≡
    map (change_row (ready_without n rs)) ks
changes_enter n rs k [] up e = absurd (none-some k e)
changes_enter n rs k (j ∷ js) up e = by_test (j.number == n) refl e (changes_enter n rs k js up.1)
  where
    row : ChangeRow
    row = record { change = k; approval = None }

    by_test : (b : Bool) → j.number == n ≡ b → cond b (Some j) (find (λ (i : Change). i.number == n) js) ≡ Some k →
        (find (λ (i : Change). i.number == n) js ≡ Some k →
        put_by number_of_change row (map (change_row rs) js) ≡ map (change_row (ready_without n rs)) js) →
        put_by number_of_change row (change_row rs j ∷ map (change_row rs) js) ≡
        map (change_row (ready_without n rs)) (j ∷ js)
    by_test true t f later =
        let same : j ≡ k = same_change j k f in
        let number : j.number ≡ n = eqb-true j.number n t in
        let gone : row ≡ change_row (ready_without n rs) j =
        λ i. record {
          change = sym same i;
          approval = sym (approval_without n j.number rs
              ∙ ap (λ b. cond b None (approval_of rs j.number)) (eq-eqb n j.number (sym number))) i;
        } in
        let rest = other_rows n rs js (λ x m g. let higher = up.0 x m in omega (arith, higher, g, number)) in
        ap (λ b. cond b (row ∷ map (change_row rs) js)
        (cond (nat_lt k.number j.number) (row ∷ change_row rs j ∷ map (change_row rs) js)
        (change_row rs j ∷ put_by number_of_change row (map (change_row rs) js))))
        (eq-eqb k.number j.number (ap (λ (x : Change). x.number) (sym same)))
        ∙ (λ i. gone i ∷ rest i)
    by_test false t f later =
        let there = found (λ (i : Change). i.number == n) js k f in
        let higher : j.number < k.number = up.0 k there.0 in
        let other : j.number ≢ n = λ g. true≢false (sym (eq-eqb j.number n g) ∙ t) in
        (λ i. cond (ne_eqb k.number j.number (λ g. omega (arith, higher, g)) i) (row ∷ map (change_row rs) js)
        (cond (le-ltb k.number j.number (omega (arith, higher)) i) (row ∷ change_row rs j ∷ map (change_row rs) js)
        (change_row rs j ∷ put_by number_of_change row (map (change_row rs) js))))
        ∙ (λ i. other_row n rs j other i ∷ later f i)

-- where its stage is set
staged_row : (n : ℕ) (g : Stage) (rs : List Ready) (j : Change) → (j.number ≡ n → j.stage ≡ g) →
    cond (j.number == n) (at_stage g (change_row rs j)) (change_row rs j) ≡ change_row (ready_without n rs) j
staged_row n g rs j its = by_test (j.number == n) refl
  where
    by_test : (b : Bool) → j.number == n ≡ b →
        cond b (at_stage g (change_row rs j)) (change_row rs j) ≡ change_row (ready_without n rs) j
    by_test true t =
        let number : j.number ≡ n = eqb-true j.number n t in
        λ i. record {
          change = record j { stage = sym (its number) i };
          approval = sym (approval_without n j.number rs
              ∙ ap (λ b. cond b None (approval_of rs j.number)) (eq-eqb n j.number (sym number))) i;
        }
    by_test false t = other_row n rs j (λ e. true≢false (sym (eq-eqb j.number n e) ∙ t))

staged_rows : (n : ℕ) (g : Stage) (rs : List Ready) (ks : List Change) →
    ((j : Change) → In j ks → j.number ≡ n → j.stage ≡ g) →
    change_known n (at_stage g) (map (change_row rs) ks) ≡ map (change_row (ready_without n rs)) ks
staged_rows n g rs [] its = refl
staged_rows n g rs (j ∷ js) its =
    λ i. staged_row n g rs j (its j (inl refl)) i ∷ staged_rows n g rs js (λ y m e. its y (inr m) e) i

-- of two changes of one number there is one
only_one : (ks : List Change) (j k : Change) → Rising (λ (i : Change). i.number) ks → In j ks → In k ks →
    j.number ≡ k.number → j ≡ k
only_one [] j k up mj mk e = absurd mj
only_one (y ∷ ys) j k up mj mk e = ⊎_elim
    (λ (p : y ≡ j). ⊎_elim
    (λ (q : y ≡ k). sym p ∙ q)
    (λ (q : In k ys). let higher = up.0 k q in let at = ap (λ (i : Change). i.number) p in
    absurd (omega (arith, higher, at, e)))
    mk)
    (λ (p : In j ys). ⊎_elim
    (λ (q : y ≡ k). let higher = up.0 j p in let at = ap (λ (i : Change). i.number) q in
    absurd (omega (arith, higher, at, e)))
    (λ (q : In k ys). only_one ys j k up.1 p q e)
    mk)
    mj

stage_enters : (n : ℕ) (rs : List Ready) (k : Change) (ks : List Change) → Rising (λ (j : Change). j.number) ks →
    find (λ (j : Change). j.number == n) ks ≡ Some k →
    change_known k.number (at_stage k.stage) (map (change_row rs) ks) ≡ map (change_row (ready_without n rs)) ks
stage_enters n rs k ks up e =
    let there = found (λ (i : Change). i.number == n) ks k e in
    let number : k.number ≡ n = eqb-true k.number n there.1 in
    ap (λ m. change_known m (at_stage k.stage) (map (change_row rs) ks)) number
    ∙ staged_rows n k.stage rs ks
    (λ j m f. ap (λ (i : Change). i.stage) (only_one ks j k up m there.0 (f ∙ sym number)))

-- ---- queues

-- a row above all others is put last
put_last : (row : ItemRow) (rows : List ItemRow) → ((r : ItemRow) → In r rows → r.serial < row.serial) →
    put_by (λ (j : ItemRow). j.serial) row rows ≡ rows ++ row ∷ []
put_last row [] h = refl
put_last row (y ∷ ys) h =
    let low = h y (inl refl) in
    (λ i. cond (ne_eqb row.serial y.serial (λ g. omega (arith, low, g)) i) (row ∷ ys)
    (cond (le-ltb row.serial y.serial (omega (arith, low)) i) (row ∷ y ∷ ys)
    (y ∷ put_by (λ (j : ItemRow). j.serial) row ys)))
    ∙ ap (λ zs. y ∷ zs) (put_last row ys (λ r m. h r (inr m)))

times_part : (n : ℕ) (f : Queue → List ℕ) (qs : List Queue) (q : Queue) → In q qs →
    times n (f q) ≤ times n (flat_map f qs)
times_part n f [] q m = absurd m
times_part n f (p ∷ ps) q m =
    let sum = ap (times n) (flat_map-cons f p ps) ∙ times-append n (f p) (flat_map f ps) in
    ⊎_elim
    (λ (e : p ≡ q). let same = ap (λ (x : Queue). times n (f x)) e in omega (arith, sum, same))
    (λ (k : In q ps). let rest = times_part n f ps q k in omega (arith, sum, rest))
    m

-- the next serial is of no item
next_undrawn : (c : Settings) (s : State) (q : Queue) → IsSound c s → In q s.queues → (i : Item) → In i q.items →
    s.counters.order + 1 == i.serial ≡ false
next_undrawn c s q sound m i mi =
    let low = item_drawn c s sound q m i mi in
    ne_eqb (s.counters.order + 1) i.serial (λ e. omega (arith, low, e))

can_be_entered : (c : Settings) (s : State) (q : Queue) → IsSound c s → In q s.queues → CanBeEntered s q
can_be_entered c s q sound m = record {
  undrawn = next_undrawn c s q sound m;
  no_build = all (λ (b : Build). not (b.serial == s.counters.order + 1) ≡ true) s.builds
      (λ b k. let low = build_drawn c s sound b k in
      ap not (ne_eqb b.serial (s.counters.order + 1) (λ e. omega (arith, low, e))));
  differ = distinct_to (item_changes q)
      (λ n. let one = changes_once c s sound n in let part = times_part n item_changes s.queues q m in
      omega (arith, one, part));
}

-- what becomes of the rows of a queue
queue_enters : (c : Settings) (v : State) (r : Ready) (name : List ℕ) (q p : Queue) (row : ItemRow) →
    are_sound c ≡ true →
    IsSound c v → In q v.queues → same_name q.name name ≡ true → row ≡ entering_row v (item_rows c v q) r.change →
    In p v.queues → name ≡ (project_of c v r.change).queue →
    edited_queue (edit.PutItem name row) (queue_rows (item_rows c v p) p) ≡
    (let t = cond (same_name p.name (project_of c v r.change).queue) (with_item (next_item v r.change) p) p in
    queue_rows (item_rows c (entered c v r) t) t)
queue_enters c v r name q p row sound led there named row_is own name_is = by_name (same_name p.name name) refl
  where
    by_name : (b : Bool) → same_name p.name name ≡ b →
        edited_queue (edit.PutItem name row) (queue_rows (item_rows c v p) p) ≡
        (let t = cond (same_name p.name (project_of c v r.change).queue) (with_item (next_item v r.change) p) p in
        queue_rows (item_rows c (entered c v r) t) t)
    by_name true e =
        let same : p ≡ q = name_alone c v sound led p q own there
        (same_name_of p.name q.name (same_name_is p.name name e ∙ sym (same_name_is q.name name named))) in
        let at : same_name name p.name ≡ true = same_name_of name p.name (sym (same_name_is p.name name e)) in
        let mine : row ≡ entering_row v (item_rows c v p) r.change =
        row_is ∙ ap (λ (x : Queue). entering_row v (item_rows c v x) r.change) (sym same) in
        let last : put_by (λ (j : ItemRow). j.serial) row (item_rows c v p) ≡
        item_rows c (entered c v r) (with_item (next_item v r.change) p) =
        put_last row (item_rows c v p) (λ x m. let low = row_drawn c v p x led own m in
        let high = ap serial_of_item mine in omega (arith, low, high))
        ∙ ap (λ (x : ItemRow). item_rows c v p ++ x ∷ []) mine
        ∙ sym (enters_behind c v p r (can_be_entered c v p led own)) in
        ap (λ rows. queue_rows rows p) (ap (λ b. cond b (put_by (λ (j : ItemRow). j.serial) row (item_rows c v p))
        (item_rows c v p)) at ∙ last)
        ∙ ap (λ b. let t = cond b (with_item (next_item v r.change) p) p in
        queue_rows (item_rows c (entered c v r) t) t)
        (sym (ap (same_name p.name) (sym name_is) ∙ e))
    by_name false e =
        let at : same_name name p.name ≡ false = not_turned (same_name name p.name) refl in
        ap (λ rows. queue_rows rows p) (ap (λ b. cond b (put_by (λ (j : ItemRow). j.serial) row (item_rows c v p))
        (item_rows c v p)) at ∙ sym (others_stay c v p r (next_undrawn c v p led own)))
        ∙ ap (λ b. let t = cond b (with_item (next_item v r.change) p) p in
        queue_rows (item_rows c (entered c v r) t) t)
        (sym (ap (same_name p.name) (sym name_is) ∙ e))
      where
        not_turned : (b : Bool) → same_name name p.name ≡ b → b ≡ false
        not_turned true f = absurd (true≢false (sym (same_name_of p.name name (sym (same_name_is name p.name f))) ∙ e))
        not_turned false f = refl

-- ---- all tables

fold_append : (t : Tables) (a b : List Edit) → fold_all t (a ++ b) ≡ fold_all (fold_all t a) b
fold_append t [] b = refl
fold_append t (e ∷ es) b = fold_append (edited_tables t e) es b

pub entering_leads : (c : Settings) (x : Content) (edits : List Edit) (v : State) (r : Ready) (k : Change)
    (name : List ℕ) (is_put : Bool)
    (q : Queue) (row : ItemRow) (plan : Plan) → are_sound c ≡ true → IsLed c x edits v →
    find (may_enter c v) v.ready ≡ Some r →
    known_change v r.change ≡ Some k → name ≡ (project_of c v r.change).queue → queue_named v name ≡ Some q →
    row ≡ entering_row v (item_rows c v q) r.change → plan ≡ next_plan c v r.change →
    IsLed c x (edits ++ entering_edits name is_put k row plan) (entered c v r)
entering_leads c x edits v r k name is_put q row plan sound led first known name_is named row_is plan_is = record {
  sound = subst (IsSound c) (ap (λ (o : Option Ready). option_map_or (entered c v) o v) first)
      (one_sound c v sound led.sound);
  leads = fold_append (tables c x) edits (entering_edits name is_put k row plan)
      ∙ ap (λ (t : Tables). fold_all t (entering_edits name is_put k row plan)) led.leads ∙ by_put is_put;
}
  where
    serial : row.serial ≡ v.counters.order + 1
    serial = ap serial_of_item row_is

    there : In q v.queues
    there = queue_in v name q named

    rows : Queue → QueueRows
    rows p = queue_rows (item_rows c v p) p

    rises : Rising (λ (j : Change). j.number) v.changes
    rises = rising (λ (j : Change). j.number) v.changes led.sound.changes_rise

    next : Queue → Queue
    next p = cond (same_name p.name (project_of c v r.change).queue) (with_item (next_item v r.change) p) p

    after : Queue → QueueRows
    after p = queue_rows (item_rows c (entered c v r) p) p

    queues : map (edited_queue (edit.SetCounter counter.Order row.serial))
        (map (edited_queue (edit.PutChange k None)) (map (edited_queue (edit.PutPlan plan))
        (map (edited_queue (edit.PutItem name row)) (map rows v.queues))))
        ≡ map after (map next v.queues)
    queues =
        map_map (edited_queue (edit.SetCounter counter.Order row.serial)) (edited_queue (edit.PutChange k None))
        (map (edited_queue (edit.PutPlan plan)) (map (edited_queue (edit.PutItem name row)) (map rows v.queues)))
        ∙ map_map (λ (p : QueueRows). p) (edited_queue (edit.PutPlan plan))
        (map (edited_queue (edit.PutItem name row)) (map rows v.queues))
        ∙ map_map (λ (p : QueueRows). p) (edited_queue (edit.PutItem name row)) (map rows v.queues)
        ∙ map_map (edited_queue (edit.PutItem name row)) rows v.queues
        ∙ map_same (λ p. edited_queue (edit.PutItem name row) (rows p)) (λ p. after (next p)) v.queues
        (λ p m. queue_enters c v r name q p row sound led.sound there
        (found (λ (y : Queue). same_name y.name name) v.queues q named).1 row_is m name_is)
        ∙ sym (map_map after next v.queues)

    -- either way the change is ready no longer
    by_put : (b : Bool) →
        fold_all (tables c (in_state x v)) (entering_edits name b k row plan) ≡ tables c (in_state x (entered c v r))
    by_put true = λ i. record {
      changes = changes_enter r.change v.ready k v.changes rises known i;
      queues = queues i;
      plans = put_by (λ (p : Plan). p.serial) (plan_is i) v.plans;
      builds = v.builds;
      counters = record v.counters { order = serial i };
      kept = x.kept;
    }
    by_put false = λ i. record {
      changes = stage_enters r.change v.ready k v.changes rises known i;
      queues = queues i;
      plans = put_by (λ (p : Plan). p.serial) (plan_is i) v.plans;
      builds = v.builds;
      counters = record v.counters { order = serial i };
      kept = x.kept;
    }
