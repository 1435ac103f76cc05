-- Whoever may enter behind a delivery may by its edits, since before it nobody might.
use Rattle.std.proofs.Common.{◌≡◌, ◌⊎◌, ℕ, suc, ◌+◌, ◌≤◌, Bool, true, false, not, ◌&&◌, ◌||◌, cond, Option, Some}
use Rattle.std.proofs.Common.{None, is_some, List, [], ◌∷◌, map, fold, filter, length, refl, sym, ap, ◌∙◌, subst, inl}
use Rattle.std.proofs.Common.{inr, ⊎_elim, arith, true≢false, length-append}
use Rattle.std.specs.Prelude.{◌==◌, nat_lt, nat_le, if◌then◌else◌, find, filter_map, option_map, unwrap_or}
use Rattle.std.specs.List.{list_any}
use Rattle.std.specs.Option.{option_map_or}
use Rattle.std.proofs.lemmas.Bool.{and_parts, and_from, or_parts, not-true, eqb-true, eq-eqb}
use Rattle.std.proofs.lemmas.List.{length-map, map-id}
use Rattle.gate_types.specs.declared.records.Change.{Change}
use Rattle.gate_types.specs.declared.records.Ready.{Ready}
use Rattle.gate_types.specs.declared.records.Stage.{Stage}
use Rattle.gate_types.specs.declared.records.Stage.TheVariants as stage
use Rattle.gate_types.specs.declared.records.Verdict.{Verdict}
use Rattle.gate_types.specs.declared.records.Verdict.TheVariants as verdict
use Rattle.gate_types.specs.declared.rows.ReportRow.{ReportRow}
use Rattle.gate_types.specs.declared.edits.Edit.{Edit}
use Rattle.gate_types.specs.declared.edits.Edit.TheVariants as edit
use Rattle.gate_types.specs.declared.deliveries.Delivery.{Delivery}
use Rattle.gate_types.specs.declared.deliveries.Delivery.TheVariants as delivery
use Rattle.gate_types.specs.declared.deliveries.Reply.{Reply}
use Rattle.gate_types.specs.Names.{same_name}
use Rattle.gate_types.specs.Settings.{Settings, are_distinct}
use Rattle.gate_types.specs.State.{Item, Queue, State, put_by, has_change, change_of, known_change, project_of}
use Rattle.gate_types.specs.State.{is_landed}
use Rattle.gate_types.specs.Slot.{are_met_by}
use Rattle.gate_types.specs.Standing.{needs_of}
use Rattle.gate_types.specs.Window.{bounds_of}
use Rattle.gate_types.specs.Rebase.{rebase}
use Rattle.gate_types.specs.Sweep.{Judged, judged, report_of, swept_queue, report_on}
use Rattle.gate_types.specs.Admit.{may_enter}
use Rattle.gate_types.specs.SubmitOrder.{Order}
use Rattle.gate_types.specs.Step.{left_queue, landed_queue, shrunk_queue, raw_step, raw_revision, raw_approved}
use Rattle.gate_types.specs.Step.{raw_withdrawn, raw_closed, raw_landed, raw_refused, raw_take, raw_result, accepted}
use Rattle.gate_types.specs.Rows.{item_rows, edited_reports}
use Rattle.gate_types.specs.Once.{Content}
use Rattle.gate_types.specs.Lawful.{IsSound}
use Rattle.gate_types.specs.Forms.{IsLawfulContent}
use Rattle.gate_types.specs.Tables.{Tables, QueueRows, tables, queue_rows, edited_queue, edited_tables, fold_all}
use Rattle.gate_types.proofs.NameLemmas.{same_name_is}
use Rattle.gate_laws.specs.Rest.{IsAtRest}
use Rattle.gate_laws.proofs.Adopting.{found_named}
use Rattle.gate_laws.proofs.Alone.{same_name_of}
use Rattle.gate_laws.proofs.EachAccepted.{on_accepted, each_revision, each_approved, each_withdrawn, each_closed}
use Rattle.gate_laws.proofs.EachAccepted.{each_landed, each_refused, each_take, each_result}
use Rattle.gate_laws.proofs.IdleSweep.{judged_items}
use Rattle.gate_laws.proofs.Members.{every, from_map, any_from, any_to, none_from, from_filter, map_map}
use Rattle.gate_laws.proofs.Members.{contains_in}
use Rattle.gate_reads.specs.Moves.{swept}
use Rattle.gate_admission.specs.Led.{IsLed}
use Rattle.gate_admission.specs.Seen.{change_put, staged}
use Rattle.gate_admission.specs.Candidates.{is_landing, needs_it, puts_or_sets, is_full, makes_room, lets_in, EntersByEdits}
use Rattle.gate_admission.proofs.Led.{put_led}
use Rattle.gate_admission.proofs.LetIn.{are_putting, was_ready, change_stays}
use Rattle.gate_settling.proofs.ListLemmas.{each_same}
use Rattle.gate_book_trait.proofs.ReadLemmas.{length_reports}
use Rattle.gate_types.specs.Limits.{most_items}
use Rattle.gate_types.specs.Rising.{In}
use Rattle.gate_types.proofs.PlainLemmas.{or_true}

-- ---- a queue that items may have left

-- what a queue has become: none came, and with each that left there is a report more
record IsLess (q p : Queue) : Type 0 where
  name : p.name ≡ q.name
  fewer : (m : ℕ) → has_change p.items m ≡ true → has_change q.items m ≡ true
  told : length q.reports ≤ length p.reports
  stay : length p.reports ≤ length q.reports → p.items ≡ q.items

same_queue : (q p : Queue) → p.name ≡ q.name → p.items ≡ q.items → p.reports ≡ q.reports → IsLess q p
same_queue q p name items reports = record {
  name = name;
  fewer = λ m h. ap (λ (is : List Item). has_change is m) (sym items) ∙ h;
  told = let many = ap length reports in omega (arith, many);
  stay = λ few. items;
}

less_then : (q p r : Queue) → IsLess q p → IsLess p r → IsLess q r
less_then q p r one two = record {
  name = two.name ∙ one.name;
  fewer = λ m h. one.fewer m (two.fewer m h);
  told = let a = one.told in let b = two.told in omega (arith, a, b);
  stay = λ few. let a = one.told in let b = two.told in
      two.stay (omega (arith, a, b, few)) ∙ one.stay (omega (arith, a, b, few));
}

any_filter : {X : Type 0} (p t : X → Bool) (xs : List X) → list_any p (filter t xs) ≡ true → list_any p xs ≡ true
any_filter p t xs h =
    let one = any_from p (filter t xs) h in any_to p xs one.0 (from_filter t xs one.0 one.1).0 one.2

-- where nobody goes all stay
none_out : {X : Type 0} (t : X → Bool) (xs : List X) → length (filter t xs) ≤ 0 → filter (λ x. not (t x)) xs ≡ xs
none_out t [] h = refl
none_out {X = X} t (x ∷ xs) h = by_test (t x) (none_out t xs) h
  where
    by_test : (b : Bool) → (length (filter t xs) ≤ 0 → filter (λ y. not (t y)) xs ≡ xs) →
        length (cond b (x ∷ filter t xs) (filter t xs)) ≤ 0 →
        cond (not b) (x ∷ filter (λ y. not (t y)) xs) (filter (λ y. not (t y)) xs) ≡ x ∷ xs
    by_test true rest l = absurd (omega (arith, l))
    by_test false rest l = ap (λ ys. x ∷ ys) (rest l)

-- the item of a change leaves
left_less : (v : Verdict) (n : ℕ) (q : Queue) → IsLess q (left_queue v n q)
left_less v n q =
    let leaving : List Item = filter (λ i. i.change == n) q.items in
    let many = length-append q.reports (map (report_of v) leaving) in
    let each = length-map leaving (report_of v) in
    record {
      name = refl;
      fewer = λ m h. any_filter (λ (i : Item). i.change == m) (λ i. not (i.change == n)) q.items h;
      told = omega (arith, many);
      stay = λ few. none_out (λ (i : Item). i.change == n) q.items (omega (arith, many, each, few));
    }

-- the judged that go are those reported
reports_count : (js : List Judged) → length (filter_map report_on js) ≡ length (filter (λ j. is_some j.verdict) js)
reports_count [] = refl
reports_count (j ∷ js) = by_verdict j.verdict (reports_count js)
  where
    by_verdict : (v : Option Verdict) →
        length (filter_map report_on js) ≡ length (filter (λ (k : Judged). is_some k.verdict) js) →
        length (filter_map report_on (record { item = j.item; verdict = v } ∷ js)) ≡
        length (cond (is_some v) (j ∷ filter (λ (k : Judged). is_some k.verdict) js)
        (filter (λ (k : Judged). is_some k.verdict) js))
    by_verdict None h = h
    by_verdict (Some w) h = ap suc h

any_judged : (m : ℕ) (js : List Judged) → has_change (map (λ j. j.item) (filter (λ j. not (is_some j.verdict)) js)) m ≡
    true → has_change (map (λ j. j.item) js) m ≡ true
any_judged m [] h = absurd (true≢false (sym h))
any_judged m (j ∷ js) h = by_test (not (is_some j.verdict)) h (any_judged m js)
  where
    either : (a b d : Bool) → (b ≡ true → d ≡ true) → (a || b) ≡ true → (a || d) ≡ true
    either true b d f e = refl
    either false b d f e = f e

    later : (a d : Bool) → d ≡ true → (a || d) ≡ true
    later true d e = refl
    later false d e = e

    by_test : (b : Bool) →
        has_change (map (λ (k : Judged). k.item)
        (cond b (j ∷ filter (λ (k : Judged). not (is_some k.verdict)) js)
        (filter (λ (k : Judged). not (is_some k.verdict)) js))) m ≡ true →
        (has_change (map (λ (k : Judged). k.item) (filter (λ (k : Judged). not (is_some k.verdict)) js)) m ≡ true →
        has_change (map (λ (k : Judged). k.item) js) m ≡ true) →
        (j.item.change == m || has_change (map (λ (k : Judged). k.item) js) m) ≡ true
    by_test true g rest =
        either (j.item.change == m) (has_change (map (λ (k : Judged). k.item)
        (filter (λ (k : Judged). not (is_some k.verdict)) js)) m) (has_change (map (λ (k : Judged). k.item) js) m) rest g
    by_test false g rest =
        later (j.item.change == m) (has_change (map (λ (k : Judged). k.item) js) m) (rest g)

-- a sweep
swept_less : (c : Settings) (u : State) (q : Queue) → IsLess q (swept_queue (bounds_of c q) (judged c u q) q)
swept_less c u q =
    let js = judged c u q in
    let are = judged_items c u q u.builds [] [] q.items in
    let many = length-append q.reports (filter_map report_on js) in
    let count = reports_count js in
    record {
      name = refl;
      fewer = λ m h. ap (λ (is : List Item). has_change is m) (sym are) ∙ any_judged m js h;
      told = omega (arith, many);
      stay = λ few. ap (map (λ (j : Judged). j.item))
          (none_out (λ (j : Judged). is_some j.verdict) js (omega (arith, many, count, few))) ∙ are;
    }

-- ---- what a delivery leaves

-- each queue of a state has become one that items may have left
record LeavesLess (s t : State) : Type 0 where
  become : Queue → Queue
  queues : t.queues ≡ map become s.queues
  each : (q : Queue) → IsLess q (become q)

unmoved : (s t : State) → t.queues ≡ s.queues → LeavesLess s t
unmoved s t same = record {
  become = λ q. q;
  queues = same ∙ sym (map-id s.queues);
  each = λ q. same_queue q q refl refl refl;
}

gone : (v : Verdict) (n : ℕ) (s t : State) → t.queues ≡ map (left_queue v n) s.queues → LeavesLess s t
gone v n s t same = record { become = left_queue v n; queues = same; each = left_less v n }

-- an item goes, and its queue changes otherwise
gone_and : (v : Verdict) (n : ℕ) (name : List ℕ) (f : Queue → Queue) → ((q : Queue) → IsLess q (f q)) → (s t : State) →
    t.queues ≡ map (λ q. if same_name q.name name then f q else q) (map (left_queue v n) s.queues) → LeavesLess s t
gone_and v n name f less s t same = record {
  become = λ q. if same_name (left_queue v n q).name name then f (left_queue v n q) else left_queue v n q;
  queues = same ∙ map_map (λ q. if same_name q.name name then f q else q) (left_queue v n) s.queues;
  each = λ q. less_then q (left_queue v n q) _ (left_less v n q)
      (by_name (left_queue v n q) (same_name (left_queue v n q).name name));
}
  where
    by_name : (q : Queue) (b : Bool) → IsLess q (if b then f q else q)
    by_name q true = less q
    by_name q false = same_queue q q refl refl refl

leaves_less : (c : Settings) (s : State) (d : Delivery) (r : Reply) (t : State) → raw_step c s d ≡ accepted r t →
    LeavesLess s t
leaves_less c s (delivery.Revision n name k message) r t e =
    on_accepted (LeavesLess s) (raw_revision c s n name k message)
    (each_revision (LeavesLess s) c s n name k message (unmoved s s refl)
    (λ _ _ _. gone verdict.Superseded n s _ refl)) r t e
leaves_less c s (delivery.Approved n k) r t e =
    on_accepted (LeavesLess s) (raw_approved c s n k)
    (each_approved (LeavesLess s) c s n k (unmoved s s refl) (λ _ _ _. unmoved s _ refl)) r t e
leaves_less c s (delivery.Withdrawn n k) r t e =
    on_accepted (LeavesLess s) (raw_withdrawn c s n k)
    (each_withdrawn (LeavesLess s) c s n k (unmoved s s refl) (λ _. gone verdict.Withdrawn n s _ refl)
    (unmoved s _ refl)) r t e
leaves_less c s (delivery.Closed n k) r t e =
    on_accepted (LeavesLess s) (raw_closed c s n k)
    (each_closed (LeavesLess s) c s n k (unmoved s s refl) (λ _ _ _ _. gone verdict.Closed n s _ refl)) r t e
leaves_less c s (delivery.Landed n) r t e =
    on_accepted (LeavesLess s) (raw_landed c s n) (each_landed (LeavesLess s) c s n
    (λ (o : Order) _. gone_and (verdict.Landed (length o.queue.landings + 1)) o.item.change o.queue.name
    (landed_queue c o.item) (λ q. same_queue q (landed_queue c o.item q) refl refl refl) s _ refl)) r t e
leaves_less c s (delivery.Refused n) r t e =
    on_accepted (LeavesLess s) (raw_refused c s n) (each_refused (LeavesLess s) c s n
    (λ (o : Order) _. gone_and verdict.Refused o.item.change o.queue.name (shrunk_queue c)
    (λ q. same_queue q (shrunk_queue c q) refl refl refl) s _ refl)) r t e
leaves_less c s (delivery.Take worker) r t e =
    on_accepted (LeavesLess s) (raw_take c s) (each_take (LeavesLess s) c s (λ b _. unmoved s _ refl)) r t e
leaves_less c s (delivery.Result n end) r t e =
    on_accepted (LeavesLess s) (raw_result s n end)
    (each_result (LeavesLess s) s n end (unmoved s s refl) (λ a _ _. unmoved s _ refl)) r t e

-- and what the sweep leaves of that
swept_leaves : (c : Settings) (s t : State) → LeavesLess s t → LeavesLess s (swept c t)
swept_leaves c s t less =
    let u = rebase c t in
    let sweeps : Queue → Queue = λ q. swept_queue (bounds_of c q) (judged c u q) q in
    record {
      become = λ q. sweeps (less.become q);
      queues = ap (map sweeps) less.queues ∙ map_map sweeps less.become s.queues;
      each = λ q. less_then q (less.become q) (sweeps (less.become q)) (less.each q) (swept_less c u (less.become q));
    }

-- ---- what the edits tell of it

-- the edit puts a report of the queue of a name
abbrev reports_of : List ℕ → Edit → Bool
reports_of name (edit.PutReport queue place report) = same_name queue name
reports_of name _ = false

same_reports : (name : List ℕ) (rows : List ReportRow) (e : Edit) → reports_of name e ≡ false →
    edited_reports name rows e ≡ rows
same_reports name rows (edit.PutReport q n r) h =
    ap (λ b. cond b (put_by (λ (x : ReportRow). x.place) (record { place = n; report = r }) rows) rows) h
same_reports name rows (edit.PutItem q i) h = refl
same_reports name rows (edit.DropItem n) h = refl
same_reports name rows (edit.LandItem n) h = refl
same_reports name rows (edit.PutChange k a) h = refl
same_reports name rows (edit.SetStage n g) h = refl
same_reports name rows (edit.PutPlan k) h = refl
same_reports name rows (edit.PutLanding q p l) h = refl
same_reports name rows (edit.PutBuild b) h = refl
same_reports name rows (edit.SetOutcome b o) h = refl
same_reports name rows (edit.StopBuild b) h = refl
same_reports name rows (edit.SetWindow q w) h = refl
same_reports name rows (edit.SetCounter k n) h = refl
same_reports name rows (edit.Keep k) h = refl

-- the rows of a queue after edits
abbrev rows_after : List Edit → QueueRows → QueueRows
rows_after edits q = fold (λ rows e. edited_queue e rows) q edits

queues_after : (t : Tables) (edits : List Edit) → (fold_all t edits).queues ≡ map (rows_after edits) t.queues
queues_after t [] = sym (map-id t.queues)
queues_after t (e ∷ es) =
    queues_after (edited_tables t e) es ∙ map_map (rows_after es) (edited_queue e) t.queues

reports_after : (edits : List Edit) (q : QueueRows) → list_any (reports_of q.name) edits ≡ false →
    (rows_after edits q).reports ≡ q.reports
reports_after [] q h = refl
reports_after (e ∷ es) q h =
    let both = or_parts (reports_of q.name e) (list_any (reports_of q.name) es) h in
    reports_after es (edited_queue e q) both.1 ∙ same_reports q.name q.reports e both.0

-- whether what is known of a change has landed
abbrev has_landed : Option Change → Bool
has_landed o = option_map_or is_landed o false

-- an edit puts the change of a number as landed, or sets it so
abbrev lands : ℕ → Edit → Bool
lands m (edit.PutChange k a) = k.number == m && is_landed k
lands m (edit.SetStage n g) = n == m && is_landing g
lands m _ = false

landed_stage : (g : Stage) (o : Option Change) → has_landed (option_map (staged g) o) ≡ true → is_landing g ≡ true
landed_stage g None h = absurd (true≢false (sym h))
landed_stage stage.Landed (Some k) h = refl
landed_stage stage.Open (Some k) h = absurd (true≢false (sym h))
landed_stage stage.Closed (Some k) h = absurd (true≢false (sym h))

-- what has landed behind an edit had landed, or the edit lands it
landed_by : (m : ℕ) (o : Option Change) (d : Edit) → has_landed (change_put m o d) ≡ true →
    (has_landed o ≡ true) ⊎ (lands m d ≡ true)
landed_by m o (edit.PutChange j a) h = by_test (j.number == m) h
  where
    by_test : (b : Bool) → has_landed (cond b (Some j) o) ≡ true → (has_landed o ≡ true) ⊎ ((b && is_landed j) ≡ true)
    by_test true g = inr g
    by_test false g = inl g
landed_by m o (edit.SetStage n g) h = by_test (n == m) h
  where
    by_test : (b : Bool) → has_landed (cond b (option_map (staged g) o) o) ≡ true →
        (has_landed o ≡ true) ⊎ ((b && is_landing g) ≡ true)
    by_test true f = inr (landed_stage g o f)
    by_test false f = inl f
landed_by m o (edit.PutItem q i) h = inl h
landed_by m o (edit.DropItem n) h = inl h
landed_by m o (edit.LandItem n) h = inl h
landed_by m o (edit.PutPlan p) h = inl h
landed_by m o (edit.PutLanding q n l) h = inl h
landed_by m o (edit.PutReport q n p) h = inl h
landed_by m o (edit.PutBuild b) h = inl h
landed_by m o (edit.SetOutcome b p) h = inl h
landed_by m o (edit.StopBuild b) h = inl h
landed_by m o (edit.SetWindow q w) h = inl h
landed_by m o (edit.SetCounter c n) h = inl h
landed_by m o (edit.Keep c) h = inl h

-- a change that has landed had landed, or an edit lands it
landed_by_edit : (m : ℕ) (o : Option Change) (edits : List Edit) → has_landed (fold (change_put m) o edits) ≡ true →
    (has_landed o ≡ true) ⊎ ((e : Edit) × In e edits × (lands m e ≡ true))
landed_by_edit m o [] h = inl h
landed_by_edit m o (d ∷ ds) h = ⊎_elim
    (λ (f : has_landed (change_put m o d) ≡ true). ⊎_elim
    (λ (p : has_landed o ≡ true). inl p)
    (λ (p : lands m d ≡ true). inr (d, inl refl, p))
    (landed_by m o d f))
    (λ (f : (e : Edit) × In e ds × (lands m e ≡ true)). inr (f.0, inr f.1, f.2))
    (landed_by_edit m (change_put m o d) ds h)

-- whom an edit puts it lets in
put_lets_in : (v : State) (r : Ready) (e : Edit) → puts_or_sets r.change e ≡ true → lets_in v r e ≡ true
put_lets_in v r (edit.PutChange k a) h = ap (λ b. b || is_landed k && needs_it v k.number r) h
put_lets_in v r (edit.SetStage n g) h = ap (λ b. b || is_landing g && needs_it v n r) h
put_lets_in v r (edit.PutItem q i) h = absurd (true≢false (sym h))
put_lets_in v r (edit.DropItem n) h = absurd (true≢false (sym h))
put_lets_in v r (edit.LandItem n) h = absurd (true≢false (sym h))
put_lets_in v r (edit.PutPlan p) h = absurd (true≢false (sym h))
put_lets_in v r (edit.PutLanding q n l) h = absurd (true≢false (sym h))
put_lets_in v r (edit.PutReport q n p) h = absurd (true≢false (sym h))
put_lets_in v r (edit.PutBuild b) h = absurd (true≢false (sym h))
put_lets_in v r (edit.SetOutcome b o) h = absurd (true≢false (sym h))
put_lets_in v r (edit.StopBuild b) h = absurd (true≢false (sym h))
put_lets_in v r (edit.SetWindow q w) h = absurd (true≢false (sym h))
put_lets_in v r (edit.SetCounter k n) h = absurd (true≢false (sym h))
put_lets_in v r (edit.Keep k) h = absurd (true≢false (sym h))

-- where no edit makes room a queue of which one is reported wasn't full
not_full : (s : State) (name : List ℕ) (e : Edit) → makes_room s e ≡ false → reports_of name e ≡ true →
    is_full s name ≡ false
not_full s name (edit.PutReport q n p) none h =
    ap (is_full s) (sym (same_name_is q name h)) ∙ none
not_full s name (edit.PutChange k a) none h = absurd (true≢false (sym h))
not_full s name (edit.SetStage n g) none h = absurd (true≢false (sym h))
not_full s name (edit.PutItem q i) none h = absurd (true≢false (sym h))
not_full s name (edit.DropItem n) none h = absurd (true≢false (sym h))
not_full s name (edit.LandItem n) none h = absurd (true≢false (sym h))
not_full s name (edit.PutPlan p) none h = absurd (true≢false (sym h))
not_full s name (edit.PutLanding q n l) none h = absurd (true≢false (sym h))
not_full s name (edit.PutBuild b) none h = absurd (true≢false (sym h))
not_full s name (edit.SetOutcome b o) none h = absurd (true≢false (sym h))
not_full s name (edit.StopBuild b) none h = absurd (true≢false (sym h))
not_full s name (edit.SetWindow q w) none h = absurd (true≢false (sym h))
not_full s name (edit.SetCounter k n) none h = absurd (true≢false (sym h))
not_full s name (edit.Keep k) none h = absurd (true≢false (sym h))

-- the same of the closed change that stands for an unknown one
landed_of : (m : ℕ) (o : Option Change) → has_landed o ≡
    is_landed (unwrap_or o (record { number = m; project = []; revision = 0; stage = stage.Closed; needs = [] }))
landed_of m None = refl
landed_of m (Some k) = refl

not_thousand : (n : ℕ) → nat_le most_items n ≡ false → nat_lt n most_items ≡ true
not_thousand n h = grind (arith, h)

-- ---- nobody else may enter

-- whether a ready change may enter a queue
abbrev fits : Settings → State → Ready → Queue → Bool
fits c s r q = same_name q.name (project_of c s r.change).queue && nat_lt (length q.items) most_items &&
    are_met_by q.items (needs_of s r.change)

three : (a b d : Bool) → a && b && d ≡ true → (a ≡ true) × (b ≡ true) × (d ≡ true)
three true true true h = (refl, refl, refl)
three true true false h = absurd (true≢false (sym h))
three true false d h = absurd (true≢false (sym h))
three false b d h = absurd (true≢false (sym h))

module _ (c : Settings) (x : Content) (edits : List Edit) (v : State) (sound : IsSound c x.state)
    (names : are_distinct (map (λ (q : Queue). q.name) x.state.queues) ≡ true) (led : IsLed c x edits v)
    (less : LeavesLess x.state v) (y : Ready)
    (none : list_any (λ e. makes_room x.state e || lets_in v y e) edits ≡ false) where
  -- no edit makes room, or lets this one in
  neither : (e : Edit) → In e edits → (makes_room x.state e ≡ false) × (lets_in v y e ≡ false)
  neither e m = or_parts (makes_room x.state e) (lets_in v y e)
      (none_from (λ d. makes_room x.state d || lets_in v y d) edits none e m)

  -- it wasn't put
  not_put : are_putting y.change edits ≡ false
  not_put = by_test (are_putting y.change edits) refl
    where
      by_test : (b : Bool) → are_putting y.change edits ≡ b → b ≡ false
      by_test false e = refl
      by_test true e =
          let one = any_from (puts_or_sets y.change) edits e in
          absurd (true≢false (sym (put_lets_in v y one.0 one.2) ∙ (neither one.0 one.1).1))

  same_change : change_of v y.change ≡ change_of x.state y.change
  same_change = change_stays c x edits v sound led y not_put

  -- an edit that lands a need lets this one in
  land_lets_in : (m : ℕ) (e : Edit) → list_any (λ n. n == m) (change_of v y.change).needs ≡ true → lands m e ≡ true →
      lets_in v y e ≡ true
  land_lets_in m (edit.PutChange k a) needs h =
      let both = and_parts (k.number == m) (is_landed k) h in
      ap (λ b. k.number == y.change || b) (and_from (is_landed k) (needs_it v k.number y) both.1
      (ap (λ n. list_any (λ j. j == n) (change_of v y.change).needs) (eqb-true k.number m both.0) ∙ needs))
      ∙ or_true (k.number == y.change)
  land_lets_in m (edit.SetStage n g) needs h =
      let both = and_parts (n == m) (is_landing g) h in
      ap (λ b. n == y.change || b) (and_from (is_landing g) (needs_it v n y) both.1
      (ap (λ z. list_any (λ j. j == z) (change_of v y.change).needs) (eqb-true n m both.0) ∙ needs))
      ∙ or_true (n == y.change)
  land_lets_in m (edit.PutItem q i) needs h = absurd (true≢false (sym h))
  land_lets_in m (edit.DropItem n) needs h = absurd (true≢false (sym h))
  land_lets_in m (edit.LandItem n) needs h = absurd (true≢false (sym h))
  land_lets_in m (edit.PutPlan p) needs h = absurd (true≢false (sym h))
  land_lets_in m (edit.PutLanding q n l) needs h = absurd (true≢false (sym h))
  land_lets_in m (edit.PutReport q n p) needs h = absurd (true≢false (sym h))
  land_lets_in m (edit.PutBuild b) needs h = absurd (true≢false (sym h))
  land_lets_in m (edit.SetOutcome b o) needs h = absurd (true≢false (sym h))
  land_lets_in m (edit.StopBuild b) needs h = absurd (true≢false (sym h))
  land_lets_in m (edit.SetWindow q w) needs h = absurd (true≢false (sym h))
  land_lets_in m (edit.SetCounter k n) needs h = absurd (true≢false (sym h))
  land_lets_in m (edit.Keep k) needs h = absurd (true≢false (sym h))

  -- a need that has landed had
  had_landed : (m : ℕ) → list_any (λ n. n == m) (change_of v y.change).needs ≡ true →
      is_landed (change_of v m) ≡ true → is_landed (change_of x.state m) ≡ true
  had_landed m needs h = ⊎_elim
      (λ (f : has_landed (known_change x.state m) ≡ true). sym (landed_of m (known_change x.state m)) ∙ f)
      (λ (f : (e : Edit) × In e edits × (lands m e ≡ true)).
      absurd (true≢false (sym (land_lets_in m f.0 needs f.2) ∙ (neither f.0 f.1).1)))
      (landed_by_edit m (known_change x.state m) edits
      (ap has_landed (put_led c x edits v m led) ∙ landed_of m (known_change v m) ∙ h))

  -- needs that are met by what has become of a queue were met by it
  were_met : (q p : Queue) → IsLess q p → are_met_by p.items (needs_of v y.change) ≡ true →
      are_met_by q.items (needs_of x.state y.change) ≡ true
  were_met q p l h =
      ap (λ (k : Change). are_met_by q.items (map (λ m. record { change = m; landed = is_landed (change_of x.state m) })
      k.needs)) (sym same_change)
      ∙ along (change_of v y.change).needs (λ m n. n) h
    where
      one : (a a2 b b2 : Bool) → (a ≡ true → a2 ≡ true) → (b ≡ true → b2 ≡ true) → (a || b) ≡ true → (a2 || b2) ≡ true
      one true a2 b b2 f g h = ap (λ z. z || b2) (f refl)
      one false true b b2 f g h = refl
      one false false b b2 f g h = g h

      along : (ns : List ℕ) → ((m : ℕ) → list_any (λ n. n == m) ns ≡ true →
          list_any (λ n. n == m) (change_of v y.change).needs ≡ true) →
          are_met_by p.items (map (λ m. record { change = m; landed = is_landed (change_of v m) }) ns) ≡ true →
          are_met_by q.items (map (λ m. record { change = m; landed = is_landed (change_of x.state m) }) ns) ≡ true
      along [] there g = refl
      along (m ∷ ms) there g =
          let both = and_parts (is_landed (change_of v m) || has_change p.items m) _ g in
          and_from _ _
          (one (is_landed (change_of v m)) (is_landed (change_of x.state m)) (has_change p.items m)
          (has_change q.items m)
          (had_landed m (there m (ap (λ b. b || list_any (λ n. n == m) ms) (eq-eqb m m refl)))) (l.fewer m) both.0)
          (along ms (λ n f. there n (or_later (m == n) (list_any (λ k. k == n) ms) f)) both.1)
        where
          or_later : (a b : Bool) → b ≡ true → (a || b) ≡ true
          or_later true b f = refl
          or_later false b f = f

  -- the rows of a queue
  rows_same : (q : Queue) → In q x.state.queues →
      rows_after edits (queue_rows (item_rows c x.state q) q) ≡ queue_rows (item_rows c v (less.become q)) (less.become q)
  rows_same q m =
      let s = x.state in
      let before : Queue → QueueRows = λ p. queue_rows (item_rows c s p) p in
      let after : Queue → QueueRows = λ p. queue_rows (item_rows c v p) p in
      each_same (λ p. rows_after edits (before p)) (λ p. after (less.become p)) s.queues
      (sym (map_map (rows_after edits) before s.queues) ∙ sym (queues_after (tables c x) edits)
      ∙ ap (λ (z : Tables). z.queues) led.leads ∙ ap (map after) less.queues
      ∙ map_map after less.become s.queues) q m

  -- a queue that has room now had it
  had_room : (q : Queue) → In q x.state.queues → nat_lt (length (less.become q).items) most_items ≡ true →
      nat_lt (length q.items) most_items ≡ true
  had_room q m h = by_test (list_any (reports_of q.name) edits) refl
    where
      by_test : (b : Bool) → list_any (reports_of q.name) edits ≡ b → nat_lt (length q.items) most_items ≡ true
      by_test true t =
          let one = any_from (reports_of q.name) edits t in
          not_thousand (length q.items)
          (sym (ap (λ o. option_map_or (λ (p : Queue). nat_le most_items (length p.items)) o false)
          (found_named (λ (p : Queue). p.name) x.state.queues names q m q.name (same_name_of q.name q.name refl)))
          ∙ not_full x.state q.name one.0 (neither one.0 one.1).0 one.2)
      by_test false f =
          let same = ap (λ (r : QueueRows). length r.reports) (rows_same q m) in
          let stood = ap length (reports_after edits (queue_rows (item_rows c x.state q) q) f) in
          let few = length_reports 0 q.reports in
          let now = length_reports 0 (less.become q).reports in
          ap (λ (is : List Item). nat_lt (length is) most_items)
          (sym ((less.each q).stay (omega (arith, same, stood, few, now)))) ∙ h

  -- so it might have entered before
  might_before : may_enter c v y ≡ true → may_enter c x.state y ≡ true
  might_before h =
      let one = any_from (fits c v y) v.queues h in
      let was = from_map less.become x.state.queues one.0 (subst (In one.0) less.queues one.1) in
      let parts = three _ _ _ (ap (fits c v y) was.2 ∙ one.2) in
      any_to (fits c x.state y) x.state.queues was.0 was.1
      (λ i. all_true (ap (λ (k : Change). same_name was.0.name
      (unwrap_or (find (λ p. same_name p.name k.project) c.projects)
      (record { name = []; queue = []; jobs = []; fail_fast = false })).queue) (sym same_change)
      ∙ ap (λ n. same_name n (project_of c v y.change).queue) (sym (less.each was.0).name) ∙ parts.0)
      (had_room was.0 was.1 parts.1) (were_met was.0 (less.become was.0) (less.each was.0) parts.2) i)
    where
      all_true : {a b d : Bool} → a ≡ true → b ≡ true → d ≡ true → (a && b && d) ≡ true
      all_true e f g = λ i. e i && f i && g i

-- whoever may enter behind a delivery may by its edits
pub enters_by_edits : (c : Settings) (x : Content) (d : Delivery) (r : Reply) (t : State) (edits : List Edit) →
    are_distinct (map (λ (q : Queue). q.name) x.state.queues) ≡ true → IsLawfulContent c x → IsAtRest c x.state →
    raw_step c x.state d ≡ accepted r t → IsLed c x edits (swept c t) → EntersByEdits c x.state edits (swept c t)
enters_by_edits c x d r t edits names lawful rest e led y m may =
    by_test (list_any (λ e. makes_room x.state e || lets_in (swept c t) y e) edits) refl
  where
    s : State
    s = x.state

    v : State
    v = swept c t

    less : LeavesLess s v
    less = swept_leaves c s t (leaves_less c s d r t e)

    by_test : (b : Bool) → list_any (λ e. makes_room s e || lets_in v y e) edits ≡ b → b ≡ true
    by_test true h = refl
    by_test false h =
        let sound = lawful.lawful.sound in
        let before = was_ready c x edits v sound led y (not_put c x edits v sound names led less y h)
        (contains_in v.ready y m) in
        let might = might_before c x edits v sound names led less y h may in
        absurd (true≢false (sym might ∙ not-true (may_enter c s y)
        (every (λ z. not (may_enter c s z) ≡ true) s.ready rest.nobody_enters y before)))
