-- Puts of a change that change nothing: a later one replaces them, or they put the row that stands.
use Rattle.std.proofs.Common.{◌≡◌, ℕ, Bool, true, false, not, cond, Option, Some, None, List, [], ◌∷◌, ◌++◌, reverse}
use Rattle.std.proofs.Common.{map, refl, sym, ap, subst, ◌∙◌, arith, inl, inr, true≢false}
use Rattle.std.specs.Prelude.{◌==◌, ◌||◌, ◌⊎◌, find, fold, nat_lt, option_map}
use Rattle.std.specs.List.{list_any}
use Rattle.std.specs.Option.{option_map_or}
use Rattle.std.specs.BTreeSet.{BTreeSet}
use Rattle.std.proofs.lemmas.Bool.{eqb-true, eq-eqb, or_parts}
use Rattle.std.proofs.lemmas.Option.{same_Some}
use Rattle.std.proofs.lemmas.List.{map-id, append_assoc}
use Rattle.std.proofs.lemmas.Grind.{reverse_onto}
use Rattle.gate_types.specs.declared.records.Change.{Change}
use Rattle.gate_types.specs.declared.records.Ready.{Ready}
use Rattle.gate_types.specs.declared.records.Stage.{Stage}
use Rattle.gate_types.specs.declared.rows.ChangeRow.{ChangeRow}
use Rattle.gate_types.specs.declared.edits.Counter.{Counter}
use Rattle.gate_types.specs.declared.edits.Counter.TheVariants as counter
use Rattle.gate_types.specs.declared.edits.Edit.{Edit}
use Rattle.gate_types.specs.declared.edits.Edit.TheVariants as edit
use Rattle.gate_types.specs.Settings.{Settings}
use Rattle.gate_types.specs.State.{State, put_by, known_change}
use Rattle.gate_types.specs.Rebase.{rebase}
use Rattle.gate_types.specs.Sweep.{sweep}
use Rattle.gate_types.specs.Admit.{admit_one, may_enter, entered}
use Rattle.gate_types.specs.Settle.{settle}
use Rattle.gate_types.specs.Lawful.{IsSound}
use Rattle.gate_types.specs.Once.{Content}
use Rattle.gate_types.specs.Tables.{Tables, tables, approval_of, at_stage, change_known, change_row, edited_changes}
use Rattle.gate_types.specs.Tables.{change_row_in}
use Rattle.gate_types.specs.Tables.{edited_counters, edited_queue, edited_tables, fold_all, set_counter, Leads}
use Rattle.gate_types.specs.Rows.{edited_window}
use Rattle.gate_types.specs.Names.{same_name}
use Rattle.gate_types.specs.Counters.{Drawn}
use Rattle.gate_types.proofs.NameLemmas.{same_name_is}
use Rattle.gate_laws.proofs.Alone.{same_name_of}
use Rattle.gate_types.specs.Keys.{number_of_change}
use Rattle.gate_types.proofs.PutLemmas.{put_over, put_swap}
use Rattle.gate_laws.proofs.RecordedChange.{known_number}
use Rattle.gate_book_trait.proofs.Finding.{find_map}
use Rattle.gate_reads.specs.Moves.{in_state}
use Rattle.gate_reads.specs.Raw.{MakesReady}
use Rattle.gate_reads.specs.declared.raw.PendingReply.{PendingReply}
use Rattle.gate_reads.specs.declared.raw.PendingReply.TheVariants as pending
use Rattle.gate_ruling.proofs.Put.{row_known}
use Rattle.gate_admission.proofs.Rows.{find_put}
use Rattle.gate_core.specs.Thinned.{draws, has_drawn, is_replaced, newly_ready, puts_back, puts_row, sets_stage}
use Rattle.gate_core.specs.Thinned.{sets_window, thinned}
use Rattle.gate_core.specs.Thinned.{drawn_noted, AreNumbersOf, IsNotedOf}
use Rattle.gate_core.specs.declared.thinned.Later.{Later}

-- ---- edits that set the same

-- the lists of queues after two edits of each
twice : {X : Type 0} (f g h : X → X) → ((x : X) → f (g x) ≡ h x) → (xs : List X) → map f (map g xs) ≡ map h xs
twice f g h e [] = refl
twice f g h e (x ∷ xs) = λ i. e x i ∷ twice f g h e xs i

swapped : {X : Type 0} (f g : X → X) → ((x : X) → f (g x) ≡ g (f x)) → (xs : List X) →
    map f (map g xs) ≡ map g (map f xs)
swapped f g e xs = twice f g (λ x. g (f x)) e xs ∙ sym (twice g f (λ x. g (f x)) (λ x. refl) xs)

-- rows seen by a function that leaves their keys, before or behind a put
put_map : {X : Type 0} (key : X → ℕ) (f : X → X) → ((x : X) → key (f x) ≡ key x) → (x : X) (ys : List X) →
    map f (put_by key x ys) ≡ put_by key (f x) (map f ys)
put_map key f kept x [] = refl
put_map {X} key f kept x (y ∷ ys) =
    by_tests (key x == key y) (nat_lt (key x) (key y)) (put_map key f kept x ys)
    ∙ sym (λ i. cond (kept x i == kept y i) (f x ∷ map f ys)
    (cond (nat_lt (kept x i) (kept y i)) (f x ∷ f y ∷ map f ys) (f y ∷ put_by key (f x) (map f ys))))
  where
    by_tests : (a b : Bool) → map f (put_by key x ys) ≡ put_by key (f x) (map f ys) →
        map f (cond a (x ∷ ys) (cond b (x ∷ y ∷ ys) (y ∷ put_by key x ys)))
        ≡ cond a (f x ∷ map f ys) (cond b (f x ∷ f y ∷ map f ys) (f y ∷ put_by key (f x) (map f ys)))
    by_tests true b rest = refl
    by_tests false true rest = refl
    by_tests false false rest = ap (λ l. f y ∷ l) rest

-- a row put before the same change is put
put_again : (r : ChangeRow) (rows : List ChangeRow) (e : Edit) → puts_row (number_of_change r) e ≡ true →
    edited_changes (put_by number_of_change r rows) e ≡ edited_changes rows e
put_again r rows (edit.PutChange k a) h =
    put_over number_of_change r (record { change = k; approval = a }) rows
    (sym (eqb-true k.number (number_of_change r) h))
put_again r rows (edit.SetStage n g) h = absurd (true≢false (sym h))
put_again r rows (edit.PutItem q i) h = absurd (true≢false (sym h))
put_again r rows (edit.DropItem n) h = absurd (true≢false (sym h))
put_again r rows (edit.LandItem n) h = absurd (true≢false (sym h))
put_again r rows (edit.PutPlan p) h = absurd (true≢false (sym h))
put_again r rows (edit.PutLanding q n l) h = absurd (true≢false (sym h))
put_again r rows (edit.PutReport q n p) h = absurd (true≢false (sym h))
put_again r rows (edit.PutBuild b) h = absurd (true≢false (sym h))
put_again r rows (edit.SetOutcome n o) h = absurd (true≢false (sym h))
put_again r rows (edit.StopBuild n) h = absurd (true≢false (sym h))
put_again r rows (edit.SetWindow q w) h = absurd (true≢false (sym h))
put_again r rows (edit.SetCounter k n) h = absurd (true≢false (sym h))
put_again r rows (edit.Keep k) h = absurd (true≢false (sym h))

-- what an edit that puts no row makes of that of a change
abbrev set_on : Edit → ChangeRow → ChangeRow
set_on (edit.SetStage n g) r = cond (number_of_change r == n) (at_stage g r) r
set_on _ r = r

set_number : (e : Edit) (r : ChangeRow) → number_of_change (set_on e r) ≡ number_of_change r
set_number (edit.SetStage n g) r =
    elim (number_of_change r == n) as (λ b. number_of_change (cond b (at_stage g r) r) ≡ number_of_change r)
    [ true ↦ refl | false ↦ refl ]
set_number _ r = refl

-- and one before another edit is made
put_before : (r : ChangeRow) (rows : List ChangeRow) (e : Edit) → puts_row (number_of_change r) e ≡ false →
    edited_changes (put_by number_of_change r rows) e ≡ put_by number_of_change (set_on e r) (edited_changes rows e)
put_before r rows (edit.PutChange k a) h =
    put_swap number_of_change r (record { change = k; approval = a }) rows
    (λ same. true≢false (sym (ap (λ n. k.number == n) same ∙ grind arith) ∙ h))
put_before r rows (edit.SetStage n g) h =
    put_map number_of_change (λ k. cond (number_of_change k == n) (at_stage g k) k) (set_number (edit.SetStage n g)) r rows
put_before r rows (edit.PutItem q i) h = refl
put_before r rows (edit.DropItem n) h = refl
put_before r rows (edit.LandItem n) h = refl
put_before r rows (edit.PutPlan p) h = refl
put_before r rows (edit.PutLanding q n l) h = refl
put_before r rows (edit.PutReport q n p) h = refl
put_before r rows (edit.PutBuild b) h = refl
put_before r rows (edit.SetOutcome n o) h = refl
put_before r rows (edit.StopBuild n) h = refl
put_before r rows (edit.SetWindow q w) h = refl
put_before r rows (edit.SetCounter k n) h = refl
put_before r rows (edit.Keep k) h = refl

-- a counter set before it is drawn from again
set_again : (k : Counter) (n : ℕ) (d : Drawn) (e : Edit) → draws k e ≡ true →
    edited_counters (set_counter k n d) e ≡ edited_counters d e
set_again counter.Approval n d (edit.SetCounter counter.Approval m) h = refl
set_again counter.Approval n d (edit.SetCounter counter.Build m) h = absurd (true≢false (sym h))
set_again counter.Approval n d (edit.SetCounter counter.Order m) h = absurd (true≢false (sym h))
set_again counter.Build n d (edit.SetCounter counter.Approval m) h = absurd (true≢false (sym h))
set_again counter.Build n d (edit.SetCounter counter.Build m) h = refl
set_again counter.Build n d (edit.SetCounter counter.Order m) h = absurd (true≢false (sym h))
set_again counter.Order n d (edit.SetCounter counter.Approval m) h = absurd (true≢false (sym h))
set_again counter.Order n d (edit.SetCounter counter.Build m) h = absurd (true≢false (sym h))
set_again counter.Order n d (edit.SetCounter counter.Order m) h = refl
set_again k n d (edit.PutChange j a) h = absurd (true≢false (sym h))
set_again k n d (edit.PutItem p i) h = absurd (true≢false (sym h))
set_again k n d (edit.SetStage m g) h = absurd (true≢false (sym h))
set_again k n d (edit.DropItem m) h = absurd (true≢false (sym h))
set_again k n d (edit.LandItem m) h = absurd (true≢false (sym h))
set_again k n d (edit.PutPlan p) h = absurd (true≢false (sym h))
set_again k n d (edit.PutLanding p m l) h = absurd (true≢false (sym h))
set_again k n d (edit.PutReport p m r) h = absurd (true≢false (sym h))
set_again k n d (edit.PutBuild b) h = absurd (true≢false (sym h))
set_again k n d (edit.SetOutcome m o) h = absurd (true≢false (sym h))
set_again k n d (edit.StopBuild m) h = absurd (true≢false (sym h))
set_again k n d (edit.SetWindow q v) h = absurd (true≢false (sym h))
set_again k n d (edit.Keep j) h = absurd (true≢false (sym h))

set_before : (k : Counter) (n : ℕ) (d : Drawn) (e : Edit) → draws k e ≡ false →
    edited_counters (set_counter k n d) e ≡ set_counter k n (edited_counters d e)
set_before counter.Approval n d (edit.SetCounter counter.Approval m) h = absurd (true≢false h)
set_before counter.Approval n d (edit.SetCounter counter.Build m) h = refl
set_before counter.Approval n d (edit.SetCounter counter.Order m) h = refl
set_before counter.Build n d (edit.SetCounter counter.Approval m) h = refl
set_before counter.Build n d (edit.SetCounter counter.Build m) h = absurd (true≢false h)
set_before counter.Build n d (edit.SetCounter counter.Order m) h = refl
set_before counter.Order n d (edit.SetCounter counter.Approval m) h = refl
set_before counter.Order n d (edit.SetCounter counter.Build m) h = refl
set_before counter.Order n d (edit.SetCounter counter.Order m) h = absurd (true≢false h)
set_before k n d (edit.PutChange j a) h = refl
set_before k n d (edit.PutItem p i) h = refl
set_before k n d (edit.SetStage m g) h = refl
set_before k n d (edit.DropItem m) h = refl
set_before k n d (edit.LandItem m) h = refl
set_before k n d (edit.PutPlan p) h = refl
set_before k n d (edit.PutLanding p m l) h = refl
set_before k n d (edit.PutReport p m r) h = refl
set_before k n d (edit.PutBuild b) h = refl
set_before k n d (edit.SetOutcome m o) h = refl
set_before k n d (edit.StopBuild m) h = refl
set_before k n d (edit.SetWindow q v) h = refl
set_before k n d (edit.Keep j) h = refl

-- a window set before that of the same queue is
sized_again : (q : List ℕ) (w : ℕ) (name : List ℕ) (size : ℕ) (e : Edit) → sets_window q e ≡ true →
    edited_window name (cond (same_name q name) w size) e ≡ edited_window name size e
sized_again q w name size (edit.SetWindow p v) h =
    by_test (same_name p name) (same_name q name) (ap (λ m. same_name m name) (same_name_is p q h))
  where
    by_test : (a b : Bool) → a ≡ b → cond a v (cond b w size) ≡ cond a v size
    by_test true b e = refl
    by_test false false e = refl
    by_test false true e = absurd (true≢false (sym e))
sized_again q w name size (edit.PutChange j a) h = absurd (true≢false (sym h))
sized_again q w name size (edit.PutItem p i) h = absurd (true≢false (sym h))
sized_again q w name size (edit.SetStage m g) h = absurd (true≢false (sym h))
sized_again q w name size (edit.DropItem m) h = absurd (true≢false (sym h))
sized_again q w name size (edit.LandItem m) h = absurd (true≢false (sym h))
sized_again q w name size (edit.PutPlan p) h = absurd (true≢false (sym h))
sized_again q w name size (edit.PutLanding p m l) h = absurd (true≢false (sym h))
sized_again q w name size (edit.PutReport p m r) h = absurd (true≢false (sym h))
sized_again q w name size (edit.PutBuild b) h = absurd (true≢false (sym h))
sized_again q w name size (edit.SetOutcome m o) h = absurd (true≢false (sym h))
sized_again q w name size (edit.StopBuild m) h = absurd (true≢false (sym h))
sized_again q w name size (edit.SetCounter j m) h = absurd (true≢false (sym h))
sized_again q w name size (edit.Keep j) h = absurd (true≢false (sym h))

sized_before : (q : List ℕ) (w : ℕ) (name : List ℕ) (size : ℕ) (e : Edit) → sets_window q e ≡ false →
    edited_window name (cond (same_name q name) w size) e ≡ cond (same_name q name) w (edited_window name size e)
sized_before q w name size (edit.SetWindow p v) h = by_test (same_name p name) refl (same_name q name) refl
  where
    by_test : (a : Bool) → same_name p name ≡ a → (b : Bool) → same_name q name ≡ b →
        cond a v (cond b w size) ≡ cond b w (cond a v size)
    by_test true e true f =
        absurd (true≢false (sym (same_name_of p q (same_name_is p name e ∙ sym (same_name_is q name f))) ∙ h))
    by_test true e false f = refl
    by_test false e b f = refl
sized_before q w name size (edit.PutChange j a) h = refl
sized_before q w name size (edit.PutItem p i) h = refl
sized_before q w name size (edit.SetStage m g) h = refl
sized_before q w name size (edit.DropItem m) h = refl
sized_before q w name size (edit.LandItem m) h = refl
sized_before q w name size (edit.PutPlan p) h = refl
sized_before q w name size (edit.PutLanding p m l) h = refl
sized_before q w name size (edit.PutReport p m r) h = refl
sized_before q w name size (edit.PutBuild b) h = refl
sized_before q w name size (edit.SetOutcome m o) h = refl
sized_before q w name size (edit.StopBuild m) h = refl
sized_before q w name size (edit.SetCounter j m) h = refl
sized_before q w name size (edit.Keep j) h = refl

-- ---- an edit that a later one replaces

-- an edit changes nothing if one of these does what it does, and the others have nothing to do with it
replaced_by : (e : Edit) (sets : Edit → Bool) →
    ((t : Tables) (f : Edit) → sets f ≡ true → edited_tables (edited_tables t e) f ≡ edited_tables t f) →
    ((t : Tables) (f : Edit) → sets f ≡ false →
    edited_tables (edited_tables t e) f ≡ edited_tables (edited_tables t f) e) →
    (t : Tables) (es : List Edit) → list_any sets es ≡ true → fold_all (edited_tables t e) es ≡ fold_all t es
replaced_by e sets again before t [] h = absurd (true≢false (sym h))
replaced_by e sets again before t (f ∷ fs) h =
    by_test (sets f) refl (replaced_by e sets again before (edited_tables t f) fs)
  where
    by_test : (b : Bool) → sets f ≡ b → (list_any sets fs ≡ true →
        fold_all (edited_tables (edited_tables t f) e) fs ≡ fold_all (edited_tables t f) fs) →
        fold_all (edited_tables (edited_tables t e) f) fs ≡ fold_all (edited_tables t f) fs
    by_test true same rest = ap (λ u. fold_all u fs) (again t f same)
    by_test false other rest =
        ap (λ u. fold_all u fs) (before t f other) ∙ rest (sym (ap (λ b. b || list_any sets fs) other) ∙ h)

-- the tables with the row of a change put
abbrev with_row : ChangeRow → Tables → Tables
with_row r t = record t { changes = put_by number_of_change r t.changes }

-- a put that is replaced changes nothing
replaced_put : (r : ChangeRow) (t : Tables) (es : List Edit) → list_any (puts_row (number_of_change r)) es ≡ true →
    fold_all (with_row r t) es ≡ fold_all t es
replaced_put r t [] h = absurd (true≢false (sym h))
replaced_put r t (e ∷ es) h =
    by_test (puts_row (number_of_change r) e) refl (replaced_put (set_on e r) (edited_tables t e) es)
  where
    leaves : List ChangeRow → Tables
    leaves rows = fold_all (record (edited_tables t e) { changes = rows }) es

    by_test : (b : Bool) → puts_row (number_of_change r) e ≡ b →
        (list_any (puts_row (number_of_change (set_on e r))) es ≡ true →
        fold_all (with_row (set_on e r) (edited_tables t e)) es ≡ fold_all (edited_tables t e) es) →
        fold_all (edited_tables (with_row r t) e) es ≡ fold_all (edited_tables t e) es
    by_test true same rest = ap leaves (put_again r t.changes e same)
    by_test false other rest = ap leaves (put_before r t.changes e other)
        ∙ rest (ap (λ n. list_any (puts_row n) es) (set_number e r)
        ∙ sym (ap (λ b. b || list_any (puts_row (number_of_change r)) es) other) ∙ h)

counter_again : (k : Counter) (n : ℕ) (t : Tables) (f : Edit) → draws k f ≡ true →
    edited_tables (edited_tables t (edit.SetCounter k n)) f ≡ edited_tables t f
counter_again k n t f h = λ i. record (edited_tables t f) {
  queues = twice (edited_queue f) (edited_queue (edit.SetCounter k n)) (edited_queue f) (λ q. refl) t.queues i;
  counters = set_again k n t.counters f h i;
}

counter_before : (k : Counter) (n : ℕ) (t : Tables) (f : Edit) → draws k f ≡ false →
    edited_tables (edited_tables t (edit.SetCounter k n)) f ≡ edited_tables (edited_tables t f) (edit.SetCounter k n)
counter_before k n t f h = λ i. record (edited_tables t f) {
  queues = swapped (edited_queue f) (edited_queue (edit.SetCounter k n)) (λ q. refl) t.queues i;
  counters = set_before k n t.counters f h i;
}

window_again : (q : List ℕ) (w : ℕ) (t : Tables) (f : Edit) → sets_window q f ≡ true →
    edited_tables (edited_tables t (edit.SetWindow q w)) f ≡ edited_tables t f
window_again q w t f h = λ i. record (edited_tables t f) {
  queues = twice (edited_queue f) (edited_queue (edit.SetWindow q w)) (edited_queue f)
      (λ x j. record (edited_queue f x) { window = sized_again q w x.name x.window f h j }) t.queues i;
}

window_before : (q : List ℕ) (w : ℕ) (t : Tables) (f : Edit) → sets_window q f ≡ false →
    edited_tables (edited_tables t (edit.SetWindow q w)) f ≡ edited_tables (edited_tables t f) (edit.SetWindow q w)
window_before q w t f h = λ i. record (edited_tables t f) {
  queues = swapped (edited_queue f) (edited_queue (edit.SetWindow q w))
      (λ x j. record (edited_queue f x) { window = sized_before q w x.name x.window f h j }) t.queues i;
}

replaced_edit : (e : Edit) (t : Tables) (es : List Edit) → is_replaced e es ≡ true →
    fold_all t es ≡ fold_all (edited_tables t e) es
replaced_edit (edit.PutChange k a) t es h =
    let r : ChangeRow = record { change = k; approval = a } in
    sym ((λ i. fold_all (record (with_row r t) { queues = map-id t.queues i }) es) ∙ replaced_put r t es h)
replaced_edit (edit.SetCounter k n) t es h =
    sym (replaced_by (edit.SetCounter k n) (draws k) (counter_again k n) (counter_before k n) t es h)
replaced_edit (edit.SetWindow q w) t es h =
    sym (replaced_by (edit.SetWindow q w) (sets_window q) (window_again q w) (window_before q w) t es h)
replaced_edit (edit.PutItem q i) t es h = absurd (true≢false (sym h))
replaced_edit (edit.SetStage m g) t es h = absurd (true≢false (sym h))
replaced_edit (edit.DropItem m) t es h = absurd (true≢false (sym h))
replaced_edit (edit.LandItem m) t es h = absurd (true≢false (sym h))
replaced_edit (edit.PutPlan p) t es h = absurd (true≢false (sym h))
replaced_edit (edit.PutLanding q m l) t es h = absurd (true≢false (sym h))
replaced_edit (edit.PutReport q m p) t es h = absurd (true≢false (sym h))
replaced_edit (edit.PutBuild b) t es h = absurd (true≢false (sym h))
replaced_edit (edit.SetOutcome m o) t es h = absurd (true≢false (sym h))
replaced_edit (edit.StopBuild m) t es h = absurd (true≢false (sym h))
replaced_edit (edit.Keep k) t es h = absurd (true≢false (sym h))

-- ---- a change that enters as it was

-- putting the row changes nothing
abbrev Stands : ChangeRow → List ChangeRow → Type 0
Stands r rows = put_by number_of_change r rows ≡ rows

-- if the row of its change isn't that of a ready one, it is this row
abbrev Returns : ChangeRow → Tables → Type 0
Returns r t = (o : ChangeRow) → change_row_in t.changes (number_of_change r) ≡ Some o → o.approval ≡ None → o ≡ r

-- the row of a change that isn't put, and whose stage isn't set, stays
stage_stays : (n m : ℕ) (g : Stage) → m == n ≡ false → (rows : List ChangeRow) →
    change_row_in (change_known m (at_stage g) rows) n ≡ change_row_in rows n
stage_stays n m g h [] = refl
stage_stays n m g h (r ∷ rs) = by_test (r.change.number == m) refl (stage_stays n m g h rs)
  where
    by_test : (b : Bool) → r.change.number == m ≡ b → change_row_in (change_known m (at_stage g) rs) n ≡ change_row_in rs n →
        change_row_in (cond b (at_stage g r) r ∷ change_known m (at_stage g) rs) n ≡ change_row_in (r ∷ rs) n
    by_test true e rest =
        let other : r.change.number == n ≡ false = ap (λ k. k == n) (eqb-true r.change.number m e) ∙ h in
        ap (λ b. cond b (Some (at_stage g r)) (change_row_in (change_known m (at_stage g) rs) n)) other ∙ rest
        ∙ sym (ap (λ b. cond b (Some r) (change_row_in rs n)) other)
    by_test false e rest = ap (λ o. cond (r.change.number == n) (Some r) o) rest

row_stays : (n : ℕ) (rows : List ChangeRow) (e : Edit) → puts_row n e ≡ false → sets_stage n e ≡ false →
    change_row_in (edited_changes rows e) n ≡ change_row_in rows n
row_stays n rows (edit.PutChange k a) h g =
    find_put number_of_change n (record { change = k; approval = a }) rows
    ∙ ap (λ b. cond b (Some (record { change = k; approval = a })) (change_row_in rows n)) h
row_stays n rows (edit.SetStage m s) h g = stage_stays n m s g rows
row_stays n rows (edit.PutItem q i) h g = refl
row_stays n rows (edit.DropItem m) h g = refl
row_stays n rows (edit.LandItem m) h g = refl
row_stays n rows (edit.PutPlan p) h g = refl
row_stays n rows (edit.PutLanding q m l) h g = refl
row_stays n rows (edit.PutReport q m p) h g = refl
row_stays n rows (edit.PutBuild b) h g = refl
row_stays n rows (edit.SetOutcome m o) h g = refl
row_stays n rows (edit.StopBuild m) h g = refl
row_stays n rows (edit.SetWindow q w) h g = refl
row_stays n rows (edit.SetCounter k m) h g = refl
row_stays n rows (edit.Keep k) h g = refl

rows_stay : (n : ℕ) (t : Tables) (es : List Edit) → list_any (puts_row n) es ≡ false →
    list_any (sets_stage n) es ≡ false → change_row_in (fold_all t es).changes n ≡ change_row_in t.changes n
rows_stay n t [] h g = refl
rows_stay n t (e ∷ es) h g =
    let both = or_parts (puts_row n e) (list_any (puts_row n) es) h in
    let calm = or_parts (sets_stage n e) (list_any (sets_stage n) es) g in
    rows_stay n (edited_tables t e) es both.1 calm.1 ∙ row_stays n t.changes e both.0 calm.0

-- and an edit leaves it as it is
set_other : (r : ChangeRow) (e : Edit) → sets_stage (number_of_change r) e ≡ false → set_on e r ≡ r
set_other r (edit.SetStage m g) h = by_test (number_of_change r == m) refl
  where
    by_test : (b : Bool) → number_of_change r == m ≡ b → cond b (at_stage g r) r ≡ r
    by_test true e = absurd (true≢false (sym (eq-eqb m (number_of_change r) (sym (eqb-true _ _ e))) ∙ h))
    by_test false e = refl
set_other r (edit.PutChange k a) h = refl
set_other r (edit.PutItem q i) h = refl
set_other r (edit.DropItem m) h = refl
set_other r (edit.LandItem m) h = refl
set_other r (edit.PutPlan p) h = refl
set_other r (edit.PutLanding q m l) h = refl
set_other r (edit.PutReport q m p) h = refl
set_other r (edit.PutBuild b) h = refl
set_other r (edit.SetOutcome m o) h = refl
set_other r (edit.StopBuild m) h = refl
set_other r (edit.SetWindow q w) h = refl
set_other r (edit.SetCounter k m) h = refl
set_other r (edit.Keep k) h = refl

-- a put of a change is replaced where that is put again
replaced_is : (n : ℕ) (e : Edit) (es : List Edit) → puts_row n e ≡ true → is_replaced e es ≡ list_any (puts_row n) es
replaced_is n (edit.PutChange k a) es h = ap (λ m. list_any (puts_row m) es) (eqb-true k.number n h)
replaced_is n (edit.SetStage m g) es h = absurd (true≢false (sym h))
replaced_is n (edit.PutItem q i) es h = absurd (true≢false (sym h))
replaced_is n (edit.DropItem m) es h = absurd (true≢false (sym h))
replaced_is n (edit.LandItem m) es h = absurd (true≢false (sym h))
replaced_is n (edit.PutPlan p) es h = absurd (true≢false (sym h))
replaced_is n (edit.PutLanding q m l) es h = absurd (true≢false (sym h))
replaced_is n (edit.PutReport q m p) es h = absurd (true≢false (sym h))
replaced_is n (edit.PutBuild b) es h = absurd (true≢false (sym h))
replaced_is n (edit.SetOutcome m o) es h = absurd (true≢false (sym h))
replaced_is n (edit.StopBuild m) es h = absurd (true≢false (sym h))
replaced_is n (edit.SetWindow q w) es h = absurd (true≢false (sym h))
replaced_is n (edit.SetCounter k m) es h = absurd (true≢false (sym h))
replaced_is n (edit.Keep k) es h = absurd (true≢false (sym h))

-- what puts a change back puts it as this one, without an approval
back_is : (n : ℕ) (e : Edit) → puts_back (Some n) e ≡ true →
    (k : Change) × (e ≡ edit.PutChange k None) × (k.number ≡ n)
back_is n (edit.PutChange k None) h = (k, refl, eqb-true k.number n h)
back_is n (edit.PutChange k (Some a)) h = absurd (true≢false (sym h))
back_is n (edit.SetStage m g) h = absurd (true≢false (sym h))
back_is n (edit.PutItem q i) h = absurd (true≢false (sym h))
back_is n (edit.DropItem m) h = absurd (true≢false (sym h))
back_is n (edit.LandItem m) h = absurd (true≢false (sym h))
back_is n (edit.PutPlan p) h = absurd (true≢false (sym h))
back_is n (edit.PutLanding q m l) h = absurd (true≢false (sym h))
back_is n (edit.PutReport q m p) h = absurd (true≢false (sym h))
back_is n (edit.PutBuild b) h = absurd (true≢false (sym h))
back_is n (edit.SetOutcome m o) h = absurd (true≢false (sym h))
back_is n (edit.StopBuild m) h = absurd (true≢false (sym h))
back_is n (edit.SetWindow q w) h = absurd (true≢false (sym h))
back_is n (edit.SetCounter k m) h = absurd (true≢false (sym h))
back_is n (edit.Keep k) h = absurd (true≢false (sym h))

-- ---- what may be left out

-- no edit sets the stage of the change that was made ready; and it had this row, and has it again unless it is ready
-- still, or it isn't put any more
abbrev pub IsSpare : Option ℕ → Tables → List Edit → Type 0
IsSpare None t es = Unit {0}
IsSpare (Some n) t es = (list_any (sets_stage n) es ≡ false) × (
    ((r : ChangeRow) × (number_of_change r ≡ n) × Stands r t.changes × Returns r (fold_all t es))
    ⊎ (list_any (puts_row n) es ≡ false))

spare_replaced : (made : Option ℕ) (t : Tables) (e : Edit) (es : List Edit) → is_replaced e es ≡ true →
    IsSpare made t (e ∷ es) → IsSpare made t es
spare_replaced None t e es h spare = tt
spare_replaced (Some n) t e es h (calm, inl row) = (
  (or_parts (sets_stage n e) (list_any (sets_stage n) es) calm).1,
  inl (row.0, row.1, row.2, subst (Returns row.0) (sym (replaced_edit e t es h)) row.3),
)
spare_replaced (Some n) t e es h (calm, inr none) = (
  (or_parts (sets_stage n e) (list_any (sets_stage n) es) calm).1,
  inr (or_parts (puts_row n e) (list_any (puts_row n) es) none).1,
)

spare_kept : (made : Option ℕ) (t : Tables) (e : Edit) (es : List Edit) → is_replaced e es ≡ false →
    IsSpare made t (e ∷ es) → IsSpare made (edited_tables t e) es
spare_kept None t e es h spare = tt
spare_kept (Some n) t e es h (calm, inr none) = (
  (or_parts (sets_stage n e) (list_any (sets_stage n) es) calm).1,
  inr (or_parts (puts_row n e) (list_any (puts_row n) es) none).1,
)
spare_kept (Some n) t e es h (calm, inl row) = by_test (puts_row n e) refl
  where
    both : (sets_stage n e ≡ false) × (list_any (sets_stage n) es ≡ false)
    both = or_parts (sets_stage n e) (list_any (sets_stage n) es) calm

    same : set_on e row.0 ≡ row.0
    same = set_other row.0 e (subst (λ m. sets_stage m e ≡ false) (sym row.1) both.0)

    by_test : (b : Bool) → puts_row n e ≡ b → IsSpare (Some n) (edited_tables t e) es
    by_test true put = (both.1, inr (sym (replaced_is n e es put) ∙ h))
    by_test false other = (
      both.1,
      inl (
        row.0,
        row.1,
        ap (λ r. put_by number_of_change r (edited_changes t.changes e)) (sym same)
            ∙ sym (put_before row.0 t.changes e (subst (λ m. puts_row m e ≡ false) (sym row.1) other))
            ∙ ap (λ rows. edited_changes rows e) row.2,
        row.3,
      ),
    )

-- the tables with the row of a change that is put, if it is neither put nor set again
put_last : (k : Change) (t : Tables) (es : List Edit) → list_any (puts_row k.number) es ≡ false →
    list_any (sets_stage k.number) es ≡ false →
    change_row_in (fold_all (edited_tables t (edit.PutChange k None)) es).changes k.number
    ≡ Some (record { change = k; approval = None })
put_last k t es h g =
    rows_stay k.number (edited_tables t (edit.PutChange k None)) es h g
    ∙ find_put number_of_change k.number (record { change = k; approval = None }) t.changes
    ∙ ap (λ b. cond b (Some (record { change = k; approval = None })) (change_row_in t.changes k.number))
    (eq-eqb k.number k.number refl)

-- a put of the row that stands
put_standing : (k : Change) (t : Tables) (es : List Edit) → Stands (record { change = k; approval = None }) t.changes →
    fold_all (edited_tables t (edit.PutChange k None)) es ≡ fold_all t es
put_standing k t es stands =
    (λ i. fold_all (record (edited_tables t (edit.PutChange k None)) { queues = map-id t.queues i }) es)
    ∙ ap (λ (rows : List ChangeRow). fold_all (record t { changes = rows }) es) stands

spare_back : (made : Option ℕ) (t : Tables) (e : Edit) (es : List Edit) → is_replaced e es ≡ false →
    puts_back made e ≡ true → IsSpare made t (e ∷ es) →
    (fold_all (edited_tables t e) es ≡ fold_all t es) × IsSpare made t es
spare_back None t e es h back spare = absurd (true≢false (sym back))
spare_back (Some n) t e es h back (calm, spare) = by_row spare
  where
    is : (k : Change) × (e ≡ edit.PutChange k None) × (k.number ≡ n)
    is = back_is n e back

    same : puts_row n e ≡ true
    same = ap (puts_row n) is.1 ∙ eq-eqb is.0.number n is.2

    last : list_any (puts_row n) es ≡ false
    last = sym (replaced_is n e es same) ∙ h

    still : list_any (sets_stage n) es ≡ false
    still = (or_parts (sets_stage n e) (list_any (sets_stage n) es) calm).1

    by_row : ((r : ChangeRow) × (number_of_change r ≡ n) × Stands r t.changes × Returns r (fold_all t (e ∷ es)))
        ⊎ (list_any (puts_row n) (e ∷ es) ≡ false) →
        (fold_all (edited_tables t e) es ≡ fold_all t es) × IsSpare (Some n) t es
    by_row (inr none) =
        absurd (true≢false (sym same ∙ (or_parts (puts_row n e) (list_any (puts_row n) es) none).0))
    by_row (inl row) =
        let k = is.0 in
        let put : ChangeRow = record { change = k; approval = None } in
        let there : change_row_in (fold_all (edited_tables t e) es).changes (number_of_change row.0) ≡ Some put =
        (λ i. change_row_in (fold_all (edited_tables t (is.1 i)) es).changes ((row.1 ∙ sym is.2) i))
        ∙ put_last k t es (subst (λ m. list_any (puts_row m) es ≡ false) (sym is.2) last)
        (subst (λ m. list_any (sets_stage m) es ≡ false) (sym is.2) still) in
        let one : put ≡ row.0 = row.3 put there refl in (
          ap (λ x. fold_all (edited_tables t x) es) is.1
              ∙ put_standing k t es (subst (λ r. Stands r t.changes) (sym one) row.2),
          (still, inr last),
        )

-- ---- the thinned edits

-- they leave the same tables
thinned_tables : (made : Option ℕ) (t : Tables) (es : List Edit) → IsSpare made t es →
    fold_all t (thinned made es) ≡ fold_all t es
thinned_tables made t [] spare = refl
thinned_tables made t (e ∷ es) spare =
    by_tests (is_replaced e es) refl (puts_back made e) refl (λ u. thinned_tables made u es)
  where
    by_tests : (a : Bool) → is_replaced e es ≡ a → (b : Bool) → puts_back made e ≡ b →
        ((u : Tables) → IsSpare made u es → fold_all u (thinned made es) ≡ fold_all u es) →
        fold_all t (cond (a || b) (thinned made es) (e ∷ thinned made es)) ≡ fold_all (edited_tables t e) es
    by_tests true h b k rest = rest t (spare_replaced made t e es h spare) ∙ replaced_edit e t es h
    by_tests false h true k rest =
        let back = spare_back made t e es h k spare in
        rest t back.1 ∙ sym back.0
    by_tests false h false k rest = rest (edited_tables t e) (spare_kept made t e es h spare)

-- where the edits lead, the thinned ones lead too
pub thinned_leads : (c : Settings) (x : Content) (made : Option ℕ) (es : List Edit) (y : Content) →
    IsSpare made (tables c x) es → Leads c x es y → Leads c x (thinned made es) y
thinned_leads c x made es y spare leads = thinned_tables made (tables c x) es spare ∙ leads

-- ---- the change that a delivery makes ready

-- no change is put by settling
admitted_changes : (c : Settings) (rs : List Ready) (s : State) →
    (fold (λ t _. admit_one c t) s rs).changes ≡ s.changes
admitted_changes c [] s = refl
admitted_changes c (r ∷ rs) s = admitted_changes c rs (admit_one c s) ∙ by_found (find (may_enter c s) s.ready)
  where
    by_found : (o : Option Ready) → (option_map_or (entered c s) o s).changes ≡ s.changes
    by_found None = refl
    by_found (Some r) = refl

settled_changes : (c : Settings) (s : State) → (settle c s).changes ≡ s.changes
settled_changes c s = admitted_changes c (sweep c (rebase c s)).ready (sweep c (rebase c s))

-- a change that isn't ready has no approval
no_approval : (rs : List Ready) (n : ℕ) → list_any (λ r. r.change == n) rs ≡ false → approval_of rs n ≡ None
no_approval [] n h = refl
no_approval (r ∷ rs) n h = by_test (r.change == n) refl (no_approval rs n)
  where
    by_test : (b : Bool) → r.change == n ≡ b → (list_any (λ x. x.change == n) rs ≡ false → approval_of rs n ≡ None) →
        approval_of (r ∷ rs) n ≡ None
    by_test true e rest = absurd (true≢false (sym e ∙ (or_parts (r.change == n) _ h).0))
    by_test false e rest =
        ap (λ b. option_map (λ (x : Ready). x.approval) (cond b (Some r) (find (λ x. x.change == n) rs))) e
        ∙ rest (or_parts (r.change == n) _ h).1

-- its row is as it was, unless it is ready
pub made_spare : (c : Settings) (x : Content) (reply : PendingReply) (t : State) (es : List Edit) →
    IsSound c x.state → MakesReady x.state reply t → Leads c x es (in_state x (settle c t)) →
    IsSpare (newly_ready reply es) (tables c x) es
made_spare c x (pending.Now r) t es sound makes leads = tt
made_spare c x (pending.PlaceOf n) t es sound makes leads =
    by_test (list_any (sets_stage n) es) refl
  where
    k : Change
    k = makes.change

    row : ChangeRow
    row = change_row x.state.ready k

    number : k.number ≡ n
    number = known_number x.state n k makes.known

    u : State
    u = settle c t

    rows : (fold_all (tables c x) es).changes ≡ map (change_row u.ready) x.state.changes
    rows = ap (λ (y : Tables). y.changes) leads ∙ ap (map (change_row u.ready)) (settled_changes c t ∙ makes.changes)

    told : change_row_in (fold_all (tables c x) es).changes k.number ≡ Some (change_row u.ready k)
    told = ap (λ ys. change_row_in ys k.number) rows
        ∙ find_map (change_row u.ready) (λ (r : ChangeRow). r.change.number == k.number) x.state.changes
        ∙ ap (λ m. option_map (change_row u.ready) (known_change x.state m)) number
        ∙ ap (option_map (change_row u.ready)) makes.known

    unready : approval_of x.state.ready k.number ≡ None
    unready = ap (approval_of x.state.ready) number ∙ no_approval x.state.ready n makes.unready

    returns : Returns row (fold_all (tables c x) es)
    returns o is none =
        let same : change_row u.ready k ≡ o = same_Some (change_row u.ready k) o (sym told ∙ is) in
        sym same ∙ (λ i. record { change = k; approval = (ap (λ (r : ChangeRow). r.approval) same ∙ none ∙ sym unready) i })

    by_test : (b : Bool) → list_any (sets_stage n) es ≡ b → IsSpare (cond b None (Some n)) (tables c x) es
    by_test true e = tt
    by_test false e = (e, inl (row, number, row_known x.state n k sound.changes_rise makes.known, returns))

-- ---- what is noted

draw_noted : (k : Counter) (m : ℕ) (edits : List Edit) (s : Later) → IsNotedOf edits s →
    IsNotedOf (edit.SetCounter k m ∷ edits) (drawn_noted k s)
draw_noted counter.Approval m edits s h = record { changes = h.changes; counters = by; windows = h.windows }
  where
    by : (j : Counter) → has_drawn (drawn_noted counter.Approval s) j
        ≡ list_any (draws j) (edit.SetCounter counter.Approval m ∷ edits)
    by counter.Approval = refl
    by counter.Build = h.counters counter.Build
    by counter.Order = h.counters counter.Order
draw_noted counter.Build m edits s h = record { changes = h.changes; counters = by; windows = h.windows }
  where
    by : (j : Counter) → has_drawn (drawn_noted counter.Build s) j
        ≡ list_any (draws j) (edit.SetCounter counter.Build m ∷ edits)
    by counter.Approval = h.counters counter.Approval
    by counter.Build = refl
    by counter.Order = h.counters counter.Order
draw_noted counter.Order m edits s h = record { changes = h.changes; counters = by; windows = h.windows }
  where
    by : (j : Counter) → has_drawn (drawn_noted counter.Order s) j
        ≡ list_any (draws j) (edit.SetCounter counter.Order m ∷ edits)
    by counter.Approval = h.counters counter.Approval
    by counter.Build = h.counters counter.Build
    by counter.Order = refl

pub draw_is_noted : (e : Edit) (k : Counter) (m : ℕ) → e ≡ edit.SetCounter k m → (edits : List Edit) (s t : Later) →
    t ≡ drawn_noted k s → IsNotedOf edits s → IsNotedOf (e ∷ edits) t
draw_is_noted e k m is edits s t new h =
    subst (λ x. IsNotedOf (x ∷ edits) t) (sym is)
    (subst (IsNotedOf (edit.SetCounter k m ∷ edits)) (sym new) (draw_noted k m edits s h))

pub put_is_noted : (e : Edit) (k : Change) (a : Option ℕ) → e ≡ edit.PutChange k a → (edits : List Edit) (s : Later)
    (numbers : BTreeSet ℕ) → AreNumbersOf (edit.PutChange k a ∷ edits) numbers → IsNotedOf edits s →
    IsNotedOf (e ∷ edits) (record s { changes = numbers })
put_is_noted e k a is edits s numbers put h =
    subst (λ x. IsNotedOf (x ∷ edits) (record s { changes = numbers })) (sym is)
    (record { changes = put; counters = h.counters; windows = h.windows })

-- ---- the loop, which goes from the back

-- of all edits these are left; the later ones are gone through, and these of them stay, the last one first
pub record Thinning (made : Option ℕ) (all rest staying : List Edit) (noted : Later) : Type 0 where
  pub later : List Edit
  pub split : all ≡ rest ++ later
  pub stay : staying ≡ reverse (thinned made later)
  pub put : IsNotedOf later noted

pub thinning_next : {made : Option ℕ} {all rest staying : List Edit} {before : Later}
    (h : Thinning made all rest staying before) (e : Edit) (left more : List Edit) (stays : Bool) (noted : Later) →
    rest ≡ left ++ e ∷ [] → stays ≡ not (is_replaced e h.later || puts_back made e) →
    more ≡ cond stays (staying ++ e ∷ []) staying → IsNotedOf (e ∷ h.later) noted →
    Thinning made all left more noted
thinning_next {made = made} {staying = staying} h e left more stays noted taken told put numbers = record {
  later = e ∷ h.later;
  split = h.split ∙ ap (λ xs. xs ++ h.later) taken ∙ append_assoc left (e ∷ []) h.later;
  stay =
      put ∙ ap (λ b. cond b (staying ++ e ∷ []) staying) told ∙ by_test (is_replaced e h.later || puts_back made e);
  put = numbers;
}
  where
    by_test : (b : Bool) → cond (not b) (staying ++ e ∷ []) staying
        ≡ reverse (cond b (thinned made h.later) (e ∷ thinned made h.later))
    by_test true = h.stay
    by_test false = ap (λ xs. xs ++ e ∷ []) h.stay ∙ sym (reverse_onto (thinned made h.later) e [])
