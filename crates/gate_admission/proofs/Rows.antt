-- What stands under a key after rows were put and dropped.
use Rattle.std.proofs.Common.{◌≡◌, ℕ, Bool, true, false, not, ◌&&◌, cond, Option, Some, None, List, [], ◌∷◌, fold}
use Rattle.std.proofs.Common.{refl, sym, ap, ◌∙◌, true≢false}
use Rattle.std.specs.Prelude.{find, filter, nat_lt, ◌==◌, if◌then◌else◌, option_map}
use Rattle.std.specs.Option.{option_or}
use Rattle.std.proofs.lemmas.Bool.{eqb-true, eq-eqb}
use Rattle.gate_types.specs.declared.records.Change.{Change}
use Rattle.gate_types.specs.declared.records.Item.{Item as ItemRow}
use Rattle.gate_types.specs.declared.records.Stage.{Stage}
use Rattle.gate_types.specs.declared.rows.ChangeRow.{ChangeRow}
use Rattle.gate_types.specs.declared.edits.Edit.{Edit}
use Rattle.gate_types.specs.declared.edits.Edit.TheVariants as edit
use Rattle.gate_types.specs.Names.{same_name}
use Rattle.gate_types.specs.State.{known_or_closed, put_by}
use Rattle.gate_types.specs.Rows.{edited_items}
use Rattle.gate_types.specs.Tables.{at_stage, edited_changes, change_in, change_row_in}
use Rattle.gate_types.proofs.ChangedLemmas.{found_changed, found_key}
use Rattle.gate_types.proofs.PlainLemmas.{same_truth}
use Rattle.gate_admission.specs.Seen.{at_last, staged, change_put, last_put, last_stage, row_put, stage_put}
use Rattle.gate_admission.specs.Seen.{items_after, row_of_serial, fate_after, by_fate}
use Rattle.gate_admission.specs.declared.items.Fate.{Fate}
use Rattle.gate_admission.specs.declared.items.Fate.TheVariants as fate

-- a row that was put is found, and no other is lost
pub find_put : {X : Type 0} (key : X → ℕ) (k : ℕ) (x : X) (rows : List X) →
    find (λ r. key r == k) (put_by key x rows) ≡ cond (key x == k) (Some x) (find (λ r. key r == k) rows)
find_put key k x [] = refl
find_put {X = X} key k x (y ∷ ys) = by_same (key x == key y) refl (find_put key k x ys)
  where
    replaced : (b d : Bool) → b ≡ d →
        cond b (Some x) (find (λ r. key r == k) ys) ≡ cond b (Some x) (cond d (Some y) (find (λ r. key r == k) ys))
    replaced true d e = refl
    replaced false true e = absurd (true≢false (sym e))
    replaced false false e = refl

    apart : (b d : Bool) (o : Option X) → (b ≡ true → d ≡ false) →
        cond d (Some y) (cond b (Some x) o) ≡ cond b (Some x) (cond d (Some y) o)
    apart true true o e = absurd (true≢false (e refl))
    apart true false o e = refl
    apart false d o e = refl

    turned : (m n : ℕ) → m == n ≡ false → n == m ≡ false
    turned m n e = by_test (n == m) refl
      where
        by_test : (b : Bool) → n == m ≡ b → b ≡ false
        by_test true f = absurd (true≢false (sym (eq-eqb m n (sym (eqb-true n m f))) ∙ e))
        by_test false f = refl

    by_less : (l : Bool) → key x == key y ≡ false →
        find (λ r. key r == k) (put_by key x ys) ≡ cond (key x == k) (Some x) (find (λ r. key r == k) ys) →
        find (λ r. key r == k) (cond l (x ∷ y ∷ ys) (y ∷ put_by key x ys)) ≡
        cond (key x == k) (Some x) (find (λ r. key r == k) (y ∷ ys))
    by_less true e h = refl
    by_less false e h =
        ap (cond (key y == k) (Some y)) h
        ∙ apart (key x == k) (key y == k) (find (λ r. key r == k) ys)
        (λ f. ap (λ n. key y == n) (sym (eqb-true (key x) k f)) ∙ turned (key x) (key y) e)

    by_same : (b : Bool) → key x == key y ≡ b →
        find (λ r. key r == k) (put_by key x ys) ≡ cond (key x == k) (Some x) (find (λ r. key r == k) ys) →
        find (λ r. key r == k) (cond b (x ∷ ys) (cond (nat_lt (key x) (key y)) (x ∷ y ∷ ys) (y ∷ put_by key x ys))) ≡
        cond (key x == k) (Some x) (find (λ r. key r == k) (y ∷ ys))
    by_same true e h =
        replaced (key x == k) (key y == k) (ap (λ n. n == k) (eqb-true (key x) (key y) e))
    by_same false e h = by_less (nat_lt (key x) (key y)) e h

-- a row that was dropped isn't found, and no other is lost
pub find_dropped : {X : Type 0} (key : X → ℕ) (k d : ℕ) (rows : List X) →
    find (λ r. key r == k) (filter (λ r. not (key r == d)) rows) ≡ cond (d == k) None (find (λ r. key r == k) rows)
find_dropped {X = X} key k d [] = by_test (d == k)
  where
    none : Option X
    none = None

    by_test : (b : Bool) → none ≡ cond b none none
    by_test true = refl
    by_test false = refl
find_dropped {X = X} key k d (y ∷ ys) = by_test (key y == d) refl (find_dropped key k d ys)
  where
    gone : (b t : Bool) (o : Option X) → t ≡ b → cond b None o ≡ cond b None (cond t (Some y) o)
    gone true t o e = refl
    gone false true o e = absurd (true≢false e)
    gone false false o e = refl

    stays : (b t : Bool) (o : Option X) → (b ≡ true → t ≡ false) →
        cond t (Some y) (cond b None o) ≡ cond b None (cond t (Some y) o)
    stays true true o e = absurd (true≢false (e refl))
    stays true false o e = refl
    stays false t o e = refl

    by_test : (b : Bool) → key y == d ≡ b →
        find (λ r. key r == k) (filter (λ r. not (key r == d)) ys) ≡ cond (d == k) None (find (λ r. key r == k) ys) →
        find (λ r. key r == k) (cond (not b) (y ∷ filter (λ r. not (key r == d)) ys)
        (filter (λ r. not (key r == d)) ys))
        ≡ cond (d == k) None (find (λ r. key r == k) (y ∷ ys))
    by_test true e h = h
        ∙ gone (d == k) (key y == k) (find (λ r. key r == k) ys) (ap (λ n. n == k) (eqb-true (key y) d e))
    by_test false e h =
        ap (cond (key y == k) (Some y)) h
        ∙ stays (d == k) (key y == k) (find (λ r. key r == k) ys)
        (λ f. ap (λ n. key y == n) (sym (eqb-true d k f)) ∙ e)

-- ---- changes

pub turned : (a b : ℕ) → a == b ≡ b == a
turned a b =
    same_truth (a == b) (b == a) (λ e. eq-eqb b a (sym (eqb-true a b e))) (λ e. eq-eqb a b (sym (eqb-true b a e)))

-- the row of a change after an edit
change_step : (n : ℕ) (rows : List ChangeRow) (e : Edit) →
    change_in (edited_changes rows e) n ≡ change_put n (change_in rows n) e
change_step n rows (edit.PutChange k approval) =
    ap (option_map (λ (r : ChangeRow). r.change))
    (find_put (λ (r : ChangeRow). r.change.number) n (record { change = k; approval = approval }) rows)
    ∙ by_test (k.number == n)
  where
    by_test : (b : Bool) → option_map (λ (r : ChangeRow). r.change)
        (cond b (Some (record { change = k; approval = approval })) (change_row_in rows n)) ≡
        cond b (Some k) (change_in rows n)
    by_test true = refl
    by_test false = refl
change_step n rows (edit.SetStage m g) =
    ap (option_map (λ (r : ChangeRow). r.change))
    (found_changed (λ (r : ChangeRow). r.change.number) m (at_stage g) (λ r. refl) n rows)
    ∙ by_row (change_row_in rows n) (λ r e. found_key (λ (k : ChangeRow). k.change.number) n rows r e)
  where
    by_row : (o : Option ChangeRow) → ((r : ChangeRow) → o ≡ Some r → r.change.number ≡ n) →
        option_map (λ (r : ChangeRow). r.change)
        (option_map (λ (r : ChangeRow). cond (r.change.number == m) (at_stage g r) r) o)
        ≡ cond (m == n) (option_map (staged g) (option_map (λ (r : ChangeRow). r.change) o))
        (option_map (λ (r : ChangeRow). r.change) o)
    by_row None its =
        elim (m == n) as (λ b. ◌≡◌ {A = Option Change} None (cond b None None)) [ true ↦ refl | false ↦ refl ]
    by_row (Some r) its =
        ap (λ k. option_map (λ (q : ChangeRow). q.change) (Some (cond (k == m) (at_stage g r) r))) (its r refl)
        ∙ ap (λ b. option_map (λ (q : ChangeRow). q.change) (Some (cond b (at_stage g r) r))) (turned n m)
        ∙ elim (m == n) as (λ b. option_map (λ (q : ChangeRow). q.change) (Some (cond b (at_stage g r) r))
        ≡ cond b (Some (staged g r.change)) (Some r.change)) [ true ↦ refl | false ↦ refl ]
change_step n rows (edit.PutItem q i) = refl
change_step n rows (edit.DropItem k) = refl
change_step n rows (edit.LandItem k) = refl
change_step n rows (edit.PutPlan k) = refl
change_step n rows (edit.PutLanding q p l) = refl
change_step n rows (edit.PutReport q p r) = refl
change_step n rows (edit.PutBuild b) = refl
change_step n rows (edit.SetOutcome b o) = refl
change_step n rows (edit.StopBuild b) = refl
change_step n rows (edit.SetWindow q w) = refl
change_step n rows (edit.SetCounter k d) = refl
change_step n rows (edit.Keep k) = refl

pub changes_fold : (n : ℕ) (rows : List ChangeRow) (edits : List Edit) →
    change_in (fold edited_changes rows edits) n ≡ fold (change_put n) (change_in rows n) edits
changes_fold n rows [] = refl
changes_fold n rows (e ∷ es) =
    changes_fold n (edited_changes rows e) es ∙ ap (λ o. fold (change_put n) o es) (change_step n rows e)

-- the project stays, whatever the stage
pub same_project : (s : Option Stage) (o : Option Change) →
    (known_or_closed (at_last s o)).project ≡ (known_or_closed o).project
same_project None o = refl
same_project (Some g) None = refl
same_project (Some g) (Some k) = refl

-- of two stages the later stands
set_twice : (g : Stage) (s : Option Stage) (o : Option Change) →
    option_map (staged g) (at_last s o) ≡ option_map (staged g) o
set_twice g None o = refl
set_twice g (Some h) None = refl
set_twice g (Some h) (Some k) = refl

-- the last that was put, else what was there, at the stage that was set since then
put_step : (n : ℕ) (s : Option Stage) (o p : Option Change) (e : Edit) →
    change_put n (at_last s (option_or o p)) e ≡ at_last (stage_put n s e) (option_or (row_put n o e) p)
put_step n s o p (edit.PutChange k approval) = by_test (k.number == n)
  where
    by_test : (b : Bool) →
        cond b (Some k) (at_last s (option_or o p)) ≡ at_last (cond b None s) (option_or (cond b (Some k) o) p)
    by_test true = refl
    by_test false = refl
put_step n s o p (edit.SetStage m g) = by_test (m == n)
  where
    by_test : (b : Bool) → cond b (option_map (staged g) (at_last s (option_or o p))) (at_last s (option_or o p))
        ≡ at_last (cond b (Some g) s) (option_or o p)
    by_test true = set_twice g s (option_or o p)
    by_test false = refl
put_step n s o p (edit.PutItem q i) = refl
put_step n s o p (edit.DropItem k) = refl
put_step n s o p (edit.LandItem k) = refl
put_step n s o p (edit.PutPlan k) = refl
put_step n s o p (edit.PutLanding q r l) = refl
put_step n s o p (edit.PutReport q l r) = refl
put_step n s o p (edit.PutBuild b) = refl
put_step n s o p (edit.SetOutcome b q) = refl
put_step n s o p (edit.StopBuild b) = refl
put_step n s o p (edit.SetWindow q w) = refl
put_step n s o p (edit.SetCounter k d) = refl
put_step n s o p (edit.Keep k) = refl

put_or : (n : ℕ) (s : Option Stage) (o p : Option Change) (edits : List Edit) →
    fold (change_put n) (at_last s (option_or o p)) edits
    ≡ at_last (fold (stage_put n) s edits) (option_or (fold (row_put n) o edits) p)
put_or n s o p [] = refl
put_or n s o p (e ∷ es) =
    ap (λ q. fold (change_put n) q es) (put_step n s o p e) ∙ put_or n (stage_put n s e) (row_put n o e) p es

pub last_or : (n : ℕ) (p : Option Change) (edits : List Edit) →
    fold (change_put n) p edits ≡ at_last (last_stage n edits) (option_or (last_put n edits) p)
last_or n p edits = put_or n None None p edits

-- ---- items

-- the item of a serial in a queue after an edit
abbrev pub item_after : List ℕ → ℕ → Option ItemRow → Edit → Option ItemRow
item_after name serial item (edit.PutItem queue i) = if same_name queue name && i.serial == serial then Some i else item
item_after name serial item (edit.DropItem k) = if k == serial then None else item
item_after name serial item (edit.LandItem k) = if k == serial then None else item
item_after name serial item _ = item

item_step : (name : List ℕ) (serial : ℕ) (rows : List ItemRow) (e : Edit) →
    row_of_serial serial (edited_items name rows e) ≡ item_after name serial (row_of_serial serial rows) e
item_step name serial rows (edit.PutItem q i) = by_name (same_name q name)
  where
    by_name : (b : Bool) → row_of_serial serial (cond b (put_by (λ j. j.serial) i rows) rows) ≡
        cond (b && i.serial == serial) (Some i) (row_of_serial serial rows)
    by_name true = find_put (λ (j : ItemRow). j.serial) serial i rows
    by_name false = refl
item_step name serial rows (edit.DropItem k) = find_dropped (λ (j : ItemRow). j.serial) serial k rows
item_step name serial rows (edit.LandItem k) = find_dropped (λ (j : ItemRow). j.serial) serial k rows
item_step name serial rows (edit.PutChange k a) = refl
item_step name serial rows (edit.SetStage k g) = refl
item_step name serial rows (edit.PutPlan k) = refl
item_step name serial rows (edit.PutLanding q p l) = refl
item_step name serial rows (edit.PutReport q p r) = refl
item_step name serial rows (edit.PutBuild b) = refl
item_step name serial rows (edit.SetOutcome b o) = refl
item_step name serial rows (edit.StopBuild b) = refl
item_step name serial rows (edit.SetWindow q w) = refl
item_step name serial rows (edit.SetCounter k d) = refl
item_step name serial rows (edit.Keep k) = refl

-- an item by its serial
pub items_fold : (name : List ℕ) (serial : ℕ) (rows : List ItemRow) (edits : List Edit) →
    fold (item_after name serial) (row_of_serial serial rows) edits ≡ row_of_serial serial (items_after name rows edits)
items_fold name serial rows [] = refl
items_fold name serial rows (e ∷ es) =
    ap (λ o. fold (item_after name serial) o es) (sym (item_step name serial rows e))
    ∙ items_fold name serial (edited_items name rows e) es

gone_step : (o : Option ItemRow) (f : Fate) (b : Bool) → cond b None (by_fate o f) ≡ by_fate o (cond b fate.Dropped f)
gone_step o f true = refl
gone_step o f false = refl

-- the edits decide, or the stored item stays
fate_step : (name : List ℕ) (serial : ℕ) (o : Option ItemRow) (f : Fate) (e : Edit) →
    item_after name serial (by_fate o f) e ≡ by_fate o (fate_after name serial f e)
fate_step name serial o f (edit.PutItem q i) = by_test (same_name q name && i.serial == serial)
  where
    by_test : (b : Bool) → cond b (Some i) (by_fate o f) ≡ by_fate o (cond b (fate.Put i) f)
    by_test true = refl
    by_test false = refl
fate_step name serial o f (edit.DropItem k) = gone_step o f (k == serial)
fate_step name serial o f (edit.LandItem k) = gone_step o f (k == serial)
fate_step name serial o f (edit.PutChange k a) = refl
fate_step name serial o f (edit.SetStage k g) = refl
fate_step name serial o f (edit.PutPlan k) = refl
fate_step name serial o f (edit.PutLanding q p l) = refl
fate_step name serial o f (edit.PutReport q p l) = refl
fate_step name serial o f (edit.PutBuild b) = refl
fate_step name serial o f (edit.SetOutcome b u) = refl
fate_step name serial o f (edit.StopBuild b) = refl
fate_step name serial o f (edit.SetWindow q w) = refl
fate_step name serial o f (edit.SetCounter k d) = refl
fate_step name serial o f (edit.Keep k) = refl

fate_fold : (name : List ℕ) (serial : ℕ) (o : Option ItemRow) (f : Fate) (edits : List Edit) →
    fold (item_after name serial) (by_fate o f) edits ≡ by_fate o (fold (fate_after name serial) f edits)
fate_fold name serial o f [] = refl
fate_fold name serial o f (e ∷ es) =
    ap (λ p. fold (item_after name serial) p es) (fate_step name serial o f e)
    ∙ fate_fold name serial o (fate_after name serial f e) es

pub item_by_fate : (name : List ℕ) (serial : ℕ) (rows : List ItemRow) (edits : List Edit) →
    by_fate (row_of_serial serial rows) (fold (fate_after name serial) fate.Stays edits) ≡
    row_of_serial serial (items_after name rows edits)
item_by_fate name serial rows edits =
    sym (fate_fold name serial (row_of_serial serial rows) fate.Stays edits) ∙ items_fold name serial rows edits
