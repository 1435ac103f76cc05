-- What an INSERT that ends well says of the rows that were there.
use Rattle.std.proofs.Common.{◌≡◌, ◌≤◌, ◌<◌, ℕ, zero, suc, pos, List, [], ◌∷◌, filter, length, take, ltb, Bool}
use Rattle.std.proofs.Common.{true, false, not, cond, ◌&&◌, eqb, Ok, refl, sym, subst, arith, append-nil}
use Rattle.std.proofs.Common.{is_eq}
use Rattle.std.specs.List.{AllByRecursion, list_any}
use Rattle.std.proofs.lemmas.Bool.{and_parts, not-true}
use Rattle.std.proofs.lemmas.Bool.Decides.{nat_tests}
use Rattle.sqlite.specs.Cast.{cast_row}
use Rattle.sqlite.specs.Command.TheVariants.{Insert}
use Rattle.sqlite.specs.Edit.{are_fresh, with_rowid}
use Rattle.sqlite.specs.Listing.{understood}
use Rattle.sqlite.specs.Order.{Row, value_cmp}
use Rattle.sqlite.specs.Rowids.TheVariants.{Chosen}
use Rattle.sqlite.specs.Source.TheVariants.{Values}
use Rattle.sqlite.specs.State.{State, ExecutesInside}
use Rattle.sqlite.specs.declared.types.Value.TheVariants.{Int}
use Rattle.sqlite.proofs.Callers.{runs_as, statement_of}
use Rattle.sqlite_catalog.specs.Listing.{IsSound}
use Rattle.sqlite_keyed.specs.Keyed.{IsKeyedBy}
use Rattle.sqlite_keyed.proofs.ListLemmas.{all_kept, filter-filter}
use Rattle.sqlite_trees.specs.Tree.{rowid}
use Rattle.gate_types.specs.Names.{same_name}
use Rattle.gate_types.specs.declared.config.Job.{Job}
use Rattle.gate_schema.specs.Rows.{AreNamed, Changes, IsReady, ItemRow, JobRow, QueueLanding, QueueReport, Stands}
use Rattle.gate_schema.specs.Rows.{Stored, item_key, item_table_row, job_columns, landing_columns, report_columns}
use Rattle.gate_schema.specs.Edits.{add_jobs, job_rows}
use Rattle.gate_schema.specs.Schema.{gate_schema, item_table_at}
use Rattle.gate_schema.proofs.ItemTable.{add_item_is, add_item_sql, add_item_terms, is_of, item_params}
use Rattle.gate_schema.proofs.ChangeLemmas.{none_has, one_keyed}
use Rattle.gate_schema.proofs.JobTable.{add_job_is, add_job_sql, add_job_terms, adds_job}
use Rattle.gate_schema.proofs.LandingTable.{add_landing_is, add_landing_sql, add_landing_terms, adds_landing}
use Rattle.gate_schema.proofs.ReportTable.{add_report_is, add_report_sql, add_report_terms, adds_report}
use Rattle.gate_schema.proofs.RowLemmas.{cast_int, cast_null, cast_or_null}
use Rattle.gate_schema.proofs.WriteLemmas.{inserts}
use Rattle.gate_rows.specs.Matches.{IsFree}
use Rattle.gate_rows.proofs.UniqueLemmas.{job_place_free, landing_place_free, report_place_free}

-- ---- items

-- an INSERT of an item finds no item of its serial
pub serial_free : (x : ItemRow) (old new : State) (count : ℕ) → IsReady old → ExecutesInside 0 add_item_sql (item_params x) old new (Ok count)
    → (b : Stored) → AreNamed b → Stands old.now.trees b → AllByRecursion (λ (y : ItemRow). eqb y.item.serial x.item.serial ≡ false) b.items
serial_free x old new count ready h b named stands =
    let params = item_params x in
    let w = runs_as add_item_sql params old new gate_schema ready.schema_is (Insert 5 (Values add_item_terms 7)) add_item_is.0 add_item_is.1 count h.0 in
    let e = inserts gate_schema (λ _ _ _. refl) old new ready.schema_is 5 (item_table_at 11) refl (statement_of add_item_sql (understood gate_schema add_item_sql)) params count refl (Values add_item_terms 7) w in
    let rows : e.0 ≡ item_table_row x ∷ [] = e.1.1 in
    let stored : cast_row (item_table_at 11) (item_table_row x) ≡ item_table_row x = rw (cast_int, cast_null, cast_int, cast_int, cast_or_null, cast_int) in
    let one : are_fresh (old.now.trees 11) (with_rowid Chosen (old.now.trees 11) (cast_row (item_table_at 11) (item_table_row x)) ∷ []) ≡ true = rw rows at e.2.applies.fresh in
    let fresh : are_fresh (old.now.trees 11) (item_table_row x ∷ []) ≡ true =
    subst (λ r. are_fresh (old.now.trees 11) (with_rowid Chosen (old.now.trees 11) r ∷ []) ≡ true) stored one in
    none_has item_key item_table_row (λ y. refl) x.item.serial b.items
    (subst (λ rs. list_any (λ (r : Row). is_eq (value_cmp (rowid r) (Int (pos x.item.serial)))) rs ≡ false) stands.item.rows_are (not-true _ (and_parts _ _ fresh).0))

-- where no item of a serial is left once that of a queue is taken out, no other queue has one
pub others_differ : (n : ℕ) (name : List ℕ) (rows : List ItemRow)
    → AllByRecursion (λ (y : ItemRow). eqb y.item.serial n ≡ false) (filter (λ (y : ItemRow). not (eqb (item_key y) n && same_name y.queue name)) rows)
    → AllByRecursion (λ (y : ItemRow). eqb y.item.serial n ≡ true → same_name y.queue name ≡ true) rows
others_differ n name [] free = tt
others_differ n name (y ∷ ys) free = go (eqb y.item.serial n) refl (same_name y.queue name) refl free (others_differ n name ys)
  where
    go : (c : Bool) → eqb y.item.serial n ≡ c → (m : Bool) → same_name y.queue name ≡ m
        → AllByRecursion (λ (y : ItemRow). eqb y.item.serial n ≡ false)
        (cond (not (c && m)) (y ∷ filter (λ (y : ItemRow). not (eqb (item_key y) n && same_name y.queue name)) ys) (filter (λ (y : ItemRow). not (eqb (item_key y) n && same_name y.queue name)) ys))
        → (AllByRecursion (λ (y : ItemRow). eqb y.item.serial n ≡ false) (filter (λ (y : ItemRow). not (eqb (item_key y) n && same_name y.queue name)) ys)
        → AllByRecursion (λ (y : ItemRow). eqb y.item.serial n ≡ true → same_name y.queue name ≡ true) ys)
        → AllByRecursion (λ (y : ItemRow). eqb y.item.serial n ≡ true → same_name y.queue name ≡ true) (y ∷ ys)
    go true e true f free more = ((λ _. f), more free)
    go true e false f free more = ((λ _. absurd (let no = free.0 in cc)), more free.1)
    go false e m f free more = ((λ is. absurd cc), more free.1)

-- where one of a serial is found in a queue, no other queue has one
pub alone_found : (x : ItemRow) (rows : List ItemRow) → IsKeyedBy (λ y. pos (item_key y)) rows → (count : ℕ) → count ≡ length (filter (is_of x) rows) → ltb 0 count ≡ true
    → AllByRecursion (λ (y : ItemRow). eqb y.item.serial x.item.serial ≡ true → same_name y.queue x.queue ≡ true) rows
alone_found x rows up count is found =
    let mine : ItemRow → Bool = λ y. eqb (item_key y) (item_key x) in
    let few : length (filter mine rows) ≤ 1 = one_keyed item_key item_table_row (λ y. refl) (item_key x) mine (λ y e. e) rows up in
    let some : 0 < length (filter (is_of x) (filter mine rows)) = rw (filter-filter (is_of x) mine (λ y e. (and_parts _ _ e).0) rows, sym is) (grind (arith, nat_tests)) in
    all_kept (λ y. same_name y.queue x.queue ≡ true) mine rows (go (filter mine rows) few some)
  where
    its : (y : ItemRow) (b : Bool) → is_of x y ≡ b → 0 < length (cond b (y ∷ []) []) → same_name y.queue x.queue ≡ true
    its y true e some = (and_parts _ _ e).1
    its y false e some = absurd (omega arith)

    go : (ys : List ItemRow) → length ys ≤ 1 → 0 < length (filter (is_of x) ys) → AllByRecursion (λ (y : ItemRow). same_name y.queue x.queue ≡ true) ys
    go [] few some = tt
    go (y ∷ []) few some = (its y (is_of x y) refl some, tt)
    go (y ∷ z ∷ ys) few some = absurd (omega arith)

-- ---- landings and reports

-- an INSERT of a landing finds its place free
pub landing_free : (x : QueueLanding) (old new : State) (count : ℕ) → IsReady old → ExecutesInside 0 add_landing_sql (landing_columns x) old new (Ok count)
    → (b : Stored) → AreNamed b → Stands old.now.trees b → AllByRecursion (λ (y : QueueLanding). (same_name y.queue x.queue && eqb y.row.place x.row.place) ≡ false) b.landings
landing_free x old new count ready h b named stands =
    let w = runs_as add_landing_sql (landing_columns x) old new gate_schema ready.schema_is (Insert 7 (Values add_landing_terms 6)) add_landing_is.0 add_landing_is.1 count h.0 in
    let made = adds_landing x old new count ready h in
    landing_place_free new.now.trees b.landings x (subst (λ s. IsSound s new.now.trees) made.ready.schema_is w.sound) (made.stands b named stands).landing

-- an INSERT of a report finds its place free
pub report_free : (x : QueueReport) (old new : State) (count : ℕ) → IsReady old → ExecutesInside 0 add_report_sql (report_columns x) old new (Ok count)
    → (b : Stored) → AreNamed b → Stands old.now.trees b → AllByRecursion (λ (y : QueueReport). (same_name y.queue x.queue && eqb y.row.place x.row.place) ≡ false) b.reports
report_free x old new count ready h b named stands =
    let w = runs_as add_report_sql (report_columns x) old new gate_schema ready.schema_is (Insert 8 (Values add_report_terms 8)) add_report_is.0 add_report_is.1 count h.0 in
    let made = adds_report x old new count ready h in
    report_place_free new.now.trees b.reports x (subst (λ s. IsSound s new.now.trees) made.ready.schema_is w.sound) (made.stands b named stands).report

-- ---- jobs

-- an INSERT of a job finds its place free
pub job_free : (x : JobRow) (old new : State) (count : ℕ) → IsReady old → ExecutesInside 0 add_job_sql (job_columns x) old new (Ok count)
    → (b : Stored) → AreNamed b → Stands old.now.trees b → IsFree x.serial x.place b
job_free x old new count ready h b named stands =
    let w = runs_as add_job_sql (job_columns x) old new gate_schema ready.schema_is (Insert 10 (Values add_job_terms 5)) add_job_is.0 add_job_is.1 count h.0 in
    let made = adds_job x old new count ready h in
    job_place_free new.now.trees b.jobs x (subst (λ s. IsSound s new.now.trees) made.ready.schema_is w.sound) (made.stands b named stands).job

-- so the first of some jobs, added one after another, finds its place free
pub first_free : (first old : State) (n i : ℕ) (jobs : List Job) → Changes first old (add_jobs (job_rows n 0 (take i jobs)))
    → ((b : Stored) → AreNamed b → Stands first.now.trees b → 0 < i → IsFree n 0 b) → ((b : Stored) → AreNamed b → Stands old.now.trees b → IsFree n i b)
    → (b : Stored) → AreNamed b → Stands first.now.trees b → IsFree n 0 b
first_free first old n zero jobs change was free b named stands =
    subst (AllByRecursion (λ (y : JobRow). (eqb y.serial n && eqb y.place 0) ≡ false)) (append-nil b.jobs) (free (add_jobs [] b) (change.named b named) (change.stands b named stands))
first_free first old n (suc i) jobs change was free b named stands = was b named stands (omega arith)
