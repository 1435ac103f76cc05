-- Lists of records beside the rows of a table.
use Rattle.std.proofs.Common.{◌≡◌, ◌≢◌, ℕ, List, [], ◌∷◌, ◌++◌, map, drop, false, IsTrue, refl, sym, ap, subst, ◌∙◌}
use Rattle.std.proofs.Common.{arith, eqb}
use Rattle.std.proofs.lemmas.Bool.Decides.{nat_tests}
use Rattle.sqlite.specs.Order.{Row}
use Rattle.sqlite.specs.declared.types.Value.TheVariants.{Int}
use Rattle.sqlite.specs.Tree.{Trees}
use Rattle.sqlite.specs.State.{State}
use Rattle.sqlite.specs.Edit.{Edit, next_rowid, numbered}
use Rattle.sqlite_trees.specs.Tree.{rowid, put_row}
use Rattle.sqlite_trees.specs.Objects.{catalog_tree}
use Rattle.sqlite_trees.specs.View.{is_int}
use Rattle.sqlite_trees.proofs.TreeLemmas.{IsTable-put_row, all-put_row}
use Rattle.sqlite_catalog.specs.Listing.{Lists}
use Rattle.gate_types.specs.declared.records.Build.{Build}
use Rattle.gate_types.specs.declared.records.Kept.{Kept}
use Rattle.gate_types.specs.declared.rows.ChangeRow.{ChangeRow}
use Rattle.gate_schema.specs.Schema.{gate_schema}
use Rattle.gate_schema.specs.Rows.{Stored, Stands, IsNumbered, IsListed, IsKeyed, IsFixed}
use Rattle.gate_schema.specs.Rows as rows
use Rattle.gate_schema.proofs.WriteLemmas.{Edits}
use Rattle.gate_schema.proofs.NumberLemmas.{put_next}
use Rattle.std.proofs.lemmas.List.{map-append}

pub apart : (m n : ℕ) → eqb m n ≡ false → m ≢ n
apart m n e same = absurd (grind (arith, nat_tests))

-- ---- the other tables stay

-- what stands for the content in the trees other than one
pub record Others (t : ℕ) (db : Trees) (b : Stored) : Type 0 where
  pub listed : Lists (db catalog_tree) gate_schema
  pub meta : eqb 0 t ≡ false → IsFixed (rows.meta_columns b.settings) (db 0)
  pub counter : eqb 2 t ≡ false → IsFixed (rows.counter_columns b.counters) (db 2)
  pub queue : eqb 4 t ≡ false → IsListed rows.queue_columns (db 4) b.queues
  pub change : eqb 7 t ≡ false → IsKeyed rows.change_key rows.change_table_row (db 7) b.changes
  pub need : eqb 9 t ≡ false → IsListed rows.need_columns (db 9) b.needs
  pub item : eqb 11 t ≡ false → IsKeyed rows.item_key rows.item_table_row (db 11) b.items
  pub build : eqb 13 t ≡ false → IsKeyed rows.build_key rows.build_table_row (db 13) b.builds
  pub landing : eqb 14 t ≡ false → IsListed rows.landing_columns (db 14) b.landings
  pub report : eqb 18 t ≡ false → IsListed rows.report_columns (db 18) b.reports
  pub delivery : eqb 21 t ≡ false → IsListed rows.kept_columns (db 21) b.kept
  pub job : eqb 26 t ≡ false → IsListed rows.job_columns (db 26) b.jobs
  pub fast : eqb 28 t ≡ false → IsKeyed rows.fast_key rows.fast_table_row (db 28) b.fast

pub others_stay : (old new : State) (edit : Edit) (t : ℕ) (b : Stored) → Edits gate_schema old new edit → edit.table.tree ≡ t → eqb catalog_tree t ≡ false → Stands old.now.trees b → Others t new.now.trees b
others_stay old new edit t b made is far stands =
    let db = old.now.trees in
    let next = new.now.trees in
    let same = made.applies.tables in
    let no : (n : ℕ) → eqb n t ≡ false → n ≢ edit.table.tree = λ n e f. apart n t e (f ∙ is) in
    let catalog : next catalog_tree ≡ db catalog_tree = made.applies.others catalog_tree (no catalog_tree far)
    (apart 1 catalog_tree refl, (apart 3 catalog_tree refl, (apart 5 catalog_tree refl, (apart 6 catalog_tree refl, (apart 8 catalog_tree refl, (apart 10 catalog_tree refl, (apart 12 catalog_tree refl, (apart 15 catalog_tree refl, (apart 16 catalog_tree refl, (apart 17 catalog_tree refl, (apart 19 catalog_tree refl, (apart 20 catalog_tree refl, (apart 22 catalog_tree refl, (apart 23 catalog_tree refl, (apart 24 catalog_tree refl, (apart 25 catalog_tree refl, (apart 27 catalog_tree refl, tt))))))))))))))))) in
    record {
      listed = subst (λ rs. Lists rs gate_schema) (sym catalog) stands.listed;
      meta = λ e. subst (IsFixed (rows.meta_columns b.settings)) (sym (same.0 (no 0 e))) stands.meta;
      counter = λ e. subst (IsFixed (rows.counter_columns b.counters)) (sym (same.1.0 (no 2 e))) stands.counter;
      queue = λ e. subst (λ rs. IsListed rows.queue_columns rs b.queues) (sym (same.1.1.0 (no 4 e))) stands.queue;
      change = λ e. subst (λ rs. IsKeyed rows.change_key rows.change_table_row rs b.changes) (sym (same.1.1.1.0 (no 7 e))) stands.change;
      need = λ e. subst (λ rs. IsListed rows.need_columns rs b.needs) (sym (same.1.1.1.1.0 (no 9 e))) stands.need;
      item = λ e. subst (λ rs. IsKeyed rows.item_key rows.item_table_row rs b.items) (sym (same.1.1.1.1.1.0 (no 11 e))) stands.item;
      build = λ e. subst (λ rs. IsKeyed rows.build_key rows.build_table_row rs b.builds) (sym (same.1.1.1.1.1.1.0 (no 13 e))) stands.build;
      landing = λ e. subst (λ rs. IsListed rows.landing_columns rs b.landings) (sym (same.1.1.1.1.1.1.1.0 (no 14 e))) stands.landing;
      report = λ e. subst (λ rs. IsListed rows.report_columns rs b.reports) (sym (same.1.1.1.1.1.1.1.1.0 (no 18 e))) stands.report;
      delivery = λ e. subst (λ rs. IsListed rows.kept_columns rs b.kept) (sym (same.1.1.1.1.1.1.1.1.1.0 (no 21 e))) stands.delivery;
      job = λ e. subst (λ rs. IsListed rows.job_columns rs b.jobs) (sym (same.1.1.1.1.1.1.1.1.1.1.0 (no 26 e))) stands.job;
      fast = λ e. subst (λ rs. IsKeyed rows.fast_key rows.fast_table_row rs b.fast) (sym (same.1.1.1.1.1.1.1.1.1.1.1.0 (no 28 e))) stands.fast;
    }

pub with_counters : (db : Trees) (b : Stored) (x : Rattle.gate_types.specs.Counters.Drawn) → Others 2 db b → IsFixed (rows.counter_columns x) (db 2) → Stands db (record b { counters = x })
with_counters db b x o h = record { listed = o.listed; meta = o.meta refl; counter = h; queue = o.queue refl; change = o.change refl; need = o.need refl; item = o.item refl; build = o.build refl; landing = o.landing refl; report = o.report refl; delivery = o.delivery refl; job = o.job refl; fast = o.fast refl }

pub with_queues : (db : Trees) (b : Stored) (x : List rows.QueueRow) → Others 4 db b → IsListed rows.queue_columns (db 4) x → Stands db (record b { queues = x })
with_queues db b x o h = record { listed = o.listed; meta = o.meta refl; counter = o.counter refl; queue = h; change = o.change refl; need = o.need refl; item = o.item refl; build = o.build refl; landing = o.landing refl; report = o.report refl; delivery = o.delivery refl; job = o.job refl; fast = o.fast refl }

pub with_changes : (db : Trees) (b : Stored) (x : List ChangeRow) → Others 7 db b → IsKeyed rows.change_key rows.change_table_row (db 7) x → Stands db (record b { changes = x })
with_changes db b x o h = record { listed = o.listed; meta = o.meta refl; counter = o.counter refl; queue = o.queue refl; change = h; need = o.need refl; item = o.item refl; build = o.build refl; landing = o.landing refl; report = o.report refl; delivery = o.delivery refl; job = o.job refl; fast = o.fast refl }

pub with_needs : (db : Trees) (b : Stored) (x : List rows.NeedRow) → Others 9 db b → IsListed rows.need_columns (db 9) x → Stands db (record b { needs = x })
with_needs db b x o h = record { listed = o.listed; meta = o.meta refl; counter = o.counter refl; queue = o.queue refl; change = o.change refl; need = h; item = o.item refl; build = o.build refl; landing = o.landing refl; report = o.report refl; delivery = o.delivery refl; job = o.job refl; fast = o.fast refl }

pub with_items : (db : Trees) (b : Stored) (x : List rows.ItemRow) → Others 11 db b → IsKeyed rows.item_key rows.item_table_row (db 11) x → Stands db (record b { items = x })
with_items db b x o h = record { listed = o.listed; meta = o.meta refl; counter = o.counter refl; queue = o.queue refl; change = o.change refl; need = o.need refl; item = h; build = o.build refl; landing = o.landing refl; report = o.report refl; delivery = o.delivery refl; job = o.job refl; fast = o.fast refl }

pub with_builds : (db : Trees) (b : Stored) (x : List Build) → Others 13 db b → IsKeyed rows.build_key rows.build_table_row (db 13) x → Stands db (record b { builds = x })
with_builds db b x o h = record { listed = o.listed; meta = o.meta refl; counter = o.counter refl; queue = o.queue refl; change = o.change refl; need = o.need refl; item = o.item refl; build = h; landing = o.landing refl; report = o.report refl; delivery = o.delivery refl; job = o.job refl; fast = o.fast refl }

pub with_landings : (db : Trees) (b : Stored) (x : List rows.QueueLanding) → Others 14 db b → IsListed rows.landing_columns (db 14) x → Stands db (record b { landings = x })
with_landings db b x o h = record { listed = o.listed; meta = o.meta refl; counter = o.counter refl; queue = o.queue refl; change = o.change refl; need = o.need refl; item = o.item refl; build = o.build refl; landing = h; report = o.report refl; delivery = o.delivery refl; job = o.job refl; fast = o.fast refl }

pub with_reports : (db : Trees) (b : Stored) (x : List rows.QueueReport) → Others 18 db b → IsListed rows.report_columns (db 18) x → Stands db (record b { reports = x })
with_reports db b x o h = record { listed = o.listed; meta = o.meta refl; counter = o.counter refl; queue = o.queue refl; change = o.change refl; need = o.need refl; item = o.item refl; build = o.build refl; landing = o.landing refl; report = h; delivery = o.delivery refl; job = o.job refl; fast = o.fast refl }

pub with_kept : (db : Trees) (b : Stored) (x : List Kept) → Others 21 db b → IsListed rows.kept_columns (db 21) x → Stands db (record b { kept = x })
with_kept db b x o h = record { listed = o.listed; meta = o.meta refl; counter = o.counter refl; queue = o.queue refl; change = o.change refl; need = o.need refl; item = o.item refl; build = o.build refl; landing = o.landing refl; report = o.report refl; delivery = h; job = o.job refl; fast = o.fast refl }

pub with_jobs : (db : Trees) (b : Stored) (x : List rows.JobRow) → Others 26 db b → IsListed rows.job_columns (db 26) x → Stands db (record b { jobs = x })
with_jobs db b x o h = record { listed = o.listed; meta = o.meta refl; counter = o.counter refl; queue = o.queue refl; change = o.change refl; need = o.need refl; item = o.item refl; build = o.build refl; landing = o.landing refl; report = o.report refl; delivery = o.delivery refl; job = h; fast = o.fast refl }

pub with_fast : (db : Trees) (b : Stored) (x : List ℕ) → Others 28 db b → IsKeyed rows.fast_key rows.fast_table_row (db 28) x → Stands db (record b { fast = x })
with_fast db b x o h = record { listed = o.listed; meta = o.meta refl; counter = o.counter refl; queue = o.queue refl; change = o.change refl; need = o.need refl; item = o.item refl; build = o.build refl; landing = o.landing refl; report = o.report refl; delivery = o.delivery refl; job = o.job refl; fast = h }

-- ---- a row more

pub numbered_next : (columns : Row) (rs : List Row) → IsNumbered rs → IsNumbered (rs ++ (Int (next_rowid rs) ∷ columns) ∷ [])
numbered_next columns rs numbered =
    subst IsNumbered (put_next columns rs numbered)
    (IsTable-put_row (Int (next_rowid rs) ∷ columns) rs numbered.0, all-put_row (λ r. IsTrue (is_int (rowid r))) (Int (next_rowid rs) ∷ columns) rs refl numbered.1)

-- A row with no rowid goes to the end.
pub listed_next : {X : Type 0} (columns : X → Row) (rs : List Row) (xs : List X) (x : X) → IsListed columns rs xs → IsListed columns (put_row (Int (next_rowid rs) ∷ columns x) rs) (xs ++ x ∷ [])
listed_next columns rs xs x h = record {
  columns_are = ap (map (drop 1)) (put_next (columns x) rs h.numbered) ∙ map-append (drop 1) rs _ ∙ ap (λ l. l ++ columns x ∷ []) h.columns_are ∙ sym (map-append columns xs (x ∷ []));
  numbered = subst IsNumbered (sym (put_next (columns x) rs h.numbered)) (numbered_next (columns x) rs h.numbered);
}
