-- What is asked of the past, of the file's rows and of a content.
use Rattle.std.proofs.Common.{◌≡◌, ◌≤◌, ℕ, suc, true, ◌&&◌, Option, Some, None, List, [], ◌∷◌, filter, length, map}
use Rattle.std.proofs.Common.{refl, sym, ap, ◌∙◌, subst, inl, inr, arith}
use Rattle.std.specs.Prelude.{◌==◌, flat_map, IsPermutation}
use Rattle.std.specs.List.{AllPass}
use Rattle.std.specs.Option.{option_map_or}
use Rattle.std.proofs.lemmas.Bool.{and_from, and_parts, eqb-true, leb-true}
use Rattle.gate_types.specs.declared.records.Build.{Build}
use Rattle.gate_types.specs.declared.records.Report.{Report}
use Rattle.gate_types.specs.declared.rows.ReportRow.{ReportRow}
use Rattle.gate_types.specs.Forms.{IsLawfulContent, is_change_number, is_drawn_number, is_queue_in_form}
use Rattle.gate_types.specs.Forms.{is_report_in_form, is_revision_number, is_verdict_in_form}
use Rattle.gate_types.specs.Names.{is_name, same_name}
use Rattle.gate_types.specs.Once.{Content}
use Rattle.gate_types.specs.Rows.{numbered_reports}
use Rattle.gate_types.specs.Settings.{Settings}
use Rattle.gate_types.specs.State.{Queue, State}
use Rattle.gate_types.specs.Tables.{tables}
use Rattle.gate_types.proofs.NameLemmas.{same_name_is}
use Rattle.gate_book_trait.specs.Reads.{queue_named}
use Rattle.gate_schema.specs.Rows.{AreNamed, QueueReport, QueueRow, Stored}
use Rattle.gate_rows.specs.Matches.{Matches, reports_of}
use Rattle.gate_archive.specs.ItemText as content
use Rattle.gate_archive.specs.declared.rows.LeftItem.{LeftItem}
use Rattle.gate_laws.proofs.Alone.{report_serials, same_name_of, serials_once}
use Rattle.gate_laws.proofs.Counts.{one_of, one_part, times}
use Rattle.gate_laws.proofs.FewRows.{rows_are_few}
use Rattle.gate_laws.proofs.Members.{all, all_from, every, found, from_filter, from_flat, from_map, to_filter}
use Rattle.gate_laws.proofs.Members.{to_flat, to_map}
use Rattle.gate_table_laws.proofs.told.Items.{names_placed}
use Rattle.gate_table_laws.proofs.told.Lists.{lone_found, permuted_same, same_find}
use Rattle.gate_table_laws.proofs.told.QueueReads.{report_rows, reports_in}
use Rattle.gate_archive_queries.specs.Answers.{IsArchiveOf}
use Rattle.gate_archive_queries.specs.Asked as file
use Rattle.gate_archive_queries.specs.HistoryFrom.{HoldsDrawnReports, text_from}
use Rattle.gate_types.specs.Counters.{last_number}
use Rattle.gate_types.specs.Rising.{In}

-- ---- numbered reports

-- the report of a row is one of those that are numbered
report_of_row : (n : ℕ) (rs : List Report) (r : ReportRow) → In r (numbered_reports n rs) → In r.report rs
report_of_row n [] r m = absurd m
report_of_row n (s ∷ rs) r m = elim m [
  | inl e ↦ inl (ap (λ (y : ReportRow). y.report) e)
  | inr t ↦ inr (report_of_row (suc n) rs r t)
]

-- and each of them has a row
row_of_report : (n : ℕ) (rs : List Report) (r : Report) → In r rs → (row : ReportRow) × In row (numbered_reports n rs) × (row.report ≡ r)
row_of_report n [] r m = absurd m
row_of_report n (s ∷ rs) r m = elim m [
  | inl e ↦ (record { place = suc n; report = s }, inl refl, e)
  | inr t ↦ (let at = row_of_report (suc n) rs r t in (at.0, inr at.1, at.2))
]

-- a report of a queue, with its name
abbrev left_of : Queue → Report → LeftItem
left_of q r = record { queue = q.name; report = r }

-- one that left is of a queue
left_from : (s : State) (k : LeftItem) → In k (content.left_items s) → (q : Queue) × In q s.queues × (r : Report) × In r q.reports × (left_of q r ≡ k)
left_from s k m =
    let at = from_flat (λ (q : Queue). map (left_of q) q.reports) s.queues k m in
    let here = from_map (left_of at.0) at.0.reports k at.2 in
    (at.0, at.1, here.0, here.1, here.2)

-- and a report of a queue is of one that left
left_to : (s : State) (q : Queue) (r : Report) → In q s.queues → In r q.reports → In (left_of q r) (content.left_items s)
left_to s q r mq mr = to_flat (λ (q : Queue). map (left_of q) q.reports) s.queues q (left_of q r) mq (to_map (left_of q) q.reports r mr)

-- what is asked of a queue's reports
record ReportsForm (q : Queue) : Type 0 where
  pub name : is_name q.name ≡ true
  pub reports : (r : Report) → In r q.reports → is_report_in_form (length q.landings) r ≡ true

-- a queue in form has it
reports_form : (q : Queue) → is_queue_in_form q ≡ true → ReportsForm q
reports_form q h =
    let last = and_parts _ _ h in
    let landings = and_parts _ _ last.0 in
    let items = and_parts _ _ landings.0 in
    let few = and_parts _ _ items.0 in
    record {
      name = (and_parts _ _ few.0).0;
      reports = all_from (is_report_in_form (length q.landings)) q.reports last.1;
    }

module _ (c : Settings) (x : Content) (b : Stored) (lawful : IsLawfulContent c x) (named : AreNamed b) (told : Matches b (tables c x)) where
  -- the reports of a queue's name, in any order
  rows_are : (name : List ℕ) → IsPermutation (reports_of name b.reports) (numbered_reports 0 (reports_in x.state name))
  rows_are name = subst (λ l. IsPermutation (reports_of name b.reports) l) (report_rows c x b told name) (told.queues_are.reports_are name)

  -- the queue of a row
  queue_of_row : (l : QueueReport) → In l b.reports → (q : Queue) × In q x.state.queues × (q.name ≡ l.queue) × In l.row.report q.reports
  queue_of_row l m =
      let here = to_filter (λ (y : QueueReport). same_name y.queue l.queue) b.reports l m (same_name_of l.queue l.queue refl) in
      let row = to_map (λ (y : QueueReport). y.row) (filter (λ (y : QueueReport). same_name y.queue l.queue) b.reports) l here in
      by_queue (queue_named x.state l.queue) refl
      (report_of_row 0 (reports_in x.state l.queue) l.row ((permuted_same _ _ (rows_are l.queue) l.row).0 row))
    where
      by_queue : (o : Option Queue) → queue_named x.state l.queue ≡ o → In l.row.report (option_map_or (λ (q : Queue). q.reports) o [])
          → (q : Queue) × In q x.state.queues × (q.name ≡ l.queue) × In l.row.report q.reports
      by_queue None e none = absurd none
      by_queue (Some q) e there =
          let at = found (λ (q : Queue). same_name q.name l.queue) x.state.queues q e in
          (q, at.0, same_name_is q.name l.queue at.1, there)

  -- the row of a report of a queue
  row_of_queue : (q : Queue) (r : Report) → In q x.state.queues → In r q.reports → (l : QueueReport) × In l b.reports × (file.left_row l ≡ left_of q r)
  row_of_queue q r mq mr =
      let few : length (filter (λ (y : Queue). same_name y.name q.name) x.state.queues) ≤ 1 =
      subst (λ n. n ≤ 1) (ap (λ l. length (filter (λ (y : QueueRow). same_name y.name q.name) l)) told.queues_are.places ∙ names_placed c x.state q.name 0 x.state.queues) (named q.name) in
      let at : queue_named x.state q.name ≡ Some q = lone_found (λ (y : Queue). same_name y.name q.name) x.state.queues q mq (same_name_of q.name q.name refl) few in
      let here : In r (reports_in x.state q.name) = subst (λ o. In r (option_map_or (λ (y : Queue). y.reports) o [])) (sym at) mr in
      let row = row_of_report 0 (reports_in x.state q.name) r here in
      let own = from_map (λ (y : QueueReport). y.row) (filter (λ (y : QueueReport). same_name y.queue q.name) b.reports) row.0
      ((permuted_same _ _ (rows_are q.name) row.0).1 row.1) in
      let there = from_filter (λ (y : QueueReport). same_name y.queue q.name) b.reports own.0 own.1 in
      let name : own.0.queue ≡ q.name = same_name_is own.0.queue q.name there.1 in
      let report : own.0.row.report ≡ r = ap (λ (y : ReportRow). y.report) own.2 ∙ row.2 in
      (own.0, there.0, λ k. record { queue = name k; report = report k })

  -- what is found of a serial
  left_is : (n : ℕ) → file.stored_left_at b n ≡ content.left_at x.state n
  left_is n =
      same_find file.left_row (λ (l : QueueReport). l.row.report.serial == n) (λ (k : LeftItem). k.report.serial == n) b.reports (content.left_items x.state) (λ l. refl) to from one
    where
      to : (l : QueueReport) → In l b.reports → In (file.left_row l) (content.left_items x.state)
      to l m =
          let at = queue_of_row l m in
          subst (λ name. In (record { queue = name; report = l.row.report }) (content.left_items x.state)) at.2 (left_to x.state at.0 l.row.report at.1 at.3)

      from : (k : LeftItem) → In k (content.left_items x.state) → (l : QueueReport) × In l b.reports × (file.left_row l ≡ k)
      from k m =
          let at = left_from x.state k m in
          let row = row_of_queue at.0 at.2 at.1 at.3 in
          (row.0, row.1, row.2 ∙ at.4)

      once : times n (flat_map report_serials x.state.queues) ≤ 1
      once = let few = serials_once c x.state lawful.lawful.sound n in omega (arith, few)

      one : (j k : LeftItem) → In j (content.left_items x.state) → In k (content.left_items x.state) → j.report.serial == n ≡ true → k.report.serial == n ≡ true → j ≡ k
      one j k mj mk ej ek =
          let a = left_from x.state j mj in
          let d = left_from x.state k mk in
          let first : a.2.serial ≡ n = ap (λ (z : LeftItem). z.report.serial) a.4 ∙ eqb-true j.report.serial n ej in
          let second : d.2.serial ≡ n = ap (λ (z : LeftItem). z.report.serial) d.4 ∙ eqb-true k.report.serial n ek in
          let in_first : In n (report_serials a.0) = subst (λ m. In m (report_serials a.0)) first (to_map (λ (r : Report). r.serial) a.0.reports a.2 a.3) in
          let in_second : In n (report_serials d.0) = subst (λ m. In m (report_serials d.0)) second (to_map (λ (r : Report). r.serial) d.0.reports d.2 d.3) in
          let part = one_part n report_serials x.state.queues a.0 d.0 once a.1 d.1 in_first in_second in
          let same : a.2 ≡ d.2 =
          one_of (λ (r : Report). r.serial) a.0.reports a.2 d.2 (subst (λ m. times m (report_serials a.0) ≤ 1) (sym first) part.1) a.3
          (subst (λ (z : Queue). In d.2 z.reports) (sym part.0) d.3) (first ∙ sym second) in
          sym a.4 ∙ (λ i. left_of (part.0 i) (same i)) ∙ d.4

  -- each row of a report is in form
  left_in_form : AllPass file.is_left_in_form b.reports
  left_in_form = all (λ (l : QueueReport). file.is_left_in_form l ≡ true) b.reports (λ l m.
      let at = queue_of_row l m in
      let form = reports_form at.0 (every (λ (q : Queue). is_queue_in_form q ≡ true) x.state.queues lawful.in_form.state.queues at.0 at.1) in
      let numbers = (and_parts _ (is_verdict_in_form (length at.0.landings) l.row.report.verdict) (form.reports l.row.report at.3)).0 in
      let two = and_parts (is_drawn_number l.row.report.serial && is_change_number l.row.report.change) (is_revision_number l.row.report.revision) numbers in
      let one = and_parts (is_drawn_number l.row.report.serial) (is_change_number l.row.report.change) two.0 in
      and_from _ _ (and_from _ _ (and_from _ _ (subst (λ name. is_name name ≡ true) at.2 form.name) one.0) one.1) two.1)

  -- the reports of the queue of a name
  reports_held : (name : List ℕ) (q : Queue) → queue_named x.state name ≡ Some q → HoldsDrawnReports b name q.reports
  reports_held name q e =
      let at = found (λ (q : Queue). same_name q.name name) x.state.queues q e in
      let few = every (λ (q : Queue). length q.reports ≤ x.state.counters.order) x.state.queues (rows_are_few c x.state lawful.lawful.sound lawful.in_form.state).reports q at.0 in
      let drawn = and_parts _ _ lawful.in_form.state.counters in
      let most = leb-true x.state.counters.order last_number drawn.1 in
      (subst (λ o. IsPermutation (reports_of name b.reports) (numbered_reports 0 (option_map_or (λ (y : Queue). y.reports) o []))) e (rows_are name), omega (arith, few, most))

  -- all of it
  pub archive_is : IsArchiveOf b x
  archive_is = record {
    left = left_is;
    left_in_form = left_in_form;
    builds = λ n. ap (filter (λ (y : Build). y.serial == n)) told.builds_are;
    last_builds = λ n most. ap (λ bs. map content.summary_of (content.last_of most (filter (λ (y : Build). y.serial == n) bs))) told.builds_are;
    reports = reports_held;
    history_from = λ name q from e.
        let at = found (λ (q : Queue). same_name q.name name) x.state.queues q e in
        ap (λ n. text_from n from q.reports) (sym (same_name_is q.name name at.1));
    kept = told.kept_are;
  }

-- each read of the past is told
pub past_is_told : {c : Settings} {x : Content} {b : Stored} → IsLawfulContent c x → AreNamed b → Matches b (tables c x) → IsArchiveOf b x
past_is_told {c = c} {x = x} {b = b} lawful named told = archive_is c x b lawful named told
