-- The reports of items that left, and a history from a place on.
use Rattle.std.proofs.Common.{◌≡◌, ℕ, suc, ◌+◌, ◌<◌, Bool, Option, None, Some, Result, Ok, Err, List, [], ◌∷◌, ◌++◌}
use Rattle.std.proofs.Common.{length, take, drop, get_or, map, refl, sym, ap, subst, ◌∙◌, arith}
use Rattle.std.specs.Prelude.{◌==◌, ◌-◌, find, flat_map, option_map}
use Rattle.std.specs.List.{enumerate_from}
use Rattle.std.specs.Option.{option_or}
use Rattle.std.proofs.lemmas.List.{take-map, drop-map}
use Rattle.std.proofs.lemmas.List.Folds.{find-append, flat_map-map}
use Rattle.gate_types.specs.Settings.{Settings}
use Rattle.gate_types.specs.State.{Queue, State}
use Rattle.gate_types.specs.Once.{Content}
use Rattle.gate_types.specs.Rows.{numbered_reports}
use Rattle.gate_types.specs.Tables.{QueueRows, tables}
use Rattle.gate_types.specs.History.{report_row}
use Rattle.gate_types.specs.declared.records.Report.{Report}
use Rattle.gate_types.specs.declared.rows.ReportRow.{ReportRow}
use Rattle.gate_types.specs.declared.tap.Tap.{Tap}
use Rattle.gate_book_trait.specs.declared.fault.HistoryFault.{HistoryFault}
use Rattle.gate_book_trait.specs.declared.fault.HistoryFault.TheVariants as fault
use Rattle.gate_book_trait.specs.Reads.{queue_named}
use Rattle.gate_book_trait.specs.RowReads.{rows_named}
use Rattle.gate_book_trait.specs.Text.{first_line, report_lines, closing_line, WritesText}
use Rattle.gate_book_trait.proofs.Finding.{find_map, rest_at}
use Rattle.gate_book_trait.proofs.ReadLemmas.{rows_of_queue, named_is, length_reports}
use Rattle.gate_archive.specs.declared.rows.LeftItem.{LeftItem}
use Rattle.gate_archive.specs.ItemText.{left_items}
use Rattle.gate_archive.specs.HistoryFrom.{history_from}
use Rattle.gate_archive.specs.Writes.{WritesHistoryFrom}
use Rattle.gate_memory.specs.declared.queues.QueueTable.{QueueTable}
use Rattle.gate_memory.specs.Queues as queue
use Rattle.gate_book.specs.Past.{left_rows, all_left}
use Rattle.gate_types.specs.Limits.{most_listed}

-- ---- items that left

-- the queue's name beside a report
abbrev pub with_report : QueueTable → ReportRow → LeftItem
with_report t r = record { queue = t.name; report = r.report }

-- where this queue has the report of a serial, or hasn't
pub left_at : (n : ℕ) (queues : List QueueTable) (k : ℕ) (t : QueueTable) → k < length queues → t ≡ get_or queues k t →
    find (λ l. l.report.serial == n) (all_left (map queue.rows_of_table (drop k queues)))
    ≡ option_or (option_map (with_report t) (find (λ r. r.report.serial == n) t.reports.rows.items))
    (find (λ l. l.report.serial == n) (all_left (map queue.rows_of_table (drop (suc k) queues))))
left_at n queues k t l at =
    let test : LeftItem → Bool = λ i. i.report.serial == n in
    let rest : Option LeftItem = find test (all_left (map queue.rows_of_table (drop (suc k) queues))) in
    ap (λ ts. find test (all_left (map queue.rows_of_table ts)))
    (rest_at queues k t l ∙ ap (λ y. y ∷ drop (suc k) queues) (sym at))
    ∙ find-append test (left_rows (queue.rows_of_table t)) (all_left (map queue.rows_of_table (drop (suc k) queues)))
    ∙ ap (λ o. option_or o rest) (find_map (with_report t) test t.reports.rows.items)

-- a report with a queue's name
abbrev with_name : List ℕ → Report → LeftItem
with_name name r = record { queue = name; report = r }

left_numbered : (name : List ℕ) (n : ℕ) (rs : List Report) →
    map (λ (r : ReportRow). with_name name r.report) (numbered_reports n rs) ≡ map (with_name name) rs
left_numbered name n [] = refl
left_numbered name n (r ∷ rs) = ap (λ ls. with_name name r ∷ ls) (left_numbered name (suc n) rs)

-- the rows of a content tell of its items that left
pub left_are : (c : Settings) (x : Content) → all_left (tables c x).queues ≡ left_items x.state
left_are c x =
    flat_map-map left_rows (rows_of_queue c x.state) x.state.queues
    ∙ (λ k. flat_map (λ q. left_numbered q.name 0 q.reports k) x.state.queues)

-- ---- a history from a place

-- a report beside its place
abbrev beside : ReportRow → ℕ × Report
beside r = (r.place, r.report)

-- the rows of reports are these beside their places
beside_places : (n : ℕ) (rs : List Report) → map beside (numbered_reports n rs) ≡ enumerate_from (suc n) rs
beside_places n [] = refl
beside_places n (r ∷ rs) =
    let next : suc (suc n) ≡ suc n + 1 = omega arith in
    ap (λ ps. (suc n, r) ∷ ps) (beside_places (suc n) rs ∙ ap (λ m. enumerate_from m rs) next)

-- the lines of some rows are those of their reports
lines_from : (from : ℕ) (rs : List Report) →
    report_lines (take most_listed (drop from (numbered_reports 0 rs))) ≡ flat_map report_row (take most_listed (drop from (enumerate_from 1 rs)))
lines_from from rs =
    sym (flat_map-map report_row beside (take most_listed (drop from (numbered_reports 0 rs))))
    ∙ ap (flat_map report_row)
    (sym (take-map beside most_listed (drop from (numbered_reports 0 rs)))
    ∙ ap (λ ps. take most_listed ps) (sym (drop-map beside from (numbered_reports 0 rs)) ∙ ap (drop from) (beside_places 0 rs)))

-- the text of some rows
abbrev pub text_from : ℕ → QueueRows → List ℕ
text_from from t = first_line t.name ++ (report_lines (take most_listed (drop (from - 1) t.reports)) ++ closing_line (length t.reports))

text_of_queue : (c : Settings) (s : State) (from : ℕ) (q : Queue) → text_from from (rows_of_queue c s q) ≡ history_from from q
text_of_queue c s from q =
    λ k. first_line q.name ++ (lines_from (from - 1) q.reports k ++ closing_line (length_reports 0 q.reports k))

module _ {W : Type 0} (held : W → Option (List ℕ)) (t0 t1 : Tap W) where
  -- what is written of a queue that is there
  of_queue : (s : State) (name : List ℕ) (from : ℕ) (front : List ℕ) (q : Queue) (r : Result (Unit {0}) HistoryFault) →
      queue_named s name ≡ Some q → WritesText held t0 t1 (front ++ history_from from q) r →
      WritesHistoryFrom s name from front held t0 t1 r
  of_queue s name from front q (Ok u) e h = record { queue = q; named = e; taken = h.0 }
  of_queue s name from front q (Err fault.NoQueue) e h = absurd h
  of_queue s name from front q (Err fault.Unavailable) e h = tt
  of_queue s name from front q (Err fault.Broken) e h = record { queue = q; named = e; taken = h.0 }
  of_queue s name from front q (Err fault.Write) e h = record { queue = q; named = e; taken = h.0 }

  -- the same, of its rows
  pub of_rows_from : (c : Settings) (x : Content) (name : List ℕ) (from : ℕ) (front : List ℕ) (t : QueueRows)
      (r : Result (Unit {0}) HistoryFault) → Some t ≡ rows_named (tables c x).queues name →
      WritesText held t0 t1 (front ++ text_from from t) r → WritesHistoryFrom x.state name from front held t0 t1 r
  of_rows_from c x name from front t r e h = by_found (queue_named x.state name) refl (e ∙ named_is c x name)
    where
      by_found : (o : Option Queue) → queue_named x.state name ≡ o → Some t ≡ option_map (rows_of_queue c x.state) o →
          WritesHistoryFrom x.state name from front held t0 t1 r
      by_found None n same = cc
      by_found (Some q) n same =
          let rows : t ≡ rows_of_queue c x.state q = cc in
          of_queue x.state name from front q r n (subst (λ text. WritesText held t0 t1 (front ++ text) r)
          (ap (text_from from) rows ∙ text_of_queue c x.state from q) h)
