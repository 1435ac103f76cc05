-- The history text, line by line, and its writing.
use Rattle.std.proofs.Common.{◌≡◌, ℕ, zero, suc, ◌+◌, ◌<◌, List, [], ◌∷◌, ◌++◌, length, take, drop, get_or, Option}
use Rattle.std.proofs.Common.{None, Some, Result, Ok, Err, refl, sym, ap, subst, ◌∙◌, arith, append_assoc, append-nil}
use Rattle.std.proofs.Common.{length-append, take-append-drop}
use Rattle.std.specs.Prelude.{flat_map, option_map}
use Rattle.std.specs.List.{enumerate_from}
use Rattle.std.specs.Io.KnownBytes.{Appends}
use Rattle.std.proofs.KnownBytes.{Appends-trans, Appends-nil}
use Rattle.std.proofs.lemmas.List.Concat.{flat_map-append}
use Rattle.std.proofs.lemmas.List.{take_more}
use Rattle.gate_types.specs.Tap.{Took, TookFront, WritesFront}
use Rattle.gate_types.specs.Settings.{Settings}
use Rattle.gate_types.specs.State.{Queue, State}
use Rattle.gate_types.specs.Once.{Content}
use Rattle.gate_types.specs.Rows.{numbered_reports}
use Rattle.gate_types.specs.Tables.{QueueRows, tables}
use Rattle.gate_types.specs.History.{report_row, history_text}
use Rattle.gate_types.specs.declared.records.Report.{Report}
use Rattle.gate_types.specs.declared.rows.ReportRow.{ReportRow}
use Rattle.gate_types.specs.declared.tap.Tap.{Tap}
use Rattle.gate_types.proofs.TapLemmas.{writes_later, writes_sooner}
use Rattle.gate_book_trait.specs.declared.fault.HistoryFault.{HistoryFault}
use Rattle.gate_book_trait.specs.declared.fault.HistoryFault.TheVariants as fault
use Rattle.gate_book_trait.specs.Reads.{queue_named}
use Rattle.gate_book_trait.specs.RowReads.{rows_named}
use Rattle.gate_book_trait.specs.Text.{first_line, report_lines, closing_line, rows_text, IsWritten, BreaksOffHistory}
use Rattle.gate_book_trait.specs.Text.{LeavesTap, LeavesText, WritesText}
use Rattle.gate_book_trait.specs.Writes.{WritesHistory}
use Rattle.gate_book_trait.proofs.ReadLemmas.{rows_of_queue, named_is, length_reports}

-- the line of a row
abbrev line_of : ReportRow → List ℕ
line_of r = report_row (r.place, r.report)

-- the lines up to a row, and its own
pub lines_next : (rows : List ReportRow) (k : ℕ) (r : ReportRow) → k < length rows → r ≡ get_or rows k r →
    report_lines (take (k + 1) rows) ≡ report_lines (take k rows) ++ report_row (r.place, r.report)
lines_next rows k r l at =
    ap report_lines (take_more rows k r l)
    ∙ flat_map-append line_of (take k rows) (get_or rows k r ∷ [])
    ∙ ap (λ t. report_lines (take k rows) ++ t) (append-nil (line_of (get_or rows k r)))
    ∙ ap (λ x. report_lines (take k rows) ++ line_of x) (sym at)

-- the lines up to a place, and those behind
pub lines_split : (rows : List ReportRow) (k : ℕ) →
    report_lines rows ≡ report_lines (take k rows) ++ report_lines (drop k rows)
lines_split rows k = ap report_lines (sym (take-append-drop k rows)) ∙ flat_map-append line_of (take k rows) (drop k rows)

-- nothing written is a front of a line
pub nothing_of_line : (a : Option (List ℕ)) (r : ReportRow) → WritesFront a a (report_row (r.place, r.report))
nothing_of_line a r = (zero, omega (arith, length-append {A = ℕ}), Appends-nil a)

-- the lines up to a row, and a front of its own
pub lines_cut : (a b c : Option (List ℕ)) (rows : List ReportRow) (k : ℕ) (r : ReportRow) → k < length rows →
    r ≡ get_or rows k r → Appends a b (report_lines (take k rows)) →
    WritesFront b c (report_row (r.place, r.report)) → WritesFront a c (report_lines rows)
lines_cut a b c rows k r l at p f =
    subst (WritesFront a c) (sym (lines_split rows (k + 1)))
    (writes_sooner a c (report_lines (take (k + 1) rows)) (report_lines (drop (k + 1) rows))
    (subst (WritesFront a c) (sym (lines_next rows k r l at)) (writes_later a b c _ _ p f)))

module _ {W : Type 0} (held : W → Option (List ℕ)) where
  -- a text behind one that was written whole
  pub written_later : (t0 t1 t2 : Tap W) (xs ys : List ℕ) (r : Result (Unit {0}) HistoryFault) → Took held t0 t1 xs →
      IsWritten held t1 t2 ys r → IsWritten held t0 t2 (xs ++ ys) r
  written_later t0 t1 t2 xs ys (Ok u) p h = Appends-trans _ _ _ xs ys p h
  written_later t0 t1 t2 xs ys (Err e) p h = writes_later _ _ _ xs ys p h

  -- a front, and what the fault leaves of the writer
  pub text_cut : (t0 t1 : Tap W) (xs ys all : List ℕ) (f : HistoryFault) → all ≡ xs ++ ys → TookFront held t0 t1 xs →
      BreaksOffHistory t1 f → LeavesText held t0 t1 all f
  text_cut t0 t1 xs ys all fault.NoQueue e p h = h
  text_cut t0 t1 xs ys all fault.Unavailable e p h = absurd h
  text_cut t0 t1 xs ys all fault.Broken e p h = (subst (WritesFront _ _) (sym e) (writes_sooner _ _ xs ys p), h)
  text_cut t0 t1 xs ys all fault.Write e p h = (subst (WritesFront _ _) (sym e) (writes_sooner _ _ xs ys p), h)

  -- the whole text, or a beginning
  pub text_written : (t0 t1 t2 : Tap W) (xs ys all : List ℕ) (r : Result (Unit {0}) HistoryFault) → all ≡ xs ++ ys →
      Took held t0 t1 xs → IsWritten held t1 t2 ys r → LeavesTap t2 r → WritesText held t0 t2 all r
  text_written t0 t1 t2 xs ys all (Ok u) e p h s = (subst (Appends _ _) (sym e) (Appends-trans _ _ _ xs ys p h), s)
  text_written t0 t1 t2 xs ys all (Err fault.NoQueue) e p h s = s
  text_written t0 t1 t2 xs ys all (Err fault.Unavailable) e p h s = absurd s
  text_written t0 t1 t2 xs ys all (Err fault.Broken) e p h s =
      (subst (WritesFront _ _) (sym e) (writes_later _ _ _ xs ys p h), s)
  text_written t0 t1 t2 xs ys all (Err fault.Write) e p h s =
      (subst (WritesFront _ _) (sym e) (writes_later _ _ _ xs ys p h), s)

-- the parts of the text
pub parts_joined : (front head last : List ℕ) (rows : List ReportRow) (k : ℕ) →
    front ++ (head ++ (report_lines rows ++ last))
    ≡ (front ++ (head ++ report_lines (take k rows))) ++ (report_lines (drop k rows) ++ last)
parts_joined front head last rows k =
    ap (λ t. front ++ (head ++ (t ++ last))) (lines_split rows k)
    ∙ regrouped front head (report_lines (take k rows)) (report_lines (drop k rows)) last
  where
    regrouped : (a b c d e : List ℕ) → a ++ (b ++ ((c ++ d) ++ e)) ≡ (a ++ (b ++ c)) ++ (d ++ e)
    regrouped a b c d e = simp append_assoc

-- ---- of a content

-- the lines of rows are those of the reports
lines_of_reports : (n : ℕ) (rs : List Report) →
    report_lines (numbered_reports n rs) ≡ flat_map report_row (enumerate_from (suc n) rs)
lines_of_reports n [] = refl
lines_of_reports n (r ∷ rs) =
    let next : suc (suc n) ≡ suc n + 1 = omega arith in
    ap (λ t. report_row (suc n, r) ++ t)
    (lines_of_reports (suc n) rs ∙ ap (λ m. flat_map report_row (enumerate_from m rs)) next)

-- and the text of rows is that of the queue
text_of_queue : (q : Queue) → rows_text q.name (numbered_reports 0 q.reports) ≡ history_text q
text_of_queue q =
    λ k. first_line q.name ++ (lines_of_reports 0 q.reports k ++ closing_line (length_reports 0 q.reports k))

module _ {W : Type 0} (held : W → Option (List ℕ)) (t0 t1 : Tap W) where
  -- what is written of a queue that is there
  of_queue : (s : State) (name front : List ℕ) (q : Queue) (r : Result (Unit {0}) HistoryFault) →
      queue_named s name ≡ Some q → WritesText held t0 t1 (front ++ history_text q) r →
      WritesHistory s name front held t0 t1 r
  of_queue s name front q (Ok u) e h = record { queue = q; named = e; taken = h.0 }
  of_queue s name front q (Err fault.NoQueue) e h = absurd h
  of_queue s name front q (Err fault.Unavailable) e h = tt
  of_queue s name front q (Err fault.Broken) e h = record { queue = q; named = e; taken = h.0 }
  of_queue s name front q (Err fault.Write) e h = record { queue = q; named = e; taken = h.0 }

  -- the same, of its rows
  pub of_rows : (c : Settings) (x : Content) (name front : List ℕ) (t : QueueRows) (r : Result (Unit {0}) HistoryFault) →
      Some t ≡ rows_named (tables c x).queues name → WritesText held t0 t1 (front ++ rows_text t.name t.reports) r →
      WritesHistory x.state name front held t0 t1 r
  of_rows c x name front t r e h = by_found (queue_named x.state name) refl (e ∙ named_is c x name)
    where
      by_found : (o : Option Queue) → queue_named x.state name ≡ o → Some t ≡ option_map (rows_of_queue c x.state) o →
          WritesHistory x.state name front held t0 t1 r
      by_found None n same = cc
      by_found (Some q) n same =
          let rows : t ≡ rows_of_queue c x.state q = cc in
          of_queue x.state name front q r n (subst (λ text. WritesText held t0 t1 (front ++ text) r)
          (ap (λ (u : QueueRows). rows_text u.name u.reports) rows ∙ text_of_queue q) h)

-- a queue that isn't among the rows isn't there
pub not_there : (c : Settings) (x : Content) (name : List ℕ) → None ≡ rows_named (tables c x).queues name →
    queue_named x.state name ≡ None
not_there c x name e = by_found (queue_named x.state name) (e ∙ named_is c x name)
  where
    by_found : (o : Option Queue) → None ≡ option_map (rows_of_queue c x.state) o → o ≡ None
    by_found None same = refl
    by_found (Some q) same = cc
