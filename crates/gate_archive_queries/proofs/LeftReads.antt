-- What the text of the read of a report asks, and what it finds.
use Rattle.std.proofs.Common.{◌≡◌, ◌≤◌, ◌∙◌, ℕ, pos, true, List, [], ◌∷◌, codes, filter, get_or, length, map, eqb}
use Rattle.std.proofs.Common.{refl, ap, arith}
use Rattle.std.specs.List.{AllPass}
use Rattle.std.proofs.lemmas.List.Elements.{recursion_from_All}
use Rattle.sqlite.specs.Listing.{understood}
use Rattle.sqlite.specs.Order.{Row}
use Rattle.sqlite.specs.Program.{overlay}
use Rattle.sqlite.specs.Query.{Query}
use Rattle.sqlite.specs.State.{State}
use Rattle.sqlite.specs.Term.{Term, col, eval_all}
use Rattle.sqlite.specs.declared.types.Value.TheVariants.{Int}
use Rattle.sqlite_keyed.proofs.RuleLemmas.{first_of_both, second_of_both}
use Rattle.sqlite_tied.proofs.RuleLemmas.{and_true}
use Rattle.sqlite_tied.specs.Compute.{everything}
use Rattle.gate_types.specs.Forms.{is_change_number, is_drawn_number, is_revision_number}
use Rattle.gate_types.specs.Names.{is_name}
use Rattle.gate_schema.specs.Rows.{QueueReport, Stored, report_columns}
use Rattle.gate_schema.proofs.QueryLemmas.{over_table, passes}
use Rattle.gate_schema.proofs.Statements.{Asks, key_is, no_limit, rising}
use Rattle.gate_schema.proofs.ValueLemmas.{equal_numbers}
use Rattle.gate_found_rows.specs.Finds.{Finds}
use Rattle.gate_found_rows.specs.Reads.{IsStoredIn}
use Rattle.gate_schema.proofs.ListedQueries.{listed_in_turn}
use Rattle.gate_schema.proofs.RowLemmas.{told_behind}
use Rattle.gate_found_rows.proofs.ReadLemmas.{answers}
use Rattle.gate_archive_queries.specs.Asked.{is_left_in_form, left_shown}

abbrev pub left_sql : List ℕ
left_sql = codes "SELECT queue, serial, change, revision, verdict, n FROM report WHERE serial = ?1 ORDER BY rowid"

abbrev left_terms : List Term
left_terms = col 1 1 ∷ col 1 3 ∷ col 1 4 ∷ col 1 5 ∷ col 1 6 ∷ col 1 7 ∷ []

abbrev pub left_query : Query
left_query = over_table 18 (key_is 3 ∷ []) left_terms rising no_limit

abbrev left_names : List (List ℕ)
left_names = codes "queue" ∷ codes "serial" ∷ codes "change" ∷ codes "revision" ∷ codes "verdict" ∷ codes "n" ∷ []

pub left_asks : Asks left_sql left_query left_names
unfolding understood everything
left_asks = ((refl, (refl, refl)), refl)

-- the reports of a serial, in the order in which they were written
pub left_found : (s : State) (b : Stored) (serial : ℕ) (rows : List Row) → IsStoredIn s b → Finds left_sql (Int (pos serial) ∷ []) s.now rows
    → rows ≡ map left_shown (filter (λ (l : QueueReport). eqb l.row.report.serial serial) b.reports)
left_found s b serial rows shows finds =
    let params = Int (pos serial) ∷ [] in
    listed_in_turn report_columns left_shown 18 (key_is 3 ∷ []) left_terms no_limit params (λ (l : QueueReport). eqb l.row.report.serial serial)
    (λ v l is. told_behind (passes (key_is 3 ∷ []) (Int (pos serial) ∷ [])) v _ _ (eqb l.row.report.serial serial) (λ w. rw equal_numbers (and_true (eqb l.row.report.serial serial))) is)
    (λ v l is. told_behind (λ v. eval_all left_terms ((Int (pos serial) ∷ []) ∷ v ∷ [])) v _ _ (left_shown l) (λ w. refl) is)
    (overlay s.now.trees []) b.reports rows shows.stands.report
    (answers s left_sql left_query left_names params rows left_asks shows.schema_is finds)

-- ---- a report's row in form

-- what a reader of the row asks of it
pub record LeftForm (l : QueueReport) : Type 0 where
  pub queue : is_name l.queue ≡ true
  pub serial : is_drawn_number l.row.report.serial ≡ true
  pub change : is_change_number l.row.report.change ≡ true
  pub revision : is_revision_number l.row.report.revision ≡ true

-- it is so of a row in form
pub left_form : (l : QueueReport) → is_left_in_form l ≡ true → LeftForm l
left_form l form =
    let three = first_of_both _ _ form in
    let two = first_of_both _ _ three in
    record {
      queue = first_of_both _ _ two;
      serial = second_of_both _ _ two;
      change = second_of_both _ _ three;
      revision = second_of_both _ _ form;
    }

-- the report that a first row shows, in form
pub record FirstLeft (row : Row) (ls : List QueueReport) : Type 0 where
  pub one : QueueReport
  pub rest : List QueueReport
  pub split : ls ≡ one ∷ rest
  pub is : row ≡ left_shown one
  pub in_form : is_left_in_form one ≡ true

-- the first of rows that show reports shows the first
pub first_shows : (ls : List QueueReport) (rows : List Row) (row : Row) → 1 ≤ length rows → row ≡ get_or rows 0 row → rows ≡ map left_shown ls → AllPass is_left_in_form ls → FirstLeft row ls
first_shows [] rows row some at are form = absurd (let none = ap length are in omega arith)
first_shows (l ∷ ls) rows row some at are form = record {
  one = l;
  rest = ls;
  split = refl;
  is = at ∙ ap (λ rs. get_or rs 0 row) are;
  in_form = (recursion_from_All (λ l. is_left_in_form l ≡ true) (l ∷ ls) form).0;
}
