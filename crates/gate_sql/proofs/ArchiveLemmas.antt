-- From what is read of the tables to what is told of the past of a content.
use Rattle.std.proofs.Common.{◌≡◌, ◌≢◌, ◌∙◌, ◌++◌, ◌||◌, true, false, Bool, ℕ, List, [], ◌∷◌, Option, Some, None}
use Rattle.std.proofs.Common.{Result, Ok, Err, IsTrue, cond, find, arith, refl, sym, ap, subst}
use Rattle.std.specs.Prelude.{MatchResult}
use Rattle.std.specs.List.{AllPass}
use Rattle.sqlite.specs.State.{HasCleanDisk, State}
use Rattle.gate_types.specs.Forms.{IsLawfulContent}
use Rattle.gate_types.specs.Names.{same_name}
use Rattle.gate_types.specs.Once.{Content}
use Rattle.gate_types.specs.Settings.{Settings, are_sound}
use Rattle.gate_types.specs.State.{Queue}
use Rattle.gate_types.specs.Tables.{tables}
use Rattle.gate_types.specs.Tap.{Took, TookFront}
use Rattle.gate_types.specs.declared.records.Id.{Id}
use Rattle.gate_types.specs.declared.records.Report.{Report}
use Rattle.gate_types.specs.declared.tap.Tap.{Tap}
use Rattle.gate_types.proofs.NameLemmas.{same_name_is}
use Rattle.gate_book_trait.specs.Reads.{Answers, queue_named}
use Rattle.gate_book_trait.specs.declared.fault.BookFault.{BookFault}
use Rattle.gate_book_trait.specs.declared.fault.BookFault.TheVariants as blame
use Rattle.gate_book_trait.specs.declared.fault.HistoryFault.{HistoryFault}
use Rattle.gate_book_trait.specs.declared.fault.HistoryFault.TheVariants as history
use Rattle.gate_archive.specs.Writes.{OfQueueFrom, WritesFeed, WritesHistoryFrom}
use Rattle.gate_archive.specs.declared.fault.FeedFault.{FeedFault}
use Rattle.gate_archive.specs.declared.fault.FeedFault.TheVariants as feed
use Rattle.gate_schema.specs.Rows.{Stored}
use Rattle.gate_rows.specs.Matches as rows
use Rattle.gate_found_rows.specs.Reads.{Opened, Shows}
use Rattle.gate_found_rows.specs.Whole.{IsWhole}
use Rattle.gate_types.proofs.DistinctLemmas.{names_differ}
use Rattle.gate_file_changes.specs.Applies.{is_among}
use Rattle.gate_table_laws.specs.Held.{HoldsFor}
use Rattle.gate_table_laws.proofs.ReadLemmas.{told_of, no_rows, shown, shut}
use Rattle.gate_table_laws.proofs.told.Names.{queues_are_named}
use Rattle.gate_queue_queries.specs.History.{WritesWhole}
use Rattle.gate_archive_queries.specs.Answers.{IsArchiveOf}
use Rattle.gate_archive_queries.specs.Asked.{TellsIfInForm, is_left_in_form}
use Rattle.gate_archive_queries.specs.HistoryFrom.{HoldsDrawnReports, text_from}
use Rattle.gate_archive_queries.proofs.ToldReads.{past_is_told}
use Rattle.gate_sql.proofs.HistoryLemmas.{names_told, some_known}

-- the rows of a lawful content tell its past
pub archive_of : {c : Settings} {x : Content} {b : Stored} → are_sound c ≡ true → IsLawfulContent c x → rows.Matches b (tables c x) → IsArchiveOf b x
archive_of {c = c} sound lawful told = past_is_told lawful (queues_are_named (names_differ c sound) lawful told) told

-- ---- the report of a serial

-- where what is found of the reports' rows is what the content says, a read that reads them answers that
pub reports_are : {T : Type 0} {names : List (List ℕ)} {c : Settings} {x : Content} {value : Stored → T} (v : T) (old new : State) (result : Result T BookFault)
    → TellsIfInForm old new result value → Opened old new result → HasCleanDisk new → HoldsFor old names c x
    → ((b : Stored) → rows.Matches b (tables c x) → AllPass is_left_in_form b.reports × (value b ≡ v)) → Answers v result
reports_are v old new (Ok found) tells opened clean held told =
    let it = held.shows (opened clean) in
    let b = it.stands.stored in
    let say = told b it.stands.matches in
    tells clean b (shown it) say.0 ∙ say.1
reports_are v old new (Err f) tells opened clean held told = blames_none old.is_open refl
  where
    blames_none : (is_open : Bool) → old.is_open ≡ is_open → f ≢ blame.Damaged
    blames_none true is =
        let it = held.shows is in
        let b = it.stands.stored in
        tells clean b (shown it) (told b it.stands.matches).0
    blames_none false is = tells clean no_rows (shut is no_rows) (λ k d below. absurd (omega (arith, below)))

-- ---- the history of a queue from a place on

-- what is found among names is among them
found_among : (names : List (List ℕ)) (name n : List ℕ) → find (λ other. same_name other name) names ≡ Some n → (is_among names name ≡ true) × (n ≡ name)
found_among [] name n found = absurd cc
found_among (m ∷ ms) name n found = by_name (same_name m name) refl found (found_among ms name n)
  where
    by_name : (t : Bool) → same_name m name ≡ t → cond t (Some m) (find (λ other. same_name other name) ms) ≡ Some n
        → (find (λ other. same_name other name) ms ≡ Some n → (is_among ms name ≡ true) × (n ≡ name)) → ((t || is_among ms name) ≡ true) × (n ≡ name)
    by_name true e here more = let same : m ≡ n = cc in (refl, sym same ∙ same_name_is m name e)
    by_name false e later more = more later

-- and what isn't found isn't
pub none_among : (names : List (List ℕ)) (name : List ℕ) → find (λ other. same_name other name) names ≡ None → is_among names name ≡ false
none_among [] name none = refl
none_among (m ∷ ms) name none = by_name (same_name m name) none (none_among ms name)
  where
    by_name : (t : Bool) → cond t (Some m) (find (λ other. same_name other name) ms) ≡ None → (find (λ other. same_name other name) ms ≡ None → is_among ms name ≡ false) → (t || is_among ms name) ≡ false
    by_name true here more = absurd cc
    by_name false later more = more later

module _ {c : Settings} {x : Content} {s : State} {names : List (List ℕ)} (holds : HoldsFor s names c x) (lawful : IsLawfulContent c x) (name n : List ℕ) (known : find (λ other. same_name other name) names ≡ Some n)
    {W : Type 0} (from : ℕ) (front : List ℕ) (held : W → Option (List ℕ)) (old new : Tap W) where
  -- the queue of the name
  there : (q : Queue) × (queue_named x.state name ≡ Some q)
  there = some_known name x.state.queues (ap (λ l. is_among l name) (sym (names_told holds lawful name)) ∙ (found_among names name n known).0)

  -- what is written of the reports in the tables is written of the queue
  of_queue : (Takes : List ℕ → Type 0) → IsTrue s.is_open → ((b : Stored) → Shows s b → IsWhole b → (rs : List Report) → HoldsDrawnReports b n rs → Takes (front ++ text_from n from rs)) → OfQueueFrom x.state name from front Takes
  of_queue Takes up written =
      let it = holds.shows up in
      let b = it.stands.stored in
      let past = archive_of holds.sound lawful it.stands.matches in
      let whole = (told_of holds.sound lawful it.stands.matches).0 in
      let same = (found_among names name n known).1 in
      let reports = subst (λ m. HoldsDrawnReports b m there.0.reports) (sym same) (past.reports name there.0 there.1) in
      record {
        queue = there.0;
        named = there.1;
        taken = subst (λ text. Takes (front ++ text)) (ap (λ m. text_from m from there.0.reports) same ∙ past.history_from name there.0 from there.1)
            (written b (shown it) whole there.0.reports reports);
      }

  -- so it is whatever is answered
  pub history_so : (result : Result (Unit {0}) HistoryFault)
      → ((b : Stored) → Shows s b → IsWhole b → (rs : List Report) → HoldsDrawnReports b n rs → WritesWhole held old new (front ++ text_from n from rs) result)
      → MatchResult result (λ _. IsTrue s.is_open) (λ f. f ≢ history.Unavailable → IsTrue s.is_open) → WritesHistoryFrom x.state name from front held old new result
  history_so (Ok u) written opened = of_queue (Took held old new) opened written
  history_so (Err history.NoQueue) written opened = absurd (of_queue (λ _. ⊥) (opened (λ e. cc)) written).taken
  history_so (Err history.Unavailable) written opened = tt
  history_so (Err history.Broken) written opened = of_queue (TookFront held old new) (opened (λ e. cc)) written
  history_so (Err history.Write) written opened = of_queue (TookFront held old new) (opened (λ e. cc)) written

-- ---- the accepted deliveries

-- what is written of the deliveries in the tables is written of those of the content
pub feed_so : {c : Settings} {x : Content} {s : State} {names : List (List ℕ)} {W : Type 0} → HoldsFor s names c x → (after : Option Id) (most : ℕ) (front : List ℕ) (held : W → Option (List ℕ)) (old new : Tap W) (result : Result ℕ FeedFault)
    → ((b : Stored) → Shows s b → WritesFeed b.kept after most front held old new result)
    → MatchResult result (λ _. IsTrue s.is_open) (λ f. f ≢ feed.Unavailable → IsTrue s.is_open) → WritesFeed x.kept after most front held old new result
feed_so {x = x} {s = s} {W = W} holds after most front held old new result written opened = by_result result written opened
  where
    so : (r : Result ℕ FeedFault) → IsTrue s.is_open → ((b : Stored) → Shows s b → WritesFeed b.kept after most front held old new r) → WritesFeed x.kept after most front held old new r
    so r up written =
        let it = holds.shows up in
        subst (λ kept. WritesFeed kept after most front held old new r) it.stands.matches.kept_are (written it.stands.stored (shown it))

    by_result : (r : Result ℕ FeedFault) → ((b : Stored) → Shows s b → WritesFeed b.kept after most front held old new r)
        → MatchResult r (λ _. IsTrue s.is_open) (λ f. f ≢ feed.Unavailable → IsTrue s.is_open) → WritesFeed x.kept after most front held old new r
    by_result (Ok k) written opened = so (Ok k) opened written
    by_result (Err feed.NoDelivery) written opened = so (Err feed.NoDelivery) (opened (λ e. cc)) written
    by_result (Err feed.Unavailable) written opened = tt
    by_result (Err feed.Broken) written opened = so (Err feed.Broken) (opened (λ e. cc)) written
    by_result (Err feed.Write) written opened = so (Err feed.Write) (opened (λ e. cc)) written
