-- From what is written of the tables' reports to the history of a content.
use Rattle.std.proofs.Common.{◌≡◌, ◌∙◌, ◌++◌, ◌||◌, true, false, Bool, ℕ, List, [], ◌∷◌, Option, Some, None, Result}
use Rattle.std.proofs.Common.{Ok, Err, cond, find, map, refl, sym, true≢false, ap, subst}
use Rattle.std.specs.Prelude.{IsPermutation}
use Rattle.std.specs.Option.{option_map_or}
use Rattle.sqlite.specs.State.{State}
use Rattle.gate_types.specs.Forms.{IsLawfulContent}
use Rattle.gate_types.specs.Names.{same_name}
use Rattle.gate_types.specs.Once.{Content}
use Rattle.gate_types.specs.Rows.{numbered_reports}
use Rattle.gate_types.specs.Settings.{Settings}
use Rattle.gate_types.specs.State.{Queue}
use Rattle.gate_types.specs.Tap.{Took, TookFront}
use Rattle.gate_types.specs.declared.tap.Tap.{Tap}
use Rattle.gate_types.proofs.NameLemmas.{same_name_is}
use Rattle.gate_book_trait.specs.Reads.{queue_named}
use Rattle.gate_book_trait.specs.Writes.{OfQueue, WritesHistory}
use Rattle.gate_book_trait.specs.declared.fault.HistoryFault.{HistoryFault}
use Rattle.gate_book_trait.specs.declared.fault.HistoryFault.TheVariants as fault
use Rattle.gate_rows.specs.Matches.{reports_of}
use Rattle.gate_queue_queries.specs.History.{OfReports, WritesReports, reports_text}
use Rattle.gate_file_changes.specs.Applies.{is_among}
use Rattle.gate_table_laws.specs.Held.{HoldsFor}
use Rattle.gate_table_laws.proofs.told.QueueReads.{report_rows}

-- ---- the queue of a name

-- a queue that is found has the name
found_named : (name : List ℕ) (qs : List Queue) (q : Queue) → find (λ (r : Queue). same_name r.name name) qs ≡ Some q → q.name ≡ name
found_named name [] q found = absurd cc
found_named name (r ∷ qs) q found = by_name (same_name r.name name) refl found (found_named name qs q)
  where
    by_name : (t : Bool) → same_name r.name name ≡ t → cond t (Some r) (find (λ (r : Queue). same_name r.name name) qs) ≡ Some q →
        (find (λ (r : Queue). same_name r.name name) qs ≡ Some q → q.name ≡ name) → q.name ≡ name
    by_name true e here more = let same : r ≡ q = cc in ap (λ (x : Queue). x.name) (sym same) ∙ same_name_is r.name name e
    by_name false e later more = more later

-- where no queue's name is this one, none is found
none_known : (name : List ℕ) (qs : List Queue) → is_among (map (λ (q : Queue). q.name) qs) name ≡ false → find (λ (q : Queue). same_name q.name name) qs ≡ None
none_known name [] none = refl
none_known name (q ∷ qs) none = by_name (same_name q.name name) none (none_known name qs)
  where
    others : Bool
    others = is_among (map (λ (q : Queue). q.name) qs) name

    by_name : (t : Bool) → (t || others) ≡ false → (others ≡ false → find (λ (q : Queue). same_name q.name name) qs ≡ None) →
        cond t (Some q) (find (λ (q : Queue). same_name q.name name) qs) ≡ None
    by_name true e more = absurd (true≢false e)
    by_name false e more = more e

-- where some queue's name is, one is found
pub some_known : (name : List ℕ) (qs : List Queue) → is_among (map (λ (q : Queue). q.name) qs) name ≡ true → (q : Queue) × (find (λ (q : Queue). same_name q.name name) qs ≡ Some q)
some_known name [] some = absurd (true≢false (sym some))
some_known name (q ∷ qs) some = by_name (same_name q.name name) some (some_known name qs)
  where
    others : Bool
    others = is_among (map (λ (q : Queue). q.name) qs) name

    by_name : (t : Bool) → (t || others) ≡ true → (others ≡ true → (r : Queue) × (find (λ (q : Queue). same_name q.name name) qs ≡ Some r)) →
        (r : Queue) × (cond t (Some q) (find (λ (q : Queue). same_name q.name name) qs) ≡ Some r)
    by_name true e more = (q, refl)
    by_name false e more = more e

module _ {c : Settings} {x : Content} {s : State} {names : List (List ℕ)} (holds : HoldsFor s names c x) (lawful : IsLawfulContent c x) (name : List ℕ) where
  -- the names that the book knows are those of the content's queues
  pub names_told : names ≡ map (λ (q : Queue). q.name) x.state.queues
  names_told = holds.names_are ∙ sym lawful.lawful.sound.queues_are_set

  -- a name that it doesn't know is no queue's
  pub no_queue : is_among names name ≡ false → queue_named x.state name ≡ None
  no_queue none = none_known name x.state.queues (ap (λ l. is_among l name) (sym names_told) ∙ none)

  module _ {W : Type 0} (front : List ℕ) (held : W → Option (List ℕ)) (old new : Tap W) (known : is_among names name ≡ true) where
    -- what is written of the reports in the tables is written of the queue
    of_queue_so : (Takes : List ℕ → Type 0) → OfReports s name front Takes → OfQueue x.state name front Takes
    of_queue_so Takes it =
        let there = some_known name x.state.queues (ap (λ l. is_among l name) (sym names_told) ∙ known) in
        let shown = holds.shows it.was_open in
        let b = shown.stands.stored in
        let rows : IsPermutation (reports_of name b.reports) (numbered_reports 0 there.0.reports) =
        subst (λ l. IsPermutation (reports_of name b.reports) l)
        (report_rows c x b shown.stands.matches name ∙ ap (λ o. numbered_reports 0 (option_map_or (λ (q : Queue). q.reports) o [])) there.1)
        (shown.stands.matches.queues_are.reports_are name) in
        record {
          queue = there.0;
          named = there.1;
          taken = subst (λ n. Takes (front ++ reports_text n there.0.reports)) (sym (found_named name x.state.queues there.0 there.1))
              (it.taken b (record { schema_is = shown.schema_is; stands = shown.stands.stands }) there.0.reports rows);
        }

    -- so it is whatever is answered
    pub history_so : (result : Result (Unit {0}) HistoryFault) → WritesReports s name front held old new result → WritesHistory x.state name front held old new result
    history_so (Ok u) it = of_queue_so (Took held old new) it
    history_so (Err fault.NoQueue) it = absurd (of_queue_so (λ _. ⊥) it).taken
    history_so (Err fault.Unavailable) it = tt
    history_so (Err fault.Broken) it = of_queue_so (TookFront held old new) it
    history_so (Err fault.Write) it = of_queue_so (TookFront held old new) it
