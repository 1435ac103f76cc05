-- The form of the rows of queues, changes and builds.
use Rattle.std.proofs.Common.{◌≡◌, ℕ, suc, Bool, true, false, ◌&&◌, Option, Some, None, List, [], ◌∷◌, length, map}
use Rattle.std.proofs.Common.{refl, sym, subst, inl, inr}
use Rattle.std.specs.Prelude.{◌==◌, find, nat_le, option_map}
use Rattle.std.specs.List.{AllPass, list_all}
use Rattle.std.specs.Option.{option_map_or}
use Rattle.std.proofs.lemmas.Bool.{and_from, and_parts, false≢true}
use Rattle.gate_types.specs.declared.records.Build.{Build}
use Rattle.gate_types.specs.declared.records.Change.{Change}
use Rattle.gate_types.specs.declared.records.Ready.{Ready}
use Rattle.gate_types.specs.declared.rows.ChangeRow.{ChangeRow}
use Rattle.gate_types.specs.Forms.{IsLawfulContent, is_build_in_form, is_change_in_form, is_change_number}
use Rattle.gate_types.specs.Forms.{is_drawn_number, is_entry_in_form, is_queue_in_form, is_ready_in_form}
use Rattle.gate_types.specs.Forms.{is_revision_number}
use Rattle.gate_types.specs.Once.{Content}
use Rattle.gate_types.specs.Names.{is_name}
use Rattle.gate_types.specs.Settings.{Settings, has_queue}
use Rattle.gate_types.specs.State.{Queue, State}
use Rattle.gate_types.specs.Tables.{approval_of, change_row, tables}
use Rattle.gate_schema.specs.Rows.{QueueRow, Stored}
use Rattle.gate_rows.specs.Matches.{Matches, placed}
use Rattle.gate_book_trait.proofs.ReadLemmas.{rows_of_queue}
use Rattle.gate_found_rows.specs.Whole.{is_build_row_in_form, is_change_row_in_form}
use Rattle.gate_laws.proofs.Members.{all, every, found, from_map}
use Rattle.gate_types.specs.Counters.{last_number}
use Rattle.gate_types.specs.Limits.{most_items, most_window}
use Rattle.gate_types.specs.Rising.{In}

-- the row of a queue has its window
window_of_row : (c : Settings) (s : State) (n : ℕ) (qs : List Queue) (r : QueueRow) →
    In r (placed n (map (rows_of_queue c s) qs)) → (q : Queue) × In q qs × (q.window ≡ r.window)
window_of_row c s n [] r m = absurd m
window_of_row c s n (q ∷ qs) r m = elim m [
  | inl e ↦ (q, inl refl, λ k. (e k).window)
  | inr t ↦ (let at = window_of_row c s (suc n) qs r t in (at.0, inr at.1, at.2))
]

-- the window of a queue in form
window_form : (q : Queue) → is_queue_in_form q ≡ true → nat_le q.window most_window ≡ true
window_form q h =
    let landings = and_parts _ _ (and_parts _ _ h).0 in
    let few = and_parts _ _ (and_parts _ _ landings.0).0 in
    (and_parts _ _ few.0).1

-- the approval of a change that is ready is in range
approval_drawn : (ready : List Ready) → ((r : Ready) → In r ready → is_ready_in_form r ≡ true) → (n : ℕ) →
    option_map_or is_drawn_number (approval_of ready n) true ≡ true
approval_drawn ready forms n = by_ready (find (λ (r : Ready). r.change == n) ready) refl
  where
    by_ready : (o : Option Ready) → find (λ (r : Ready). r.change == n) ready ≡ o →
        option_map_or is_drawn_number (option_map (λ (r : Ready). r.approval) o) true ≡ true
    by_ready None e = refl
    by_ready (Some r) e =
        let at = found (λ (r : Ready). r.change == n) ready r e in
        (and_parts (is_drawn_number r.approval) (is_change_number r.change) (forms r at.0)).0

-- the second of eight tests left out
without_second : (number set queue job numbers base few entries : Bool) →
    number && set && queue && job && numbers && base && few && entries ≡ true →
    number && queue && job && numbers && base && few && entries ≡ true
without_second true true queue job numbers base few entries h = h
without_second true false queue job numbers base few entries h = absurd (false≢true h)
without_second false set queue job numbers base few entries h = h

-- the row of a build in form
build_form : (c : Settings) (x : Build) → is_build_in_form c x ≡ true → is_build_row_in_form x ≡ true
build_form c x h =
    without_second (is_drawn_number x.number) (has_queue c.queues x.queue) (is_name x.queue) (is_name x.job)
    (is_drawn_number x.serial && is_change_number x.change && is_revision_number x.revision)
    (nat_le x.after last_number) (nat_le (length x.ahead) most_items) (list_all is_entry_in_form x.ahead) h

module _ (c : Settings) (x : Content) (b : Stored) (lawful : IsLawfulContent c x) (told : Matches b (tables c x)) where
  -- the windows of the queues
  pub windows_in_form : AllPass (λ (q : QueueRow). nat_le q.window most_window) b.queues
  windows_in_form =
      subst (λ l. AllPass (λ (q : QueueRow). nat_le q.window most_window) l) (sym told.queues_are.places)
      (all (λ (r : QueueRow). nat_le r.window most_window ≡ true) (placed 0 (tables c x).queues) (λ r m.
      let at = window_of_row c x.state 0 x.state.queues r m in
      subst (λ n. nat_le n most_window ≡ true) at.2 (window_form at.0 (every (λ (q : Queue). is_queue_in_form q ≡ true)
      x.state.queues lawful.in_form.state.queues at.0 at.1))))

  -- the changes, with their approvals
  pub changes_in_form : AllPass is_change_row_in_form b.changes
  changes_in_form =
      subst (λ l. AllPass is_change_row_in_form l) (sym told.changes_are)
      (all (λ (r : ChangeRow). is_change_row_in_form r ≡ true) (tables c x).changes (λ r m.
      let at = from_map (change_row x.state.ready) x.state.changes r m in
      subst (λ (r : ChangeRow). is_change_row_in_form r ≡ true) at.2
      (and_from (is_change_in_form at.0) (option_map_or is_drawn_number (approval_of x.state.ready at.0.number) true)
      (every (λ (k : Change). is_change_in_form k ≡ true) x.state.changes lawful.in_form.state.changes at.0 at.1)
      (approval_drawn x.state.ready
      (every (λ (r : Ready). is_ready_in_form r ≡ true) x.state.ready lawful.in_form.state.ready) at.0.number))))

  -- the builds
  pub builds_in_form : AllPass is_build_row_in_form b.builds
  builds_in_form =
      subst (λ l. AllPass is_build_row_in_form l) (sym told.builds_are)
      (all (λ (y : Build). is_build_row_in_form y ≡ true) x.state.builds (λ y m. build_form c y
      (every (λ (y : Build). is_build_in_form c y ≡ true) x.state.builds lawful.in_form.state.builds y m)))
