-- What is told of the tables, edit by edit.
use Rattle.std.proofs.Common.{◌≡◌, ℕ, suc, List, [], ◌∷◌, ◌++◌, map, filter, Bool, true, false, not, cond, eqb, Some}
use Rattle.std.proofs.Common.{None, refl, sym, ap, subst, ◌∙◌, IsPermutation}
use Rattle.std.specs.Option.{option_map_or}
use Rattle.std.specs.Prelude.{find}
use Rattle.std.proofs.lemmas.Cmp.{nat_list_eq_equiv}
use Rattle.gate_types.specs.Names.{same_name}
use Rattle.gate_types.specs.State.{put_by}
use Rattle.gate_types.specs.Tables.{QueueRows, Tables, edited_queue, edited_tables, set_counter}
use Rattle.gate_types.specs.Rows.{with_outcome, change_build}
use Rattle.gate_types.specs.Rebase.{with_live}
use Rattle.gate_types.specs.declared.edits.Counter.{Counter}
use Rattle.gate_types.specs.declared.edits.Edit.TheVariants as edit
use Rattle.gate_types.specs.declared.records.Build.{Build}
use Rattle.gate_types.specs.declared.records.Kept.{Kept}
use Rattle.gate_types.specs.declared.records.Item.{Item}
use Rattle.gate_types.specs.declared.records.Outcome.{Outcome}
use Rattle.gate_schema.specs.Edits.{after_edit, at_window}
use Rattle.gate_schema.specs.Rows.{QueueRow, ItemRow, QueueLanding, QueueReport, Stored, build_key, item_key}
use Rattle.gate_rows.specs.Matches.{IsInOrder, Matches, QueuesMatch, items_of, landings_of, reports_of, of_queue, placed}
use Rattle.gate_rows.proofs.PutLemmas.{put_is}
use Rattle.gate_rows.proofs.PlanLemmas.{plans_without}

-- ---- the queues

module _ {X : Type 0} (list : QueueRows → List X) (f : QueueRows → QueueRows) (names : (q : QueueRows) → (f q).name ≡ q.name) where
  -- a list that stays, of any queue
  pub of_queue_same : ((q : QueueRows) → list (f q) ≡ list q) → (name : List ℕ) (qs : List QueueRows) → of_queue list name (map f qs) ≡ of_queue list name qs
  of_queue_same same name [] = refl
  of_queue_same same name (q ∷ qs) =
      ap (λ n. option_map_or list (cond (same_name n name) (Some (f q)) (find (λ (q : QueueRows). same_name q.name name) (map f qs))) []) (names q)
      ∙ elim (same_name q.name name) as (λ c. option_map_or list (cond c (Some (f q)) (find (λ (q : QueueRows). same_name q.name name) (map f qs))) [] ≡ option_map_or list (cond c (Some q) (find (λ (q : QueueRows). same_name q.name name) qs)) [])
      [ true ↦ same q | false ↦ of_queue_same same name qs ]

  -- a list that is changed, of the queue of a name
  pub of_queue_changed : (name : List ℕ) (g : List X → List X) → ((q : QueueRows) → same_name q.name name ≡ true → list (f q) ≡ g (list q)) → (qs : List QueueRows)
      → (find (λ (q : QueueRows). same_name q.name name) qs ≡ None → g [] ≡ []) → of_queue list name (map f qs) ≡ g (of_queue list name qs)
  of_queue_changed name g each [] empty = sym (empty refl)
  of_queue_changed name g each (q ∷ qs) empty =
      ap (λ n. option_map_or list (cond (same_name n name) (Some (f q)) (find (λ (q : QueueRows). same_name q.name name) (map f qs))) []) (names q)
      ∙ go (same_name q.name name) refl empty (of_queue_changed name g each qs)
    where
      go : (c : Bool) → same_name q.name name ≡ c → (cond c (Some q) (find (λ (q : QueueRows). same_name q.name name) qs) ≡ None → g [] ≡ [])
          → ((find (λ (q : QueueRows). same_name q.name name) qs ≡ None → g [] ≡ []) → of_queue list name (map f qs) ≡ g (of_queue list name qs))
          → option_map_or list (cond c (Some (f q)) (find (λ (q : QueueRows). same_name q.name name) (map f qs))) [] ≡ g (option_map_or list (cond c (Some q) (find (λ (q : QueueRows). same_name q.name name) qs)) [])
      go true e empty more = each q e
      go false e empty more = more empty

-- the places stay where names and windows do
pub placed_same : (f : QueueRows → QueueRows) → ((q : QueueRows) → (f q).name ≡ q.name) → ((q : QueueRows) → (f q).window ≡ q.window) → (n : ℕ) (qs : List QueueRows) → placed n (map f qs) ≡ placed n qs
placed_same f names windows n [] = refl
placed_same f names windows n (q ∷ qs) =
    ap (λ m. (record { name = m; place = n; window = (f q).window }) ∷ placed (suc n) (map f qs)) (names q)
    ∙ ap (λ w. (record { name = q.name; place = n; window = w }) ∷ placed (suc n) (map f qs)) (windows q)
    ∙ ap (λ l. (record { name = q.name; place = n; window = q.window }) ∷ l) (placed_same f names windows (suc n) qs)

-- a window set
pub placed_window : (f : QueueRows → QueueRows) (name : List ℕ) (w : ℕ) → ((q : QueueRows) → (f q).name ≡ q.name) → ((q : QueueRows) → (f q).window ≡ cond (same_name name q.name) w q.window)
    → (n : ℕ) (qs : List QueueRows) → map (λ (q : QueueRow). cond (same_name q.name name) (at_window w q) q) (placed n qs) ≡ placed n (map f qs)
placed_window f name w names windows n [] = refl
placed_window f name w names windows n (q ∷ qs) =
    let turned : same_name q.name name ≡ same_name name q.name = nat_list_eq_equiv.symm q.name name in
    let old : QueueRow = record { name = q.name; place = n; window = q.window } in
    let rest = placed (suc n) (map f qs) in
    ap (λ l. cond (same_name q.name name) (at_window w old) old ∷ l) (placed_window f name w names windows (suc n) qs)
    ∙ ap (λ c. cond c (at_window w old) old ∷ rest) turned
    ∙ elim (same_name name q.name) as (λ c. cond c (at_window w old) old ∷ rest ≡ (record { name = q.name; place = n; window = cond c w q.window }) ∷ rest) [ true ↦ refl | false ↦ refl ]
    ∙ sym (ap (λ m. (record { name = m; place = n; window = (f q).window }) ∷ rest) (names q) ∙ ap (λ w. (record { name = q.name; place = n; window = w }) ∷ rest) (windows q))

-- an edit that leaves what stands of each queue
pub queues_stay : (f : QueueRows → QueueRows) → ((q : QueueRows) → (f q).name ≡ q.name) → ((q : QueueRows) → (f q).window ≡ q.window) → ((q : QueueRows) → (f q).items ≡ q.items)
    → ((q : QueueRows) → (f q).landings ≡ q.landings) → ((q : QueueRows) → (f q).reports ≡ q.reports)
    → (queues : List QueueRow) (items : List ItemRow) (landings : List QueueLanding) (reports : List QueueReport) (told : List QueueRows)
    → QueuesMatch queues items landings reports told → QueuesMatch queues items landings reports (map f told)
queues_stay f names windows its lands reps queues items landings reports told h = record {
  places = h.places ∙ sym (placed_same f names windows 0 told);
  items_are = λ name. h.items_are name ∙ sym (of_queue_same (λ q. q.items) f names its name told);
  landings_are = λ name. subst (λ l. IsPermutation (landings_of name landings) l) (sym (of_queue_same (λ q. q.landings) f names lands name told)) (h.landings_are name);
  reports_are = λ name. subst (λ l. IsPermutation (reports_of name reports) l) (sym (of_queue_same (λ q. q.reports) f names reps name told)) (h.reports_are name);
}

-- ---- edits that leave the queues

pub matches_counter : (k : Counter) (n : ℕ) (b : Stored) (t : Tables) → Matches b t → Matches (after_edit (edit.SetCounter k n) b) (edited_tables t (edit.SetCounter k n))
matches_counter k n b t h = record {
  counters_are = ap (set_counter k n) h.counters_are;
  queues_are = queues_stay (edited_queue (edit.SetCounter k n)) (λ q. refl) (λ q. refl) (λ q. refl) (λ q. refl) (λ q. refl) _ _ _ _ _ h.queues_are;
  changes_are = h.changes_are;
  needs_are = h.needs_are;
  builds_are = h.builds_are;
  kept_are = h.kept_are;
  plans_are = h.plans_are;
}

pub matches_kept : (k : Kept) (b : Stored) (t : Tables) → Matches b t → Matches (after_edit (edit.Keep k) b) (edited_tables t (edit.Keep k))
matches_kept k b t h = record {
  queues_are = queues_stay (edited_queue (edit.Keep k)) (λ q. refl) (λ q. refl) (λ q. refl) (λ q. refl) (λ q. refl) _ _ _ _ _ h.queues_are;
  kept_are = ap (λ l. l ++ k ∷ []) h.kept_are;
  plans_are = h.plans_are;
  counters_are = h.counters_are;
  changes_are = h.changes_are;
  needs_are = h.needs_are;
  builds_are = h.builds_are;
}

pub matches_outcome : (n : ℕ) (o : Outcome) (b : Stored) (t : Tables) → Matches b t → Matches (after_edit (edit.SetOutcome n o) b) (edited_tables t (edit.SetOutcome n o))
matches_outcome n o b t h = record {
  queues_are = queues_stay (edited_queue (edit.SetOutcome n o)) (λ q. refl) (λ q. refl) (λ q. refl) (λ q. refl) (λ q. refl) _ _ _ _ _ h.queues_are;
  builds_are = ap (change_build n (with_outcome o)) h.builds_are;
  counters_are = h.counters_are;
  changes_are = h.changes_are;
  needs_are = h.needs_are;
  kept_are = h.kept_are;
  plans_are = h.plans_are;
}

pub matches_stop : (n : ℕ) (b : Stored) (t : Tables) → Matches b t → Matches (after_edit (edit.StopBuild n) b) (edited_tables t (edit.StopBuild n))
matches_stop n b t h = record {
  queues_are = queues_stay (edited_queue (edit.StopBuild n)) (λ q. refl) (λ q. refl) (λ q. refl) (λ q. refl) (λ q. refl) _ _ _ _ _ h.queues_are;
  builds_are = ap (change_build n (with_live false)) h.builds_are;
  counters_are = h.counters_are;
  changes_are = h.changes_are;
  needs_are = h.needs_are;
  kept_are = h.kept_are;
  plans_are = h.plans_are;
}

pub matches_build : (x : Build) (b : Stored) (t : Tables) → IsInOrder b → Matches b t → Matches (after_edit (edit.PutBuild x) b) (edited_tables t (edit.PutBuild x))
matches_build x b t order h = record {
  queues_are = queues_stay (edited_queue (edit.PutBuild x)) (λ q. refl) (λ q. refl) (λ q. refl) (λ q. refl) (λ q. refl) _ _ _ _ _ h.queues_are;
  builds_are = put_is build_key x b.builds order.builds ∙ ap (put_by (λ c. c.number) x) h.builds_are;
  counters_are = h.counters_are;
  changes_are = h.changes_are;
  needs_are = h.needs_are;
  kept_are = h.kept_are;
  plans_are = h.plans_are;
}

-- ---- windows, and items taken out

pub matches_window : (name : List ℕ) (w : ℕ) (b : Stored) (t : Tables) → Matches b t → Matches (after_edit (edit.SetWindow name w) b) (edited_tables t (edit.SetWindow name w))
matches_window name w b t h =
    let f = edited_queue (edit.SetWindow name w) in
    record {
      queues_are = record {
        places = ap (map (λ (q : QueueRow). cond (same_name q.name name) (at_window w q) q)) h.queues_are.places ∙ placed_window f name w (λ q. refl) (λ q. refl) 0 t.queues;
        items_are = λ other. h.queues_are.items_are other ∙ sym (of_queue_same (λ q. q.items) f (λ q. refl) (λ q. refl) other t.queues);
        landings_are = λ other. subst (λ l. IsPermutation (landings_of other b.landings) l) (sym (of_queue_same (λ q. q.landings) f (λ q. refl) (λ q. refl) other t.queues)) (h.queues_are.landings_are other);
        reports_are = λ other. subst (λ l. IsPermutation (reports_of other b.reports) l) (sym (of_queue_same (λ q. q.reports) f (λ q. refl) (λ q. refl) other t.queues)) (h.queues_are.reports_are other);
      };
      counters_are = h.counters_are;
      changes_are = h.changes_are;
      needs_are = h.needs_are;
      builds_are = h.builds_are;
      kept_are = h.kept_are;
      plans_are = h.plans_are;
    }

items_without : (name : List ℕ) (n : ℕ) (rows : List ItemRow)
    → items_of name (filter (λ (y : ItemRow). not (eqb (item_key y) n)) rows) ≡ filter (λ (j : Item). not (eqb j.serial n)) (items_of name rows)
items_without name n [] = refl
items_without name n (y ∷ ys) = go (same_name y.queue name) refl (eqb y.item.serial n) refl (items_without name n ys)
  where
    go : (m : Bool) → same_name y.queue name ≡ m → (c : Bool) → eqb y.item.serial n ≡ c
        → items_of name (filter (λ (y : ItemRow). not (eqb (item_key y) n)) ys) ≡ filter (λ (j : Item). not (eqb j.serial n)) (items_of name ys)
        → items_of name (filter (λ (y : ItemRow). not (eqb (item_key y) n)) (y ∷ ys)) ≡ filter (λ (j : Item). not (eqb j.serial n)) (items_of name (y ∷ ys))
    go true e true f more = rw (e, f, more)
    go true e false f more = rw (f, e, f, more)
    go false e true f more = rw (e, f, more)
    go false e false f more = rw (f, e, more)

pub matches_drop : (n : ℕ) (b : Stored) (t : Tables) → Matches b t → Matches (after_edit (edit.DropItem n) b) (edited_tables t (edit.DropItem n))
matches_drop n b t h =
    let f = edited_queue (edit.DropItem n) in
    record {
      queues_are = record {
        places = h.queues_are.places ∙ sym (placed_same f (λ q. refl) (λ q. refl) 0 t.queues);
        items_are = λ name. items_without name n b.items ∙ ap (filter (λ (j : Item). not (eqb j.serial n))) (h.queues_are.items_are name)
            ∙ sym (of_queue_changed (λ q. q.items) f (λ q. refl) name (filter (λ (j : Item). not (eqb j.serial n))) (λ q e. refl) t.queues (λ _. refl));
        landings_are = λ other. subst (λ l. IsPermutation (landings_of other b.landings) l) (sym (of_queue_same (λ q. q.landings) f (λ q. refl) (λ q. refl) other t.queues)) (h.queues_are.landings_are other);
        reports_are = λ other. subst (λ l. IsPermutation (reports_of other b.reports) l) (sym (of_queue_same (λ q. q.reports) f (λ q. refl) (λ q. refl) other t.queues)) (h.queues_are.reports_are other);
      };
      counters_are = h.counters_are;
      changes_are = h.changes_are;
      needs_are = h.needs_are;
      builds_are = h.builds_are;
      kept_are = h.kept_are;
      plans_are = plans_without n b t.plans h.plans_are;
    }
