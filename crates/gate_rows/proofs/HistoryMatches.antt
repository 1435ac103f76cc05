-- What is told of landings and reports, where one is added.
use Rattle.std.proofs.Common.{◌≡◌, ℕ, List, [], ◌∷◌, ◌++◌, map, filter, Bool, true, false, cond, ◌&&◌, eqb, refl, sym}
use Rattle.std.proofs.Common.{ap, subst, ◌∙◌, IsPermutation}
use Rattle.std.specs.List.{AllByRecursion}
use Rattle.std.proofs.lemmas.List.Elements.{All-from_recursion, recursion_from_All}
use Rattle.std.proofs.lemmas.List.Sorted.{All-permutation, IsPermutation-push_more}
use Rattle.gate_types.specs.Names.{same_name}
use Rattle.gate_types.specs.State.{put_by}
use Rattle.gate_types.specs.Tables.{Tables, edited_queue, edited_tables}
use Rattle.gate_types.specs.declared.edits.Edit.TheVariants as edit
use Rattle.gate_types.specs.declared.records.Landing.{Landing}
use Rattle.gate_types.specs.declared.records.Report.{Report}
use Rattle.gate_types.specs.declared.rows.LandingRow.{LandingRow}
use Rattle.gate_types.specs.declared.rows.ReportRow.{ReportRow}
use Rattle.gate_schema.specs.Edits.{after_edit}
use Rattle.gate_schema.specs.Rows.{QueueLanding, QueueReport, Stored}
use Rattle.gate_rows.specs.Matches.{Fits, Matches, landings_of, reports_of}
use Rattle.gate_rows.proofs.ItemMatches.{like, nothing_added}
use Rattle.gate_rows.proofs.PutLemmas.{put_new}
use Rattle.gate_rows.proofs.MatchLemmas.{of_queue_changed, of_queue_same, placed_same}

module _ {X Y : Type 0} (queue : X → List ℕ) (row : X → Y) (place : Y → ℕ) where
  -- what is told of one queue
  abbrev of : List ℕ → List X → List Y
  of name rows = map row (filter (λ r. same_name (queue r) name) rows)

  of_push : (name : List ℕ) (x : X) (rows : List X) → of name (rows ++ x ∷ []) ≡ cond (same_name (queue x) name) (of name rows ++ row x ∷ []) (of name rows)
  of_push name x [] = elim (same_name (queue x) name) as (λ m. map row (cond m (x ∷ []) []) ≡ cond m (row x ∷ []) []) [ true ↦ refl | false ↦ refl ]
  of_push name x (y ∷ ys) =
      let left : List X = filter (λ r. same_name (queue r) name) ys in
      let more : List X = filter (λ r. same_name (queue r) name) (ys ++ x ∷ []) in
      let mine = same_name (queue x) name in
      elim (same_name (queue y) name) as (λ m. map row (cond m (y ∷ more) more) ≡ cond mine (map row (cond m (y ∷ left) left) ++ row x ∷ []) (map row (cond m (y ∷ left) left))) [
        | true ↦ ap (λ l. row y ∷ l) (of_push name x ys)
            ∙ elim mine as (λ m. row y ∷ cond m (of name ys ++ row x ∷ []) (of name ys) ≡ cond m (row y ∷ (of name ys ++ row x ∷ [])) (row y ∷ of name ys)) [ true ↦ refl | false ↦ refl ]
        | false ↦ of_push name x ys
      ]

  -- no row of a queue at a place, as all rows tell it and as those of the queue do
  fresh_of : (mine name : List ℕ) (n : ℕ) → same_name mine name ≡ true → (rows : List X) → AllByRecursion (λ y. (same_name (queue y) mine && eqb (place (row y)) n) ≡ false) rows
      → AllByRecursion (λ r. eqb (place r) n ≡ false) (of name rows)
  fresh_of mine name n same [] fresh = tt
  fresh_of mine name n same (y ∷ ys) fresh = go (same_name (queue y) name) refl (fresh_of mine name n same ys fresh.1)
    where
      second : (m c : Bool) → m ≡ true → (m && c) ≡ false → c ≡ false
      second true c e h = h
      second false c e h = absurd (Rattle.std.proofs.Common.true≢false (sym e))

      go : (m : Bool) → same_name (queue y) name ≡ m → AllByRecursion (λ r. eqb (place r) n ≡ false) (of name ys)
          → AllByRecursion (λ r. eqb (place r) n ≡ false) (map row (cond m (y ∷ filter (λ r. same_name (queue r) name) ys) (filter (λ r. same_name (queue r) name) ys)))
      go true e more = (second (same_name (queue y) mine) (eqb (place (row y)) n) (like mine name (queue y) same ∙ e) fresh.0, more)
      go false e more = more

  -- a row added is a row put where none is
  pub added : (mine name : List ℕ) (x : X) → queue x ≡ mine → (rows : List X) (told : List Y) → AllByRecursion (λ y. (same_name (queue y) mine && eqb (place (row y)) (place (row x))) ≡ false) rows
      → IsPermutation (of name rows) told → IsPermutation (of name (rows ++ x ∷ [])) (cond (same_name mine name) (put_by place (row x) told) told)
  added mine name x is rows told fresh same =
      subst (λ l. IsPermutation l (cond (same_name mine name) (put_by place (row x) told) told)) (sym (of_push name x rows ∙ ap (λ m. cond (same_name m name) (of name rows ++ row x ∷ []) (of name rows)) is))
      (go (same_name mine name) refl)
    where
      go : (m : Bool) → same_name mine name ≡ m → IsPermutation (cond m (of name rows ++ row x ∷ []) (of name rows)) (cond m (put_by place (row x) told) told)
      go true e =
          let here = fresh_of mine name (place (row x)) e rows fresh in
          let there = recursion_from_All (λ r. eqb (place r) (place (row x)) ≡ false) told (All-permutation (λ r. eqb (place r) (place (row x)) ≡ false) (of name rows) told same (All-from_recursion (λ r. eqb (place r) (place (row x)) ≡ false) (of name rows) here)) in
          IsPermutation-push_more (of name rows) told (put_by place (row x) told) (row x) same (put_new place (row x) told there)
      go false e = same

pub matches_landing : (name : List ℕ) (n : ℕ) (l : Landing) (b : Stored) (t : Tables) → Fits (edit.PutLanding name n l) b → Matches b t
    → Matches (after_edit (edit.PutLanding name n l) b) (edited_tables t (edit.PutLanding name n l))
matches_landing name n l b t fits h =
    let f = edited_queue (edit.PutLanding name n l) in
    let x : QueueLanding = record { queue = name; row = record { place = n; landing = l } } in
    let put : List ℕ → List LandingRow → List LandingRow = λ other rows. cond (same_name name other) (put_by (λ (r : LandingRow). r.place) x.row rows) rows in
    record {
      queues_are = record {
        places = h.queues_are.places ∙ sym (placed_same f (λ q. refl) (λ q. refl) 0 t.queues);
        items_are = λ other. h.queues_are.items_are other ∙ sym (of_queue_same (λ q. q.items) f (λ q. refl) (λ q. refl) other t.queues);
        landings_are = λ other. subst (λ rows. IsPermutation (landings_of other (b.landings ++ x ∷ [])) rows)
            (sym (of_queue_changed (λ q. q.landings) f (λ q. refl) other (put other)
            (λ q e. ap (λ c. cond c (put_by (λ (r : LandingRow). r.place) x.row q.landings) q.landings) (like q.name other name e)) t.queues
            (nothing_added name other b t (x.row ∷ []) fits.0 h.queues_are.places)))
            (added (λ (r : QueueLanding). r.queue) (λ (r : QueueLanding). r.row) (λ (r : LandingRow). r.place) name other x refl b.landings _ fits.1 (h.queues_are.landings_are other));
        reports_are = λ other. subst (λ l. IsPermutation (reports_of other b.reports) l) (sym (of_queue_same (λ q. q.reports) f (λ q. refl) (λ q. refl) other t.queues)) (h.queues_are.reports_are other);
      };
      counters_are = h.counters_are;
      changes_are = h.changes_are;
      needs_are = h.needs_are;
      builds_are = h.builds_are;
      kept_are = h.kept_are;
      plans_are = h.plans_are;
    }

pub matches_report : (name : List ℕ) (n : ℕ) (r : Report) (b : Stored) (t : Tables) → Fits (edit.PutReport name n r) b → Matches b t
    → Matches (after_edit (edit.PutReport name n r) b) (edited_tables t (edit.PutReport name n r))
matches_report name n r b t fits h =
    let f = edited_queue (edit.PutReport name n r) in
    let x : QueueReport = record { queue = name; row = record { place = n; report = r } } in
    let put : List ℕ → List ReportRow → List ReportRow = λ other rows. cond (same_name name other) (put_by (λ (r : ReportRow). r.place) x.row rows) rows in
    record {
      queues_are = record {
        places = h.queues_are.places ∙ sym (placed_same f (λ q. refl) (λ q. refl) 0 t.queues);
        items_are = λ other. h.queues_are.items_are other ∙ sym (of_queue_same (λ q. q.items) f (λ q. refl) (λ q. refl) other t.queues);
        landings_are = λ other. subst (λ l. IsPermutation (landings_of other b.landings) l) (sym (of_queue_same (λ q. q.landings) f (λ q. refl) (λ q. refl) other t.queues)) (h.queues_are.landings_are other);
        reports_are = λ other. subst (λ rows. IsPermutation (reports_of other (b.reports ++ x ∷ [])) rows)
            (sym (of_queue_changed (λ q. q.reports) f (λ q. refl) other (put other)
            (λ q e. ap (λ c. cond c (put_by (λ (r : ReportRow). r.place) x.row q.reports) q.reports) (like q.name other name e)) t.queues
            (nothing_added name other b t (x.row ∷ []) fits.0 h.queues_are.places)))
            (added (λ (r : QueueReport). r.queue) (λ (r : QueueReport). r.row) (λ (r : ReportRow). r.place) name other x refl b.reports _ fits.1 (h.queues_are.reports_are other));
      };
      counters_are = h.counters_are;
      changes_are = h.changes_are;
      needs_are = h.needs_are;
      builds_are = h.builds_are;
      kept_are = h.kept_are;
      plans_are = h.plans_are;
    }
