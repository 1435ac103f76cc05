-- What is told of a change and its needs, where it is put, or its stage is set.
use Rattle.std.proofs.Common.{◌≡◌, ℕ, suc, List, [], ◌∷◌, ◌++◌, filter, Bool, true, false, not, cond, eqb, Some}
use Rattle.std.proofs.Common.{Option, refl, sym, ap, subst, ◌∙◌, arith, append-nil, map, nat_eq}
use lib.Pointwise.{bytes_decides, pointwise}
use Rattle.std.proofs.lemmas.Bool.Decides.{nat_tests}
use Rattle.gate_types.specs.State.{put_by}
use Rattle.gate_types.specs.Tables.{Tables, at_stage, change_known, change_row_in, edited_queue, edited_tables, needs_in}
use Rattle.gate_types.specs.declared.edits.Edit.TheVariants as edit
use Rattle.gate_types.specs.declared.records.Change.{Change}
use Rattle.gate_types.specs.declared.records.Stage.{Stage}
use Rattle.gate_types.specs.declared.rows.ChangeRow.{ChangeRow}
use Rattle.gate_types.proofs.ChangedLemmas.{needs_at_stage, needs_of_row}
use Rattle.gate_schema.specs.Edits.{after_edit, change_with, need_rows, standing_needs}
use Rattle.gate_schema.specs.Rows.{NeedRow, Stored, change_key}
use Rattle.gate_rows.specs.Matches.{IsInOrder, Matches}
use Rattle.gate_rows.proofs.PutLemmas.{filter-append, find_put, put_is}
use Rattle.gate_rows.proofs.MatchLemmas.{queues_stay}

-- ---- needs

-- the needs of a change, without those of one
needs_without : (k n : ℕ) (rows : List NeedRow)
    → filter (λ (x : NeedRow). eqb x.change n) (filter (λ (x : NeedRow). not (eqb x.change k)) rows) ≡ cond (eqb k n) [] (filter (λ (x : NeedRow). eqb x.change n) rows)
needs_without k n [] = elim (eqb k n) as (λ c. ◌≡◌ {A = List NeedRow} [] (cond c [] [])) [ true ↦ refl | false ↦ refl ]
needs_without k n (y ∷ ys) = go (eqb y.change k) refl (eqb y.change n) refl (eqb k n) refl (needs_without k n ys)
  where
    go : (a : Bool) → eqb y.change k ≡ a → (c : Bool) → eqb y.change n ≡ c → (d : Bool) → eqb k n ≡ d
        → filter (λ (x : NeedRow). eqb x.change n) (filter (λ (x : NeedRow). not (eqb x.change k)) ys) ≡ cond (eqb k n) [] (filter (λ (x : NeedRow). eqb x.change n) ys)
        → filter (λ (x : NeedRow). eqb x.change n) (filter (λ (x : NeedRow). not (eqb x.change k)) (y ∷ ys)) ≡ cond (eqb k n) [] (filter (λ (x : NeedRow). eqb x.change n) (y ∷ ys))
    go true e true f true d more = rw (e, more, d)
    go true e false f false d more = rw (e, more, d, f)
    go true e true f false d more = absurd (grind (arith, nat_tests))
    go true e false f true d more = absurd (grind (arith, nat_tests))
    go false e true f true d more = absurd (grind (arith, nat_tests))
    go false e true f false d more = rw (e, f, more, d)
    go false e false f true d more = rw (e, f, more, d)
    go false e false f false d more = rw (e, f, more, d)

-- those of one change, by their places
needs_of_one : (k n m : ℕ) (xs : List ℕ) → filter (λ (x : NeedRow). eqb x.change n) (need_rows k m xs) ≡ cond (eqb k n) (need_rows k m xs) []
needs_of_one k n m [] = elim (eqb k n) as (λ c. ◌≡◌ {A = List NeedRow} [] (cond c [] [])) [ true ↦ refl | false ↦ refl ]
needs_of_one k n m (x ∷ xs) =
    let first : NeedRow = record { change = k; place = m; needed = x } in
    let rest = need_rows k (suc m) xs in
    ap (λ l. cond (eqb k n) (first ∷ l) l) (needs_of_one k n (suc m) xs)
    ∙ elim (eqb k n) as (λ c. cond c (first ∷ cond c rest []) (cond c rest []) ≡ cond c (first ∷ rest) []) [ true ↦ refl | false ↦ refl ]

-- the numbers of needs by their places
needed_of_rows : (k m : ℕ) (xs : List ℕ) → map (λ (y : NeedRow). y.needed) (need_rows k m xs) ≡ xs
needed_of_rows k m [] = refl
needed_of_rows k m (x ∷ xs) = ap (λ l. x ∷ l) (needed_of_rows k (suc m) xs)

pub matches_change : (k : Change) (a : Option ℕ) (b : Stored) (t : Tables) → IsInOrder b → Matches b t → Matches (after_edit (edit.PutChange k a) b) (edited_tables t (edit.PutChange k a))
matches_change k a b t order h =
    let x : ChangeRow = change_with k a in
    record {
      queues_are = queues_stay (edited_queue (edit.PutChange k a)) (λ q. refl) (λ q. refl) (λ q. refl) (λ q. refl) (λ q. refl) _ _ _ _ _ h.queues_are;
      changes_are = put_is change_key x b.changes order.changes ∙ ap (put_by change_key x) h.changes_are;
      needs_are = λ n. go n (pointwise nat_eq (standing_needs k.number b.needs) k.needs) refl (eqb k.number n) refl ∙ sym (ap (λ o. need_rows n 0 (needs_of_row o)) (find_put change_key n x t.changes));
      counters_are = h.counters_are;
      builds_are = h.builds_are;
      kept_are = h.kept_are;
      plans_are = h.plans_are;
    }
  where
    -- the needs that were put, of the change or of another
    put : (n : ℕ) (c : Bool) → eqb k.number n ≡ c
        → (cond c [] (need_rows n 0 (needs_in t.changes n)) ++ cond c (need_rows k.number 0 k.needs) [])
        ≡ need_rows n 0 (needs_of_row (cond c (Some (change_with k a)) (change_row_in t.changes n)))
    put n true e = let same : k.number ≡ n = grind (arith, nat_tests) in ap (λ m. need_rows m 0 k.needs) same
    put n false e = append-nil (need_rows n 0 (needs_in t.changes n))

    go : (n : ℕ) (s : Bool) → pointwise nat_eq (standing_needs k.number b.needs) k.needs ≡ s → (c : Bool) → eqb k.number n ≡ c
        → filter (λ (y : NeedRow). eqb y.change n) (cond s b.needs (filter (λ (y : NeedRow). not (eqb y.change k.number)) b.needs ++ need_rows k.number 0 k.needs))
        ≡ need_rows n 0 (needs_of_row (cond c (Some (change_with k a)) (change_row_in t.changes n)))
    go n true s true e =
        let is : k.number ≡ n = grind (arith, nat_tests) in
        let needed : needs_in t.changes k.number ≡ k.needs = sym (needed_of_rows k.number 0 (needs_in t.changes k.number)) ∙ ap (map (λ (y : NeedRow). y.needed)) (sym (h.needs_are k.number)) ∙ (bytes_decides _ _).0 s in
        subst (λ m. filter (λ (y : NeedRow). eqb y.change m) b.needs ≡ need_rows m 0 k.needs) is (h.needs_are k.number ∙ ap (need_rows k.number 0) needed)
    go n true s false e = h.needs_are n
    go n false s c e =
        filter-append (λ (y : NeedRow). eqb y.change n) (filter (λ (y : NeedRow). not (eqb y.change k.number)) b.needs) (need_rows k.number 0 k.needs)
        ∙ ap (λ l. l ++ filter (λ (y : NeedRow). eqb y.change n) (need_rows k.number 0 k.needs)) (needs_without k.number n b.needs)
        ∙ ap (λ l. cond (eqb k.number n) [] (filter (λ (y : NeedRow). eqb y.change n) b.needs) ++ l) (needs_of_one k.number n 0 k.needs)
        ∙ ap (λ l. cond (eqb k.number n) [] l ++ cond (eqb k.number n) (need_rows k.number 0 k.needs) []) (h.needs_are n)
        ∙ ap (λ d. cond d [] (need_rows n 0 (needs_in t.changes n)) ++ cond d (need_rows k.number 0 k.needs) []) e
        ∙ put n c e

-- ---- a stage set

pub matches_stage : (n : ℕ) (g : Stage) (b : Stored) (t : Tables) → Matches b t → Matches (after_edit (edit.SetStage n g) b) (edited_tables t (edit.SetStage n g))
matches_stage n g b t h = record {
  queues_are = queues_stay (edited_queue (edit.SetStage n g)) (λ q. refl) (λ q. refl) (λ q. refl) (λ q. refl) (λ q. refl) _ _ _ _ _ h.queues_are;
  changes_are = ap (change_known n (at_stage g)) h.changes_are;
  needs_are = λ m. h.needs_are m ∙ ap (need_rows m 0) (sym (needs_at_stage n g t.changes m));
  counters_are = h.counters_are;
  builds_are = h.builds_are;
  kept_are = h.kept_are;
  plans_are = h.plans_are;
}
