-- The row of a change is put: the change, and its approval while it is ready.
use Rattle.std.proofs.Common.{◌≡◌, ℕ, suc, ◌+◌, ◌<◌, ◌≤◌, Bool, true, false, not, cond, Option, Some, None, List, []}
use Rattle.std.proofs.Common.{◌∷◌, ◌++◌, map, filter, refl, sym, ap, ◌∙◌, arith, inl, inr}
use Rattle.std.specs.Prelude.{◌==◌, ◌≢◌, nat_lt, find, option_map}
use Rattle.std.specs.List.{list_any}
use Rattle.std.specs.List.Sorted.{IsStrictlyIncreasing}
use Rattle.std.proofs.lemmas.Bool.{or_parts, eq-eqb, ne_eqb, eqb-true, eqb-false, ltb-true, le-ltb}
use Rattle.gate_types.specs.declared.records.Change.{Change}
use Rattle.gate_types.specs.declared.records.Ready.{Ready}
use Rattle.gate_types.specs.declared.records.Stage.{Stage}
use Rattle.gate_types.specs.declared.rows.ChangeRow.{ChangeRow}
use Rattle.gate_types.specs.declared.edits.Edit.TheVariants as edit
use Rattle.gate_types.specs.declared.edits.Counter.TheVariants as counter
use Rattle.gate_types.specs.State.{State, put_by, put_change, known_change, is_ready}
use Rattle.gate_types.specs.Admit.{without_ready}
use Rattle.gate_types.specs.Step.{made_ready}
use Rattle.gate_types.specs.Once.{Content}
use Rattle.gate_types.specs.Tables.{approval_of, at_stage, change_row}
use Rattle.gate_types.specs.Keys.{number_of_change}
use Rattle.gate_types.specs.Rising.{In, RisesFrom}
use Rattle.gate_types.proofs.ChangedLemmas.{put_changes}
use Rattle.gate_book_trait.proofs.Finding.{find_map}
use Rattle.gate_laws.proofs.Members.{map_same, found}
use Rattle.gate_laws.proofs.Rising.{Rising, rising}
use Rattle.gate_reads.specs.Moves.{in_state, Moves}
use Rattle.gate_ruling.proofs.Folded.{by_parts}

abbrev number_of : Change → ℕ
number_of k = k.number

-- a change of this number isn't among later ones
later : (n : ℕ) (j : Change) (js : List Change) → n < j.number → Rising number_of (j ∷ js) →
    (y : Change) → In y (j ∷ js) → y.number ≢ n
later n j js below r y m e = elim m [
  | inl same ↦ (let equal = ap number_of same in absurd (omega (arith, below, equal, e)))
  | inr there ↦ (let above = r.0 y there in absurd (omega (arith, below, above, e)))
]

-- ---- the table of changes

-- the rows after one was put, where the other changes keep their approvals
rows_put : (old new : List Ready) (k : Change) (a : Option ℕ) → approval_of new k.number ≡ a →
    ((m : ℕ) → m ≢ k.number → approval_of new m ≡ approval_of old m) → (ks : List Change) → Rising number_of ks →
    put_by (λ (r : ChangeRow). r.change.number) (record { change = k; approval = a }) (map (change_row old) ks)
    ≡ map (change_row new) (put_by number_of k ks)
rows_put old new k a own others [] r = λ i. record { change = k; approval = sym own i } ∷ []
rows_put old new k a own others (j ∷ js) r =
    by_tests (k.number == j.number) refl (nat_lt k.number j.number) refl (rows_put old new k a own others js r.1)
  where
    row : ChangeRow
    row = record { change = k; approval = a }

    kept : (ks : List Change) → ((y : Change) → In y ks → y.number ≢ k.number) →
        map (change_row old) ks ≡ map (change_row new) ks
    kept ks h = map_same (change_row old) (change_row new) ks
        (λ y m i. record { change = y; approval = sym (others y.number (h y m)) i })

    by_tests : (t : Bool) → k.number == j.number ≡ t → (u : Bool) → nat_lt k.number j.number ≡ u →
        put_by (λ (r : ChangeRow). r.change.number) row (map (change_row old) js)
        ≡ map (change_row new) (put_by number_of k js) →
        cond t (row ∷ map (change_row old) js) (cond u (row ∷ map (change_row old) (j ∷ js))
        (change_row old j ∷ put_by (λ (r : ChangeRow). r.change.number) row (map (change_row old) js)))
        ≡ map (change_row new) (cond t (k ∷ js) (cond u (k ∷ j ∷ js) (j ∷ put_by number_of k js)))
    by_tests true e u f rest =
        let same = eqb-true k.number j.number e in
        (λ i. record { change = k; approval = sym own i } ∷ kept js (λ y m q.
        let above = r.0 y m in absurd (omega (arith, above, same, q))) i)
    by_tests false e true f rest =
        let below = ltb-true k.number j.number f in
        (λ i. record { change = k; approval = sym own i } ∷ kept (j ∷ js) (later k.number j js below r) i)
    by_tests false e false f rest =
        let apart = others j.number (λ q. eqb-false k.number j.number e (sym q)) in
        (λ i. record { change = j; approval = sym apart i } ∷ rest i)

-- the change that is known stands in its place already
pub put_known : (s : State) (n : ℕ) (k : Change) → IsStrictlyIncreasing (map number_of s.changes) →
    known_change s n ≡ Some k → put_by number_of k s.changes ≡ s.changes
put_known s n k rises h = along s.changes (rising number_of s.changes rises) h
  where
    same_number : (ks : List Change) → find (λ j. j.number == n) ks ≡ Some k → In k ks × (k.number ≡ n)
    same_number ks e = let x = found (λ (j : Change). j.number == n) ks k e in (x.0, eqb-true k.number n x.1)

    along : (ks : List Change) → Rising number_of ks → find (λ j. j.number == n) ks ≡ Some k →
        put_by number_of k ks ≡ ks
    along [] r e = absurd (same_number [] e).0
    along (j ∷ js) r e = elim (same_number (j ∷ js) e).0 [
      | inl same ↦ ap (λ b. cond b (k ∷ js) (cond (nat_lt k.number j.number) (k ∷ j ∷ js) (j ∷ put_by number_of k js)))
          (eq-eqb k.number j.number (ap number_of (sym same))) ∙ ap (λ y. y ∷ js) (sym same)
      | inr there ↦ (let above : j.number < k.number = r.0 k there in
          let at = (same_number (j ∷ js) e).1 in
          let skip : j.number == n ≡ false = ne_eqb j.number n (λ q. omega (arith, above, at, q)) in
          let rest = sym (ap (λ b. cond b (Some j) (find (λ i. i.number == n) js)) skip) ∙ e in
          ap (λ b. cond b (k ∷ js) (cond (nat_lt k.number j.number) (k ∷ j ∷ js) (j ∷ put_by number_of k js)))
          (ne_eqb k.number j.number (λ q. omega (arith, above, q)))
          ∙ ap (λ b. cond b (k ∷ j ∷ js) (j ∷ put_by number_of k js)) (le-ltb k.number j.number (omega (arith, above)))
          ∙ ap (λ l. j ∷ l) (along js r.1 rest))
    ]

-- its row does too
pub row_known : (s : State) (n : ℕ) (k : Change) → IsStrictlyIncreasing (map number_of s.changes) →
    known_change s n ≡ Some k →
    put_by (λ (r : ChangeRow). r.change.number) (change_row s.ready k) (map (change_row s.ready) s.changes)
    ≡ map (change_row s.ready) s.changes
row_known s n k rises known =
    rows_put s.ready s.ready k (approval_of s.ready k.number) refl (λ m apart. refl) s.changes
    (rising number_of s.changes rises)
    ∙ ap (map (change_row s.ready)) (put_known s n k rises known)

-- ---- the ready list

taken_out : (rs : List Ready) (n : ℕ) → approval_of (filter (λ r. not (r.change == n)) rs) n ≡ None
taken_out [] n = refl
taken_out (r ∷ rs) n = by_test (r.change == n) refl (taken_out rs n)
  where
    by_test : (t : Bool) → r.change == n ≡ t → approval_of (filter (λ y. not (y.change == n)) rs) n ≡ None →
        approval_of (cond (not t) (r ∷ filter (λ y. not (y.change == n)) rs) (filter (λ y. not (y.change == n)) rs)) n
        ≡ None
    by_test true e h = h
    by_test false e h =
        ap (λ b. option_map (λ y. y.approval) (cond b (Some r) (find (λ y. y.change == n)
        (filter (λ y. not (y.change == n)) rs)))) e ∙ h

others_stay : (rs : List Ready) (n m : ℕ) → m ≢ n →
    approval_of (filter (λ r. not (r.change == n)) rs) m ≡ approval_of rs m
others_stay [] n m apart = refl
others_stay (r ∷ rs) n m apart = by_test (r.change == n) refl (others_stay rs n m apart)
  where
    less : List Ready
    less = filter (λ y. not (y.change == n)) rs

    by_test : (t : Bool) → r.change == n ≡ t → approval_of less m ≡ approval_of rs m →
        approval_of (cond (not t) (r ∷ less) less) m ≡ approval_of (r ∷ rs) m
    by_test true e h =
        h ∙ ap (λ b. option_map (λ y. y.approval) (cond b (Some r) (find (λ y. y.change == m) rs)))
        (sym (ne_eqb r.change m (λ q. apart (sym q ∙ eqb-true r.change n e))))
    by_test false e h = by_head (r.change == m)
      where
        by_head : (u : Bool) → option_map (λ y. y.approval) (cond u (Some r) (find (λ y. y.change == m) less))
            ≡ option_map (λ y. y.approval) (cond u (Some r) (find (λ y. y.change == m) rs))
        by_head true = refl
        by_head false = h

pushed : (rs : List Ready) (n a : ℕ) → list_any (λ r. r.change == n) rs ≡ false →
    approval_of (rs ++ record { approval = a; change = n } ∷ []) n ≡ Some a
pushed [] n a h =
    ap (λ b. option_map (λ (y : Ready). y.approval) (cond b (Some (record { approval = a; change = n })) None))
    (eq-eqb n n refl)
pushed (r ∷ rs) n a h =
    let both = or_parts (r.change == n) (list_any (λ y. y.change == n) rs) h in
    ap (λ b. option_map (λ (y : Ready). y.approval) (cond b (Some r) (find (λ y. y.change == n)
    (rs ++ record { approval = a; change = n } ∷ [])))) both.0 ∙ pushed rs n a both.1

not_pushed : (rs : List Ready) (n a m : ℕ) → m ≢ n →
    approval_of (rs ++ record { approval = a; change = n } ∷ []) m ≡ approval_of rs m
not_pushed [] n a m apart =
    ap (λ b. option_map (λ (y : Ready). y.approval) (cond b (Some (record { approval = a; change = n })) None))
    (ne_eqb n m (λ q. apart (sym q)))
not_pushed (r ∷ rs) n a m apart = by_head (r.change == m) (not_pushed rs n a m apart)
  where
    by_head : (u : Bool) →
        approval_of (rs ++ record { approval = a; change = n } ∷ []) m ≡ approval_of rs m →
        option_map (λ (y : Ready). y.approval) (cond u (Some r) (find (λ y. y.change == m)
        (rs ++ record { approval = a; change = n } ∷ [])))
        ≡ option_map (λ (y : Ready). y.approval) (cond u (Some r) (find (λ y. y.change == m) rs))
    by_head true h = refl
    by_head false h = h

-- ---- all tables

-- a change is put, and its approval as a new ready list has it
put_moves : (x : Content) (s : State) (k : Change) (a : Option ℕ) (ready : List Ready) →
    IsStrictlyIncreasing (map number_of s.changes) → approval_of ready k.number ≡ a →
    ((m : ℕ) → m ≢ k.number → approval_of ready m ≡ approval_of s.ready m) →
    Moves (in_state x s) (edit.PutChange k a ∷ []) (record s { changes = put_by number_of k s.changes; ready = ready })
put_moves x s k a ready rises own others =
    by_parts (in_state x s) (edit.PutChange k a ∷ [])
    (record s { changes = put_by number_of k s.changes; ready = ready })
    (record {
      changes = rows_put s.ready ready k a own others s.changes (rising number_of s.changes rises);
      queues = λ columns. refl;
      plans = refl;
      builds = refl;
      counters = refl;
      kept = refl;
    })

-- a change is put that is ready no longer
pub anew_moves : (x : Content) (s : State) (k : Change) → IsStrictlyIncreasing (map number_of s.changes) →
    Moves (in_state x s) (edit.PutChange k None ∷ []) (put_change k (without_ready k.number s))
anew_moves x s k rises =
    put_moves x s k None (filter (λ r. not (r.change == k.number)) s.ready) rises (taken_out s.ready k.number)
    (λ m apart. others_stay s.ready k.number m apart)

-- the rows of changes rise as these do
rows_rise : (rs : List Ready) (low : ℕ) (ks : List Change) → ((y : Change) → In y ks → low ≤ y.number) →
    Rising number_of ks → RisesFrom number_of_change low (map (change_row rs) ks)
rows_rise rs low [] above r = tt
rows_rise rs low (j ∷ js) above r =
    (above j (inl refl), rows_rise rs (suc j.number) js (λ y m. let l = r.0 y m in omega (arith, l)) r.1)

-- a known change is set to a stage, and is ready no longer
pub stage_moves : (x : Content) (s : State) (k : Change) (g : Stage) → IsStrictlyIncreasing (map number_of s.changes) →
    known_change s k.number ≡ Some k →
    Moves (in_state x s) (edit.SetStage k.number g ∷ [])
    (put_change (record k { stage = g }) (without_ready k.number s))
stage_moves x s k g rises known =
    let up = rising number_of s.changes rises in
    let ready = filter (λ r. not (r.change == k.number)) s.ready in
    let found : find (λ (r : ChangeRow). r.change.number == k.number) (map (change_row s.ready) s.changes)
    ≡ Some (change_row s.ready k) =
    find_map (change_row s.ready) (λ (r : ChangeRow). r.change.number == k.number) s.changes
    ∙ ap (option_map (change_row s.ready)) known in
    by_parts (in_state x s) (edit.SetStage k.number g ∷ [])
    (put_change (record k { stage = g }) (without_ready k.number s))
    (record {
      changes = sym (put_changes number_of_change k.number (at_stage g) (λ r. refl) 0
          (map (change_row s.ready) s.changes)
          (change_row s.ready k) (rows_rise s.ready 0 s.changes (λ y m. omega arith) up) found)
          ∙ rows_put s.ready ready (record k { stage = g }) None (taken_out s.ready k.number)
          (λ m apart. others_stay s.ready k.number m apart) s.changes up;
      queues = λ columns. refl;
      plans = refl;
      builds = refl;
      counters = refl;
      kept = refl;
    })

-- a known change becomes ready
pub ready_moves : (x : Content) (n : ℕ) (k : Change) → IsStrictlyIncreasing (map number_of x.state.changes) →
    known_change x.state n ≡ Some k → is_ready x.state n ≡ false → (a : ℕ) → a ≡ x.state.counters.approval + 1 →
    Moves x (edit.PutChange k (Some a) ∷ edit.SetCounter counter.Approval a ∷ []) (made_ready n x.state)
ready_moves x n k rises known h a e =
    let s = x.state in
    let number = eqb-true k.number n (found (λ (j : Change). j.number == n) s.changes k known).1 in
    let ready = s.ready ++ record { approval = s.counters.approval + 1; change = n } ∷ [] in
    by_parts x (edit.PutChange k (Some a) ∷ edit.SetCounter counter.Approval a ∷ []) (made_ready n s) (record {
      changes = rows_put s.ready ready k (Some a)
          (ap (approval_of ready) number ∙ pushed s.ready n (s.counters.approval + 1) h ∙ ap Some (sym e))
          (λ m apart. not_pushed s.ready n (s.counters.approval + 1) m (λ q. apart (q ∙ sym number))) s.changes
          (rising number_of s.changes rises)
          ∙ ap (map (change_row ready)) (put_known s n k rises known);
      queues = λ columns. refl;
      plans = refl;
      builds = refl;
      counters = λ i. record s.counters { approval = e i };
      kept = refl;
    })
