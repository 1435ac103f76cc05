-- What is asked of changes, of the file's rows and of a content: what is known of one, and which are ready.
use Rattle.std.proofs.Common.{◌≡◌, ◌≢◌, ℕ, ◌≤◌, true, ◌++◌, Option, Some, None, List, [], ◌∷◌, map, refl, sym, ap}
use Rattle.std.proofs.Common.{◌∙◌, subst, inl, inr, arith, true≢false, ◌≡◌, ◌≢◌, ℕ, suc, ◌≤◌, true, ◌||◌, ◌++◌}
use Rattle.std.proofs.Common.{Option, Some, None, List, [], ◌∷◌, map, refl, sym, ap, ◌∙◌, subst, inl, inr, arith}
use Rattle.std.proofs.Common.{true≢false}
use Rattle.std.specs.Prelude.{◌==◌, AllPairs, IsPermutation, find, option_and_then, option_map, unwrap_or, ◌==◌}
use Rattle.std.specs.Prelude.{AllPairs, IsPermutation, filter, find, option_map, unwrap_or}
-- What is asked of changes, of the file's rows and of a content: what is known of one, what it needs, and which are ready.
use Rattle.std.specs.List.{list_any}
use Rattle.std.specs.Option.{option_map_or}
use Rattle.std.proofs.lemmas.Bool.{eq-eqb, eqb-true, false≢true}
use Rattle.std.proofs.lemmas.List.Concat.{flat_map-cons}
use Rattle.std.proofs.lemmas.List.Kept.{AllPairs-cons}
use Rattle.gate_types.specs.declared.records.Change.{Change}
use Rattle.gate_types.specs.declared.records.Ready.{Ready}
use Rattle.gate_types.specs.declared.rows.ChangeRow.{ChangeRow}
use Rattle.gate_types.specs.Forms.{IsLawfulContent}
use Rattle.gate_types.specs.Once.{Content}
use Rattle.gate_types.specs.Settings.{Settings}
use Rattle.gate_types.specs.State.{State, change_of, is_open, known_change}
use Rattle.gate_types.specs.Tables.{approval_of, change_row, tables, needs_in}
use Rattle.gate_types.specs.Lawful.{IsSound}
use Rattle.gate_types.specs.Rising.{In}
use Rattle.gate_schema.specs.Edits.{need_rows}
use Rattle.gate_schema.specs.Rows.{NeedRow, Stored, change_key}
use Rattle.gate_schema.specs.Shown.{needs_among}
use Rattle.gate_rows.specs.Matches.{Matches}
use Rattle.gate_book_trait.specs.Reads as content
use Rattle.gate_book_trait.proofs.ReadLemmas as read
use Rattle.gate_found_rows.specs.Asked as file
use Rattle.gate_laws.proofs.Alone.{changes_once, ready_changes}
use Rattle.gate_laws.proofs.Changes.{unknown}
use Rattle.gate_laws.proofs.Counts.{one_of, times}
use Rattle.gate_laws.proofs.Members.{all, every, found, from_flat, from_map, not_found, to_flat, to_map}
use Rattle.gate_laws.proofs.Rising.{Rising, rising}
use Rattle.gate_table_laws.proofs.told.Lists.{HaveSame, any_filter, pairs_rise, permuted_same, rising_alone}
use Rattle.gate_table_laws.proofs.told.Lists.{same_rising}

-- the number of an approval, and its change's
abbrev approved : ℕ → ℕ → Ready
approved n a = record { approval = a; change = n }

-- the ready change of an approval, if there is one
abbrev ready_if : ℕ → Option ℕ → List Ready
ready_if n approval = option_map_or (λ a. approved n a ∷ []) approval []

-- what a change's row tells to be ready is ready, and of that change
told_ready : (ready : List Ready) (k : Change) (r : Ready) → In r (file.ready_row (change_row ready k)) →
    In r ready × (r.change ≡ k.number)
told_ready ready k r m = by_ready (find (λ (s : Ready). s.change == k.number) ready) refl m
  where
    by_ready : (o : Option Ready) → find (λ (s : Ready). s.change == k.number) ready ≡ o →
        In r (ready_if k.number (option_map (λ (s : Ready). s.approval) o)) → In r ready × (r.change ≡ k.number)
    by_ready None e n = absurd n
    by_ready (Some s) e n =
        let at = found (λ (s : Ready). s.change == k.number) ready s e in
        let number : s.change ≡ k.number = eqb-true s.change k.number at.1 in
        elim n [
          | inl same ↦ (
            subst (λ z. In z ready) ((λ i. approved (number i) s.approval) ∙ same) at.0,
            sym (ap (λ (z : Ready). z.change) same),
          )
          | inr none ↦ absurd none
        ]

-- of which change a row tells
rows_ready : (ready : List Ready) (ks : List Change) (r : Ready) →
    In r (file.ready_rows (map (change_row ready) ks)) →
    (k : Change) × In k ks × In r ready × (r.change ≡ k.number)
rows_ready ready ks r m =
    let row = from_flat file.ready_row (map (change_row ready) ks) r m in
    let change = from_map (change_row ready) ks row.0 row.1 in
    let at = told_ready ready change.0 r (subst (λ z. In r (file.ready_row z)) (sym change.2) row.2) in
    (change.0, change.1, at.0, at.1)

-- a ready change is told by the row of its change
ready_told : (ready : List Ready) (ks : List Change) → ((n : ℕ) → times n (map (λ (r : Ready). r.change) ready) ≤ 1) →
    (r : Ready) → In r ready → (k : Change) → In k ks → k.number ≡ r.change →
    In r (file.ready_rows (map (change_row ready) ks))
ready_told ready ks once r mr k mk e =
    to_flat file.ready_row (map (change_row ready) ks) (change_row ready k) r (to_map (change_row ready) ks k mk)
    (by_ready (find (λ (s : Ready). s.change == k.number) ready) refl)
  where
    by_ready : (o : Option Ready) → find (λ (s : Ready). s.change == k.number) ready ≡ o →
        In r (ready_if k.number (option_map (λ (s : Ready). s.approval) o))
    by_ready None d =
        absurd (true≢false (sym (eq-eqb r.change k.number (sym e))
        ∙ not_found (λ (s : Ready). s.change == k.number) ready d r mr))
    by_ready (Some s) d =
        let at = found (λ (s : Ready). s.change == k.number) ready s d in
        let same : s ≡ r = one_of (λ (s : Ready). s.change) ready s r (once s.change) at.0 mr
        (eqb-true s.change k.number at.1 ∙ e) in
        inl (λ i. approved (e i) (same i).approval)

-- an open change is known
open_known : (s : State) (n : ℕ) → is_open (change_of s n) ≡ true → (k : Change) × In k s.changes × (k.number ≡ n)
open_known s n is = by_known (known_change s n) refl is
  where
    by_known : (o : Option Change) → known_change s n ≡ o → is_open (unwrap_or o (unknown n)) ≡ true →
        (k : Change) × In k s.changes × (k.number ≡ n)
    by_known None e h = absurd (false≢true h)
    by_known (Some k) e h =
        let at = found (λ (k : Change). k.number == n) s.changes k e in
        (k, at.0, eqb-true k.number n at.1)

-- the rows tell the ready list
rows_tell : (c : Settings) (s : State) → IsSound c s →
    HaveSame (file.ready_rows (map (change_row s.ready) s.changes)) s.ready
rows_tell c s sound r = (
  (λ m. (rows_ready s.ready s.changes r m).2),
  (λ m. let open_one = every (λ (r : Ready). is_open (change_of s r.change) ≡ true) s.ready sound.ready_are_open r m in
      let known = open_known s r.change open_one in
      ready_told s.ready s.changes once r m known.0 known.1 known.2),
)
  where
    once : (n : ℕ) → times n (ready_changes s) ≤ 1
    once n = let few = changes_once c s sound n in omega (arith, few)

-- no two ready changes that rows tell have one approval
approvals_differ : (ready : List Ready) → Rising (λ (r : Ready). r.approval) ready → (ks : List Change) →
    Rising (λ (k : Change). k.number) ks →
    AllPairs (λ (r s : Ready). r.approval ≢ s.approval) (file.ready_rows (map (change_row ready) ks))
approvals_differ ready up [] rise = λ i j d a b. absurd (omega (arith, a, b))
approvals_differ ready up (k ∷ ks) rise =
    subst (AllPairs Differ) (sym (flat_map-cons file.ready_row (change_row ready k) (map (change_row ready) ks)))
    (by_approval (approval_of ready k.number) refl (approvals_differ ready up ks rise.1))
  where
    Differ : Ready → Ready → Type 0
    Differ r s = r.approval ≢ s.approval

    rest : List Ready
    rest = file.ready_rows (map (change_row ready) ks)

    by_approval : (o : Option ℕ) → approval_of ready k.number ≡ o → AllPairs Differ rest →
        AllPairs Differ (ready_if k.number o ++ rest)
    by_approval None e h = h
    by_approval (Some a) e h =
        let r = approved k.number a in
        let one : In r (file.ready_row (change_row ready k)) =
        subst (λ o. In r (ready_if k.number o)) (sym e) (inl refl) in
        let here = told_ready ready k r one in
        AllPairs-cons Differ r rest (all (Differ r) rest (λ s m same.
        let there = rows_ready ready ks s m in
        let alone = rising_alone (λ (r : Ready). r.approval) ready up r s here.0 there.2 same in
        let number = ap (λ (r : Ready). r.change) alone ∙ there.3 in
        let above = rise.0 there.0 there.1 in
        omega (arith, number, above))) h

-- a change is among those that are needed just where it is among their rows
any_need : (number n place : ℕ) (needs : List ℕ) →
    list_any (λ (r : NeedRow). r.needed == n) (need_rows number place needs) ≡ list_any (λ m. m == n) needs
any_need number n place [] = refl
any_need number n place (m ∷ ms) = ap (λ t. m == n || t) (any_need number n (suc place) ms)

module _ (c : Settings) (x : Content) (b : Stored) (told : Matches b (tables c x)) where
  -- what is known of a change
  pub change_is : (n : ℕ) → file.stored_change b n ≡ known_change x.state n
  change_is n =
      ap (λ rows. option_map (λ (r : ChangeRow). r.change) (find (λ (r : ChangeRow). change_key r == n) rows))
      told.changes_are ∙ read.change_is c x n

  -- the number of a change's approval
  pub approval_is : IsLawfulContent c x → (n : ℕ) → file.stored_approval_of b n ≡ approval_of x.state.ready n
  approval_is lawful n =
      ap (λ rows. option_and_then (λ (r : ChangeRow). r.approval) (find (λ (r : ChangeRow). change_key r == n) rows))
      told.changes_are ∙ read.approval_is c x n lawful

  -- whether a change needs another
  pub needs_are : (n number : ℕ) → needs_among b.needs n number ≡ list_any (λ m. m == n) (change_of x.state number).needs
  needs_are n number =
      any_filter (λ (r : NeedRow). r.change == number) (λ (r : NeedRow). r.needed == n) b.needs
      ∙ ap (list_any (λ (r : NeedRow). r.needed == n)) (told.needs_are number)
      ∙ any_need number n 0 (needs_in (tables c x).changes number)
      ∙ ap (list_any (λ m. m == n)) (read.needs_are c x number)

  -- the ready list
  pub ready_is : IsLawfulContent c x → (found : List Ready) → file.AreReadyByApproval b found → found ≡ x.state.ready
  ready_is lawful found ready =
      same_rising (λ (r : Ready). r.approval) found x.state.ready
      (pairs_rise (λ (r : Ready). r.approval) found ready.rise)
      (rising (λ (r : Ready). r.approval) x.state.ready lawful.lawful.sound.ready_rises) (λ r. (
        (λ m. (rows r).0 ((found_rows r).0 m)),
        (λ m. (found_rows r).1 ((rows r).1 m)),
      ))
    where
      rows : HaveSame (file.ready_rows (tables c x).changes) x.state.ready
      rows = rows_tell c x.state lawful.lawful.sound

      found_rows : HaveSame found (file.ready_rows (tables c x).changes)
      found_rows = permuted_same found (file.ready_rows (tables c x).changes)
          (subst (λ l. IsPermutation found (file.ready_rows l)) told.changes_are ready.are)

  -- those that need another
  pub ready_needing_is : IsLawfulContent c x → (n : ℕ) (found : List Ready) → file.AreReadyNeeding b n found →
      found ≡ content.ready_needing x.state n
  ready_needing_is lawful n found are =
      are.need_it
      ∙ ap (filter (λ (r : Ready). needs_among b.needs n r.change)) (ready_is lawful are.ready are.are_ready)
      ∙ (λ k. filter (λ (r : Ready). needs_are n r.change k) x.state.ready)

  -- no two rows have one approval
  pub approvals_of_rows : IsLawfulContent c x →
      AllPairs (λ (r s : Ready). r.approval ≢ s.approval) (file.ready_rows b.changes)
  approvals_of_rows lawful =
      subst (λ l. AllPairs (λ (r s : Ready). r.approval ≢ s.approval) (file.ready_rows l)) (sym told.changes_are)
      (approvals_differ x.state.ready
      (rising (λ (r : Ready). r.approval) x.state.ready lawful.lawful.sound.ready_rises) x.state.changes
      (rising (λ (k : Change). k.number) x.state.changes lawful.lawful.sound.changes_rise))
