-- The running builds of an item that leaves stop.
use Rattle.std.proofs.Common.{◌≡◌, ℕ, Bool, true, false, not, ◌&&◌, ◌||◌, cond, List, [], ◌∷◌, map, fold, filter}
use Rattle.std.proofs.Common.{refl, sym, ap, ◌∙◌, true≢false}
use Rattle.std.specs.Prelude.{◌==◌}
use Rattle.std.specs.List.{list_any}
use Rattle.std.proofs.lemmas.Bool.{and_parts, and_from, eq-eqb, eqb-true, false_from_ne_true}
use Rattle.std.proofs.lemmas.List.{map-id}
use Rattle.gate_types.specs.declared.records.Build.{Build}
use Rattle.gate_types.specs.declared.records.Item.{Item as ItemRow}
use Rattle.gate_types.specs.Settings.{Settings}
use Rattle.gate_types.specs.State.{Item, State}
use Rattle.gate_types.specs.Slot.{is_running}
use Rattle.gate_types.specs.Rebase.{with_live}
use Rattle.gate_types.specs.Sweep.{without_runs}
use Rattle.gate_types.specs.Rows.{item_of, change_build}
use Rattle.gate_types.specs.Tables.{edited_build_rows}
use Rattle.gate_types.specs.Lawful.{IsSound}
use Rattle.gate_types.specs.Rising.{In}
use Rattle.gate_types.proofs.PlainLemmas.{or_false}
use Rattle.gate_book_trait.specs.Reads.{live_builds}
use Rattle.gate_laws.proofs.Members.{map_same, from_filter, to_filter, any_to, none_to}
use Rattle.gate_laws.proofs.Alone.{change_alone}
use Rattle.gate_laws.proofs.EndedBuild.{one_build}
use Rattle.gate_laws.proofs.LeaveIsSound.{leaving}
use Rattle.gate_ruling.specs.Leaving.{stop_of}
use Rattle.gate_ruling.proofs.Stored.{Stored}
use Rattle.gate_queue_rules.proofs.Builds.{or_assoc}

-- ---- builds stopped one after another

abbrev stop_if : (Build → Bool) → Build → Build
stop_if test b = cond (test b) (with_live false b) b

again : (t : Bool) (b : Build) (n : ℕ) →
    cond ((cond t (with_live false b) b).number == n) (with_live false (cond t (with_live false b) b))
    (cond t (with_live false b) b) ≡ cond (t || b.number == n) (with_live false b) b
again true b n = by_test (b.number == n)
  where
    by_test : (u : Bool) → cond u (with_live false b) (with_live false b) ≡ with_live false b
    by_test true = refl
    by_test false = refl
again false b n = refl

one_after_another : (cs : List Build) (test : Build → Bool) (bs : List Build) →
    fold edited_build_rows (map (stop_if test) bs) (map stop_of cs)
    ≡ map (stop_if (λ b. test b || list_any (λ c. b.number == c.number) cs)) bs
one_after_another [] test bs = λ k. map (stop_if (λ b. sym (or_false (test b)) k)) bs
one_after_another (c ∷ cs) test bs =
    ap (λ l. fold edited_build_rows l (map stop_of cs)) (first bs)
    ∙ one_after_another cs (λ b. test b || b.number == c.number) bs
    ∙ (λ k. map (stop_if (λ b. or_assoc (test b) (b.number == c.number)
    (list_any (λ x. b.number == x.number) cs) k)) bs)
  where
    first : (l : List Build) → change_build c.number (with_live false) (map (stop_if test) l)
        ≡ map (stop_if (λ b. test b || b.number == c.number)) l
    first [] = refl
    first (b ∷ l) = λ k. again (test b) b c.number k ∷ first l k

-- ---- which of them stop

-- a build has the number of one that passes two tests just where it passes them
passes : (c : Settings) (s : State) → IsSound c s → (u r : Build → Bool) (b : Build) → In b s.builds →
    list_any (λ y. b.number == y.number) (filter r (filter u s.builds)) ≡ u b && r b
passes c s sound u r b m = by_test (u b && r b) refl
  where
    of_number : Build → Bool
    of_number y = b.number == y.number

    by_test : (t : Bool) → u b && r b ≡ t → list_any (λ y. b.number == y.number) (filter r (filter u s.builds)) ≡ t
    by_test true e =
        let both = and_parts (u b) (r b) e in
        any_to (λ y. b.number == y.number) (filter r (filter u s.builds)) b
        (to_filter r (filter u s.builds) b (to_filter u s.builds b m both.0) both.1) (eq-eqb b.number b.number refl)
    by_test false e =
        none_to (λ y. b.number == y.number) (filter r (filter u s.builds)) (λ y my.
        let late = from_filter r (filter u s.builds) y my in
        let early = from_filter u s.builds y late.0 in
        false_from_ne_true (b.number == y.number) (λ same.
        let one = one_build c s sound b y m early.0 (eqb-true b.number y.number same) in
        let both = and_from (u b) (r b) (ap u one ∙ early.1) (ap r one ∙ late.1) in
        true≢false (sym both ∙ e)))

-- what leaves with a stored item is its serial alone
serial_alone : (c : Settings) (s : State) (name : List ℕ) (row : ItemRow) → IsSound c s → Stored c s name row →
    (m : ℕ) →
    leaving row.change s m ≡ (m == row.serial)
serial_alone c s name row sound h m = by_test (m == row.serial) refl
  where
    goes : Item → Bool
    goes i = i.change == row.change && i.serial == m

    by_test : (t : Bool) → m == row.serial ≡ t → leaving row.change s m ≡ t
    by_test true e =
        let here = any_to (λ i. i.change == row.change && i.serial == m) h.queue.items (item_of row) h.item
        (and_from (row.change == row.change) (row.serial == m) (eq-eqb row.change row.change refl)
        (eq-eqb row.serial m (sym (eqb-true m row.serial e)))) in
        any_to (λ q. list_any (λ i. i.change == row.change && i.serial == m) q.items) s.queues h.queue h.there here
    by_test false e =
        none_to (λ q. list_any (λ i. i.change == row.change && i.serial == m) q.items) s.queues (λ q mq.
        none_to (λ i. i.change == row.change && i.serial == m) q.items (λ i mi.
        false_from_ne_true (i.change == row.change && i.serial == m) (λ t.
        let both = and_parts (i.change == row.change) (i.serial == m) t in
        let one = change_alone c s sound q h.queue i (item_of row) mq h.there mi h.item
        (eqb-true i.change row.change both.0) in
        let same = sym (eqb-true i.serial m both.1) ∙ ap (λ (j : Item). j.serial) one.1 in
        true≢false (sym (eq-eqb m row.serial same) ∙ e))))

-- a build stops just where the rules stop it
as_ruled : (b : Build) (l e r : Bool) → b.live ≡ l →
    cond (false || (l && e && r)) (with_live false b) b ≡ with_live (l && not (r && e)) b
as_ruled b false e r h = λ k. with_live (h k) b
as_ruled b true true true h = refl
as_ruled b true true false h = λ k. with_live (h k) b
as_ruled b true false true h = λ k. with_live (h k) b
as_ruled b true false false h = λ k. with_live (h k) b

pub stopped : (c : Settings) (s : State) (name : List ℕ) (row : ItemRow) → IsSound c s → Stored c s name row →
    fold edited_build_rows s.builds (map stop_of (filter (λ b. is_running b.outcome) (live_builds s row.serial)))
    ≡ without_runs (leaving row.change s) s.builds
stopped c s name row sound h =
    let runs = filter (λ (b : Build). is_running b.outcome) (live_builds s row.serial) in
    ap (λ l. fold edited_build_rows l (map stop_of runs)) (sym (map-id s.builds))
    ∙ one_after_another runs (λ b. false) s.builds
    ∙ map_same (stop_if (λ b. false || list_any (λ y. b.number == y.number) runs))
    (λ b. with_live (b.live && not (is_running b.outcome && leaving row.change s b.serial)) b) s.builds (λ b m.
    ap (λ t. cond t (with_live false b) b)
    (passes c s sound (λ x. x.live && x.serial == row.serial) (λ x. is_running x.outcome) b m)
    ∙ as_ruled b b.live (b.serial == row.serial) (is_running b.outcome) refl
    ∙ ap (λ t. with_live (b.live && not (is_running b.outcome && t)) b)
    (sym (serial_alone c s name row sound h b.serial)))
