-- Builds that changed for one item alone: every other item is as it was.
use Rattle.std.proofs.Common.{◌≡◌, ℕ, Bool, true, false, not, ◌&&◌, ◌||◌, cond, Option, Some, None, List, [], ◌∷◌}
use Rattle.std.proofs.Common.{◌++◌, map, length, refl, sym, ap, ◌∙◌, subst, true≢false}
use Rattle.std.specs.Prelude.{filter, ◌==◌}
use Rattle.std.specs.List.{list_any, list_all}
use Rattle.std.proofs.lemmas.Bool.{eqb-true}
use Rattle.gate_types.specs.declared.config.Job.{Job}
use Rattle.gate_types.specs.declared.records.Build.{Build}
use Rattle.gate_types.specs.declared.records.Verdict.TheVariants as verdict
use Rattle.gate_types.specs.Names.{same_name}
use Rattle.gate_types.specs.State.{Item}
use Rattle.gate_types.specs.Line.{Place, same_entries, line, ran_on}
use Rattle.gate_types.specs.Slot.{is_blocked, is_cut, is_running, are_met_by, counts, outcomes_of, slot_of_outcomes}
use Rattle.gate_types.specs.Slot.{is_failed_slot, is_finished}
use Rattle.gate_types.specs.Standing.{is_failing, are_finished, with_ahead, next_ahead, places_after}
use Rattle.gate_types.specs.Sweep.{verdict_of}
use Rattle.gate_types.specs.Rows.{row_of}
use Rattle.gate_laws.proofs.Cuts.{finished_is}
use Rattle.gate_laws.proofs.Places.{ahead_end}
use Rattle.gate_walk.proofs.Slots.{is_live_of, all_count, all_ended}
use Rattle.gate_walk.proofs.Resets.{QuietAt, Quiet, visits, same, rows_seen}

-- a build that isn't the item's is what it was; none changes its item
abbrev pub Elsewhere : ℕ → List Build → List Build → Type 0
Elsewhere t [] [] = Unit {0}
Elsewhere t (b ∷ bs) (c ∷ cs) = (c.serial ≡ b.serial) × ((b.serial == t) ≡ false → c ≡ b) × Elsewhere t bs cs
Elsewhere t _ _ = ⊥

-- the place is another item's
abbrev pub IsOther : ℕ → Place → Type 0
IsOther t p = (p.item.serial == t) ≡ false

serial_off : (l s x y : Bool) → s ≡ false → l && s && x && y ≡ false
serial_off true true x y h = absurd (true≢false h)
serial_off true false x y h = refl
serial_off false s x y h = refl

-- of an item's builds and of all others
by_serial : (t : ℕ) (p : Place) (b c : Build) → IsOther t p → c.serial ≡ b.serial → ((b.serial == t) ≡ false → c ≡ b) → {X : Type 0} → (c ≡ b → X) → ((b.serial == p.item.serial) ≡ false → (c.serial == p.item.serial) ≡ false → X) → X
by_serial t p b c o e h {X} same other = at (b.serial == p.item.serial) refl
  where
    at : (x : Bool) → (b.serial == p.item.serial) ≡ x → X
    at true k = same (h (ap (λ n. n == t) (eqb-true b.serial p.item.serial k) ∙ o))
    at false k = other k (ap (λ n. n == p.item.serial) e ∙ k)

moved_counts : (t : ℕ) (p : Place) (b c : Build) → IsOther t p → c.serial ≡ b.serial → ((b.serial == t) ≡ false → c ≡ b) → counts p c ≡ counts p b
moved_counts t p b c o e h =
    by_serial t p b c o e h (λ s. ap (counts p) s)
    (λ x y. serial_off c.live (c.serial == p.item.serial) (not (is_blocked p)) (same_entries (ran_on p.landings c) (line p)) y
    ∙ sym (serial_off b.live (b.serial == p.item.serial) (not (is_blocked p)) (same_entries (ran_on p.landings b) (line p)) x))

moved_live : (t : ℕ) (p : Place) (b c : Build) → IsOther t p → c.serial ≡ b.serial → ((b.serial == t) ≡ false → c ≡ b) → is_live_of p c ≡ is_live_of p b
moved_live t p b c o e h =
    by_serial t p b c o e h (λ s. ap (is_live_of p) s) (λ x y. off c.live (c.serial == p.item.serial) y ∙ sym (off b.live (b.serial == p.item.serial) x))
  where
    off : (l s : Bool) → s ≡ false → l && s ≡ false
    off true s k = k
    off false s k = refl

pub moved_outcomes : (t : ℕ) (p : Place) (job : Job) (bs cs : List Build) → IsOther t p → Elsewhere t bs cs → outcomes_of cs p job ≡ outcomes_of bs p job
moved_outcomes t p job [] [] o h = refl
moved_outcomes t p job [] (c ∷ cs) o h = absurd h
moved_outcomes t p job (b ∷ bs) [] o h = absurd h
moved_outcomes t p job (b ∷ bs) (c ∷ cs) o h =
    by_serial t p b c o h.0 h.1 (λ s. same s (moved_outcomes t p job bs cs o h.2)) (λ x y. other x y (moved_outcomes t p job bs cs o h.2))
  where
    push : (f : Bool) (x : Build) (l : List Build) → map (λ (z : Build). z.outcome) (cond f (x ∷ l) l) ≡ cond f (x.outcome ∷ map (λ (z : Build). z.outcome) l) (map (λ (z : Build). z.outcome) l)
    push true x l = refl
    push false x l = refl

    off : (f : Bool) → f && false ≡ false
    off true = refl
    off false = refl

    same : c ≡ b → outcomes_of cs p job ≡ outcomes_of bs p job → outcomes_of (c ∷ cs) p job ≡ outcomes_of (b ∷ bs) p job
    same s r =
        push (same_name c.job job.name && counts p c) c (filter (λ x. same_name x.job job.name && counts p x) cs)
        ∙ (λ k. cond (same_name (s k).job job.name && counts p (s k)) ((s k).outcome ∷ r k) (r k))
        ∙ sym (push (same_name b.job job.name && counts p b) b (filter (λ x. same_name x.job job.name && counts p x) bs))

    other : (b.serial == p.item.serial) ≡ false → (c.serial == p.item.serial) ≡ false → outcomes_of cs p job ≡ outcomes_of bs p job → outcomes_of (c ∷ cs) p job ≡ outcomes_of (b ∷ bs) p job
    other x y r =
        let fc : same_name c.job job.name && counts p c ≡ false = ap (λ z. same_name c.job job.name && z) (serial_off c.live (c.serial == p.item.serial) (not (is_blocked p)) (same_entries (ran_on p.landings c) (line p)) y) ∙ off (same_name c.job job.name) in
        let fb : same_name b.job job.name && counts p b ≡ false = ap (λ z. same_name b.job job.name && z) (serial_off b.live (b.serial == p.item.serial) (not (is_blocked p)) (same_entries (ran_on p.landings b) (line p)) x) ∙ off (same_name b.job job.name) in
        ap (λ z. map (λ (u : Build). u.outcome) (cond z (c ∷ filter (λ u. same_name u.job job.name && counts p u) cs) (filter (λ u. same_name u.job job.name && counts p u) cs))) fc
        ∙ r
        ∙ sym (ap (λ z. map (λ (u : Build). u.outcome) (cond z (b ∷ filter (λ u. same_name u.job job.name && counts p u) bs) (filter (λ u. same_name u.job job.name && counts p u) bs))) fb)

pub moved_all_count : (t : ℕ) (p : Place) (bs cs : List Build) → IsOther t p → Elsewhere t bs cs → all_count cs p ≡ all_count bs p
moved_all_count t p [] [] o h = refl
moved_all_count t p [] (c ∷ cs) o h = absurd h
moved_all_count t p (b ∷ bs) [] o h = absurd h
moved_all_count t p (b ∷ bs) (c ∷ cs) o h = λ k. (not (moved_live t p b c o h.0 h.1 k) || moved_counts t p b c o h.0 h.1 k) && moved_all_count t p bs cs o h.2 k

pub moved_failing : (t : ℕ) (p : Place) (bs cs : List Build) → IsOther t p → Elsewhere t bs cs → is_failing cs p ≡ is_failing bs p
moved_failing t p bs cs o h = λ i. is_blocked p || list_any (λ j. j.voting && is_failed_slot (slot_of_outcomes (moved_outcomes t p j bs cs o h i))) p.jobs

pub moved_cut : (t : ℕ) (p : Place) (bs cs : List Build) → IsOther t p → Elsewhere t bs cs → is_cut cs p ≡ is_cut bs p
moved_cut t p bs cs o h = λ i. p.fast && not (is_blocked p) && list_any (λ j. j.voting && is_failed_slot (slot_of_outcomes (moved_outcomes t p j bs cs o h i))) p.jobs

moved_finished : (t : ℕ) (p : Place) (bs cs : List Build) → IsOther t p → Elsewhere t bs cs → are_finished cs p ≡ are_finished bs p
moved_finished t p bs cs o h =
    finished_is cs p
    ∙ (λ i. moved_cut t p bs cs o h i || list_all (λ j. is_finished (slot_of_outcomes (moved_outcomes t p j bs cs o h i))) p.jobs)
    ∙ sym (finished_is bs p)

-- each of its live builds has ended still
moved_ended : (t : ℕ) (p : Place) (bs cs : List Build) → IsOther t p → Elsewhere t bs cs → all_ended cs p ≡ all_ended bs p
moved_ended t p [] [] o h = refl
moved_ended t p [] (c ∷ cs) o h = absurd h
moved_ended t p (b ∷ bs) [] o h = absurd h
moved_ended t p (b ∷ bs) (c ∷ cs) o h = λ k. one k && moved_ended t p bs cs o h.2 k
  where
    off : (l s r : Bool) → s ≡ false → not (l && s) || r ≡ true
    off true true r e = absurd (true≢false e)
    off true false r e = refl
    off false s r e = refl

    one : not (is_live_of p c) || not (is_running c.outcome) ≡ not (is_live_of p b) || not (is_running b.outcome)
    one = by_serial t p b c o h.0 h.1 (λ s. ap (λ (x : Build). not (is_live_of p x) || not (is_running x.outcome)) s)
        (λ x y. off c.live (c.serial == p.item.serial) (not (is_running c.outcome)) y ∙ sym (off b.live (b.serial == p.item.serial) (not (is_running b.outcome)) x))

moved_verdict : (t : ℕ) (p : Place) (before : List Item) (bs cs : List Build) → IsOther t p → Elsewhere t bs cs → verdict_of cs before p ≡ verdict_of bs before p
moved_verdict t p before bs cs o h =
    λ i. cond (not (are_met_by before p.needs)) (Some verdict.Needs)
    (cond (moved_failing t p bs cs o h i && not (is_blocked p) && length p.ahead == 0 && moved_finished t p bs cs o h i) (Some verdict.Failed) None)

-- the places are other items'
abbrev pub Others : ℕ → List Place → Type 0
Others t [] = Unit {0}
Others t (p ∷ ps) = IsOther t p × Others t ps

-- they are quiet still, their rows are what they were, and what is ahead
pub record StillQuiet (stand : ℕ → Option Bool) (bs cs : List Build) (before ahead : List Item) (ps : List Place) : Type 0 where
  pub quiet : Quiet stand cs before ahead ps
  pub rows : map (row_of cs) (places_after cs ahead ps) ≡ map (row_of bs) (places_after bs ahead ps)
  pub ahead_same : ahead_end cs ahead ps ≡ ahead_end bs ahead ps

pub still_quiet : (stand : ℕ → Option Bool) (t : ℕ) (bs cs : List Build) (before ahead : List Item) (ps : List Place) → Elsewhere t bs cs → Others t ps → Quiet stand bs before ahead ps → StillQuiet stand bs cs before ahead ps
still_quiet stand t bs cs before ahead [] h o q = record { quiet = tt; rows = refl; ahead_same = refl }
still_quiet stand t bs cs before ahead (p ∷ ps) h o q =
    let at = with_ahead ahead p in
    let mark = moved_failing t at bs cs o.0 h in
    let next : next_ahead cs at ≡ next_ahead bs at = λ i. cond (mark i) ahead (ahead ++ p.item ∷ []) in
    let rest = still_quiet stand t bs cs (before ++ p.item ∷ []) (next_ahead bs at) ps h o.1 q.1 in
    let own : QuietAt stand cs before at = record {
      counting = moved_all_count t at bs cs o.0 h ∙ q.0.counting;
      ended = λ u. moved_ended t at bs cs o.0 h ∙ q.0.ended (sym (moved_cut t at bs cs o.0 h) ∙ u);
      stays = moved_verdict t at before bs cs o.0 h ∙ q.0.stays;
      standing = q.0.standing ∙ ap Some (sym mark);
      fresh = q.0.fresh;
      open_needs = q.0.open_needs;
    } in
    record {
      quiet = (own, subst (λ a. Quiet stand cs (before ++ p.item ∷ []) a ps) (sym next) rest.quiet);
      rows = (λ i. record (row_of bs at) { failing = mark i } ∷ map (row_of cs) (places_after cs (next i) ps)) ∙ ap (λ l. row_of bs at ∷ l) rest.rows;
      ahead_same = ap (λ a. ahead_end cs a ps) next ∙ rest.ahead_same;
    }

-- the rows that visits see are the stored ones
pub visits_rows : (stand : ℕ → Option Bool) (bs : List Build) (now : Place → Place) (ahead : List Item) (ps : List Place) → rows_seen (visits stand bs now ahead ps) ≡ map (row_of bs) (places_after bs ahead ps)
visits_rows stand bs now ahead [] = refl
visits_rows stand bs now ahead (p ∷ ps) = ap (λ l. row_of bs (with_ahead ahead p) ∷ l) (visits_rows stand bs now (next_ahead bs (with_ahead ahead p)) ps)
