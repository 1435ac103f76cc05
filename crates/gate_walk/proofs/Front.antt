-- The items before one that lands: they are failing and stay as they are.
use Rattle.std.proofs.Common.{◌≡◌, ℕ, Bool, true, false, not, ◌&&◌, ◌||◌, cond, Option, Some, None, List, [], ◌∷◌}
use Rattle.std.proofs.Common.{◌++◌, map, length, refl, sym, ap, ◌∙◌, subst, true≢false}
use Rattle.std.specs.Prelude.{filter, ◌==◌, nat_lt, nat_le}
use Rattle.std.specs.List.{list_any, list_all}
use Rattle.std.proofs.lemmas.Bool.{and_parts, or_parts, and_from, eqb-true}
use Rattle.std.proofs.lemmas.List.Folds.{list_any-append}
use Rattle.gate_types.specs.declared.config.Job.{Job}
use Rattle.gate_types.specs.declared.records.Build.{Build}
use Rattle.gate_types.specs.declared.records.Landing.{Landing}
use Rattle.gate_types.specs.declared.records.Need.{Need}
use Rattle.gate_types.specs.declared.records.Verdict.TheVariants as verdict
use Rattle.gate_types.specs.Names.{same_name}
use Rattle.gate_types.specs.State.{Item, has_change}
use Rattle.gate_types.specs.Line.{Place, same_entries, line, ran_on, landed_entry, item_entry}
use Rattle.gate_types.specs.Slot.{is_blocked, is_cut, are_met_by, counts, outcomes_of, slot_of_outcomes}
use Rattle.gate_types.specs.Slot.{is_failed_slot, is_finished}
use Rattle.gate_types.specs.Standing.{is_failing, are_finished, with_ahead, next_ahead, places_after}
use Rattle.gate_types.specs.Sweep.{verdict_of}
use Rattle.gate_types.specs.Rows.{row_of}
use Rattle.gate_laws.proofs.Cuts.{finished_is}
use Rattle.gate_laws.proofs.Places.{ahead_end}
use Rattle.gate_walk.proofs.Slots.{is_live_of, all_count}
use Rattle.gate_walk.proofs.Resets.{none_parts, QuietAt, Quiet}
use Rattle.gate_walk.proofs.Passes.{landing_as, need_landed, landed_place, same_run}
use Rattle.gate_walk.proofs.Events.{all_before}

-- an item before the one that lands; its builds began on landings that were there
pub record FrontAt (t : Item) (bs : List Build) (p : Place) : Type 0 where
  pub lower : nat_lt t.serial p.item.serial ≡ false
  pub began : list_all (λ b. not (is_live_of p b) || nat_le b.after (length p.landings)) bs ≡ true

abbrev pub Front : Item → List Build → List Place → Type 0
Front t bs [] = Unit {0}
Front t bs (p ∷ ps) = FrontAt t bs p × Front t bs ps

-- it needs nothing that stands behind it
needs_stay : (t : Item) (before : List Item) (needs : List Need) → has_change before t.change ≡ false → are_met_by before needs ≡ true → map (need_landed t.change) needs ≡ needs
needs_stay t before [] h m = refl
needs_stay t before (n ∷ ns) h m =
    let both = and_parts (n.landed || has_change before n.change) (are_met_by before ns) m in
    λ k. (let one : Need = record { change = n.change; landed = by_same (t.change == n.change) refl both.0 k } in one) ∷ needs_stay t before ns h both.1 k
  where
    or_off : (x : Bool) → x || false ≡ x
    or_off true = refl
    or_off false = refl

    by_landed : (l b : Bool) → b ≡ false → l || b ≡ true → l || true ≡ l
    by_landed true b e k = refl
    by_landed false b e k = absurd (true≢false (sym k ∙ e))

    by_same : (e : Bool) → (t.change == n.change) ≡ e → n.landed || has_change before n.change ≡ true → n.landed || t.change == n.change ≡ n.landed
    by_same true e k = ap (λ x. n.landed || x) e ∙ by_landed n.landed (has_change before n.change) (ap (has_change before) (sym (eqb-true t.change n.change e)) ∙ h) k
    by_same false e k = ap (λ x. n.landed || x) e ∙ or_off n.landed

landed_less : (ls : List Landing) (l : Landing) (n : ℕ) → nat_lt l.serial n ≡ false → filter (λ x. nat_lt x.serial n) (ls ++ l ∷ []) ≡ filter (λ x. nat_lt x.serial n) ls
landed_less [] l n h = ap (λ t. cond t (l ∷ []) []) h
landed_less (x ∷ ls) l n h = λ k. cond (nat_lt x.serial n) (x ∷ landed_less ls l n h k) (landed_less ls l n h k)

-- so each build counts where it did
front_counts : (t : Item) (ahead : List Item) (p : Place) (b : Build) → nat_lt t.serial p.item.serial ≡ false → map (need_landed t.change) p.needs ≡ p.needs → not (is_live_of p b) || nat_le b.after (length p.landings) ≡ true →
    counts (with_ahead ahead (landed_place t p)) b ≡ counts (with_ahead ahead p) b
front_counts t ahead p b h m e = by_live (is_live_of p b) refl
  where
    off : (l s x y z u : Bool) → l && s ≡ false → l && s && x && y ≡ (l && s && z && u)
    off true true x y z u k = absurd (true≢false k)
    off true false x y z u k = refl
    off false s x y z u k = refl

    by_live : (live : Bool) → is_live_of p b ≡ live → counts (with_ahead ahead (landed_place t p)) b ≡ counts (with_ahead ahead p) b
    by_live true k =
        let run = same_run t p b (ap (λ x. not x || nat_le b.after (length p.landings)) (sym k) ∙ e) in
        λ i. b.live && b.serial == p.item.serial && not (not (are_met_by ahead (m i))) && same_entries (run i) (map landed_entry (landed_less p.landings (landing_as t) p.item.serial h i) ++ (map item_entry ahead ++ item_entry p.item ∷ []))
    by_live false k =
        off b.live (b.serial == p.item.serial) (not (is_blocked (with_ahead ahead (landed_place t p)))) (same_entries (ran_on (p.landings ++ landing_as t ∷ []) b) (line (with_ahead ahead (landed_place t p))))
        (not (is_blocked (with_ahead ahead p))) (same_entries (ran_on p.landings b) (line (with_ahead ahead p))) k

front_outcomes : (t : Item) (ahead : List Item) (p : Place) (job : Job) (bs : List Build) → nat_lt t.serial p.item.serial ≡ false → map (need_landed t.change) p.needs ≡ p.needs → list_all (λ b. not (is_live_of p b) || nat_le b.after (length p.landings)) bs ≡ true →
    outcomes_of bs (with_ahead ahead (landed_place t p)) job ≡ outcomes_of bs (with_ahead ahead p) job
front_outcomes t ahead p job bs h m e = ap (λ (l : List Build). map (λ (b : Build). b.outcome) l) (each bs e)
  where
    each : (cs : List Build) → list_all (λ b. not (is_live_of p b) || nat_le b.after (length p.landings)) cs ≡ true →
        filter (λ b. same_name b.job job.name && counts (with_ahead ahead (landed_place t p)) b) cs ≡ filter (λ b. same_name b.job job.name && counts (with_ahead ahead p) b) cs
    each [] k = refl
    each (b ∷ cs) k =
        let both = and_parts (not (is_live_of p b) || nat_le b.after (length p.landings)) (list_all (λ x. not (is_live_of p x) || nat_le x.after (length p.landings)) cs) k in
        λ i. cond (same_name b.job job.name && front_counts t ahead p b h m both.0 i) (b ∷ each cs both.1 i) (each cs both.1 i)

front_failing : (t : Item) (ahead : List Item) (p : Place) (bs : List Build) → FrontAt t bs p → map (need_landed t.change) p.needs ≡ p.needs → is_failing bs (with_ahead ahead (landed_place t p)) ≡ is_failing bs (with_ahead ahead p)
front_failing t ahead p bs h m =
    λ i. not (are_met_by ahead (m i)) || list_any (λ j. j.voting && is_failed_slot (slot_of_outcomes (front_outcomes t ahead p j bs h.lower m h.began i))) p.jobs

front_cut : (t : Item) (ahead : List Item) (p : Place) (bs : List Build) → FrontAt t bs p → map (need_landed t.change) p.needs ≡ p.needs → is_cut bs (with_ahead ahead (landed_place t p)) ≡ is_cut bs (with_ahead ahead p)
front_cut t ahead p bs h m =
    λ i. p.fast && not (not (are_met_by ahead (m i))) && list_any (λ j. j.voting && is_failed_slot (slot_of_outcomes (front_outcomes t ahead p j bs h.lower m h.began i))) p.jobs

front_finished : (t : Item) (ahead : List Item) (p : Place) (bs : List Build) → FrontAt t bs p → map (need_landed t.change) p.needs ≡ p.needs → are_finished bs (with_ahead ahead (landed_place t p)) ≡ are_finished bs (with_ahead ahead p)
front_finished t ahead p bs h m =
    finished_is bs (with_ahead ahead (landed_place t p))
    ∙ (λ i. front_cut t ahead p bs h m i || list_all (λ j. is_finished (slot_of_outcomes (front_outcomes t ahead p j bs h.lower m h.began i))) p.jobs)
    ∙ sym (finished_is bs (with_ahead ahead p))

front_verdict : (t : Item) (before ahead : List Item) (p : Place) (bs : List Build) → FrontAt t bs p → map (need_landed t.change) p.needs ≡ p.needs → verdict_of bs before (with_ahead ahead (landed_place t p)) ≡ verdict_of bs before (with_ahead ahead p)
front_verdict t before ahead p bs h m =
    λ i. cond (not (are_met_by before (m i))) (Some verdict.Needs)
    (cond (front_failing t ahead p bs h m i && not (not (are_met_by ahead (m i))) && length ahead == 0 && front_finished t ahead p bs h m i) (Some verdict.Failed) None)

front_all_count : (t : Item) (ahead : List Item) (p : Place) (bs : List Build) → nat_lt t.serial p.item.serial ≡ false → map (need_landed t.change) p.needs ≡ p.needs → list_all (λ b. not (is_live_of p b) || nat_le b.after (length p.landings)) bs ≡ true →
    all_count bs (with_ahead ahead p) ≡ true → all_count bs (with_ahead ahead (landed_place t p)) ≡ true
front_all_count t ahead p [] h m e k = refl
front_all_count t ahead p (b ∷ bs) h m e k =
    let both = and_parts (not (is_live_of p b) || nat_le b.after (length p.landings)) (list_all (λ x. not (is_live_of p x) || nat_le x.after (length p.landings)) bs) e in
    let own = and_parts (not (is_live_of p b) || counts (with_ahead ahead p) b) (all_count bs (with_ahead ahead p)) k in
    and_from (not (is_live_of p b) || counts (with_ahead ahead (landed_place t p)) b) (all_count bs (with_ahead ahead (landed_place t p)))
    (ap (λ x. not (is_live_of p b) || x) (front_counts t ahead p b h m both.0) ∙ own.0) (front_all_count t ahead p bs h m both.1 own.1)

-- none of them names the change in front of another
pub not_yet : (before : List Item) (ps : List Place) (n : ℕ) → has_change (all_before before ps) n ≡ false → has_change before n ≡ false
not_yet before [] n h = h
not_yet before (p ∷ ps) n h =
    (or_parts (has_change before n) (p.item.change == n || false) (sym (list_any-append (λ (j : Item). j.change == n) before (p.item ∷ [])) ∙ not_yet (before ++ p.item ∷ []) ps n h)).0

-- they are quiet still, and their rows and what is ahead of them are what they were
pub record FrontKept (stand : ℕ → Option Bool) (bs : List Build) (t : Item) (before ahead : List Item) (ps : List Place) : Type 0 where
  pub quiet : Quiet stand bs before ahead (map (landed_place t) ps)
  pub rows : map (row_of bs) (places_after bs ahead (map (landed_place t) ps)) ≡ map (row_of bs) (places_after bs ahead ps)
  pub before_same : all_before before (map (landed_place t) ps) ≡ all_before before ps
  pub ahead_same : ahead_end bs ahead (map (landed_place t) ps) ≡ ahead_end bs ahead ps

pub front_kept : (stand : ℕ → Option Bool) (bs : List Build) (t : Item) (before ahead : List Item) (ps : List Place) → Front t bs ps → has_change (all_before before ps) t.change ≡ false → Quiet stand bs before ahead ps → FrontKept stand bs t before ahead ps
front_kept stand bs t before ahead [] f h q = record { quiet = tt; rows = refl; before_same = refl; ahead_same = refl }
front_kept stand bs t before ahead (p ∷ ps) f h q =
    let old = with_ahead ahead p in
    let new = with_ahead ahead (landed_place t p) in
    let out = not_yet before (p ∷ ps) t.change h in
    let needs = needs_stay t before p.needs out (none_parts bs before old q.0.stays).0 in
    let mark = front_failing t ahead p bs f.0 needs in
    let rest = front_kept stand bs t (before ++ p.item ∷ []) (next_ahead bs old) ps f.1 h q.1 in
    let ahead_is : next_ahead bs new ≡ next_ahead bs old = λ i. cond (mark i) ahead (ahead ++ p.item ∷ []) in
    let own : QuietAt stand bs before new = record {
      counting = front_all_count t ahead p bs f.0.lower needs f.0.began q.0.counting;
      ended = λ u. q.0.ended (sym (front_cut t ahead p bs f.0 needs) ∙ u);
      stays = front_verdict t before ahead p bs f.0 needs ∙ q.0.stays;
      standing = q.0.standing ∙ ap Some (sym mark);
      fresh = q.0.fresh;
      open_needs = ap (list_all (λ n. not (n.landed && has_change before n.change))) needs ∙ q.0.open_needs;
    } in
    record {
      quiet = (own, subst (λ a. Quiet stand bs (before ++ p.item ∷ []) a (map (landed_place t) ps)) (sym ahead_is) rest.quiet);
      rows = (λ i. record (row_of bs old) { failing = mark i } ∷ map (row_of bs) (places_after bs (ahead_is i) (map (landed_place t) ps))) ∙ ap (λ l. row_of bs old ∷ l) rest.rows;
      before_same = rest.before_same;
      ahead_same = ap (λ a. ahead_end bs a (map (landed_place t) ps)) ahead_is ∙ rest.ahead_same;
    }
