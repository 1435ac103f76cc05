-- The part of a walk behind a landing: no line changes, and items up to the next non-failing one may be first now.
use Rattle.std.proofs.Common.{◌≡◌, ℕ, suc, Bool, true, false, not, ◌&&◌, ◌||◌, cond, Option, Some, None, is_some}
use Rattle.std.proofs.Common.{List, [], ◌∷◌, ◌++◌, map, length, refl, sym, ap, ◌∙◌, subst, true≢false, arith}
use Rattle.std.proofs.Common.{append_assoc}
use Rattle.std.specs.Prelude.{filter, ◌==◌, ◌-◌, nat_lt, nat_le, slice_get, option_map}
use Rattle.std.specs.List.{list_any, list_all}
use Rattle.std.proofs.lemmas.Bool.{and_parts, or_parts, and_from, eqb-true, eq-eqb, ne_eqb, leb-true}
use Rattle.std.proofs.lemmas.List.{take-append-le}
use Rattle.std.proofs.lemmas.List.Folds.{list_any-append}
use Rattle.std.proofs.lemmas.Option.{slice_get-get_or}
use Rattle.gate_types.specs.Window.{Bounds}
use Rattle.gate_types.specs.declared.config.Job.{Job}
use Rattle.gate_types.specs.declared.records.Build.{Build}
use Rattle.gate_types.specs.declared.records.Landing.{Landing}
use Rattle.gate_types.specs.declared.records.Need.{Need}
use Rattle.gate_types.specs.declared.records.Verdict.{Verdict}
use Rattle.gate_types.specs.Names.{same_name}
use Rattle.gate_types.specs.State.{Item, has_change}
use Rattle.gate_types.specs.Line.{Place, same_entries, line, ran_on, landings_below, landed_entry, item_entry}
use Rattle.gate_types.specs.Line.{built_entry}
use Rattle.gate_types.specs.Slot.{is_blocked, is_cut, are_met_by, counts, outcomes_of, slot_of_outcomes, is_failed_slot}
use Rattle.gate_types.specs.Standing.{is_failing, are_finished, with_ahead, next_ahead, places_after}
use Rattle.gate_types.specs.Sweep.{verdict_of, judge, next_staying}
use Rattle.gate_walk.specs.Walk.{Mark, Carry, is_gone, fails, carried}
use Rattle.gate_walk.proofs.Slots.{is_live_of, all_count, outcomes_live}
use Rattle.gate_walk.proofs.Steps.{seen, Known, Sees, blocked_seen, met_seen, fails_seen, verdict_seen}
use Rattle.gate_walk.proofs.Resets.{Right, asked, rows_seen, last_serial, none_parts, none_from, stop_running}
use Rattle.gate_walk.proofs.Resets.{known_next, right_visit, QuietAt, Quiet, visits, same}
use Rattle.gate_walk.proofs.Needs.{Followed, followed_gone, followed_kept, needing, follow}
use Rattle.gate_laws.proofs.Stays.{goes_failing}

-- an item as the last landing of its queue
abbrev pub landing_as : Item → Landing
landing_as i = record { serial = i.serial; change = i.change; revision = i.revision }

-- a need of a change that has landed now is met
abbrev pub need_landed : ℕ → Need → Need
need_landed c n = record { change = n.change; landed = n.landed || c == n.change }

-- a place after the landing of an item before it
abbrev pub landed_place : Item → Place → Place
landed_place t p = record { landings = p.landings ++ landing_as t ∷ []; ahead = p.ahead; item = p.item; needs = map (need_landed t.change) p.needs; jobs = p.jobs; fast = p.fast }

-- an item behind the one that lands; its builds began on landings that were there
pub record BehindAt (t : Item) (bs : List Build) (p : Place) : Type 0 where
  pub higher : nat_lt t.serial p.item.serial ≡ true
  pub began : list_all (λ b. not (is_live_of p b) || nat_le b.after (length p.landings)) bs ≡ true

abbrev pub Behind : Item → List Build → List Place → Type 0
Behind t bs [] = Unit {0}
Behind t bs (p ∷ ps) = BehindAt t bs p × Behind t bs ps

-- ---- the line stays

landed_more : (ls : List Landing) (l : Landing) (n : ℕ) → nat_lt l.serial n ≡ true → map landed_entry (filter (λ x. nat_lt x.serial n) (ls ++ l ∷ [])) ≡ map landed_entry (filter (λ x. nat_lt x.serial n) ls) ++ landed_entry l ∷ []
landed_more [] l n h = ap (λ t. map landed_entry (cond t (l ∷ []) [])) h
landed_more (x ∷ ls) l n h = by_test (nat_lt x.serial n) (landed_more ls l n h)
  where
    by_test : (t : Bool) → map landed_entry (filter (λ y. nat_lt y.serial n) (ls ++ l ∷ [])) ≡ map landed_entry (filter (λ y. nat_lt y.serial n) ls) ++ landed_entry l ∷ [] →
        map landed_entry (cond t (x ∷ filter (λ y. nat_lt y.serial n) (ls ++ l ∷ [])) (filter (λ y. nat_lt y.serial n) (ls ++ l ∷ []))) ≡ map landed_entry (cond t (x ∷ filter (λ y. nat_lt y.serial n) ls) (filter (λ y. nat_lt y.serial n) ls)) ++ landed_entry l ∷ []
    by_test true e = ap (λ es. landed_entry x ∷ es) e
    by_test false e = e

same_line : (t : Item) (ahead : List Item) (p : Place) → nat_lt t.serial p.item.serial ≡ true → line (with_ahead ahead (landed_place t p)) ≡ line (with_ahead (t ∷ ahead) p)
same_line t ahead p h =
    ap (λ es. es ++ (map item_entry ahead ++ item_entry p.item ∷ [])) (landed_more p.landings (landing_as t) p.item.serial h)
    ∙ append_assoc (map landed_entry (landings_below p)) (item_entry t ∷ []) (map item_entry ahead ++ item_entry p.item ∷ [])

pub same_run : (t : Item) (p : Place) (b : Build) → nat_le b.after (length p.landings) ≡ true → ran_on (p.landings ++ landing_as t ∷ []) b ≡ ran_on p.landings b
same_run t p b h = ap (λ (ls : List Landing). map landed_entry ls ++ (b.ahead ++ built_entry b ∷ [])) (take-append-le b.after p.landings (landing_as t ∷ []) (leb-true b.after (length p.landings) h))

or_assoc : (x y z : Bool) → (x || y) || z ≡ (x || (y || z))
or_assoc true y z = refl
or_assoc false y z = refl

same_met : (t : Item) (ahead : List Item) (needs : List Need) → are_met_by ahead (map (need_landed t.change) needs) ≡ are_met_by (t ∷ ahead) needs
same_met t ahead [] = refl
same_met t ahead (n ∷ ns) = λ k. or_assoc n.landed (t.change == n.change) (has_change ahead n.change) k && same_met t ahead ns k

same_blocked : (t : Item) (ahead : List Item) (p : Place) → is_blocked (with_ahead ahead (landed_place t p)) ≡ is_blocked (with_ahead (t ∷ ahead) p)
same_blocked t ahead p = ap not (same_met t ahead p.needs)

-- and so each build counts where it did
same_counts : (t : Item) (ahead : List Item) (p : Place) (b : Build) → nat_lt t.serial p.item.serial ≡ true → not (is_live_of p b) || nat_le b.after (length p.landings) ≡ true →
    counts (with_ahead ahead (landed_place t p)) b ≡ counts (with_ahead (t ∷ ahead) p) b
same_counts t ahead p b h e = by_live (is_live_of p b) refl
  where
    off : (l s x y z u : Bool) → l && s ≡ false → l && s && x && y ≡ (l && s && z && u)
    off true true x y z u k = absurd (true≢false k)
    off true false x y z u k = refl
    off false s x y z u k = refl

    by_live : (live : Bool) → is_live_of p b ≡ live → counts (with_ahead ahead (landed_place t p)) b ≡ counts (with_ahead (t ∷ ahead) p) b
    by_live true k =
        let run = same_run t p b (ap (λ x. not x || nat_le b.after (length p.landings)) (sym k) ∙ e) in
        λ i. b.live && b.serial == p.item.serial && not (same_blocked t ahead p i) && same_entries (run i) (same_line t ahead p h i)
    by_live false k =
        off b.live (b.serial == p.item.serial) (not (is_blocked (with_ahead ahead (landed_place t p)))) (same_entries (ran_on (p.landings ++ landing_as t ∷ []) b) (line (with_ahead ahead (landed_place t p))))
        (not (is_blocked (with_ahead (t ∷ ahead) p))) (same_entries (ran_on p.landings b) (line (with_ahead (t ∷ ahead) p))) k

same_outcomes : (t : Item) (ahead : List Item) (p : Place) (job : Job) (bs : List Build) → nat_lt t.serial p.item.serial ≡ true → list_all (λ b. not (is_live_of p b) || nat_le b.after (length p.landings)) bs ≡ true →
    outcomes_of bs (with_ahead ahead (landed_place t p)) job ≡ outcomes_of bs (with_ahead (t ∷ ahead) p) job
same_outcomes t ahead p job bs h e = ap (λ (l : List Build). map (λ (b : Build). b.outcome) l) (each bs e)
  where
    each : (cs : List Build) → list_all (λ b. not (is_live_of p b) || nat_le b.after (length p.landings)) cs ≡ true →
        filter (λ b. same_name b.job job.name && counts (with_ahead ahead (landed_place t p)) b) cs ≡ filter (λ b. same_name b.job job.name && counts (with_ahead (t ∷ ahead) p) b) cs
    each [] k = refl
    each (b ∷ cs) k =
        let both = and_parts (not (is_live_of p b) || nat_le b.after (length p.landings)) (list_all (λ x. not (is_live_of p x) || nat_le x.after (length p.landings)) cs) k in
        λ i. cond (same_name b.job job.name && same_counts t ahead p b h both.0 i) (b ∷ each cs both.1 i) (each cs both.1 i)

pub same_failing : (t : Item) (ahead : List Item) (p : Place) (bs : List Build) → BehindAt t bs p → is_failing bs (with_ahead ahead (landed_place t p)) ≡ is_failing bs (with_ahead (t ∷ ahead) p)
same_failing t ahead p bs h =
    λ i. same_blocked t ahead p i || list_any (λ j. j.voting && is_failed_slot (slot_of_outcomes (same_outcomes t ahead p j bs h.higher h.began i))) p.jobs

pub same_cut : (t : Item) (ahead : List Item) (p : Place) (bs : List Build) → BehindAt t bs p → is_cut bs (with_ahead ahead (landed_place t p)) ≡ is_cut bs (with_ahead (t ∷ ahead) p)
same_cut t ahead p bs h =
    λ i. p.fast && not (same_blocked t ahead p i) && list_any (λ j. j.voting && is_failed_slot (slot_of_outcomes (same_outcomes t ahead p j bs h.higher h.began i))) p.jobs

still_count : (t : Item) (ahead : List Item) (p : Place) (bs : List Build) → nat_lt t.serial p.item.serial ≡ true → list_all (λ b. not (is_live_of p b) || nat_le b.after (length p.landings)) bs ≡ true →
    all_count bs (with_ahead (t ∷ ahead) p) ≡ true → all_count bs (with_ahead ahead (landed_place t p)) ≡ true
still_count t ahead p [] h e k = refl
still_count t ahead p (b ∷ bs) h e k =
    let both = and_parts (not (is_live_of p b) || nat_le b.after (length p.landings)) (list_all (λ x. not (is_live_of p x) || nat_le x.after (length p.landings)) bs) e in
    let own = and_parts (not (is_live_of p b) || counts (with_ahead (t ∷ ahead) p) b) (all_count bs (with_ahead (t ∷ ahead) p)) k in
    and_from (not (is_live_of p b) || counts (with_ahead ahead (landed_place t p)) b) (all_count bs (with_ahead ahead (landed_place t p)))
    (ap (λ x. not (is_live_of p b) || x) (same_counts t ahead p b h both.0) ∙ own.0) (still_count t ahead p bs h both.1 own.1)

-- ---- the items before, without the one that landed

pub record Without (t : Item) (before rest : List Item) : Type 0 where
  pub split : (n : ℕ) → has_change before n ≡ (has_change rest n || t.change == n)
  pub out : has_change rest t.change ≡ false

without_more : (t : Item) (before rest : List Item) (i : Item) → Without t before rest → has_change before i.change ≡ false → Without t (before ++ i ∷ []) (rest ++ i ∷ [])
without_more t before rest i h fresh = record {
  split = λ n. list_any-append (λ (j : Item). j.change == n) before (i ∷ []) ∙ ap (λ x. x || (i.change == n || false)) (h.split n) ∙ swap (has_change rest n) (t.change == n) (i.change == n || false)
      ∙ ap (λ x. x || t.change == n) (sym (list_any-append (λ (j : Item). j.change == n) rest (i ∷ [])));
  out = list_any-append (λ (j : Item). j.change == t.change) rest (i ∷ []) ∙ (λ k. h.out k || (other (i.change == t.change) refl k || false));
}
  where
    swap : (x y z : Bool) → (x || y) || z ≡ (x || z) || y
    swap true y z = refl
    swap false true true = refl
    swap false true false = refl
    swap false false true = refl
    swap false false false = refl

    yes : (x : Bool) → x || true ≡ true
    yes true = refl
    yes false = refl

    other : (x : Bool) → (i.change == t.change) ≡ x → (i.change == t.change) ≡ false
    other false e = e
    other true e =
        let same : t.change == i.change ≡ true = eq-eqb t.change i.change (sym (eqb-true i.change t.change e)) in
        absurd (true≢false (sym (yes (has_change rest i.change)) ∙ ap (λ x. has_change rest i.change || x) (sym same) ∙ sym (h.split i.change) ∙ fresh))

met_without : (t : Item) (before rest : List Item) (needs : List Need) → Without t before rest → are_met_by before needs ≡ true → are_met_by rest (map (need_landed t.change) needs) ≡ true
met_without t before rest [] w h = refl
met_without t before rest (n ∷ ns) w h =
    let both = and_parts (n.landed || has_change before n.change) (are_met_by before ns) h in
    and_from ((n.landed || t.change == n.change) || has_change rest n.change) (are_met_by rest (map (need_landed t.change) ns))
    (turn n.landed (t.change == n.change) (has_change rest n.change) (ap (λ x. n.landed || x) (sym (w.split n.change)) ∙ both.0)) (met_without t before rest ns w both.1)
  where
    turn : (l e r : Bool) → l || (r || e) ≡ true → (l || e) || r ≡ true
    turn true e r k = refl
    turn false true r k = refl
    turn false false true k = refl
    turn false false false k = k

open_without : (t : Item) (before rest : List Item) (needs : List Need) → Without t before rest → list_all (λ n. not (n.landed && has_change before n.change)) needs ≡ true →
    list_all (λ n. not (n.landed && has_change rest n.change)) (map (need_landed t.change) needs) ≡ true
open_without t before rest [] w h = refl
open_without t before rest (n ∷ ns) w h =
    let both = and_parts (not (n.landed && has_change before n.change)) (list_all (λ m. not (m.landed && has_change before m.change)) ns) h in
    and_from (not ((n.landed || t.change == n.change) && has_change rest n.change)) (list_all (λ m. not (m.landed && has_change rest m.change)) (map (need_landed t.change) ns))
    (by_same (t.change == n.change) refl both.0) (open_without t before rest ns w both.1)
  where
    neither : (l : Bool) → not ((l || true) && false) ≡ true
    neither true = refl
    neither false = refl

    less : (l r : Bool) → not (l && (r || false)) ≡ true → not ((l || false) && r) ≡ true
    less true true k = k
    less true false k = refl
    less false r k = refl

    by_same : (e : Bool) → (t.change == n.change) ≡ e → not (n.landed && has_change before n.change) ≡ true → not ((n.landed || t.change == n.change) && has_change rest n.change) ≡ true
    by_same true e k =
        let out : has_change rest n.change ≡ false = ap (has_change rest) (sym (eqb-true t.change n.change e)) ∙ w.out in
        (λ i. not ((n.landed || e i) && out i)) ∙ neither n.landed
    by_same false e k =
        ap (λ x. not ((n.landed || x) && has_change rest n.change)) e
        ∙ less n.landed (has_change rest n.change) (ap (λ x. not (n.landed && x)) (sym (w.split n.change ∙ ap (λ x. has_change rest n.change || x) e)) ∙ k)

-- ---- behind the next non-failing item all is as it was, with the landing in place of the item

not_first : (f b d : Bool) (r : Item) (ahead : List Item) → f && b && length (r ∷ ahead) == 0 && d ≡ false
not_first f b d r ahead = ap (λ x. f && b && x && d) (ne_eqb (length (r ∷ ahead)) 0 (λ e. omega (arith, e))) ∙ off f b d
  where
    off : (f b d : Bool) → f && b && false && d ≡ false
    off true true d = refl
    off true false d = refl
    off false b d = refl

quiet_at : (stand : ℕ → Option Bool) (bs : List Build) (t r : Item) (before rest ahead : List Item) (p : Place) → Without t before rest → BehindAt t bs p → QuietAt stand bs before (with_ahead (t ∷ r ∷ ahead) p) →
    QuietAt stand bs rest (with_ahead (r ∷ ahead) (landed_place t p))
quiet_at stand bs t r before rest ahead p w h q =
    let new = with_ahead (r ∷ ahead) (landed_place t p) in
    record {
      counting = still_count t (r ∷ ahead) p bs h.higher h.began q.counting;
      ended = λ u. q.ended (sym (same_cut t (r ∷ ahead) p bs h) ∙ u);
      stays = none_from bs rest new (met_without t before rest p.needs w (none_parts bs before (with_ahead (t ∷ r ∷ ahead) p) q.stays).0) (not_first (is_failing bs new) (not (is_blocked new)) (are_finished bs new) r ahead);
      standing = q.standing ∙ ap Some (sym (same_failing t (r ∷ ahead) p bs h));
      fresh = (or_parts (has_change rest p.item.change) (t.change == p.item.change) (sym (w.split p.item.change) ∙ q.fresh)).0;
      open_needs = open_without t before rest p.needs w q.open_needs;
    }

quiet_landed : (stand : ℕ → Option Bool) (bs : List Build) (t r : Item) (before rest ahead : List Item) (ps : List Place) → Without t before rest → Behind t bs ps → Quiet stand bs before (t ∷ r ∷ ahead) ps →
    Quiet stand bs rest (r ∷ ahead) (map (landed_place t) ps)
quiet_landed stand bs t r before rest ahead [] w h q = tt
quiet_landed stand bs t r before rest ahead (p ∷ ps) w h q = (
  quiet_at stand bs t r before rest ahead p w h.0 q.0,
  by_mark (is_failing bs (with_ahead (t ∷ r ∷ ahead) p)) (same_failing t (r ∷ ahead) p bs h.0) q.1
      (λ more z. quiet_landed stand bs t r (before ++ p.item ∷ []) (rest ++ p.item ∷ []) more ps (without_more t before rest p.item w q.0.fresh) h.1 z),
)
  where
    by_mark : (f : Bool) → is_failing bs (with_ahead (r ∷ ahead) (landed_place t p)) ≡ f → Quiet stand bs (before ++ p.item ∷ []) (cond f (t ∷ r ∷ ahead) (t ∷ r ∷ (ahead ++ p.item ∷ []))) ps →
        ((more : List Item) → Quiet stand bs (before ++ p.item ∷ []) (t ∷ r ∷ more) ps → Quiet stand bs (rest ++ p.item ∷ []) (r ∷ more) (map (landed_place t) ps)) →
        Quiet stand bs (rest ++ p.item ∷ []) (cond (is_failing bs (with_ahead (r ∷ ahead) (landed_place t p))) (r ∷ ahead) (r ∷ (ahead ++ p.item ∷ []))) (map (landed_place t) ps)
    by_mark true e z ih = subst (λ (x : Bool). Quiet stand bs (rest ++ p.item ∷ []) (cond x (r ∷ ahead) (r ∷ (ahead ++ p.item ∷ []))) (map (landed_place t) ps)) (sym e) (ih ahead z)
    by_mark false e z ih = subst (λ (x : Bool). Quiet stand bs (rest ++ p.item ∷ []) (cond x (r ∷ ahead) (r ∷ (ahead ++ p.item ∷ []))) (map (landed_place t) ps)) (sym e) (ih (ahead ++ p.item ∷ []) z)

last_of_more : (t r : Item) (ahead : List Item) → last_serial (t ∷ r ∷ ahead) ≡ last_serial (r ∷ ahead)
last_of_more t r ahead =
    let at : length (t ∷ r ∷ ahead) - 1 ≡ suc (length (r ∷ ahead) - 1) = omega arith in
    ap (λ (m : ℕ). option_map (λ i. i.serial) (slice_get (t ∷ r ∷ ahead) m)) at
    ∙ ap (λ (o : Option Item). option_map (λ i. i.serial) o) (slice_get-get_or (t ∷ r ∷ ahead) (suc (length (r ∷ ahead) - 1)) r (omega arith))
    ∙ ap (λ (o : Option Item). option_map (λ i. i.serial) o) (sym (slice_get-get_or (r ∷ ahead) (length (r ∷ ahead) - 1) r (omega arith)))

visits_landed : (stand : ℕ → Option Bool) (bs : List Build) (t r : Item) (ahead : List Item) (ps : List Place) → Behind t bs ps →
    visits stand bs (landed_place t) (t ∷ r ∷ ahead) ps ≡ visits stand bs same (r ∷ ahead) (map (landed_place t) ps)
visits_landed stand bs t r ahead [] h = refl
visits_landed stand bs t r ahead (p ∷ ps) h =
    let old = with_ahead (t ∷ r ∷ ahead) p in
    let new = with_ahead (r ∷ ahead) (landed_place t p) in
    let marks = same_failing t (r ∷ ahead) p bs h.0 in
    let first : seen stand bs old (landed_place t p) ≡ seen stand bs new (landed_place t p) =
    λ i. record (seen stand bs new (landed_place t p)) { row = record { serial = p.item.serial; change = p.item.change; revision = p.item.revision; ahead = last_of_more t r ahead i; failing = sym marks i } } in
    (λ i. first i ∷ visits stand bs (landed_place t) (next_ahead bs old) ps)
    ∙ ap (λ l. seen stand bs new (landed_place t p) ∷ l) (by_mark (is_failing bs old) marks (λ more. visits_landed stand bs t r more ps h.1))
  where
    by_mark : (f : Bool) → is_failing bs (with_ahead (r ∷ ahead) (landed_place t p)) ≡ f → ((more : List Item) → visits stand bs (landed_place t) (t ∷ r ∷ more) ps ≡ visits stand bs same (r ∷ more) (map (landed_place t) ps)) →
        visits stand bs (landed_place t) (cond f (t ∷ r ∷ ahead) (t ∷ r ∷ (ahead ++ p.item ∷ []))) ps ≡ visits stand bs same (cond (is_failing bs (with_ahead (r ∷ ahead) (landed_place t p))) (r ∷ ahead) (r ∷ (ahead ++ p.item ∷ []))) (map (landed_place t) ps)
    by_mark true e ih = ih ahead ∙ ap (λ x. visits stand bs same (cond x (r ∷ ahead) (r ∷ (ahead ++ p.item ∷ []))) (map (landed_place t) ps)) (sym e)
    by_mark false e ih = ih (ahead ++ p.item ∷ []) ∙ ap (λ x. visits stand bs same (cond x (r ∷ ahead) (r ∷ (ahead ++ p.item ∷ []))) (map (landed_place t) ps)) (sym e)

-- ---- the walk behind a landing

pub cast : {A B : Type 0} → A ≡ B → A → B
cast {A} e x = subst (λ (X : Type 0). X) e x

-- a walk that has passed a landing and no non-failing item yet
abbrev pub passing : List ℕ → List Mark → ℕ → ℕ → Carry
passing gone marks n w = record { resets = false; passes = true; ahead = None; gone = gone; marks = marks; reports = n; window = w }

-- it asks for each row up to the next non-failing item, and then follows the needs
abbrev pub Passes : List ℕ → Bounds → (ℕ → Option Bool) → List Build → Item → List Item → List Place → Type 0
Passes name bounds stand bs t rest ps = (gone : List ℕ) (marks : List Mark) (n w : ℕ) (staying : List Item) → Known stand marks gone rest [] staying → Followed gone rest [] staying →
    (let vs = visits stand bs (landed_place t) (t ∷ []) ps in Right name bounds bs n w staying (places_after bs [] (map (landed_place t) ps)) (rows_seen vs) (asked name bounds (passing gone marks n w) vs))

pub followed_next : (gone : List ℕ) (before ahead staying : List Item) (i : Item) (f g : Bool) → (g ≡ true → f ≡ true) → Followed gone before ahead staying → has_change ahead i.change ≡ false → is_gone gone i.change ≡ false →
    Followed (cond g (gone ++ i.change ∷ []) gone) (before ++ i ∷ []) (cond f ahead (ahead ++ i ∷ [])) (cond g staying (staying ++ i ∷ []))
followed_next gone before ahead staying i true true h fo a n = followed_gone gone before ahead staying i fo a
followed_next gone before ahead staying i false true h fo a n = absurd (true≢false (sym (h refl)))
followed_next gone before ahead staying i f false h fo a n = followed_kept gone before ahead staying i f fo n

pass_one : (name : List ℕ) (bounds : Bounds) (stand : ℕ → Option Bool) (bs : List Build) (t : Item) (before rest : List Item) (p : Place) (ps : List Place) → Without t before rest → Behind t bs (p ∷ ps) → Quiet stand bs before (t ∷ []) (p ∷ ps) →
    (Quiet stand bs (before ++ p.item ∷ []) (t ∷ []) ps → Passes name bounds stand bs t (rest ++ p.item ∷ []) ps) → Passes name bounds stand bs t rest (p ∷ ps)
pass_one name bounds stand bs t before rest p ps w h q ih gone marks n win staying kn fo =
    let k = passing gone marks n win in
    let old = with_ahead (t ∷ []) p in
    let new = with_ahead [] (landed_place t p) in
    let now = landed_place t in
    let v = seen stand bs old (now p) in
    let k2 = carried bounds k v in
    let met = met_without t before rest p.needs w (none_parts bs before old q.0.stays).0 in
    let counting = still_count t [] p bs h.0.higher h.0.began q.0.counting in
    let fresh = (or_parts (has_change rest p.item.change) (t.change == p.item.change) (sym (w.split p.item.change) ∙ q.0.fresh)).0 in
    let s : Sees bs staying k v new = record {
      same_item = (refl, refl, refl);
      same_jobs = refl;
      same_fast = refl;
      blocked = blocked_seen stand marks gone rest [] staying new.needs kn met;
      met = met_seen stand marks gone rest [] staying new.needs kn met;
      outcomes = λ job. sym (outcomes_live bs new job counting);
      stopping = λ going. stop_running bs new going counting;
      ahead = refl;
      first = refl;
    } in
    let verdict_is = verdict_seen bs staying k v new s in
    let next = next_staying staying (judge bs staying new) in
    let known = known_next stand bounds bs rest staying k v new s kn fresh (ap is_some q.0.standing) in
    let followed : Followed k2.gone (rest ++ p.item ∷ []) (next_ahead bs new) next =
    subst (λ (x : Option Verdict). Followed (cond (is_some x) (gone ++ p.item.change ∷ []) gone) (rest ++ p.item ∷ []) (next_ahead bs new) next) (sym verdict_is)
    (followed_next gone rest [] staying p.item (is_failing bs new) (is_some (verdict_of bs staying new)) (goes_failing bs staying new (λ c e. absurd (true≢false (sym e)))) fo refl (kn.not_gone p.item.change fresh)) in
    let mark : is_failing bs new ≡ is_failing bs old = same_failing t [] p bs h.0 in
    let fails_is : fails k v ≡ is_failing bs old = fails_seen bs staying k v new s ∙ mark in
    let goal : List Item → List Item → Bool → Bool → Option ℕ → Type 0 = λ a b x y o.
    (let vs = visits stand bs now b ps in
    Right name bounds bs k2.reports k2.window next (places_after bs a (map now ps)) (rows_seen vs) (asked name bounds (record { resets = x; passes = y; ahead = o; gone = k2.gone; marks = k2.marks; reports = k2.reports; window = k2.window }) vs)) in
    let from : (f : Bool) → is_failing bs old ≡ f → (g : goal (cond f [] (p.item ∷ [])) (cond f (t ∷ []) (t ∷ p.item ∷ [])) (f && not f) f (cond f None (Some p.item.serial))) →
    goal (next_ahead bs new) (next_ahead bs old) k2.resets k2.passes k2.ahead =
    λ f e g. cast (λ i. goal (cond (sym (mark ∙ e) i) [] (p.item ∷ [])) (cond (sym e i) (t ∷ []) (t ∷ p.item ∷ [])) (sym (fails_is ∙ e) i && not (sym e i)) (sym (fails_is ∙ e) i) (cond (sym (fails_is ∙ e) i) None (Some p.item.serial))) g in
    right_visit name bounds bs staying k v new (places_after bs (next_ahead bs new) (map now ps)) (visits stand bs now (next_ahead bs old) ps) s
    ((elim (is_failing bs old) as (λ f. is_failing bs old ≡ f → goal (next_ahead bs new) (next_ahead bs old) k2.resets k2.passes k2.ahead) [
      | true ↦ λ e. from true e
          (ih (subst (λ (x : Bool). Quiet stand bs (before ++ p.item ∷ []) (cond x (t ∷ []) (t ∷ p.item ∷ [])) ps) e q.1) k2.gone k2.marks k2.reports k2.window next
          (subst (λ (x : Bool). Known stand k2.marks k2.gone (rest ++ p.item ∷ []) (cond x [] (p.item ∷ [])) next) (mark ∙ e) known)
          (subst (λ (x : Bool). Followed k2.gone (rest ++ p.item ∷ []) (cond x [] (p.item ∷ [])) next) (mark ∙ e) followed))
      | false ↦ λ e. from false e
          (let vs = visits_landed stand bs t p.item [] ps h.1 in
          let quiet = quiet_landed stand bs t p.item (before ++ p.item ∷ []) (rest ++ p.item ∷ []) [] ps (without_more t before rest p.item w q.0.fresh) h.1
          (subst (λ (x : Bool). Quiet stand bs (before ++ p.item ∷ []) (cond x (t ∷ []) (t ∷ p.item ∷ [])) ps) e q.1) in
          cast (λ i. Right name bounds bs k2.reports k2.window next (places_after bs (p.item ∷ []) (map now ps)) (rows_seen (sym vs i)) (asked name bounds (needing (Some p.item.serial) k2.gone k2.marks k2.reports k2.window) (sym vs i)))
          (follow name bounds stand bs (rest ++ p.item ∷ []) (p.item ∷ []) (map now ps) quiet (Some p.item.serial) k2.gone k2.marks k2.reports k2.window next
          (subst (λ (x : Bool). Known stand k2.marks k2.gone (rest ++ p.item ∷ []) (cond x [] (p.item ∷ [])) next) (mark ∙ e) known)
          (subst (λ (x : Bool). Followed k2.gone (rest ++ p.item ∷ []) (cond x [] (p.item ∷ [])) next) (mark ∙ e) followed)))
    ]) refl)

pub pass : (name : List ℕ) (bounds : Bounds) (stand : ℕ → Option Bool) (bs : List Build) (t : Item) (before rest : List Item) (ps : List Place) → Without t before rest → Behind t bs ps → Quiet stand bs before (t ∷ []) ps → Passes name bounds stand bs t rest ps
pass name bounds stand bs t before rest [] w h q = λ gone marks n win staying kn fo. tt
pass name bounds stand bs t before rest (p ∷ ps) w h q =
    pass_one name bounds stand bs t before rest p ps w h q
    (λ more. pass name bounds stand bs t (before ++ p.item ∷ []) (rest ++ p.item ∷ []) ps (without_more t before rest p.item w q.0.fresh) h.1 more)
