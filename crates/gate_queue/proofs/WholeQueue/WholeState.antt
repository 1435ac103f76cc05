-- A queue settled by itself, within the whole state.
use Rattle.std.proofs.Common.{◌≡◌, inl, ℕ, Bool, true, false, not, ◌&&◌, ◌||◌, cond, is_some, List, [], ◌∷◌, ◌++◌}
use Rattle.std.proofs.Common.{map, fold, refl, sym, ap, ◌∙◌, subst, true≢false}
use Rattle.std.specs.Prelude.{filter, filter_map, option_map, ◌==◌}
use Rattle.std.specs.List.{list_any, flat_map, AllPass, AllByRecursion as Each}
use Rattle.std.proofs.lemmas.Bool.{and_parts, or_parts, or_from, and_right, eqb-true, eq-eqb, not-true}
use Rattle.std.proofs.lemmas.List.Elements.{All-head, All-tail, All-from_recursion}
use Rattle.std.proofs.lemmas.List.Folds.{list_any-append}
use Rattle.std.proofs.lemmas.List.Concat.{flat_map-cons}
use Rattle.std.proofs.lemmas.Grind.{flat_map-append}
use Rattle.gate_queue_rules.specs.Settled.{rebased, verdicts, swept_rows, swept_of}
use Rattle.gate_laws.specs.Touch.{has_serial}
use Rattle.gate_queue.specs.WholeQueue.ByItself.{picked, is_picked_rightly, is_planned_apart}
use Rattle.gate_queue.specs.WholeQueue.ByItself.{EachQueueIsSettledByItself}
use Rattle.gate_queue_rules.proofs.Ordered.{Tells, rises, ahead_rise, items_rise}
use Rattle.gate_queue_rules.proofs.Keeps.{rows_alike}
use Rattle.gate_queue_rules.proofs.Settled.{goes_tells, verdicts_rebased}
use Rattle.gate_types.specs.declared.config.Job.{Job}
use Rattle.gate_types.specs.declared.records.Build.{Build}
use Rattle.gate_types.specs.declared.records.Plan.{Plan}
use Rattle.gate_types.specs.Names.{same_name}
use Rattle.gate_types.specs.Settings.{Settings}
use Rattle.gate_types.specs.State.{Item, Queue, State}
use Rattle.gate_types.specs.Line.{Place, same_entries, line, ran_on}
use Rattle.gate_types.specs.Slot.{is_blocked, is_running, counts, is_wanted, outcomes_of, raw_slot_of, slot_of_outcomes}
use Rattle.gate_types.specs.Standing.{with_ahead, next_ahead, places_after, place_of, places, all_places}
use Rattle.gate_types.specs.Rebase.{rebase, with_live, stays_live}
use Rattle.gate_types.specs.Window.{bounds_of}
use Rattle.gate_types.specs.Sweep.{Judged, judged, judged_after, goes, without_runs, sweep, next_window, report_of}
use Rattle.gate_types.specs.Rows.{row_of, numbered_reports}
use Rattle.gate_types.specs.Rising.{In}
use Rattle.gate_laws.proofs.Tests.{implied}
use Rattle.gate_laws.proofs.Members.{every, any_to, to_right, map_same, from_filter}
use Rattle.gate_laws.proofs.Alike.{StandsAlike, alike_slots, places_alike, verdicts_alike, live_alike}
use Rattle.gate_laws.proofs.Keeps.{keeps, map-cond}
use Rattle.gate_laws.proofs.Outcomes.{counted_live}
use Rattle.gate_laws.proofs.Stays.{stayers}
use Rattle.gate_laws.proofs.AfterRebase.{judged_rebased}
use Rattle.gate_laws.proofs.Swept.{items_left, place-staying, staying_items, staying_not}
use Rattle.gate_laws.proofs.Plans.{plan_left, same_place}
use Rattle.gate_laws.proofs.OneQueue.{none_there, none_wanted}
use Rattle.gate_laws.proofs.OtherQueuesStay.{none_goes_there}

-- ---- builds that give the same slots

-- at each place of these items
abbrev SameSlots : List Build → List Build → List Item → Type 0
SameSlots cs bs items = (p : Place) → has_serial items p.item.serial ≡ true → (job : Job) → raw_slot_of cs p job ≡ raw_slot_of bs p job

abbrev AllIn : List Item → List Place → Type 0
AllIn items = Each (λ p. has_serial items p.item.serial ≡ true)

-- so the items stand as they stood
same_alike : (cs bs : List Build) (items : List Item) (ps : List Place) → SameSlots cs bs items → AllIn items ps →
    (p : Place) → In p ps → StandsAlike cs bs p
same_alike cs bs items ps h a p m =
    alike_slots cs bs p (h p (every (λ p. has_serial items p.item.serial ≡ true) ps (All-from_recursion _ ps a) p m))

ahead_in : (bs : List Build) (items ahead : List Item) (ps : List Place) → AllIn items ps → AllIn items (places_after bs ahead ps)
ahead_in bs items ahead [] a = tt
ahead_in bs items ahead (p ∷ ps) a = (a.0, ahead_in bs items (next_ahead bs (with_ahead ahead p)) ps a.1)

stayers_in : (items : List Item) (ps : List Place) (leaves : ℕ → Bool) → AllIn items ps → AllIn items (stayers leaves ps)
stayers_in items [] leaves a = tt
stayers_in items (p ∷ ps) leaves a = by_test (leaves p.item.serial) (stayers_in items ps leaves a.1)
  where
    by_test : (t : Bool) → AllIn items (stayers leaves ps) → AllIn items (cond (not t) (p ∷ stayers leaves ps) (stayers leaves ps))
    by_test true h = h
    by_test false h = (a.0, h)

-- ---- picked builds

-- each live build of these items is picked
abbrev Covers : (ℕ → Bool) → List Item → List Build → Type 0
Covers pick items [] = Unit {0}
Covers pick items (b ∷ bs) = (b.live && has_serial items b.serial ≡ true → pick b.number ≡ true) × Covers pick items bs

counts_picked : (pick : ℕ → Bool) (items : List Item) (p : Place) (b : Build) → has_serial items p.item.serial ≡ true → (b.live && has_serial items b.serial ≡ true → pick b.number ≡ true) → counts p b ≡ true → pick b.number ≡ true
counts_picked pick items p b own h e =
    let both = counted_live b.live (b.serial == p.item.serial) (not (is_blocked p)) (same_entries (ran_on p.landings b) (line p)) e in
    h (ap (λ t. t && has_serial items b.serial) both.0 ∙ ap (has_serial items) (eqb-true b.serial p.item.serial both.1) ∙ own)

outcomes_picked : (pick : ℕ → Bool) (items : List Item) (bs : List Build) (p : Place) (job : Job) → has_serial items p.item.serial ≡ true → Covers pick items bs → outcomes_of (picked pick bs) p job ≡ outcomes_of bs p job
outcomes_picked pick items [] p job own h = refl
outcomes_picked pick items (b ∷ bs) p job own h = by_pick (pick b.number) refl (outcomes_picked pick items bs p job own h.1)
  where
    by_pick : (t : Bool) → pick b.number ≡ t → outcomes_of (picked pick bs) p job ≡ outcomes_of bs p job → outcomes_of (cond t (b ∷ picked pick bs) (picked pick bs)) p job ≡ outcomes_of (b ∷ bs) p job
    by_pick true e ih =
        let f : Bool = same_name b.job job.name && counts p b in
        map-cond (λ (x : Build). x.outcome) f b (filter (λ x. same_name x.job job.name && counts p x) (picked pick bs))
        ∙ (λ k. cond f (b.outcome ∷ ih k) (ih k))
        ∙ sym (map-cond (λ (x : Build). x.outcome) f b (filter (λ x. same_name x.job job.name && counts p x) bs))
    by_pick false e ih =
        let off : same_name b.job job.name && counts p b ≡ false = and_right (same_name b.job job.name) (counts p b) (by_count (counts p b) refl) in
        ih ∙ ap (λ t. map (λ (x : Build). x.outcome) (cond t (b ∷ filter (λ x. same_name x.job job.name && counts p x) bs) (filter (λ x. same_name x.job job.name && counts p x) bs))) (sym off)
      where
        by_count : (t : Bool) → counts p b ≡ t → t ≡ false
        by_count true k = absurd (true≢false (sym (counts_picked pick items p b own h.0 k) ∙ e))
        by_count false k = refl

slots_picked : (pick : ℕ → Bool) (items : List Item) (bs : List Build) → Covers pick items bs → SameSlots (picked pick bs) bs items
slots_picked pick items bs h p own job = ap slot_of_outcomes (outcomes_picked pick items bs p job own h)

-- fewer live builds are picked all the more
covers_less : (pick : ℕ → Bool) (items : List Item) (test : Build → Bool) (bs : List Build) → Covers pick items bs → Covers pick items (map (keeps test) bs)
covers_less pick items test [] h = tt
covers_less pick items test (b ∷ bs) h = ((λ e. h.0 (less b.live (test b) (has_serial items b.serial) e)), covers_less pick items test bs h.1)
  where
    less : (l t s : Bool) → (l && t) && s ≡ true → l && s ≡ true
    less true true s e = e
    less true false s e = absurd (true≢false (sym e))
    less false t s e = absurd (true≢false (sym e))

covers : (pick : ℕ → Bool) (others : List Queue) (q : Queue) (bs : List Build) → AllPass (is_picked_rightly pick others q) bs → Covers pick q.items bs
covers pick others q [] h = tt
covers pick others q (b ∷ bs) h =
    let first = and_parts (not (b.live && has_serial q.items b.serial) || pick b.number) (not (pick b.number) || not (list_any (λ o. has_serial o.items b.serial) others)) (All-head (λ x. is_picked_rightly pick others q x ≡ true) b bs h) in
    (implied (b.live && has_serial q.items b.serial) (pick b.number) first.0, covers pick others q bs (All-tail (λ x. is_picked_rightly pick others q x ≡ true) b bs h))

-- a picked build is of no other queue's item
abbrev NoOther : List Queue → Build → Type 0
NoOther others b = list_any (λ o. has_serial o.items b.serial) others ≡ false

-- the picked builds after both steps
builds_picked : (pick : ℕ → Bool) (others : List Queue) (q : Queue) (test mine : Build → Bool) (leaves own : ℕ → Bool) (bs : List Build) → AllPass (is_picked_rightly pick others q) bs →
    ((b : Build) → NoOther others b → (test b ≡ mine b) × (leaves b.serial ≡ own b.serial)) →
    picked pick (without_runs leaves (map (keeps test) bs)) ≡ without_runs own (map (keeps mine) (picked pick bs))
builds_picked pick others q test mine leaves own [] h same = refl
builds_picked pick others q test mine leaves own (b ∷ bs) h same =
    let first = and_parts (not (b.live && has_serial q.items b.serial) || pick b.number) (not (pick b.number) || not (list_any (λ o. has_serial o.items b.serial) others)) (All-head (λ x. is_picked_rightly pick others q x ≡ true) b bs h) in
    by_pick (pick b.number) first.1 (builds_picked pick others q test mine leaves own bs (All-tail (λ x. is_picked_rightly pick others q x ≡ true) b bs h) same)
  where
    by_pick : (t : Bool) → not t || not (list_any (λ o. has_serial o.items b.serial) others) ≡ true → picked pick (without_runs leaves (map (keeps test) bs)) ≡ without_runs own (map (keeps mine) (picked pick bs)) →
        cond t (with_live (b.live && test b && not (is_running b.outcome && leaves b.serial)) b ∷ picked pick (without_runs leaves (map (keeps test) bs))) (picked pick (without_runs leaves (map (keeps test) bs)))
        ≡ without_runs own (map (keeps mine) (cond t (b ∷ picked pick bs) (picked pick bs)))
    by_pick true e ih =
        let s = same b (not-true (list_any (λ o. has_serial o.items b.serial) others) e) in
        λ k. with_live (b.live && s.0 k && not (is_running b.outcome && s.1 k)) b ∷ ih k
    by_pick false e ih = ih

-- ---- the other queues

-- a test over all queues that no other passes
none_of : {X : Type 0} (f : X → Bool) (g : Queue → List X) (n : ℕ) (os : List Queue) → ((o : Queue) → has_serial o.items n ≡ false → list_any f (g o) ≡ false) → list_any (λ o. has_serial o.items n) os ≡ false → list_any f (flat_map g os) ≡ false
none_of f g n [] h e = refl
none_of f g n (o ∷ os) h e =
    let both = or_parts (has_serial o.items n) (list_any (λ x. has_serial x.items n) os) e in
    ap (list_any f) (flat_map-cons g o os) ∙ list_any-append f (g o) (flat_map g os) ∙ or_from (list_any f (g o)) (list_any f (flat_map g os)) (h o both.0) (none_of f g n os h both.1)

only_one : {X : Type 0} (f : X → Bool) (g : Queue → List X) (n : ℕ) (before after : List Queue) (q : Queue) → ((o : Queue) → has_serial o.items n ≡ false → list_any f (g o) ≡ false) → list_any (λ o. has_serial o.items n) (before ++ after) ≡ false →
    list_any f (flat_map g (before ++ q ∷ after)) ≡ list_any f (g q)
only_one f g n before after q h e =
    let both = or_parts (list_any (λ o. has_serial o.items n) before) (list_any (λ o. has_serial o.items n) after) (sym (list_any-append (λ (o : Queue). has_serial o.items n) before after) ∙ e) in
    ap (list_any f) (flat_map-append g before (q ∷ after) ∙ ap (λ l. flat_map g before ++ l) (flat_map-cons g q after))
    ∙ list_any-append f (flat_map g before) (g q ++ flat_map g after)
    ∙ ap (λ t. t || list_any f (g q ++ flat_map g after)) (none_of f g n before h both.0)
    ∙ list_any-append f (g q) (flat_map g after)
    ∙ ap (λ t. list_any f (g q) || t) (none_of f g n after h both.1)
    ∙ off (list_any f (g q))
  where
    off : (t : Bool) → t || false ≡ t
    off true = refl
    off false = refl

-- ---- the queue itself

serials_in : (c : Settings) (s : State) (q : Queue) (is items : List Item) → ((n : ℕ) → has_serial is n ≡ true → has_serial items n ≡ true) → AllIn items (map (place_of c s q) is)
serials_in c s q [] items h = tt
serials_in c s q (i ∷ is) items h = (
  h i.serial (ap (λ t. t || has_serial is i.serial) (eq-eqb i.serial i.serial refl)),
  serials_in c s q is items (λ n e. h n (later (i.serial == n) (has_serial is n) e)),
)
  where
    later : (x y : Bool) → y ≡ true → x || y ≡ true
    later true y e = refl
    later false y e = e

-- the places of the items that stay
places_left : (c : Settings) (s : State) (q : Queue) (bs : List Build) (ahead staying is : List Item) (leaves : ℕ → Bool) →
    Tells leaves (judged_after bs staying (places_after bs ahead (map (place_of c s q) is))) →
    (let js = judged_after bs staying (places_after bs ahead (map (place_of c s q) is)) in
    map (place_of c s q) (map (λ j. j.item) (filter (λ j. not (is_some j.verdict)) js)) ≡ stayers leaves (map (place_of c s q) is))
places_left c s q bs ahead staying is leaves t =
    ap (map (place_of c s q)) (items_left c s q bs ahead staying is leaves t) ∙ place-staying c s q leaves is

-- what the whole rebase stops of a build that is of no other queue's item
live_same : (c : Settings) (s : State) (before after : List Queue) (q : Queue) (b : Build) → s.queues ≡ before ++ q ∷ after → NoOther (before ++ after) b → stays_live s.builds (all_places c s) b ≡ stays_live s.builds (places c s q) b
live_same c s before after q b e h =
    ap (λ (l : List Queue). stays_live s.builds (flat_map (places c s) l) b) e
    ∙ (λ k. not (only_one (λ (p : Place). p.item.serial == b.serial) (places c s) b.serial before after q (λ o z. none_there c s o s.builds b.serial [] o.items z) h k)
    || only_one (λ (p : Place). is_wanted s.builds p b) (places c s) b.serial before after q (λ o z. none_wanted c s o s.builds s.builds b [] o.items z) h k)

goes_same : (c : Settings) (s : State) (before after : List Queue) (q : Queue) (n : ℕ) → s.queues ≡ before ++ q ∷ after → list_any (λ o. has_serial o.items n) (before ++ after) ≡ false → goes (flat_map (judged c s) s.queues) n ≡ goes (judged c s q) n
goes_same c s before after q n e h =
    ap (λ (l : List Queue). goes (flat_map (judged c s) l) n) e
    ∙ only_one (λ (j : Judged). is_some j.verdict && j.item.serial == n) (judged c s) n before after q (λ o z. none_goes_there c s o s.builds n [] [] o.items z) h

-- the verdicts on the queue, of the whole state and of the queue by itself
verdicts_whole : (c : Settings) (s : State) (before after : List Queue) (q : Queue) → s.queues ≡ before ++ q ∷ after → judged c (rebase c s) q ≡ verdicts (map (place_of c s q) q.items) s.builds
verdicts_whole c s before after q e =
    judged_rebased c s q (subst (In q) (sym e) (to_right before (q ∷ after) q (inl refl)))

pub each_queue_is_settled_by_itself : EachQueueIsSettledByItself
each_queue_is_settled_by_itself c s before after q pick e r apart h =
    let ps = map (place_of c s q) q.items in
    let js = verdicts ps s.builds in
    let own = picked pick s.builds in
    let cov = covers pick (before ++ after) q s.builds h in
    let all_in = serials_in c s q q.items q.items (λ n z. z) in
    let same = slots_picked pick q.items s.builds cov in
    let alike = same_alike own s.builds q.items (places c s q) same (ahead_in s.builds q.items [] ps all_in) in
    let here : places_after own [] ps ≡ places c s q = places_alike own s.builds [] ps alike in
    let alone : verdicts ps (rebased ps own) ≡ js =
    verdicts_rebased ps own ∙ ap (judged_after own []) here ∙ verdicts_alike own s.builds [] (places c s q) alike in
    let whole : judged c (rebase c s) q ≡ js = verdicts_whole c s before after q e in
    let test = stays_live s.builds (all_places c s) in
    let left = (sweep c (rebase c s)).builds in
    let builds : picked pick left ≡ without_runs (goes js) (rebased ps own) =
    builds_picked pick (before ++ after) q test (stays_live own (places_after own [] ps)) (goes (flat_map (judged c (rebase c s)) s.queues)) (goes js) s.builds h
    (λ b z. (
      live_same c s before after q b e z
          ∙ sym (live_alike own s.builds (places c s q) b alike) ∙ ap (λ (l : List Place). stays_live own l b) (sym here),
      goes_same c (rebase c s) before after q b.serial e z ∙ ap (λ (l : List Judged). goes l b.serial) whole,
    )) in
    let before_it = (rebase c s).builds in
    let told = goes_tells before_it 0 [] (places c (rebase c s) q) (ahead_rise before_it 0 [] ps (items_rise c s q q.items 0 (rises (λ (i : Item). i.serial) q.items r))) in
    let stay = stayers (goes js) ps in
    let staying : map (place_of c s q) (swept_of c s q).items ≡ stay =
    places_left c s q before_it [] [] q.items (goes (judged c (rebase c s) q)) told ∙ ap (λ (l : List Judged). stayers (goes l) ps) whole in
    let fewer = covers_less pick q.items (λ b. not (is_running b.outcome && goes (flat_map (judged c (rebase c s)) s.queues) b.serial)) before_it (covers_less pick q.items test s.builds cov) in
    let slots = slots_picked pick q.items left fewer in
    let stay_in = ahead_in left q.items [] stay (stayers_in q.items ps (goes js) all_in) in
    let left_alike = same_alike (picked pick left) left q.items (places_after left [] stay) slots stay_in in
    let leaves = goes (flat_map (judged c (rebase c s)) s.queues) in
    let kept_items : (swept_of c s q).items ≡ staying_items (goes (judged c (rebase c s) q)) q.items =
    items_left c s q before_it [] [] q.items (goes (judged c (rebase c s) q)) told in
    let plans : map (place_of c (sweep c (rebase c s)) (swept_of c s q)) (swept_of c s q).items ≡ map (place_of c s q)
    (swept_of c s q).items =
    map_same (place_of c (sweep c (rebase c s)) (swept_of c s q)) (place_of c s q) (swept_of c s q).items (λ i m.
    let own_item = subst (In i) kept_items m in
    let mine = (from_filter (λ (j : Item). not (goes (judged c (rebase c s) q) j.serial)) q.items i own_item).0 in
    same_place c s (sweep c (rebase c s)) q (swept_of c s q) i refl refl
    (plan_left leaves s.plans i.serial (λ p m k.
    let there = any_to (λ (j : Item). j.serial == p.serial) q.items i mine (eq-eqb i.serial p.serial (sym (eqb-true p.serial i.serial k))) in
    let other = list_any (λ o. has_serial o.items p.serial) (before ++ after) in
    goes_same c (rebase c s) before after q p.serial e
    (not-true other (implied (has_serial q.items p.serial) (not other)
    (every (λ (r : Plan). is_planned_apart (before ++ after) q r ≡ true) s.plans apart p m) there))
    ∙ ap (goes (judged c (rebase c s) q)) (eqb-true p.serial i.serial k)
    ∙ staying_not (goes (judged c (rebase c s) q)) q.items i own_item))) in
    let items : map (row_of left) (places c (sweep c (rebase c s)) (swept_of c s q)) ≡ map (row_of (without_runs (goes js) (rebased ps own))) (places_after (without_runs (goes js) (rebased ps own)) [] stay) =
    ap (λ (l : List Place). map (row_of left) (places_after left [] l)) (plans ∙ staying)
    ∙ sym (rows_alike (picked pick left) left (places_after left [] stay) left_alike)
    ∙ ap (map (row_of (picked pick left))) (sym (places_alike (picked pick left) left [] stay left_alike))
    ∙ ap (λ (l : List Build). map (row_of l) (places_after l [] stay)) builds in
    (λ k. record {
      name = q.name;
      window = fold (next_window (bounds_of c q)) q.window (whole k);
      items = items k;
      builds = builds k;
      reports = numbered_reports 0 (q.reports ++ filter_map (λ j. option_map (λ v. report_of v j.item) j.verdict) (whole k));
    })
    ∙ ap (λ (l : List Judged). swept_rows (bounds_of c q) l ps (rebased ps own) q) (sym alone)
