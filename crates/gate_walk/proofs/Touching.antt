-- The walk leaves what settling leaves, in a sound state that was at rest before the delivery.
use Rattle.std.proofs.Common.{◌≡◌, ℕ, suc, ◌<◌, ◌≤◌, Bool, true, false, not, ◌||◌, cond, Option, Some, None, is_some}
use Rattle.std.proofs.Common.{List, [], ◌∷◌, ◌++◌, map, length, inl, inr, refl, sym, ap, ◌∙◌, subst, true≢false}
use Rattle.std.proofs.Common.{arith, append-nil}
use Rattle.std.specs.Prelude.{◌==◌, nat_le, Contains}
use Rattle.std.specs.List.{AllPass}
use Rattle.std.proofs.lemmas.Bool.{eq-eqb, lt-ltb, le-ltb, eqb-true}
use Rattle.std.proofs.lemmas.List.{map-append}
use Rattle.std.proofs.lemmas.List.Folds.{list_any-append}
use Rattle.gate_types.specs.Window.{Bounds}
use Rattle.gate_types.specs.declared.config.Job.{Job}
use Rattle.gate_types.specs.declared.records.Build.{Build}
use Rattle.gate_types.specs.declared.records.Item.{Item as ItemRow}
use Rattle.gate_types.specs.declared.deliveries.Ending.{Ending}
use Rattle.gate_types.specs.Settings.{Settings}
use Rattle.gate_types.specs.State.{Item, Queue, State, has_change}
use Rattle.gate_types.specs.Line.{Place}
use Rattle.gate_types.specs.Standing.{is_failing, with_ahead, next_ahead, places_after, place_of, places, all_places}
use Rattle.gate_types.specs.Rows.{row_of}
use Rattle.gate_types.specs.Step.{end_build}
use Rattle.gate_types.specs.Lawful.{IsSound, is_single}
use Rattle.gate_types.specs.Rising.{RisesFrom, In}
use Rattle.gate_walk.specs.Walk.{Seen, Carry}
use Rattle.gate_walk.specs.Rescan.{settled_to, Walks, IsCalm, standing_in, row_seen, TakenOut, walk_start, stored}
use Rattle.gate_walk.specs.Rescan.{without_row, rows_from, ahead_at, fails_at, WalkAfterBuild, WalkAfterLeaving}
use Rattle.gate_walk.specs.Rescan.{WalkAfterLanding}
use Rattle.gate_laws.proofs.Members.{every, all, to_right, to_left, to_flat}
use Rattle.std.proofs.lemmas.List.Elements.{All-contains}
use Rattle.gate_laws.proofs.Rising.{increasing}
use Rattle.gate_laws.proofs.LiveBuildsCount.{place_serial}
use Rattle.gate_laws.proofs.Places.{ahead_end}
use Rattle.gate_queue_rules.proofs.Ordered.{GoWith, row_serial, build_number, rises}
use Rattle.gate_walk.proofs.Parting.{rising_from}
use Rattle.gate_walk.proofs.Resets.{rows_seen, Quiet, visits, same, last_serial, first_last}
use Rattle.gate_walk.proofs.Passes.{cast, landed_place, Behind}
use Rattle.gate_walk.proofs.Events.{all_before, quiet_split}
use Rattle.gate_walk.proofs.Front.{Front}
use Rattle.gate_walk.proofs.Moved.{Elsewhere, Others, still_quiet}
use Rattle.gate_walk.proofs.OneQueue.{rows_split, Walked, walked_settles, walked_so_far, Stands, walk_standing, Left}
use Rattle.gate_walk.proofs.OneQueue.{carry_left, walk_left, Lands, walk_landed}
use Rattle.gate_walk.proofs.Calm.{quiet_queue, places_rise_from, items_rise_from, lower_front, higher_behind}
use Rattle.gate_walk.proofs.Calm.{others_behind, rise_without, never_landed, not_landed_places, began_there}
use Rattle.gate_walk.proofs.Calm.{began_all}
use Rattle.gate_walk.proofs.StoredRows.{says_through, restand, none_in, low_place, parted, AreNow, rows_are_seen}
use Rattle.gate_walk.proofs.EndedBuilds.{stops_elsewhere, stops_rise, ended_elsewhere, ended_rise, ended_count}
use Rattle.gate_walk.proofs.EndedBuilds.{ended_fails}

-- ---- the touched item in its queue

-- a queue of a sound state at rest, parted at one of its items
pub record Around (c : Settings) (s : State) (q : Queue) (is js : List Item) (i : Item) : Type 0 where
  pub there : In q s.queues
  item : In i q.items
  split : map (place_of c s q) q.items ≡ map (place_of c s q) is ++ place_of c s q i ∷ map (place_of c s q) js
  quiet : Quiet (standing_in (stored c s q)) s.builds [] [] (map (place_of c s q) is ++ place_of c s q i ∷ map (place_of c s q) js)
  pub rise : RisesFrom place_serial 0 (map (place_of c s q) is ++ place_of c s q i ∷ map (place_of c s q) js)
  pub rows : stored c s q ≡ map (row_of s.builds) (places_after s.builds [] (map (place_of c s q) is ++ place_of c s q i ∷ map (place_of c s q) js))
  numbers : RisesFrom build_number 0 s.builds
  began : (j : Item) → In j q.items → (b : Build) → In b s.builds → (b.serial == j.serial) ≡ true → nat_le b.after (length q.landings) ≡ true

pub around : (c : Settings) (s : State) (qs rs : List Queue) (q : Queue) (is js : List Item) (i : Item) → IsSound c s → IsCalm c s → s.queues ≡ qs ++ q ∷ rs → q.items ≡ is ++ i ∷ js → Around c s q is js i
around c s qs rs q is js i sound rest eq ei =
    let m : In q s.queues = subst (λ (l : List Queue). In q l) (sym eq) (to_right qs (q ∷ rs) q (inl refl)) in
    let split = ap (map (place_of c s q)) ei ∙ map-append (place_of c s q) is (i ∷ js) in
    let rows = stored c s q in
    record {
      there = m;
      item = subst (λ (l : List Item). In i l) (sym ei) (to_right is (i ∷ js) i (inl refl));
      split = split;
      quiet = subst (Quiet (standing_in rows) s.builds [] []) split (quiet_queue c s sound rest q m (standing_in rows) [] (λ n f. ap (λ l. standing_in l n) (sym (append-nil rows))));
      rise = subst (RisesFrom place_serial 0) split (places_rise_from c s q 0 q.items (items_rise_from c s sound q m));
      rows = ap (λ l. map (row_of s.builds) (places_after s.builds [] l)) split;
      numbers = rises build_number s.builds sound.builds_rise;
      began = began_there c s sound q m;
    }

own_in : (xs : List Item) (i : Item) → has_change (xs ++ i ∷ []) i.change ≡ true
own_in xs i = list_any-append (λ (j : Item). j.change == i.change) xs (i ∷ []) ∙ (λ k. has_change xs i.change || (eq-eqb i.change i.change refl k || false)) ∙ yes (has_change xs i.change)
  where
    yes : (x : Bool) → x || (true || false) ≡ true
    yes true = refl
    yes false = refl

out_of : (xs : List Item) (i : Item) (n : ℕ) → has_change (xs ++ i ∷ []) n ≡ false → has_change xs n ≡ false
out_of xs i n h = at (has_change xs n) refl
  where
    at : (t : Bool) → has_change xs n ≡ t → has_change xs n ≡ false
    at false e = e
    at true e = absurd (true≢false (sym (list_any-append (λ (j : Item). j.change == n) xs (i ∷ []) ∙ ap (λ x. x || (i.change == n || false)) e) ∙ h))

-- ---- needs and jobs after the delivery

abbrev first_of : Place → List Place → Place
first_of d [] = d
first_of d (p ∷ ps) = p

abbrev rest_of : List Place → List Place
rest_of [] = []
rest_of (p ∷ ps) = ps

are_now : (c : Settings) (t : State) (s : State) (q o : Queue) (now : Place → Place) (is : List Item) → map (place_of c t o) is ≡ map now (map (place_of c s q) is) → AreNow c t now (map (place_of c s q) is)
are_now c t s q o now [] h = tt
are_now c t s q o now (i ∷ is) h =
    let d = place_of c s q i in
    let head : place_of c t o i ≡ now (place_of c s q i) = ap (first_of d) h in
    (ap (λ (p : Place). p.needs) head, ap (λ (p : Place). p.jobs) head, ap (λ (p : Place). p.fast) head, sym (ap (λ (p : Place). p.item.serial) head), are_now c t s q o now is (ap rest_of h))

now_behind : (c : Settings) (t s : State) (q : Queue) (now : Place → Place) (is js : List Item) → AreNow c t now (map (place_of c s q) (is ++ js)) → AreNow c t now (map (place_of c s q) js)
now_behind c t s q now [] js h = h
now_behind c t s q now (i ∷ is) js h = now_behind c t s q now is js h.4

map_id : (ps : List Place) → ps ≡ map same ps
map_id [] = refl
map_id (p ∷ ps) = ap (λ l. p ∷ l) (map_id ps)

rows_back : (see : ItemRow → Seen) (rows : List ItemRow) → ((r : ItemRow) → (see r).row ≡ r) → rows_seen (map see rows) ≡ rows
rows_back see [] h = refl
rows_back see (r ∷ rows) h = λ k. h r k ∷ rows_back see rows h k

same_serials : (is : List ItemRow) (ps : List Place) → GoWith is ps → map row_serial is ≡ map place_serial ps
same_serials [] [] g = refl
same_serials [] (p ∷ ps) g = absurd g
same_serials (i ∷ is) [] g = absurd g
same_serials (i ∷ is) (p ∷ ps) g = λ k. g.0 k ∷ same_serials is ps g.1 k

-- what is right row by row is so at the stop, and between two visits
walks : (bounds : Bounds) (o : Queue) (rows : List ItemRow) (cs : List Build) (ps : List Place) (k : Carry) (see : ItemRow → Seen) (last : List ItemRow) → ((r : ItemRow) → (see r).row ≡ r) → Walked o.name bounds o.window cs rows ps o.reports k (map see last) →
    Walks bounds o rows cs ps k see last
walks bounds o rows cs ps k see last back h = record {
  rows_of_places = same_serials rows ps h.go;
  places_rise = increasing place_serial ps (rising_from place_serial 0 ps h.rise);
  at_stop = walked_settles o.name bounds o.window cs rows o.landings ps o.reports o.items k (map see last) h;
  so_far = λ us vs xs ys e ep en.
      walked_so_far o.name bounds o.window cs rows o.landings ps o.reports o.items k (map see last) (map see us) (map see vs) xs ys h (ap (map see) e ∙ map-append see us vs) ep (en ∙ sym (seen_many vs))
      ∙ ap (λ l. settled_to bounds cs (places_after cs [] xs) l o) (rows_back see vs back);
}
  where
    seen_many : (vs : List ItemRow) → length (map see vs) ≡ length vs
    seen_many [] = refl
    seen_many (v ∷ vs) = ap suc (seen_many vs)

-- ---- the item was taken out

pub walk_after_leaving : WalkAfterLeaving
walk_after_leaving c s t qs rs q o is js i bounds sound rest eq ei left =
    let calm = around c s qs rs q is js i sound rest eq ei in
    let place = place_of c s q in
    let bs = s.builds in
    let cs = t.builds in
    let front = map place is in
    let p = place i in
    let behind = map place js in
    let a = ahead_end bs [] front in
    let at = with_ahead a p in
    let was = next_ahead bs at in
    let before = all_before [] front in
    let xs = map (row_of bs) (places_after bs [] front) in
    let ys = map (row_of bs) (places_after bs was behind) in
    let own = row_of bs at in
    let all = xs ++ own ∷ ys in
    let rows_are : stored c s q ≡ all = calm.rows ∙ rows_split bs [] front (p ∷ behind) in
    let rb = higher_behind 0 front p behind calm.rise in
    let pt = parted bs front p behind was calm.rise rb in
    let old = standing_in (stored c s q) in
    let stand = standing_in (xs ++ ys) in
    let parts = quiet_split old bs [] [] front (p ∷ behind) calm.quiet in
    let others : Others i.serial front × Others i.serial behind = (lower_front 0 front p behind calm.rise, others_behind p behind rb) in
    let elsewhere : Elsewhere i.serial bs cs = subst (Elsewhere i.serial bs) (sym left.builds) (stops_elsewhere i.serial bs) in
    let through = says_through stand bs ys [] [] front (λ n f. refl) in
    let h : Left stand bs cs front p behind = record {
      quiet = restand old stand bs ys [] [] front (λ n f. refl) parts.0;
      quiet_behind = restand old stand bs [] (before ++ i ∷ []) was behind (λ n f. through n (out_of before i n f) ∙ ap (λ l. standing_in l n) (sym (append-nil ys))) parts.1.1;
      none_stands = through i.change parts.1.0.fresh ∙ none_in old bs (before ++ i ∷ []) was behind i.change parts.1.1 (own_in before i);
      fresh = parts.1.0.fresh;
      elsewhere = elsewhere;
      others = others;
      not_landed = not_landed_places c s q i.change js (never_landed c s sound q calm.there i calm.item);
      builds_rise = subst (RisesFrom build_number 0) (sym left.builds) (stops_rise i.serial 0 bs calm.numbers);
      places_rise = rise_without 0 front p behind calm.rise;
    } in
    let sb = still_quiet stand i.serial bs cs (before ++ i ∷ []) was behind elsewhere others.1 h.quiet_behind in
    let now = now_behind c t s q same is js (are_now c t s q o same (is ++ js) (left.places ∙ map_id (map place (is ++ js)))) in
    let seen : map (row_seen c t (xs ++ ys)) ys ≡ visits stand cs same was behind = ap (map (row_seen c t (xs ++ ys))) (sym sb.rows) ∙ rows_are_seen c t (xs ++ ys) same was behind now in
    let out : Bool → TakenOut = λ f. record { change = i.change; failing = f; landed = false } in
    let places_are : front ++ behind ≡ map (place_of c t o) o.items = sym (ap (map (place_of c t o)) left.items ∙ left.places ∙ map-append place is js) in
    let goal : List ItemRow → Type 0 = λ rows. (let left_rows = without_row i.serial rows in
    Walks bounds o left_rows cs (map (place_of c t o) o.items) (walk_start (Some (out (fails_at i.serial rows))) (ahead_at i.serial rows) (length o.reports) o.window) (row_seen c t left_rows) (rows_from i.serial left_rows)) in
    let k = carry_left bs front p (length o.reports) o.window in
    subst goal (sym rows_are)
    (cast (λ j. Walks bounds o (sym pt.left j) cs (map (place_of c t o) o.items) (walk_start (Some (out (sym pt.fails j))) (sym pt.ahead j) (length o.reports) o.window) (row_seen c t (sym pt.left j)) (sym (ap (rows_from i.serial) pt.left ∙ pt.from_behind) j))
    (walks bounds o (xs ++ ys) cs (map (place_of c t o) o.items) k (row_seen c t (xs ++ ys)) ys (λ r. refl)
    (cast (λ j. Walked o.name bounds o.window cs (xs ++ ys) (places_are j) o.reports k (sym seen j)) (walk_left o.name bounds o.window stand bs cs front p behind o.reports h))))

-- ---- a build of it ended

now_same : (c : Settings) (s : State) (q : Queue) (e : Ending) (n : ℕ) (is : List Item) → AreNow c (end_build e n s) same (map (place_of c s q) is)
now_same c s q e n [] = tt
now_same c s q e n (i ∷ is) = (refl, refl, refl, refl, now_same c s q e n is)

place_there : (bs : List Build) (ahead : List Item) (front : List Place) (p : Place) (behind : List Place) → In (with_ahead (ahead_end bs ahead front) p) (places_after bs ahead (front ++ p ∷ behind))
place_there bs ahead [] p behind = inl refl
place_there bs ahead (f ∷ front) p behind = inr (place_there bs (next_ahead bs (with_ahead ahead f)) front p behind)

contained : {X : Type 0} (xs : List X) (x : X) → Contains xs x → In x xs
contained xs x h = All-contains (λ y. In y xs) xs x (all (λ y. In y xs) xs (λ y m. m)) h

pub walk_after_build : WalkAfterBuild
walk_after_build c s qs rs q is js i b e bounds sound rest eq ei cb run own_build =
    let calm = around c s qs rs q is js i sound rest eq ei in
    let place = place_of c s q in
    let bs = s.builds in
    let t = end_build e b.number s in
    let cs = t.builds in
    let mb = contained bs b cb in
    let front = map place is in
    let p = place i in
    let behind = map place js in
    let a = ahead_end bs [] front in
    let at = with_ahead a p in
    let was = next_ahead bs at in
    let before = all_before [] front in
    let xs = map (row_of bs) (places_after bs [] front) in
    let ys = map (row_of bs) (places_after bs was behind) in
    let own = row_of bs at in
    let all = xs ++ own ∷ ys in
    let rows_are : stored c s q ≡ all = calm.rows ∙ rows_split bs [] front (p ∷ behind) in
    let rb = higher_behind 0 front p behind calm.rise in
    let pt = parted bs front p behind was calm.rise rb in
    let stand = standing_in all in
    let quiet : Quiet stand bs [] [] (front ++ p ∷ behind) = subst (λ l. Quiet (standing_in l) bs [] [] (front ++ p ∷ behind)) rows_are calm.quiet in
    let parts = quiet_split stand bs [] [] front (p ∷ behind) quiet in
    let others : Others i.serial front × Others i.serial behind = (lower_front 0 front p behind calm.rise, others_behind p behind rb) in
    let elsewhere : Elsewhere i.serial bs cs = ended_elsewhere e b i.serial bs calm.numbers mb own_build in
    let here : In at (places c s q) = subst (λ l. In at (places_after bs [] l)) (sym calm.split) (place_there bs [] front p behind) in
    let single = every (λ (x : Place). AllPass (is_single s x) x.jobs) (all_places c s) sound.builds_are_single at (to_flat (places c s) s.queues q at calm.there here) in
    let h : Stands stand bs cs front p behind = record {
      quiet = quiet;
      elsewhere = elsewhere;
      others = others;
      counting = ended_count e b.number at bs ∙ parts.1.0.counting;
      fails_still = ended_fails s at b e calm.numbers parts.1.0.counting (λ j mj. every (λ (x : Job). is_single s at x ≡ true) at.jobs single j mj) mb run own_build;
      not_landed = not_landed_places c s q i.change js (never_landed c s sound q calm.there i calm.item);
      builds_rise = ended_rise e b.number 0 bs calm.numbers;
      places_rise = calm.rise;
    } in
    let sb = still_quiet stand i.serial bs cs (before ++ i ∷ []) was behind elsewhere others.1 parts.1.1 in
    let seen : map (row_seen c t all) ys ≡ visits stand cs same was behind = ap (map (row_seen c t all)) (sym sb.rows) ∙ rows_are_seen c t all same was behind (now_same c s q e b.number js) in
    let goal : List ItemRow → Type 0 = λ rows. Walks bounds q rows cs (map place q.items) (walk_start None (ahead_at i.serial rows) (length q.reports) q.window) (row_seen c t rows) (rows_from i.serial rows) in
    let k = walk_start None own.ahead (length q.reports) q.window in
    subst goal (sym rows_are)
    (cast (λ j. Walks bounds q all cs (map place q.items) (walk_start None (sym pt.ahead j) (length q.reports) q.window) (row_seen c t all) (sym pt.from_own j))
    (walks bounds q all cs (map place q.items) k (row_seen c t all) (own ∷ ys) (λ r. refl)
    (cast (λ j. Walked q.name bounds q.window cs (rows_split bs [] front (p ∷ behind) j) (sym calm.split j) q.reports k (row_seen c t all own ∷ sym seen j)) (walk_standing q.name bounds q.window stand bs cs front p behind q.reports h))))

-- ---- it landed

none_last : (xs : List Item) → last_serial xs ≡ None → xs ≡ []
none_last [] h = refl
none_last (x ∷ xs) h =
    let no : true ≡ (length (x ∷ xs) == 0) = ap (λ (o : Option ℕ). not (is_some o)) (sym h) ∙ first_last (x ∷ xs) in
    let zero : length (x ∷ xs) ≡ 0 = eqb-true (length (x ∷ xs)) 0 (sym no) in
    absurd (omega arith)

rise_landed : (t : Item) (n : ℕ) (ps : List Place) → RisesFrom place_serial n ps → RisesFrom place_serial n (map (landed_place t) ps)
rise_landed t n [] r = tt
rise_landed t n (p ∷ ps) r = (r.0, rise_landed t (suc p.item.serial) ps r.1)

-- the builds of the items before it and behind it began on landings that were there
front_of : (c : Settings) (s : State) (q : Queue) (bs cs : List Build) (i : Item) (n : ℕ) (is : List Item) (p : Place) (behind : List Place) → p.item ≡ i → RisesFrom place_serial n (map (place_of c s q) is ++ p ∷ behind) → Elsewhere i.serial bs cs → Others i.serial (map (place_of c s q) is) →
    ((j : Item) → In j is → (b : Build) → In b bs → (b.serial == j.serial) ≡ true → nat_le b.after (length q.landings) ≡ true) → Front i cs (map (place_of c s q) is)
front_of c s q bs cs i n [] p behind e r el o k = tt
front_of c s q bs cs i n (j ∷ is) p behind e r el o k =
    let up : suc j.serial ≤ p.item.serial = low_place (suc j.serial) (map (place_of c s q) is) p behind r.1 in
    let same : p.item.serial ≡ i.serial = ap (λ (x : Item). x.serial) e in (
      record { lower = le-ltb i.serial j.serial (omega arith); began = began_all i.serial (length q.landings) (place_of c s q j) bs cs o.0 el (k j (inl refl)) },
      front_of c s q bs cs i (suc j.serial) is p behind e r.1 el o.1 (λ x m. k x (inr m)),
    )

behind_of : (c : Settings) (s : State) (q : Queue) (bs cs : List Build) (i : Item) (n : ℕ) (js : List Item) → i.serial < n → RisesFrom place_serial n (map (place_of c s q) js) → Elsewhere i.serial bs cs → Others i.serial (map (place_of c s q) js) →
    ((j : Item) → In j js → (b : Build) → In b bs → (b.serial == j.serial) ≡ true → nat_le b.after (length q.landings) ≡ true) → Behind i cs (map (place_of c s q) js)
behind_of c s q bs cs i n [] l r el o k = tt
behind_of c s q bs cs i n (j ∷ js) l r el o k =
    let low : n ≤ j.serial = r.0 in (
      record { higher = lt-ltb i.serial j.serial (omega arith); began = began_all i.serial (length q.landings) (place_of c s q j) bs cs o.0 el (k j (inl refl)) },
      behind_of c s q bs cs i (suc j.serial) js (omega arith) r.1 el o.1 (λ x m. k x (inr m)),
    )

pub walk_after_landing : WalkAfterLanding
walk_after_landing c s t qs rs q o is js i bounds sound rest eq ei left first passes =
    let calm = around c s qs rs q is js i sound rest eq ei in
    let place = place_of c s q in
    let bs = s.builds in
    let cs = t.builds in
    let front = map place is in
    let p = place i in
    let behind = map place js in
    let a = ahead_end bs [] front in
    let at = with_ahead a p in
    let was = next_ahead bs at in
    let before = all_before [] front in
    let xs = map (row_of bs) (places_after bs [] front) in
    let own = row_of bs at in
    let rows_at : stored c s q ≡ xs ++ own ∷ map (row_of bs) (places_after bs was behind) = calm.rows ∙ rows_split bs [] front (p ∷ behind) in
    let rb = higher_behind 0 front p behind calm.rise in
    let pw = parted bs front p behind was calm.rise rb in
    let empty : a ≡ [] = none_last a (sym (ap (ahead_at i.serial) rows_at ∙ pw.ahead) ∙ first) in
    let mark : is_failing bs at ≡ false = sym (ap (fails_at i.serial) rows_at ∙ pw.fails) ∙ passes in
    let was_is : was ≡ i ∷ [] = (λ k. cond (mark k) (empty k) (empty k ++ i ∷ [])) in
    let ys = map (row_of bs) (places_after bs (i ∷ []) behind) in
    let all = xs ++ own ∷ ys in
    let rows_are : stored c s q ≡ all = rows_at ∙ ap (λ w. xs ++ own ∷ map (row_of bs) (places_after bs w behind)) was_is in
    let pt = parted bs front p behind (i ∷ []) calm.rise rb in
    let old = standing_in (stored c s q) in
    let stand = standing_in (xs ++ ys) in
    let parts = quiet_split old bs [] [] front (p ∷ behind) calm.quiet in
    let others : Others i.serial front × Others i.serial behind = (lower_front 0 front p behind calm.rise, others_behind p behind rb) in
    let elsewhere : Elsewhere i.serial bs cs = subst (Elsewhere i.serial bs) (sym left.builds) (stops_elsewhere i.serial bs) in
    let through = says_through stand bs ys [] [] front (λ n f. refl) in
    let now = landed_place i in
    let h : Lands stand bs cs front p behind = record {
      quiet = restand old stand bs ys [] [] front (λ n f. refl) parts.0;
      first = empty;
      passes = ap (λ (x : List Item). is_failing bs (with_ahead x p)) (sym empty) ∙ mark;
      quiet_behind = restand old stand bs [] (before ++ i ∷ []) (i ∷ []) behind (λ n f. through n (out_of before i n f) ∙ ap (λ l. standing_in l n) (sym (append-nil ys)))
          (subst (λ (w : List Item). Quiet old bs (before ++ i ∷ []) w behind) was_is parts.1.1);
      fresh = parts.1.0.fresh;
      elsewhere = elsewhere;
      others = others;
      in_front = front_of c s q bs cs i 0 is p behind refl calm.rise elsewhere others.0 (λ j m. calm.began j (subst (λ (l : List Item). In j l) (sym ei) (to_left is (i ∷ js) j m)));
      is_behind = behind_of c s q bs cs i (suc i.serial) js (omega arith) rb elsewhere others.1 (λ j m. calm.began j (subst (λ (l : List Item). In j l) (sym ei) (to_right is (i ∷ js) j (inr m))));
      builds_rise = subst (RisesFrom build_number 0) (sym left.builds) (stops_rise i.serial 0 bs calm.numbers);
      places_rise = subst (RisesFrom place_serial 0) (map-append now front behind) (rise_landed i 0 (front ++ behind) (rise_without 0 front p behind calm.rise));
    } in
    let sb = still_quiet stand i.serial bs cs (before ++ i ∷ []) (i ∷ []) behind elsewhere others.1 h.quiet_behind in
    let nows = now_behind c t s q now is js (are_now c t s q o now (is ++ js) left.places) in
    let seen : map (row_seen c t (xs ++ ys)) ys ≡ visits stand cs now (i ∷ []) behind = ap (map (row_seen c t (xs ++ ys))) (sym sb.rows) ∙ rows_are_seen c t (xs ++ ys) now (i ∷ []) behind nows in
    let out : TakenOut = record { change = i.change; failing = false; landed = true } in
    let places_are : map now front ++ map now behind ≡ map (place_of c t o) o.items =
    sym (ap (map (place_of c t o)) left.items ∙ left.places ∙ ap (map now) (map-append place is js) ∙ map-append now front behind) in
    let goal : List ItemRow → Type 0 = λ rows. (let left_rows = without_row i.serial rows in
    Walks bounds o left_rows cs (map (place_of c t o) o.items) (walk_start (Some out) None (length o.reports) o.window) (row_seen c t left_rows) (rows_from i.serial left_rows)) in
    let k = walk_start (Some out) None (length o.reports) o.window in
    subst goal (sym rows_are)
    (cast (λ j. Walks bounds o (sym pt.left j) cs (map (place_of c t o) o.items) k (row_seen c t (sym pt.left j)) (sym (ap (rows_from i.serial) pt.left ∙ pt.from_behind) j))
    (walks bounds o (xs ++ ys) cs (map (place_of c t o) o.items) k (row_seen c t (xs ++ ys)) ys (λ r. refl)
    (cast (λ j. Walked o.name bounds o.window cs (xs ++ ys) (places_are j) o.reports k (sym seen j)) (walk_landed o.name bounds o.window stand bs cs front p behind o.reports h))))
