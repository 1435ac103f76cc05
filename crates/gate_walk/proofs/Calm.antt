-- The items of a queue of a sound state at rest are quiet: what a walk begins from.
use Rattle.std.proofs.Common.{◌≡◌, ℕ, suc, ◌<◌, ◌≤◌, Bool, true, false, not, ◌&&◌, ◌||◌, cond, Option, Some, None}
use Rattle.std.proofs.Common.{is_some, List, [], ◌∷◌, ◌++◌, map, length, ◌⊎◌, inl, inr, ⊎_elim, refl, sym, ap, ◌∙◌}
use Rattle.std.proofs.Common.{subst, true≢false, arith}
use Rattle.std.specs.Prelude.{◌==◌, flat_map, find, option_map, nat_le, Contains}
use Rattle.std.specs.List.Sorted.{IsStrictlyIncreasing}
use Rattle.std.proofs.lemmas.List.Elements.{All-contains_itself}
use Rattle.std.specs.List.{AllPass, list_any, list_all}
use Rattle.std.proofs.lemmas.Bool.{and_parts, and_from, or_parts, eqb-true, eq-eqb, ne_eqb}
use Rattle.std.proofs.lemmas.List.{map-append}
use Rattle.std.proofs.lemmas.List.Concat.{flat_map-cons}
use Rattle.std.proofs.lemmas.List.Folds.{list_any-append}
use Rattle.gate_types.specs.declared.records.Build.{Build}
use Rattle.gate_types.specs.declared.records.Item.{Item as ItemRow}
use Rattle.gate_types.specs.declared.records.Landing.{Landing}
use Rattle.gate_types.specs.declared.records.Need.{Need}
use Rattle.gate_types.specs.declared.records.Verdict.{Verdict}
use Rattle.gate_types.specs.Names.{same_name}
use Rattle.gate_types.specs.Settings.{Settings}
use Rattle.gate_types.specs.declared.records.Ready.{Ready}
use Rattle.gate_types.specs.State.{Item, Queue, State, has_change, change_of, is_open, is_landed, project_of}
use Rattle.gate_types.specs.Line.{Place, same_entries, built_entry, item_entry}
use Rattle.gate_types.specs.Slot.{is_running}
use Rattle.gate_types.specs.Standing.{with_ahead, next_ahead, places_after, place_of, places, all_places}
use Rattle.gate_types.specs.Sweep.{Judged, judge, judged, judged_after, verdict_of}
use Rattle.gate_types.specs.Rows.{row_of}
use Rattle.gate_types.specs.Lawful.{IsSound, is_sound_item, is_sound_build, is_of_item, waiting_changes, landed_changes}
use Rattle.gate_types.specs.Rising.{RisesFrom, In}
use Rattle.gate_types.proofs.PlainLemmas.{or_false}
use Rattle.gate_walk.specs.Rescan.{live_builds_are_wanted, standing_in, IsCalm}
use Rattle.gate_laws.proofs.Members.{every, all_from, any_from, to_map, to_flat}
use Rattle.gate_laws.proofs.ContentForms.{is_none}
use Rattle.gate_laws.proofs.LiveBuildsCount.{place_serial}
use Rattle.gate_laws.proofs.RecordedChange.{open_unlanded}
use Rattle.gate_walk.proofs.Once.{Once, once, once_left, once_right}
use Rattle.gate_queue_rules.proofs.Ordered.{rises}
use Rattle.gate_walk.proofs.Slots.{is_live_of, wanted_all_count, wanted_all_ended}
use Rattle.gate_walk.proofs.Resets.{Quiet, NotLanded}
use Rattle.gate_walk.proofs.Moved.{Elsewhere, Others, IsOther}

-- ---- changes that stand once

-- none of these items is of a change of those before it
abbrev pub FreshFrom : List Item → List Item → Type 0
FreshFrom before [] = Unit {0}
FreshFrom before (i ∷ is) = (has_change before i.change ≡ false) × FreshFrom (before ++ i ∷ []) is

or_split : (x y : Bool) → x || y ≡ true → (x ≡ true) ⊎ (y ≡ true)
or_split true y h = inl refl
or_split false y h = inr h

pub fresh_from : (before is : List Item) → Once (map (λ (i : Item). i.change) is) → ((n : ℕ) → has_change before n ≡ true → In n (map (λ (i : Item). i.change) is) → ⊥) → FreshFrom before is
fresh_from before [] o h = tt
fresh_from before (i ∷ is) o h = (
  at (has_change before i.change) refl,
  fresh_from (before ++ i ∷ []) is o.1 next,
)
  where
    at : (t : Bool) → has_change before i.change ≡ t → has_change before i.change ≡ false
    at false e = e
    at true e = absurd (h i.change e (inl refl))

    next : (n : ℕ) → has_change (before ++ i ∷ []) n ≡ true → In n (map (λ (j : Item). j.change) is) → ⊥
    next n e m =
        ⊎_elim (λ (a : has_change before n ≡ true). h n a (inr m))
        (λ (b : (i.change == n || false) ≡ true). o.0 (subst (λ y. In y (map (λ (j : Item). j.change) is)) (sym (eqb-true i.change n (sym (or_false (i.change == n)) ∙ b))) m))
        (or_split (has_change before n) (i.change == n || false) (sym (list_any-append (λ (j : Item). j.change == n) before (i ∷ [])) ∙ e))

pub map_flat : {X Y Z : Type 0} (f : Y → Z) (g : X → List Y) (xs : List X) → map f (flat_map g xs) ≡ flat_map (λ x. map f (g x)) xs
map_flat f g [] = refl
map_flat f g (x ∷ xs) =
    ap (map f) (flat_map-cons g x xs) ∙ map-append f (g x) (flat_map g xs) ∙ ap (λ l. map f (g x) ++ l) (map_flat f g xs) ∙ sym (flat_map-cons (λ y. map f (g y)) x xs)

once_one : {X : Type 0} (f : X → List ℕ) (xs : List X) (x : X) → Once (flat_map f xs) → In x xs → Once (f x)
once_one f [] x o m = absurd m
once_one f (y ∷ ys) x o m =
    let both = subst Once (flat_map-cons f y ys) o in
    ⊎_elim (λ (e : y ≡ x). subst (λ z. Once (f z)) e (once_left (f y) (flat_map f ys) both)) (λ (r : In x ys). once_one f ys x (once_right (f y) (flat_map f ys) both) r) m

pub items_once : (c : Settings) (s : State) → IsSound c s → (q : Queue) → In q s.queues → Once (map (λ (i : Item). i.change) q.items)
items_once c s h q m =
    once_one (λ (x : Queue). map (λ (i : Item). i.change) x.items) s.queues q
    (subst Once (map_flat (λ (i : Item). i.change) (λ (x : Queue). x.items) s.queues)
    (once_left (map (λ (i : Item). i.change) (flat_map (λ (x : Queue). x.items) s.queues)) (map (λ (r : Ready). r.change) s.ready) (once (waiting_changes s) h.waiting_differ))) m

-- ---- open changes

pub item_open : (c : Settings) (s : State) → IsSound c s → (q : Queue) → In q s.queues → (i : Item) → In i q.items → is_landed (change_of s i.change) ≡ false
item_open c s h q m i mi =
    let all = every (λ (o : Queue). AllPass (is_sound_item c s o) o.items) s.queues h.items_are_sound q m in
    let own = every (λ (j : Item). is_sound_item c s q j ≡ true) q.items all i mi in
    let one = and_parts (is_open (change_of s i.change) && (change_of s i.change).revision == i.revision) (same_name (project_of c s i.change).queue q.name) own in
    open_unlanded (change_of s i.change) (and_parts (is_open (change_of s i.change)) ((change_of s i.change).revision == i.revision) one.0).0

-- ---- each item is quiet

-- the rows from here on say of a change what all rows say
abbrev pub Says : (ℕ → Option Bool) → List Item → List ItemRow → Type 0
Says stand before rows = (n : ℕ) → has_change before n ≡ false → stand n ≡ standing_in rows n

pub says_next : (stand : ℕ → Option Bool) (before : List Item) (i : Item) (r : ItemRow) (rows : List ItemRow) → r.change ≡ i.change → Says stand before (r ∷ rows) → Says stand (before ++ i ∷ []) rows
says_next stand before i r rows e h n f =
    let both = or_parts (has_change before n) (i.change == n || false) (sym (list_any-append (λ (j : Item). j.change == n) before (i ∷ [])) ∙ f) in
    h n both.0 ∙ ap (λ x. option_map (λ (y : ItemRow). y.failing) (cond x (Some r) (find (λ y. y.change == n) rows))) (ap (λ m. m == n) e ∙ sym (or_false (i.change == n)) ∙ both.1)

and_off : (x y : Bool) → (y ≡ true → x ≡ false) → not (x && y) ≡ true
and_off true true h = absurd (true≢false (h refl))
and_off true false h = refl
and_off false y h = refl

-- a queue's items from here on, with the rows behind them
pub quiet_from : (c : Settings) (s : State) (q : Queue) (stand : ℕ → Option Bool) (tail : List ItemRow) (before ahead is : List Item) →
    ((p : Place) → In p (places_after s.builds ahead (map (place_of c s q) is)) → live_builds_are_wanted s.builds p ≡ true) →
    ((j : Judged) → In j (judged_after s.builds before (places_after s.builds ahead (map (place_of c s q) is))) → is_some j.verdict ≡ false) →
    FreshFrom before is → ((n : ℕ) → has_change before n ≡ true → is_landed (change_of s n) ≡ false) → ((i : Item) → In i is → is_landed (change_of s i.change) ≡ false) →
    Says stand before (map (row_of s.builds) (places_after s.builds ahead (map (place_of c s q) is)) ++ tail) → Quiet stand s.builds before ahead (map (place_of c s q) is)
quiet_from c s q stand tail before ahead [] hc hj f ob oi says = tt
quiet_from c s q stand tail before ahead (i ∷ is) hc hj f ob oi says =
    let at = with_ahead ahead (place_of c s q i) in
    let bs = s.builds in
    let rest = places_after bs (next_ahead bs at) (map (place_of c s q) is) in
    let stays : verdict_of bs before at ≡ None = is_none (verdict_of bs before at) (hj (judge bs before at) (inl refl)) in (
      record {
        counting = wanted_all_count bs bs at (hc at (inl refl));
        ended = wanted_all_ended bs bs at (hc at (inl refl));
        stays = stays;
        standing = says i.change f.0 ∙ ap (λ x. option_map (λ (y : ItemRow). y.failing) (cond x (Some (row_of bs at)) (find (λ y. y.change == i.change) (map (row_of bs) rest ++ tail)))) (eq-eqb i.change i.change refl);
        fresh = f.0;
        open_needs = needs (change_of s i.change).needs;
      },
      quiet_from c s q stand tail (before ++ i ∷ []) (next_ahead bs at) is (λ p m. hc p (inr m))
          (λ j m. hj j (inr (subst (λ (st : List Item). In j (judged_after bs st rest)) (ap (λ (o : Option Verdict). cond (is_some o) before (before ++ i ∷ [])) (sym stays)) m)))
          f.1 open_more (λ j m. oi j (inr m)) (says_next stand before i (row_of bs at) (map (row_of bs) rest ++ tail) refl says),
    )
  where
    needs : (ns : List ℕ) → list_all (λ n. not (n.landed && has_change before n.change)) (map (λ m. let one : Need = record { change = m; landed = is_landed (change_of s m) } in one) ns) ≡ true
    needs [] = refl
    needs (n ∷ ns) = λ k. and_off (is_landed (change_of s n)) (has_change before n) (ob n) k && needs ns k

    open_more : (n : ℕ) → has_change (before ++ i ∷ []) n ≡ true → is_landed (change_of s n) ≡ false
    open_more n e =
        ⊎_elim (λ (a : has_change before n ≡ true). ob n a)
        (λ (b : (i.change == n || false) ≡ true). ap (λ m. is_landed (change_of s m)) (sym (eqb-true i.change n (sym (or_false (i.change == n)) ∙ b))) ∙ oi i (inl refl))
        (or_split (has_change before n) (i.change == n || false) (sym (list_any-append (λ (j : Item). j.change == n) before (i ∷ [])) ∙ e))

-- of a sound state at rest
pub quiet_queue : (c : Settings) (s : State) → IsSound c s → IsCalm c s → (q : Queue) → In q s.queues → (stand : ℕ → Option Bool) (tail : List ItemRow) → Says stand [] (map (row_of s.builds) (places c s q) ++ tail) →
    Quiet stand s.builds [] [] (map (place_of c s q) q.items)
quiet_queue c s h r q m stand tail says =
    quiet_from c s q stand tail [] [] q.items
    (λ p mp. every (λ (x : Place). live_builds_are_wanted s.builds x ≡ true) (all_places c s) r.builds_wanted p (to_flat (places c s) s.queues q p m mp))
    (λ j mj. off (is_some j.verdict) (every (λ (x : Judged). not (is_some x.verdict) ≡ true) (judged c s q) (every (λ (o : Queue). AllPass (λ x. not (is_some x.verdict)) (judged c s o)) s.queues r.stays q m) j mj))
    (fresh_from [] q.items (items_once c s h q m) (λ n e. absurd (true≢false (sym e)))) (λ n e. absurd (true≢false (sym e))) (item_open c s h q m) says
  where
    off : (x : Bool) → not x ≡ true → x ≡ false
    off true k = absurd (true≢false (sym k))
    off false k = refl

-- ---- serials

pub places_rise_from : (c : Settings) (s : State) (q : Queue) (n : ℕ) (is : List Item) → RisesFrom (λ (i : Item). i.serial) n is → RisesFrom place_serial n (map (place_of c s q) is)
places_rise_from c s q n [] r = tt
places_rise_from c s q n (i ∷ is) r = (r.0, places_rise_from c s q (suc i.serial) is r.1)

pub items_rise_from : (c : Settings) (s : State) → IsSound c s → (q : Queue) → In q s.queues → RisesFrom (λ (i : Item). i.serial) 0 q.items
items_rise_from c s h q m = rises (λ (i : Item). i.serial) q.items (every (λ (o : Queue). IsStrictlyIncreasing (map (λ i. i.serial) o.items)) s.queues h.items_rise q m)

above : {X : Type 0} (key : X → ℕ) (n : ℕ) (front : List X) (x : X) (behind : List X) → RisesFrom key n (front ++ x ∷ behind) → n ≤ key x
above key n [] x behind r = r.0
above key n (y ∷ ys) x behind r =
    let low : n ≤ key y = r.0 in
    let more : suc (key y) ≤ key x = above key (suc (key y)) ys x behind r.1 in
    omega arith

-- those before an item have lower serials
pub lower_front : (n : ℕ) (front : List Place) (p : Place) (behind : List Place) → RisesFrom place_serial n (front ++ p ∷ behind) → Others p.item.serial front
lower_front n [] p behind r = tt
lower_front n (f ∷ front) p behind r =
    let more : suc f.item.serial ≤ p.item.serial = above place_serial (suc f.item.serial) front p behind r.1 in
    (ne_eqb f.item.serial p.item.serial (λ e. omega (arith, e)), lower_front (suc f.item.serial) front p behind r.1)

higher_all : (m n : ℕ) (ps : List Place) → m < n → RisesFrom place_serial n ps → Others m ps
higher_all m n [] l r = tt
higher_all m n (p ∷ ps) l r =
    let low : n ≤ p.item.serial = r.0 in
    (ne_eqb p.item.serial m (λ e. omega (arith, e)), higher_all m (suc p.item.serial) ps (omega arith) r.1)

-- those behind it higher ones
pub higher_behind : (n : ℕ) (front : List Place) (p : Place) (behind : List Place) → RisesFrom place_serial n (front ++ p ∷ behind) → RisesFrom place_serial (suc p.item.serial) behind
higher_behind n [] p behind r = r.1
higher_behind n (f ∷ front) p behind r = higher_behind (suc f.item.serial) front p behind r.1

pub others_behind : (p : Place) (behind : List Place) → RisesFrom place_serial (suc p.item.serial) behind → Others p.item.serial behind
others_behind p behind r = higher_all p.item.serial (suc p.item.serial) behind (omega arith) r

rise_more : (m n : ℕ) (ps : List Place) → m ≤ n → RisesFrom place_serial n ps → RisesFrom place_serial m ps
rise_more m n [] l r = tt
rise_more m n (p ∷ ps) l r = let low : n ≤ p.item.serial = r.0 in (omega arith, r.1)

-- without it they rise still
pub rise_without : (n : ℕ) (front : List Place) (p : Place) (behind : List Place) → RisesFrom place_serial n (front ++ p ∷ behind) → RisesFrom place_serial n (front ++ behind)
rise_without n [] p behind r = let low : n ≤ p.item.serial = r.0 in rise_more n (suc p.item.serial) behind (omega arith) r.1
rise_without n (f ∷ front) p behind r = (r.0, rise_without (suc f.item.serial) front p behind r.1)

-- ---- landings

pub never_landed : (c : Settings) (s : State) → IsSound c s → (q : Queue) → In q s.queues → (i : Item) → In i q.items → list_any (λ l. l.change == i.change) q.landings ≡ false
never_landed c s h q m i mi = at (list_any (λ l. l.change == i.change) q.landings) refl
  where
    at : (t : Bool) → list_any (λ l. l.change == i.change) q.landings ≡ t → list_any (λ l. l.change == i.change) q.landings ≡ false
    at false e = e
    at true e =
        let f = any_from (λ (l : Landing). l.change == i.change) q.landings e in
        let there = to_map (λ (l : Landing). l.change) (flat_map (λ (o : Queue). o.landings) s.queues) f.0 (to_flat (λ (o : Queue). o.landings) s.queues q f.0 m f.1) in
        let same : f.0.change ≡ i.change = eqb-true f.0.change i.change f.2 in
        let listed = every (Contains (landed_changes s)) (landed_changes s) (All-contains_itself (landed_changes s)) i.change (subst (λ y. In y (landed_changes s)) same there) in
        absurd (true≢false (sym ((h.landed_are_landings i.change).1 listed) ∙ item_open c s h q m i mi))

pub not_landed_places : (c : Settings) (s : State) (q : Queue) (n : ℕ) (is : List Item) → list_any (λ l. l.change == n) q.landings ≡ false → NotLanded n (map (place_of c s q) is)
not_landed_places c s q n [] h = tt
not_landed_places c s q n (i ∷ is) h = (h, not_landed_places c s q n is h)

-- a build of an item of the queue began on landings that were there
pub began_there : (c : Settings) (s : State) → IsSound c s → (q : Queue) → In q s.queues → (i : Item) → In i q.items → (b : Build) → In b s.builds → (b.serial == i.serial) ≡ true → nat_le b.after (length q.landings) ≡ true
began_there c s h q m i mi b mb e =
    let own = every (λ (x : Build). is_sound_build s x ≡ true) s.builds h.builds_are_sound b mb in
    let a = list_all (λ o. list_all (is_of_item b o) o.items) s.queues in
    let l = not (b.live && is_running b.outcome) || list_any (λ o. list_any (λ j. j.serial == b.serial) o.items) s.queues in
    let z = list_all (λ o. not (same_name b.queue o.name) || nat_le b.after (length o.landings)) s.queues in
    let first = and_parts (a && l) z own in
    let items = all_from (λ (o : Queue). list_all (is_of_item b o) o.items) s.queues (and_parts a l first.0).0 q m in
    let item = all_from (is_of_item b q) q.items items i mi in
    let queue : same_name b.queue q.name ≡ true = from_item (same_name b.queue q.name) (same_entries (built_entry b ∷ []) (item_entry i ∷ [])) (ap (λ x. not x || same_name b.queue q.name && same_entries (built_entry b ∷ []) (item_entry i ∷ [])) (sym e) ∙ item) in
    ap (λ x. not x || nat_le b.after (length q.landings)) (sym queue) ∙ all_from (λ (o : Queue). not (same_name b.queue o.name) || nat_le b.after (length o.landings)) s.queues first.1 q m
  where
    from_item : (x y : Bool) → not true || x && y ≡ true → x ≡ true
    from_item true y k = refl
    from_item false y k = absurd (true≢false (sym k))

-- of builds that changed for another item
pub began_all : (t n : ℕ) (p : Place) (bs cs : List Build) → IsOther t p → Elsewhere t bs cs → ((b : Build) → In b bs → (b.serial == p.item.serial) ≡ true → nat_le b.after n ≡ true) → list_all (λ b. not (is_live_of p b) || nat_le b.after n) cs ≡ true
began_all t n p [] [] o h k = refl
began_all t n p [] (c ∷ cs) o h k = absurd h
began_all t n p (b ∷ bs) [] o h k = absurd h
began_all t n p (b ∷ bs) (c ∷ cs) o h k =
    and_from (not (is_live_of p c) || nat_le c.after n) (list_all (λ x. not (is_live_of p x) || nat_le x.after n) cs) (at (c.serial == p.item.serial) refl) (began_all t n p bs cs o h.2 (λ x m e. k x (inr m) e))
  where
    off : (l s z : Bool) → s ≡ false → not (l && s) || z ≡ true
    off true true z e = absurd (true≢false e)
    off true false z e = refl
    off false s z e = refl

    on : (x z : Bool) → z ≡ true → not x || z ≡ true
    on true z e = e
    on false z e = refl

    at : (x : Bool) → (c.serial == p.item.serial) ≡ x → not (is_live_of p c) || nat_le c.after n ≡ true
    at false e = off c.live (c.serial == p.item.serial) (nat_le c.after n) e
    at true e =
        let serial : c.serial ≡ b.serial = h.0 in
        let own : (b.serial == p.item.serial) ≡ true = ap (λ x. x == p.item.serial) (sym serial) ∙ e in
        let same = h.1 (ap (λ x. x == t) (eqb-true b.serial p.item.serial own) ∙ o) in
        on (is_live_of p c) (nat_le c.after n) (ap (λ (x : Build). nat_le x.after n) same ∙ k b (inl refl) own)
