-- What a visit makes of a row is what a look at the whole queue makes of its item.
use Rattle.std.proofs.Common.{◌≡◌, ℕ, Bool, true, false, not, ◌&&◌, ◌||◌, cond, Option, Some, None, is_some, List, []}
use Rattle.std.proofs.Common.{◌∷◌, ◌++◌, map, length, refl, sym, ap, ◌∙◌, true≢false}
use Rattle.std.specs.Prelude.{filter, ◌==◌}
use Rattle.std.specs.List.{list_any, list_all}
use Rattle.std.proofs.lemmas.Bool.{and_parts, or_parts, eqb-true}
use Rattle.std.proofs.lemmas.List.Folds.{list_any-append}
use Rattle.gate_types.specs.declared.config.Job.{Job}
use Rattle.gate_types.specs.declared.records.Build.{Build}
use Rattle.gate_types.specs.declared.records.Need.{Need}
use Rattle.gate_types.specs.declared.records.Verdict.TheVariants as verdict
use Rattle.gate_types.specs.declared.records.Item.{Item as ItemRow}
use Rattle.gate_types.specs.declared.edits.Edit.{Edit}
use Rattle.gate_types.specs.declared.edits.Edit.TheVariants as edit
use Rattle.gate_types.specs.State.{Item, has_change}
use Rattle.gate_types.specs.Line.{Place}
use Rattle.gate_types.specs.Slot.{is_blocked, are_met_by, outcomes_of, slot_of_outcomes, is_failed_slot, is_finished}
use Rattle.gate_types.specs.Slot.{is_running, is_cut}
use Rattle.gate_types.specs.Standing.{is_failing, are_finished, ahead_of}
use Rattle.gate_types.specs.Sweep.{verdict_of}
use Rattle.gate_types.specs.Rows.{row_of}
use Rattle.gate_types.proofs.PlainLemmas.{or_false}
use Rattle.gate_queue_rules.specs.Edits.{stops, stop_edits}
use Rattle.gate_queue_rules.specs.Outcomes.{outcomes_among}
use Rattle.gate_walk.specs.Walk.{SeenNeed, Seen, Mark, Carry, mark_of, is_fine, is_gone, is_blocked_by}
use Rattle.gate_walk.specs.Walk.{are_met_without, still_counting, fails, cuts, is_done_by, verdict_by, row_by}
use Rattle.gate_walk.specs.Walk.{row_edits, stopped_by}
use Rattle.gate_laws.proofs.Cuts.{finished_is}
use Rattle.gate_walk.proofs.Slots.{live_of}

-- whether each of its slots is finished
abbrev pub is_done : Carry → Seen → Bool
is_done k v = is_done_by v.fast k.marks v.needs v.jobs (still_counting k v)

-- a need as a visit sees it
abbrev pub seen_need : (ℕ → Option Bool) → Need → SeenNeed
seen_need stand n = record { change = n.change; landed = n.landed; standing = stand n.change }

-- an item as a visit sees it: its row by an earlier place, all else by the place that it has now
abbrev pub seen : (ℕ → Option Bool) → List Build → Place → Place → Seen
seen stand bs old new = record { row = row_of bs old; needs = map (seen_need stand) new.needs; jobs = new.jobs; fast = new.fast; builds = live_of bs new }

-- what the walk knows of the items before is right: which of them are non-failing, and which of them stay
pub record Known (stand : ℕ → Option Bool) (marks : List Mark) (gone : List ℕ) (before ahead staying : List Item) : Type 0 where
  pub fine : (n : ℕ) → has_change before n ≡ true → is_fine (mark_of marks n (stand n)) ≡ has_change ahead n
  pub stays : (n : ℕ) → has_change before n ≡ true → is_some (stand n) && not (is_gone gone n) ≡ has_change staying n
  pub no_mark : (n : ℕ) → has_change before n ≡ false → (standing : Option Bool) → mark_of marks n standing ≡ standing
  pub not_gone : (n : ℕ) → has_change before n ≡ false → is_gone gone n ≡ false
  pub not_ahead : (n : ℕ) → has_change before n ≡ false → has_change ahead n ≡ false
  pub not_staying : (n : ℕ) → has_change before n ≡ false → has_change staying n ≡ false

or_on : (x : Bool) → x || true ≡ true
or_on true = refl
or_on false = refl

-- one more item, or none
pub with_one : (g : Bool) (xs : List Item) (i : Item) (n : ℕ) → has_change (cond g xs (xs ++ i ∷ [])) n ≡ (has_change xs n || (not g && i.change == n))
with_one true xs i n = sym (or_false (has_change xs n))
with_one false xs i n = list_any-append (λ (j : Item). j.change == n) xs (i ∷ []) ∙ ap (λ t. has_change xs n || t) (or_false (i.change == n))

gone_one : (g : Bool) (gone : List ℕ) (c n : ℕ) → is_gone (cond g (gone ++ c ∷ []) gone) n ≡ (is_gone gone n || (g && c == n))
gone_one true gone c n = list_any-append (λ (m : ℕ). m == n) gone (c ∷ []) ∙ ap (λ t. is_gone gone n || t) (or_false (c == n))
gone_one false gone c n = sym (or_false (is_gone gone n))

-- of another change than the item's nothing is new
pub other_in : (before : List Item) (i : Item) (n : ℕ) (t : Bool) → (i.change == n) ≡ false → has_change (before ++ i ∷ []) n ≡ t → has_change before n ≡ t
other_in before i n t e h = sym (with_one false before i n ∙ ap (λ x. has_change before n || x) e ∙ or_false (has_change before n)) ∙ h

pub other_one : (g : Bool) (xs : List Item) (i : Item) (n : ℕ) → (i.change == n) ≡ false → has_change (cond g xs (xs ++ i ∷ [])) n ≡ has_change xs n
other_one g xs i n e = with_one g xs i n ∙ (λ k. has_change xs n || (not g && e k)) ∙ off (not g) (has_change xs n)
  where
    off : (x y : Bool) → y || (x && false) ≡ y
    off true y = or_false y
    off false y = or_false y

pub other_gone : (g : Bool) (gone : List ℕ) (c n : ℕ) → (c == n) ≡ false → is_gone (cond g (gone ++ c ∷ []) gone) n ≡ is_gone gone n
other_gone g gone c n e = gone_one g gone c n ∙ (λ k. is_gone gone n || (g && e k)) ∙ off g (is_gone gone n)
  where
    off : (x y : Bool) → y || (x && false) ≡ y
    off true y = or_false y
    off false y = or_false y

-- of the item's own
pub own_one : (g : Bool) (xs : List Item) (i : Item) (n : ℕ) → (i.change == n) ≡ true → has_change xs n ≡ false → has_change (cond g xs (xs ++ i ∷ [])) n ≡ not g
own_one g xs i n e h = with_one g xs i n ∙ (λ k. h k || (not g && e k)) ∙ on (not g)
  where
    on : (x : Bool) → x && true ≡ x
    on true = refl
    on false = refl

pub own_gone : (g : Bool) (gone : List ℕ) (c n : ℕ) → (c == n) ≡ true → is_gone gone n ≡ false → is_gone (cond g (gone ++ c ∷ []) gone) n ≡ g
own_gone g gone c n e h = gone_one g gone c n ∙ (λ k. h k || (g && e k)) ∙ on g
  where
    on : (x : Bool) → x && true ≡ x
    on true = refl
    on false = refl

pub not_in : (before : List Item) (i : Item) (n : ℕ) → (i.change == n) ≡ true → has_change (before ++ i ∷ []) n ≡ false → ⊥
not_in before i n e h = true≢false (sym (with_one false before i n ∙ ap (λ x. has_change before n || x) e ∙ or_on (has_change before n)) ∙ h)

pub moved : (before : List Item) (c n : ℕ) → (c == n) ≡ true → has_change before c ≡ false → has_change before n ≡ false
moved before c n e h = ap (has_change before) (sym (eqb-true c n e)) ∙ h

-- the mark of a visit is the last
mark_last : (marks : List Mark) (m : Mark) (n : ℕ) (standing : Option Bool) → mark_of (marks ++ m ∷ []) n standing ≡ mark_of marks n (cond (m.change == n) (Some m.failing) standing)
mark_last [] m n s = refl
mark_last (x ∷ xs) m n s = ap (λ o. cond (x.change == n) (Some x.failing) o) (mark_last xs m n s)

-- behind a visit it is right again
pub known_visited : (stand : ℕ → Option Bool) (marks : List Mark) (gone : List ℕ) (before ahead staying : List Item) (i : Item) (f g : Bool) →
    Known stand marks gone before ahead staying → has_change before i.change ≡ false → is_some (stand i.change) ≡ true →
    Known stand (marks ++ record { change = i.change; failing = f } ∷ []) (cond g (gone ++ i.change ∷ []) gone) (before ++ i ∷ []) (cond f ahead (ahead ++ i ∷ [])) (cond g staying (staying ++ i ∷ []))
known_visited stand marks gone before ahead staying i f g k fresh there = record {
  fine = λ n h. fine n (i.change == n) refl h;
  stays = λ n h. stays n (i.change == n) refl h;
  no_mark = λ n h. no_mark n (i.change == n) refl h;
  not_gone = λ n h. not_gone n (i.change == n) refl h;
  not_ahead = λ n h. not_ahead n (i.change == n) refl h;
  not_staying = λ n h. not_staying n (i.change == n) refl h;
}
  where
    fine : (n : ℕ) (t : Bool) → (i.change == n) ≡ t → has_change (before ++ i ∷ []) n ≡ true → is_fine (mark_of (marks ++ (record { change = i.change; failing = f }) ∷ []) n (stand n)) ≡ has_change (cond f ahead (ahead ++ i ∷ [])) n
    fine n true e h = ap is_fine (mark_last marks (record { change = i.change; failing = f }) n (stand n) ∙ ap (λ x. mark_of marks n (cond x (Some f) (stand n))) e ∙ k.no_mark n (moved before i.change n e fresh) (Some f)) ∙ sym (own_one f ahead i n e (k.not_ahead n (moved before i.change n e fresh)))
    fine n false e h = ap is_fine (mark_last marks (record { change = i.change; failing = f }) n (stand n) ∙ ap (λ x. mark_of marks n (cond x (Some f) (stand n))) e) ∙ k.fine n (other_in before i n true e h) ∙ sym (other_one f ahead i n e)

    stays : (n : ℕ) (t : Bool) → (i.change == n) ≡ t → has_change (before ++ i ∷ []) n ≡ true → is_some (stand n) && not (is_gone (cond g (gone ++ i.change ∷ []) gone) n) ≡ has_change (cond g staying (staying ++ i ∷ [])) n
    stays n true e h =
        let outside = moved before i.change n e fresh in
        (λ j. (ap (λ m. is_some (stand m)) (sym (eqb-true i.change n e)) ∙ there) j && not (own_gone g gone i.change n e (k.not_gone n outside) j))
        ∙ sym (own_one g staying i n e (k.not_staying n outside))
    stays n false e h = ap (λ x. is_some (stand n) && not x) (other_gone g gone i.change n e) ∙ k.stays n (other_in before i n true e h) ∙ sym (other_one g staying i n e)

    no_mark : (n : ℕ) (t : Bool) → (i.change == n) ≡ t → has_change (before ++ i ∷ []) n ≡ false → (standing : Option Bool) → mark_of (marks ++ (record { change = i.change; failing = f }) ∷ []) n standing ≡ standing
    no_mark n true e h s = absurd (not_in before i n e h)
    no_mark n false e h s = mark_last marks (record { change = i.change; failing = f }) n s ∙ ap (λ x. mark_of marks n (cond x (Some f) s)) e ∙ k.no_mark n (other_in before i n false e h) s

    not_gone : (n : ℕ) (t : Bool) → (i.change == n) ≡ t → has_change (before ++ i ∷ []) n ≡ false → is_gone (cond g (gone ++ i.change ∷ []) gone) n ≡ false
    not_gone n true e h = absurd (not_in before i n e h)
    not_gone n false e h = other_gone g gone i.change n e ∙ k.not_gone n (other_in before i n false e h)

    not_ahead : (n : ℕ) (t : Bool) → (i.change == n) ≡ t → has_change (before ++ i ∷ []) n ≡ false → has_change (cond f ahead (ahead ++ i ∷ [])) n ≡ false
    not_ahead n true e h = absurd (not_in before i n e h)
    not_ahead n false e h = other_one f ahead i n e ∙ k.not_ahead n (other_in before i n false e h)

    not_staying : (n : ℕ) (t : Bool) → (i.change == n) ≡ t → has_change (before ++ i ∷ []) n ≡ false → has_change (cond g staying (staying ++ i ∷ [])) n ≡ false
    not_staying n true e h = absurd (not_in before i n e h)
    not_staying n false e h = other_one g staying i n e ∙ k.not_staying n (other_in before i n false e h)

-- and behind a row that isn't asked for, whose item stays and whose mark is right
pub known_skipped : (stand : ℕ → Option Bool) (marks : List Mark) (gone : List ℕ) (before ahead staying : List Item) (i : Item) (f : Bool) →
    Known stand marks gone before ahead staying → has_change before i.change ≡ false → stand i.change ≡ Some f →
    Known stand marks gone (before ++ i ∷ []) (cond f ahead (ahead ++ i ∷ [])) (staying ++ i ∷ [])
known_skipped stand marks gone before ahead staying i f k fresh there = record {
  fine = λ n h. fine n (i.change == n) refl h;
  stays = λ n h. stays n (i.change == n) refl h;
  no_mark = λ n h. k.no_mark n (in_more n h);
  not_gone = λ n h. k.not_gone n (in_more n h);
  not_ahead = λ n h. not_ahead n (i.change == n) refl h;
  not_staying = λ n h. not_staying n (i.change == n) refl h;
}
  where
    in_more : (n : ℕ) → has_change (before ++ i ∷ []) n ≡ false → has_change before n ≡ false
    in_more n h = (or_parts (has_change before n) (i.change == n || false) (sym (list_any-append (λ (j : Item). j.change == n) before (i ∷ [])) ∙ h)).0

    at_own : (n : ℕ) → (i.change == n) ≡ true → stand n ≡ Some f
    at_own n e = ap stand (sym (eqb-true i.change n e)) ∙ there

    fine : (n : ℕ) (t : Bool) → (i.change == n) ≡ t → has_change (before ++ i ∷ []) n ≡ true → is_fine (mark_of marks n (stand n)) ≡ has_change (cond f ahead (ahead ++ i ∷ [])) n
    fine n true e h =
        let outside = moved before i.change n e fresh in
        ap is_fine (k.no_mark n outside (stand n) ∙ at_own n e) ∙ sym (own_one f ahead i n e (k.not_ahead n outside))
    fine n false e h = k.fine n (other_in before i n true e h) ∙ sym (other_one f ahead i n e)

    stays : (n : ℕ) (t : Bool) → (i.change == n) ≡ t → has_change (before ++ i ∷ []) n ≡ true → is_some (stand n) && not (is_gone gone n) ≡ has_change (staying ++ i ∷ []) n
    stays n true e h =
        let outside = moved before i.change n e fresh in
        (λ j. is_some (at_own n e j) && not (k.not_gone n outside j)) ∙ sym (own_one false staying i n e (k.not_staying n outside))
    stays n false e h = k.stays n (other_in before i n true e h) ∙ sym (other_one false staying i n e)

    not_ahead : (n : ℕ) (t : Bool) → (i.change == n) ≡ t → has_change (before ++ i ∷ []) n ≡ false → has_change (cond f ahead (ahead ++ i ∷ [])) n ≡ false
    not_ahead n true e h = absurd (not_in before i n e h)
    not_ahead n false e h = other_one f ahead i n e ∙ k.not_ahead n (other_in before i n false e h)

    not_staying : (n : ℕ) (t : Bool) → (i.change == n) ≡ t → has_change (before ++ i ∷ []) n ≡ false → has_change (staying ++ i ∷ []) n ≡ false
    not_staying n true e h = absurd (not_in before i n e h)
    not_staying n false e h = other_one false staying i n e ∙ k.not_staying n (other_in before i n false e h)

-- ---- one visit

one_need : (landed before x y : Bool) → landed || before ≡ true → (before ≡ true → x ≡ y) → landed || x ≡ (landed || y)
one_need true before x y h e = refl
one_need false before x y h e = e h

-- it sees whether the item is blocked
pub blocked_seen : (stand : ℕ → Option Bool) (marks : List Mark) (gone : List ℕ) (before ahead staying : List Item) (needs : List Need) → Known stand marks gone before ahead staying → are_met_by before needs ≡ true →
    is_blocked_by marks (map (seen_need stand) needs) ≡ not (are_met_by ahead needs)
blocked_seen stand marks gone before ahead staying needs k h = ap not (each needs h)
  where
    each : (ns : List Need) → are_met_by before ns ≡ true → list_all (λ n. n.landed || is_fine (mark_of marks n.change n.standing)) (map (seen_need stand) ns) ≡ are_met_by ahead ns
    each [] h = refl
    each (n ∷ ns) h =
        let both = and_parts (n.landed || has_change before n.change) (are_met_by before ns) h in
        λ j. one_need n.landed (has_change before n.change) (is_fine (mark_of marks n.change (stand n.change))) (has_change ahead n.change) both.0 (k.fine n.change) j && each ns both.1 j

-- and whether a need of it has gone
pub met_seen : (stand : ℕ → Option Bool) (marks : List Mark) (gone : List ℕ) (before ahead staying : List Item) (needs : List Need) → Known stand marks gone before ahead staying → are_met_by before needs ≡ true →
    are_met_without gone (map (seen_need stand) needs) ≡ are_met_by staying needs
met_seen stand marks gone before ahead staying [] k h = refl
met_seen stand marks gone before ahead staying (n ∷ ns) k h =
    let both = and_parts (n.landed || has_change before n.change) (are_met_by before ns) h in
    λ j. one_need n.landed (has_change before n.change) (is_some (stand n.change) && not (is_gone gone n.change)) (has_change staying n.change) both.0 (k.stays n.change) j && met_seen stand marks gone before ahead staying ns k both.1 j

-- what a visit has to see of an item, at the place that it has now
pub record Sees (bs : List Build) (staying : List Item) (k : Carry) (v : Seen) (p : Place) : Type 0 where
  pub same_item : (v.row.serial ≡ p.item.serial) × (v.row.change ≡ p.item.change) × (v.row.revision ≡ p.item.revision)
  pub same_jobs : v.jobs ≡ p.jobs
  pub same_fast : v.fast ≡ p.fast
  pub blocked : is_blocked_by k.marks v.needs ≡ is_blocked p
  pub met : are_met_without k.gone v.needs ≡ are_met_by staying p.needs
  pub outcomes : (job : Job) → outcomes_among (still_counting k v) job ≡ outcomes_of bs p job
  pub stopping : (going : Bool) → filter (λ b. k.resets || going && is_running b.outcome) v.builds ≡ filter (stops p going) bs
  pub ahead : k.ahead ≡ ahead_of p
  pub first : not (is_some k.ahead) ≡ (length p.ahead == 0)

pub fails_seen : (bs : List Build) (staying : List Item) (k : Carry) (v : Seen) (p : Place) → Sees bs staying k v p → fails k v ≡ is_failing bs p
fails_seen bs staying k v p s =
    λ i. s.blocked i || list_any (λ j. j.voting && is_failed_slot (slot_of_outcomes (s.outcomes j i))) (s.same_jobs i)

pub cut_seen : (bs : List Build) (staying : List Item) (k : Carry) (v : Seen) (p : Place) → Sees bs staying k v p → cuts k v ≡ is_cut bs p
cut_seen bs staying k v p s =
    λ i. s.same_fast i && not (s.blocked i) && list_any (λ j. j.voting && is_failed_slot (slot_of_outcomes (s.outcomes j i))) (s.same_jobs i)

done_seen : (bs : List Build) (staying : List Item) (k : Carry) (v : Seen) (p : Place) → Sees bs staying k v p → is_done k v ≡ are_finished bs p
done_seen bs staying k v p s =
    (λ i. cut_seen bs staying k v p s i || list_all (λ j. is_finished (slot_of_outcomes (s.outcomes j i))) (s.same_jobs i))
    ∙ sym (finished_is bs p)

pub verdict_seen : (bs : List Build) (staying : List Item) (k : Carry) (v : Seen) (p : Place) → Sees bs staying k v p → verdict_by k v ≡ verdict_of bs staying p
verdict_seen bs staying k v p s =
    λ i. cond (not (s.met i)) (Some verdict.Needs) (cond (fails_seen bs staying k v p s i && not (s.blocked i) && s.first i && done_seen bs staying k v p s i) (Some verdict.Failed) None)

pub row_seen : (bs : List Build) (staying : List Item) (k : Carry) (v : Seen) (p : Place) → Sees bs staying k v p → row_by k v ≡ row_of bs p
row_seen bs staying k v p s = λ i. record { serial = s.same_item.0 i; change = s.same_item.1 i; revision = s.same_item.2 i; ahead = s.ahead i; failing = fails_seen bs staying k v p s i }

-- what a look at the whole queue makes of an item whose row is stored so
abbrev pub edits_for : List ℕ → List Build → ℕ → List Item → Place → ItemRow → List Edit
edits_for name bs n staying p i =
    stop_edits bs p (is_some (verdict_of bs staying p) || is_cut bs p) ++ row_edits name n i (row_of bs p) (verdict_of bs staying p)

-- its edits are these
pub edits_seen : (name : List ℕ) (bs : List Build) (staying : List Item) (k : Carry) (v : Seen) (p : Place) → Sees bs staying k v p →
    map (λ b. edit.StopBuild b.number) (stopped_by k v) ++ row_edits name k.reports v.row (row_by k v) (verdict_by k v) ≡ edits_for name bs k.reports staying p v.row
edits_seen name bs staying k v p s =
    let same = verdict_seen bs staying k v p s in
    let cut = cut_seen bs staying k v p s in
    (λ i. map (λ b. edit.StopBuild b.number) (filter (λ b. k.resets || (is_some (same i) || cut i) && is_running b.outcome) v.builds) ++ row_edits name k.reports v.row (row_seen bs staying k v p s i) (same i))
    ∙ (λ i. map (λ b. edit.StopBuild b.number) (s.stopping (is_some (verdict_of bs staying p) || is_cut bs p) i) ++ row_edits name k.reports v.row (row_of bs p) (verdict_of bs staying p))
