-- The part of a walk where only needs are followed: no line has changed, and some changes have gone.
use Rattle.std.proofs.Common.{◌≡◌, ℕ, Bool, true, false, not, ◌&&◌, ◌||◌, cond, Option, Some, None, is_some, List, []}
use Rattle.std.proofs.Common.{◌∷◌, ◌++◌, map, refl, sym, ap, ◌∙◌, subst, true≢false}
use Rattle.std.specs.Prelude.{filter, ◌==◌}
use Rattle.std.specs.List.{list_any, list_all}
use Rattle.std.proofs.lemmas.Bool.{and_parts, or_parts, and_left, and_right, eqb-true}
use Rattle.std.proofs.lemmas.List.Folds.{list_any-append}
use Rattle.gate_types.specs.Window.{Bounds}
use Rattle.gate_types.specs.declared.records.Build.{Build}
use Rattle.gate_types.specs.declared.records.Need.{Need}
use Rattle.gate_types.specs.declared.records.Verdict.{Verdict}
use Rattle.gate_types.specs.declared.records.Verdict.TheVariants as verdict
use Rattle.gate_types.specs.declared.edits.Edit.TheVariants as edit
use Rattle.gate_types.specs.State.{Item, has_change}
use Rattle.gate_types.specs.Line.{Place}
use Rattle.gate_types.specs.Slot.{are_met_by, is_running, is_cut, raw_slot_of, is_failed_slot}
use Rattle.gate_types.specs.Standing.{is_failing, with_ahead, next_ahead, places_after}
use Rattle.gate_types.specs.Sweep.{verdict_of, fails_for_good, judge, next_staying}
use Rattle.gate_types.specs.Rows.{row_of}
use Rattle.gate_queue_rules.specs.Edits.{next_reports, window_behind}
use Rattle.gate_queue_rules.specs.Outcomes.{slot_among}
use Rattle.gate_walk.specs.Walk.{is_blocked_by, Seen, Mark, Carry, is_gone, needs_gone, still_counting, fails}
use Rattle.gate_walk.specs.Walk.{verdict_by, row_by, row_edits, window_edits_by, visit_edits, carried, cuts, is_over}
use Rattle.gate_walk.proofs.Slots.{live_of}
use Rattle.gate_walk.proofs.Steps.{is_done, edits_for, seen_need, seen, Known, known_visited, known_skipped}
use Rattle.gate_walk.proofs.Steps.{blocked_seen, met_seen, other_one, other_in}
use Rattle.gate_walk.proofs.Resets.{Right, asked, rows_seen, none_parts, none_from, stop_running, QuietAt, Quiet}
use Rattle.gate_walk.proofs.Resets.{visits, same, none_stop}

-- failing, not blocked, first and finished
abbrev pub is_out : Carry → Seen → Bool
is_out k v = fails k v && not (is_blocked_by k.marks v.needs) && not (is_some k.ahead) && is_done k v

-- what has gone is no non-failing item's, and each other item before stays
pub record Followed (gone : List ℕ) (before ahead staying : List Item) : Type 0 where
  pub out : (n : ℕ) → is_gone gone n ≡ true → has_change ahead n ≡ false
  pub rest : (n : ℕ) → has_change before n ≡ true → is_gone gone n ≡ false → has_change staying n ≡ true

one_met : (landed before x : Bool) → landed || before ≡ true → (before ≡ true → x ≡ true) → landed || x ≡ true
one_met true before x h e = refl
one_met false before x h e = e h

-- where no need has gone, all are met by what stays
needs_met : (stand : ℕ → Option Bool) (gone : List ℕ) (before staying : List Item) (needs : List Need) → ((n : ℕ) → has_change before n ≡ true → is_gone gone n ≡ false → has_change staying n ≡ true) →
    needs_gone gone (map (seen_need stand) needs) ≡ false → are_met_by before needs ≡ true → are_met_by staying needs ≡ true
needs_met stand gone before staying [] rest g h = refl
needs_met stand gone before staying (n ∷ ns) rest g h =
    let off = or_parts (is_gone gone n.change) (needs_gone gone (map (seen_need stand) ns)) g in
    let both = and_parts (n.landed || has_change before n.change) (are_met_by before ns) h in
    λ k. one_met n.landed (has_change before n.change) (has_change staying n.change) both.0 (λ e. rest n.change e off.0) k && needs_met stand gone before staying ns rest off.1 both.1 k

-- where one has, it isn't met by items that it isn't among
needs_unmet : (stand : ℕ → Option Bool) (gone : List ℕ) (before xs : List Item) (needs : List Need) → ((n : ℕ) → is_gone gone n ≡ true → has_change before n ≡ true) → ((n : ℕ) → is_gone gone n ≡ true → has_change xs n ≡ false) →
    list_all (λ n. not (n.landed && has_change before n.change)) needs ≡ true → needs_gone gone (map (seen_need stand) needs) ≡ true → are_met_by xs needs ≡ false
needs_unmet stand gone before xs [] b o l g = absurd (true≢false (sym g))
needs_unmet stand gone before xs (n ∷ ns) b o l g =
    let both = and_parts (not (n.landed && has_change before n.change)) (list_all (λ m. not (m.landed && has_change before m.change)) ns) l in
    by_first (is_gone gone n.change) refl both.0 (needs_unmet stand gone before xs ns b o both.1) g
  where
    not_landed : (landed before x : Bool) → before ≡ true → not (landed && before) ≡ true → x ≡ false → landed || x ≡ false
    not_landed true before x e h f = absurd (true≢false (sym h ∙ ap not e))
    not_landed false before x e h f = f

    by_first : (t : Bool) → is_gone gone n.change ≡ t → not (n.landed && has_change before n.change) ≡ true → (needs_gone gone (map (seen_need stand) ns) ≡ true → are_met_by xs ns ≡ false) → is_gone gone n.change || needs_gone gone (map (seen_need stand) ns) ≡ true →
        are_met_by xs (n ∷ ns) ≡ false
    by_first true e h ih k = and_left (n.landed || has_change xs n.change) (are_met_by xs ns) (not_landed n.landed (has_change before n.change) (has_change xs n.change) (b n.change e) h (o n.change e))
    by_first false e h ih k = and_right (n.landed || has_change xs n.change) (are_met_by xs ns) (ih (sym (ap (λ t. t || needs_gone gone (map (seen_need stand) ns)) e) ∙ k))

-- what is gone was before, and doesn't stay
pub gone_before : (stand : ℕ → Option Bool) (marks : List Mark) (gone : List ℕ) (before ahead staying : List Item) → Known stand marks gone before ahead staying → (n : ℕ) → is_gone gone n ≡ true → has_change before n ≡ true
gone_before stand marks gone before ahead staying kn n e = by_test (has_change before n) refl
  where
    by_test : (t : Bool) → has_change before n ≡ t → has_change before n ≡ true
    by_test true h = h
    by_test false h = absurd (true≢false (sym e ∙ kn.not_gone n h))

pub gone_leaves : (stand : ℕ → Option Bool) (marks : List Mark) (gone : List ℕ) (before ahead staying : List Item) → Known stand marks gone before ahead staying → (n : ℕ) → is_gone gone n ≡ true → has_change staying n ≡ false
gone_leaves stand marks gone before ahead staying kn n e =
    sym (kn.stays n (gone_before stand marks gone before ahead staying kn n e)) ∙ ap (λ t. is_some (stand n) && not t) e ∙ off (is_some (stand n))
  where
    off : (x : Bool) → x && false ≡ false
    off true = refl
    off false = refl

gone_more : (gone : List ℕ) (c n : ℕ) → is_gone (gone ++ c ∷ []) n ≡ (is_gone gone n || (c == n || false))
gone_more gone c n = list_any-append (λ (m : ℕ). m == n) gone (c ∷ [])

-- behind an item that goes
pub followed_gone : (gone : List ℕ) (before ahead staying : List Item) (i : Item) → Followed gone before ahead staying → has_change ahead i.change ≡ false → Followed (gone ++ i.change ∷ []) (before ++ i ∷ []) ahead staying
followed_gone gone before ahead staying i f h = record {
  out = λ n e. out n (i.change == n) refl e;
  rest = λ n b e. rest n b (or_parts (is_gone gone n) (i.change == n || false) (sym (gone_more gone i.change n) ∙ e));
}
  where
    off : (x : Bool) → x || (false || false) ≡ x
    off true = refl
    off false = refl

    out : (n : ℕ) (t : Bool) → (i.change == n) ≡ t → is_gone (gone ++ i.change ∷ []) n ≡ true → has_change ahead n ≡ false
    out n true e g = ap (has_change ahead) (sym (eqb-true i.change n e)) ∙ h
    out n false e g = f.out n (sym (gone_more gone i.change n ∙ ap (λ t. is_gone gone n || (t || false)) e ∙ off (is_gone gone n)) ∙ g)

    rest : (n : ℕ) → has_change (before ++ i ∷ []) n ≡ true → (is_gone gone n ≡ false) × ((i.change == n || false) ≡ false) → has_change staying n ≡ true
    rest n b e = f.rest n (other_in before i n true (or_parts (i.change == n) false e.1).0 b) e.0

-- behind an item that stays
pub followed_kept : (gone : List ℕ) (before ahead staying : List Item) (i : Item) (fails : Bool) → Followed gone before ahead staying → is_gone gone i.change ≡ false → Followed gone (before ++ i ∷ []) (cond fails ahead (ahead ++ i ∷ [])) (staying ++ i ∷ [])
followed_kept gone before ahead staying i fails f h = record {
  out = λ n e. out n (i.change == n) refl e;
  rest = λ n b e. rest n (i.change == n) refl b e;
}
  where
    out : (n : ℕ) (t : Bool) → (i.change == n) ≡ t → is_gone gone n ≡ true → has_change (cond fails ahead (ahead ++ i ∷ [])) n ≡ false
    out n true e g = absurd (true≢false (sym g ∙ ap (is_gone gone) (sym (eqb-true i.change n e)) ∙ h))
    out n false e g = other_one fails ahead i n e ∙ f.out n g

    here : (x : Bool) → x || (true || false) ≡ true
    here true = refl
    here false = refl

    rest : (n : ℕ) (t : Bool) → (i.change == n) ≡ t → has_change (before ++ i ∷ []) n ≡ true → is_gone gone n ≡ false → has_change (staying ++ i ∷ []) n ≡ true
    rest n true e b g = list_any-append (λ (j : Item). j.change == n) staying (i ∷ []) ∙ ap (λ t. has_change staying n || (t || false)) e ∙ here (has_change staying n)
    rest n false e b g = other_one false staying i n e ∙ f.rest n (other_in before i n true e b) g

-- an item that needs what has gone is failing, and goes
record Goes (bs : List Build) (staying : List Item) (k : Carry) (v : Seen) (p : Place) : Type 0 where
  fails_now : fails k v ≡ true
  was_failing : is_failing bs p ≡ true
  by_walk : verdict_by k v ≡ Some verdict.Needs
  by_look : verdict_of bs staying p ≡ Some verdict.Needs

goes : (stand : ℕ → Option Bool) (bs : List Build) (before staying : List Item) (k : Carry) (p : Place) → Known stand k.marks k.gone before p.ahead staying → Followed k.gone before p.ahead staying → QuietAt stand bs before p →
    needs_gone k.gone (map (seen_need stand) p.needs) ≡ true → Goes bs staying k (seen stand bs p p) p
goes stand bs before staying k p kn f q g =
    let v = seen stand bs p p in
    let met = (none_parts bs before p q.stays).0 in
    let inside = gone_before stand k.marks k.gone before p.ahead staying kn in
    let blocked = needs_unmet stand k.gone before p.ahead p.needs inside f.out q.open_needs g in
    let unmet = needs_unmet stand k.gone before staying p.needs inside (gone_leaves stand k.marks k.gone before p.ahead staying kn) q.open_needs g in
    record {
      fails_now = ap (λ t. t || list_any (λ j. j.voting && is_failed_slot (slot_among (still_counting k v) j)) v.jobs) (blocked_seen stand k.marks k.gone before p.ahead staying p.needs kn met ∙ ap not blocked);
      was_failing = ap (λ t. not t || list_any (λ j. j.voting && is_failed_slot (raw_slot_of bs p j)) p.jobs) blocked;
      by_walk = ap (λ t. cond (not t) (Some verdict.Needs) (cond (is_out k v) (Some verdict.Failed) None)) (met_seen stand k.marks k.gone before p.ahead staying p.needs kn met ∙ unmet);
      by_look = ap (λ t. cond (not t) (Some verdict.Needs) (cond (fails_for_good bs p) (Some verdict.Failed) None)) unmet;
    }

-- its edits, whatever is carried as the last non-failing item
goes_edits : (name : List ℕ) (bounds : Bounds) (stand : ℕ → Option Bool) (bs : List Build) (before staying : List Item) (k : Carry) (p : Place) → k.resets ≡ false → QuietAt stand bs before p → Goes bs staying k (seen stand bs p p) p →
    visit_edits name bounds k (seen stand bs p p) ≡ edits_for name bs k.reports staying p (seen stand bs p p).row ++ window_edits_by name bounds k.window (verdict_of bs staying p)
goes_edits name bounds stand bs before staying k p r q g =
    let v = seen stand bs p p in
    let same_verdict : verdict_by k v ≡ verdict_of bs staying p = g.by_walk ∙ sym g.by_look in
    let over = is_some (verdict_of bs staying p) || is_cut bs p in
    let same_over : is_over k v ≡ over = ap (λ (o : Option Verdict). is_some o || cuts k v) g.by_walk ∙ sym (ap (λ (o : Option Verdict). is_some o || is_cut bs p) g.by_look) in
    let item : row_edits name k.reports v.row (row_by k v) (verdict_of bs staying p) ≡ row_edits name k.reports v.row (row_of bs p) (verdict_of bs staying p) =
    ap (row_edits name k.reports v.row (row_by k v)) g.by_look ∙ sym (ap (row_edits name k.reports v.row (row_of bs p)) g.by_look) in
    (λ i. (map (λ b. edit.StopBuild b.number) (filter (λ b. r i || same_over i && is_running b.outcome) (live_of bs p)) ++ row_edits name k.reports v.row (row_by k v) (same_verdict i)) ++ window_edits_by name bounds k.window (same_verdict i))
    ∙ (λ i. (map (λ b. edit.StopBuild b.number) (stop_running bs p over q.counting i) ++ item i) ++ window_edits_by name bounds k.window (verdict_of bs staying p))

-- a walk that follows needs
abbrev pub needing : Option ℕ → List ℕ → List Mark → ℕ → ℕ → Carry
needing a gone marks n w = record { resets = false; passes = false; ahead = a; gone = gone; marks = marks; reports = n; window = w }

-- it follows the needs from these items on, and leaves each other row as it is
abbrev pub Follows : List ℕ → Bounds → (ℕ → Option Bool) → List Build → List Item → List Item → List Place → Type 0
Follows name bounds stand bs before ahead ps = (a : Option ℕ) (gone : List ℕ) (marks : List Mark) (n w : ℕ) (staying : List Item) →
    Known stand marks gone before ahead staying → Followed gone before ahead staying →
    Right name bounds bs n w staying (places_after bs ahead ps) (rows_seen (visits stand bs same ahead ps)) (asked name bounds (needing a gone marks n w) (visits stand bs same ahead ps))

-- behind an item that goes for its needs it does so still
goes_on : (name : List ℕ) (bounds : Bounds) (stand : ℕ → Option Bool) (bs : List Build) (before ahead staying : List Item) (k : Carry) (p : Place) (ps : List Place) → k.resets ≡ false → k.passes ≡ false →
    Known stand k.marks k.gone before ahead staying → Followed k.gone before ahead staying → QuietAt stand bs before (with_ahead ahead p) →
    Follows name bounds stand bs (before ++ p.item ∷ []) (next_ahead bs (with_ahead ahead p)) ps → Goes bs staying k (seen stand bs (with_ahead ahead p) (with_ahead ahead p)) (with_ahead ahead p) →
    (let old = with_ahead ahead p in let v = seen stand bs old p in let vs = visits stand bs same (next_ahead bs old) ps in
    Right name bounds bs k.reports k.window staying (places_after bs ahead (p ∷ ps)) (rows_seen (v ∷ vs)) (Some (visit_edits name bounds k v) ∷ asked name bounds (carried bounds k v) vs))
goes_on name bounds stand bs before ahead staying k p ps r ps_off kn f q rest g =
    let old = with_ahead ahead p in
    let v = seen stand bs old p in
    let vs = visits stand bs same (next_ahead bs old) ps in
    let k2 = carried bounds k v in
    let verdict_is : verdict_by k v ≡ verdict_of bs staying old = g.by_walk ∙ sym g.by_look in
    let there = ap is_some q.standing in
    let no_ahead : has_change ahead p.item.change ≡ false = kn.not_ahead p.item.change q.fresh in
    let known : Known stand k2.marks k2.gone (before ++ p.item ∷ []) (next_ahead bs old) (next_staying staying (judge bs staying old)) =
    subst (λ (w : Option Verdict). Known stand k2.marks (cond (is_some w) (k.gone ++ p.item.change ∷ []) k.gone) (before ++ p.item ∷ []) (next_ahead bs old) (next_staying staying (judge bs staying old))) (sym verdict_is)
    (subst (λ (x : Bool). Known stand (k.marks ++ record { change = p.item.change; failing = x } ∷ []) (cond (is_some (verdict_of bs staying old)) (k.gone ++ p.item.change ∷ []) k.gone) (before ++ p.item ∷ []) (next_ahead bs old) (next_staying staying (judge bs staying old))) (g.was_failing ∙ sym g.fails_now)
    (known_visited stand k.marks k.gone before ahead staying p.item (is_failing bs old) (is_some (verdict_of bs staying old)) kn q.fresh there)) in
    let followed : Followed k2.gone (before ++ p.item ∷ []) (next_ahead bs old) (next_staying staying (judge bs staying old)) =
    subst (λ (w : Option Verdict). Followed k2.gone (before ++ p.item ∷ []) (next_ahead bs old) (cond (is_some w) staying (staying ++ p.item ∷ []))) (sym g.by_look)
    (subst (λ (w : Option Verdict). Followed (cond (is_some w) (k.gone ++ p.item.change ∷ []) k.gone) (before ++ p.item ∷ []) (next_ahead bs old) staying) (sym g.by_walk)
    (subst (λ (x : Bool). Followed (k.gone ++ p.item.change ∷ []) (before ++ p.item ∷ []) (cond x ahead (ahead ++ p.item ∷ [])) staying) (sym g.was_failing)
    (followed_gone k.gone before ahead staying p.item f no_ahead))) in
    let no_reset : k2.resets ≡ false = λ i. r i || g.fails_now i && not (g.was_failing i) in
    let no_pass : k2.passes ≡ false = ap (λ t. t && fails k v) ps_off in
    let behind = rest k2.ahead k2.gone k2.marks k2.reports k2.window (next_staying staying (judge bs staying old)) known followed in
    let carry : Bool → Bool → Carry = λ x y. record { resets = x; passes = y; ahead = k2.ahead; gone = k2.gone; marks = k2.marks; reports = k2.reports; window = k2.window } in (
      goes_edits name bounds stand bs before staying k old r q g,
      subst (λ (w : Option Verdict). Right name bounds bs (next_reports k.reports w) (window_behind bounds k.window w) (next_staying staying (judge bs staying old)) (places_after bs (next_ahead bs old) ps) (rows_seen vs) (asked name bounds k2 vs)) verdict_is
          (subst (λ (x : Bool). Right name bounds bs k2.reports k2.window (next_staying staying (judge bs staying old)) (places_after bs (next_ahead bs old) ps) (rows_seen vs) (asked name bounds (carry x k2.passes) vs)) (sym no_reset)
          (subst (λ (y : Bool). Right name bounds bs k2.reports k2.window (next_staying staying (judge bs staying old)) (places_after bs (next_ahead bs old) ps) (rows_seen vs) (asked name bounds (carry false y) vs)) (sym no_pass) behind)),
    )

-- one row: it is asked for if it needs what has gone
follow_one : (name : List ℕ) (bounds : Bounds) (stand : ℕ → Option Bool) (bs : List Build) (a : Option ℕ) (gone : List ℕ) (marks : List Mark) (n w : ℕ) (before ahead staying : List Item) (p : Place) (ps : List Place) →
    Known stand marks gone before ahead staying → Followed gone before ahead staying → QuietAt stand bs before (with_ahead ahead p) → Follows name bounds stand bs (before ++ p.item ∷ []) (next_ahead bs (with_ahead ahead p)) ps →
    (t : Bool) → needs_gone gone (map (seen_need stand) p.needs) ≡ t →
    (let k = needing a gone marks n w in let old = with_ahead ahead p in let v = seen stand bs old p in let vs = visits stand bs same (next_ahead bs old) ps in
    Right name bounds bs n w staying (places_after bs ahead (p ∷ ps)) (rows_seen (v ∷ vs)) (cond t (Some (visit_edits name bounds k v) ∷ asked name bounds (carried bounds k v) vs) (None ∷ asked name bounds k vs)))
follow_one name bounds stand bs a gone marks n w before ahead staying p ps kn f q rest true e =
    goes_on name bounds stand bs before ahead staying (needing a gone marks n w) p ps refl refl kn f q rest (goes stand bs before staying (needing a gone marks n w) (with_ahead ahead p) kn f q e)
follow_one name bounds stand bs a gone marks n w before ahead staying p ps kn f q rest false e =
    let old = with_ahead ahead p in
    let k = needing a gone marks n w in
    let vs = visits stand bs same (next_ahead bs old) ps in
    let parts = none_parts bs before old q.stays in
    let stays : verdict_of bs staying old ≡ None = none_from bs staying old (needs_met stand gone before staying p.needs f.rest e parts.0) parts.1 in
    let known = known_skipped stand marks gone before ahead staying p.item (is_failing bs old) kn q.fresh q.standing in
    let followed = followed_kept gone before ahead staying p.item (is_failing bs old) f (kn.not_gone p.item.change q.fresh) in (
      (refl, stays, none_stop bs old q.counting q.ended),
      subst (λ (x : Option Verdict). Right name bounds bs (next_reports n x) (window_behind bounds w x) (cond (is_some x) staying (staying ++ p.item ∷ [])) (places_after bs (next_ahead bs old) ps) (rows_seen vs) (asked name bounds k vs)) (sym stays)
          (rest a gone marks n w (staying ++ p.item ∷ []) known followed),
    )

pub follow : (name : List ℕ) (bounds : Bounds) (stand : ℕ → Option Bool) (bs : List Build) (before ahead : List Item) (ps : List Place) → Quiet stand bs before ahead ps → Follows name bounds stand bs before ahead ps
follow name bounds stand bs before ahead [] q a gone marks n w staying kn f = tt
follow name bounds stand bs before ahead (p ∷ ps) q a gone marks n w staying kn f =
    follow_one name bounds stand bs a gone marks n w before ahead staying p ps kn f q.0 (follow name bounds stand bs (before ++ p.item ∷ []) (next_ahead bs (with_ahead ahead p)) ps q.1) (needs_gone gone (map (seen_need stand) p.needs)) refl
