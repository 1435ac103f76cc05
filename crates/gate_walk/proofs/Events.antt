-- A whole queue, one item of which was touched or taken out.
use Rattle.std.proofs.Common.{◌≡◌, ℕ, Bool, true, false, not, ◌&&◌, ◌||◌, cond, Option, Some, None, is_some, List, []}
use Rattle.std.proofs.Common.{◌∷◌, ◌++◌, map, refl, sym, ap, ◌∙◌, subst, true≢false}
use Rattle.std.specs.Prelude.{◌==◌}
use Rattle.std.proofs.lemmas.Bool.{eqb-true, eq-eqb}
use Rattle.std.proofs.lemmas.List.Folds.{list_any-append}
use Rattle.gate_types.specs.Window.{Bounds}
use Rattle.gate_types.specs.declared.records.Build.{Build}
use Rattle.gate_types.specs.declared.records.Item.{Item as ItemRow}
use Rattle.gate_types.specs.declared.records.Verdict.{Verdict}
use Rattle.gate_types.specs.declared.edits.Edit.{Edit}
use Rattle.gate_types.specs.State.{Item, has_change}
use Rattle.gate_types.specs.Line.{Place}
use Rattle.gate_types.specs.Slot.{are_met_by}
use Rattle.gate_types.specs.Standing.{is_failing, with_ahead, next_ahead, places_after, ahead_of}
use Rattle.gate_types.specs.Sweep.{verdict_of, judge, next_staying}
use Rattle.gate_types.specs.Rows.{row_of}
use Rattle.gate_queue_rules.specs.Edits.{next_reports, window_behind}
use Rattle.gate_walk.specs.Walk.{Seen, Carry, is_fine, is_gone, fails, verdict_by, visit_edits, carried, walk_from}
use Rattle.gate_walk.proofs.Slots.{all_count, outcomes_live}
use Rattle.gate_walk.proofs.Steps.{seen, Known, Sees, known_skipped, blocked_seen, met_seen, fails_seen, verdict_seen}
use Rattle.gate_walk.proofs.Steps.{other_in, moved}
use Rattle.gate_walk.proofs.Resets.{Right, asked, rows_seen, last_serial, first_last, none_parts, stop_running}
use Rattle.gate_walk.proofs.Resets.{known_next, ahead_next, right_visit, Quiet, visits, same, NotLanded, reset}
use Rattle.gate_walk.proofs.Resets.{none_stop}
use Rattle.gate_walk.proofs.Needs.{Followed, followed_gone, needing, follow}
use Rattle.gate_walk.proofs.Passes.{cast, followed_next, landed_place, Behind, Without, passing, pass}
use Rattle.gate_walk.proofs.Folded.{told, asked_told}
use Rattle.gate_laws.proofs.Stays.{goes_failing}
use Rattle.gate_laws.proofs.Places.{ahead_end}

-- the first row whatever is carried, then those that are asked for
abbrev pub forced : List ℕ → Bounds → Carry → List Seen → List (Option (List Edit))
forced name bounds k [] = []
forced name bounds k (v ∷ vs) = Some (visit_edits name bounds k v) ∷ asked name bounds (carried bounds k v) vs

pub forced_told : (name : List ℕ) (bounds : Bounds) (k : Carry) (vs : List Seen) → told (forced name bounds k vs) ≡ walk_from name bounds k vs
forced_told name bounds k [] = refl
forced_told name bounds k (v ∷ vs) = ap (λ l. visit_edits name bounds k v ++ l) (asked_told name bounds (carried bounds k v) vs)

-- ---- the items in front

-- those before, and these
abbrev pub all_before : List Item → List Place → List Item
all_before before [] = before
all_before before (p ∷ ps) = all_before (before ++ p.item ∷ []) ps

-- none of them is asked for
abbrev pub nones : List Place → List (Option (List Edit))
nones [] = []
nones (p ∷ ps) = None ∷ nones ps

pub quiet_split : (stand : ℕ → Option Bool) (bs : List Build) (before ahead : List Item) (ps qs : List Place) → Quiet stand bs before ahead (ps ++ qs) → Quiet stand bs before ahead ps × Quiet stand bs (all_before before ps) (ahead_end bs ahead ps) qs
quiet_split stand bs before ahead [] qs q = (tt, q)
quiet_split stand bs before ahead (p ∷ ps) qs q =
    let rest = quiet_split stand bs (before ++ p.item ∷ []) (next_ahead bs (with_ahead ahead p)) ps qs q.1 in
    ((q.0, rest.0), rest.1)

-- they stay as they are
pub front_right : (name : List ℕ) (bounds : Bounds) (stand : ℕ → Option Bool) (bs : List Build) (n w : ℕ) (before ahead : List Item) (front ps : List Place) (is : List ItemRow) (es : List (Option (List Edit))) → Quiet stand bs before ahead front →
    Right name bounds bs n w (all_before before front) (places_after bs (ahead_end bs ahead front) ps) is es →
    Right name bounds bs n w before (places_after bs ahead (front ++ ps)) (map (row_of bs) (places_after bs ahead front) ++ is) (nones front ++ es)
front_right name bounds stand bs n w before ahead [] ps is es q r = r
front_right name bounds stand bs n w before ahead (p ∷ front) ps is es q r =
    let old = with_ahead ahead p in
    let stays : verdict_of bs before old ≡ None = q.0.stays in (
      (refl, stays, none_stop bs old q.0.counting q.0.ended),
      subst (λ (x : Option Verdict). Right name bounds bs (next_reports n x) (window_behind bounds w x) (cond (is_some x) before (before ++ p.item ∷ [])) (places_after bs (next_ahead bs old) (front ++ ps))
          (map (row_of bs) (places_after bs (next_ahead bs old) front) ++ is) (nones front ++ es)) (sym stays)
          (front_right name bounds stand bs n w (before ++ p.item ∷ []) (next_ahead bs old) front ps is es q.1 r),
    )

-- what is known of them is right
pub known_front : (stand : ℕ → Option Bool) (bs : List Build) (before ahead : List Item) (front : List Place) → Known stand [] [] before ahead before → Quiet stand bs before ahead front →
    Known stand [] [] (all_before before front) (ahead_end bs ahead front) (all_before before front)
known_front stand bs before ahead [] k q = k
known_front stand bs before ahead (p ∷ front) k q =
    known_front stand bs (before ++ p.item ∷ []) (next_ahead bs (with_ahead ahead p)) front
    (known_skipped stand [] [] before ahead before p.item (is_failing bs (with_ahead ahead p)) k q.0.fresh q.0.standing) q.1

pub known_start : (stand : ℕ → Option Bool) → Known stand [] [] [] [] []
known_start stand = record {
  fine = λ n h. absurd (true≢false (sym h));
  stays = λ n h. absurd (true≢false (sym h));
  no_mark = λ n h s. refl;
  not_gone = λ n h. refl;
  not_ahead = λ n h. refl;
  not_staying = λ n h. refl;
}

pub followed_start : (before ahead : List Item) → Followed [] before ahead before
followed_start before ahead = record { out = λ n e. absurd (true≢false (sym e)); rest = λ n h e. h }

-- ---- a visit that sees what is so

-- the touched item or the first one behind it, where its mark is what it was: needs are followed from there
same_mark : (name : List ℕ) (bounds : Bounds) (stand : ℕ → Option Bool) (bs : List Build) (before staying : List Item) (k : Carry) (v : Seen) (p : Place) (ps : List Place) → k.resets ≡ false → k.passes ≡ false → Sees bs staying k v p → v.row.failing ≡ is_failing bs p →
    Known stand k.marks k.gone before p.ahead staying → Followed k.gone before p.ahead staying → has_change before p.item.change ≡ false → is_some (stand p.item.change) ≡ true →
    Quiet stand bs (before ++ p.item ∷ []) (next_ahead bs p) ps →
    (let vs = visits stand bs same (next_ahead bs p) ps in
    Right name bounds bs k.reports k.window staying (p ∷ places_after bs (next_ahead bs p) ps) (rows_seen (v ∷ vs)) (Some (visit_edits name bounds k v) ∷ asked name bounds (carried bounds k v) vs))
same_mark name bounds stand bs before staying k v p ps r pa s m kn fo fresh there q =
    let k2 = carried bounds k v in
    let vs = visits stand bs same (next_ahead bs p) ps in
    let next = next_staying staying (judge bs staying p) in
    let no_ahead = kn.not_ahead p.item.change fresh in
    let followed : Followed k2.gone (before ++ p.item ∷ []) (next_ahead bs p) next =
    subst (λ (c : ℕ). Followed (cond (is_some (verdict_by k v)) (k.gone ++ c ∷ []) k.gone) (before ++ p.item ∷ []) (next_ahead bs p) next) (sym s.same_item.1)
    (subst (λ (x : Option Verdict). Followed (cond (is_some x) (k.gone ++ p.item.change ∷ []) k.gone) (before ++ p.item ∷ []) (next_ahead bs p) next) (sym (verdict_seen bs staying k v p s))
    (followed_next k.gone before p.ahead staying p.item (is_failing bs p) (is_some (verdict_of bs staying p)) (goes_failing bs staying p among) fo no_ahead (kn.not_gone p.item.change fresh))) in
    let resets : k2.resets ≡ false = (λ i. r i || fails_seen bs staying k v p s i && not (m i)) ∙ off (is_failing bs p) in
    let passes : k2.passes ≡ false = ap (λ t. t && fails k v) pa in
    right_visit name bounds bs staying k v p (places_after bs (next_ahead bs p) ps) vs s
    (cast (λ i. Right name bounds bs k2.reports k2.window next (places_after bs (next_ahead bs p) ps) (rows_seen vs)
    (asked name bounds (record { resets = sym resets i; passes = sym passes i; ahead = k2.ahead; gone = k2.gone; marks = k2.marks; reports = k2.reports; window = k2.window }) vs))
    (follow name bounds stand bs (before ++ p.item ∷ []) (next_ahead bs p) ps q k2.ahead k2.gone k2.marks k2.reports k2.window next (known_next stand bounds bs before staying k v p s kn fresh there) followed))
  where
    off : (f : Bool) → false || f && not f ≡ false
    off true = refl
    off false = refl

    among : (n : ℕ) → has_change p.ahead n ≡ true → has_change staying n ≡ true
    among n h = fo.rest n (before_it (has_change before n) refl) (not_it (is_gone k.gone n) refl)
      where
        before_it : (t : Bool) → has_change before n ≡ t → has_change before n ≡ true
        before_it true e = e
        before_it false e = absurd (true≢false (sym h ∙ kn.not_ahead n e))

        not_it : (t : Bool) → is_gone k.gone n ≡ t → is_gone k.gone n ≡ false
        not_it false e = e
        not_it true e = absurd (true≢false (sym h ∙ fo.out n e))

-- ---- the touched item stands

-- what is known of it: its row says f; once failing it is failing still
pub record TouchedAt (stand : ℕ → Option Bool) (bs : List Build) (before : List Item) (p : Place) (f : Bool) : Type 0 where
  pub counting : all_count bs p ≡ true
  pub met : are_met_by before p.needs ≡ true
  pub standing : stand p.item.change ≡ Some f
  pub fresh : has_change before p.item.change ≡ false
  pub fails_still : f ≡ true → is_failing bs p ≡ true

-- how a visit sees it
abbrev pub seen_as : (ℕ → Option Bool) → List Build → Place → Bool → Seen
seen_as stand bs p f = record (seen stand bs p p) { row = record { serial = p.item.serial; change = p.item.change; revision = p.item.revision; ahead = ahead_of p; failing = f } }

-- the touched item and all behind it
pub touched : (name : List ℕ) (bounds : Bounds) (stand : ℕ → Option Bool) (bs : List Build) (n w : ℕ) (before : List Item) (p : Place) (f : Bool) (behind : List Place) → Known stand [] [] before p.ahead before → TouchedAt stand bs before p f →
    Quiet stand bs (before ++ p.item ∷ []) (cond f p.ahead (p.ahead ++ p.item ∷ [])) behind → NotLanded p.item.change behind →
    (let v = seen_as stand bs p f in let vs = visits stand bs same (cond f p.ahead (p.ahead ++ p.item ∷ [])) behind in
    Right name bounds bs n w before (p ∷ places_after bs (next_ahead bs p) behind) (rows_seen (v ∷ vs)) (forced name bounds (needing (ahead_of p) [] [] n w) (v ∷ vs)))
touched name bounds stand bs n w before p f behind kn t q l =
    let k = needing (ahead_of p) [] [] n w in
    let v = seen_as stand bs p f in
    let s : Sees bs before k v p = record {
      same_item = (refl, refl, refl);
      same_jobs = refl;
      same_fast = refl;
      blocked = blocked_seen stand [] [] before p.ahead before p.needs kn t.met;
      met = met_seen stand [] [] before p.ahead before p.needs kn t.met;
      outcomes = λ job. sym (outcomes_live bs p job t.counting);
      stopping = λ going. stop_running bs p going t.counting;
      ahead = refl;
      first = first_last p.ahead;
    } in
    let there : is_some (stand p.item.change) ≡ true = ap is_some t.standing in
    let next = next_staying before (judge bs before p) in
    let k2 = carried bounds k v in
    let known = known_next stand bounds bs before before k v p s kn t.fresh there in
    let no_ahead : has_change p.ahead p.item.change ≡ false = kn.not_ahead p.item.change t.fresh in
    let goal : List Item → Type 0 = λ was. (let vs = visits stand bs same was behind in
    Right name bounds bs n w before (p ∷ places_after bs (next_ahead bs p) behind) (rows_seen (v ∷ vs)) (Some (visit_edits name bounds k v) ∷ asked name bounds k2 vs)) in
    let kept : (g : Bool) → f ≡ g → is_failing bs p ≡ g → goal (cond f p.ahead (p.ahead ++ p.item ∷ [])) =
    λ g ef ep. subst (λ (x : Bool). goal (cond x p.ahead (p.ahead ++ p.item ∷ []))) (ep ∙ sym ef)
    (same_mark name bounds stand bs before before k v p behind refl refl s (ef ∙ sym ep) kn (followed_start before p.ahead) t.fresh there
    (subst (λ (x : Bool). Quiet stand bs (before ++ p.item ∷ []) (cond x p.ahead (p.ahead ++ p.item ∷ [])) behind) (ef ∙ sym ep) q)) in
    let failed : f ≡ false → is_failing bs p ≡ true → goal (cond f p.ahead (p.ahead ++ p.item ∷ [])) =
    λ ef ep. subst (λ (x : Bool). goal (cond x p.ahead (p.ahead ++ p.item ∷ []))) (sym ef)
    (let was = p.ahead ++ p.item ∷ [] in
    let vs = visits stand bs same was behind in
    let resets : k2.resets ≡ true = λ i. false || (fails_seen bs before k v p s ∙ ep) i && not (ef i) in
    let behind_it : (ahead : List Item) → ahead ≡ p.ahead → Known stand k2.marks k2.gone (before ++ p.item ∷ []) ahead next → k2.ahead ≡ last_serial ahead →
    Right name bounds bs k2.reports k2.window next (places_after bs ahead behind) (rows_seen vs) (asked name bounds k2 vs) =
    λ ahead ea kna la. cast (λ i. Right name bounds bs k2.reports k2.window next (places_after bs ahead behind) (rows_seen vs)
    (asked name bounds (record { resets = sym resets i; passes = k2.passes; ahead = k2.ahead; gone = k2.gone; marks = k2.marks; reports = k2.reports; window = k2.window }) vs))
    (reset name bounds stand bs p.item.change k2.passes k2.ahead k2.gone k2.marks k2.reports k2.window (before ++ p.item ∷ []) was ahead next behind kna la
    (own_in before) (own_in p.ahead) (ap (λ (a : List Item). has_change a p.item.change) ea ∙ no_ahead)
    (subst (λ (x : Bool). Quiet stand bs (before ++ p.item ∷ []) (cond x p.ahead was) behind) ef q) l) in
    right_visit name bounds bs before k v p (places_after bs (next_ahead bs p) behind) vs s
    (behind_it (next_ahead bs p) (ap (λ x. cond x p.ahead was) ep) known (ahead_next bounds bs before k v p s))) in
    ((elim f as (λ x. f ≡ x → goal (cond f p.ahead (p.ahead ++ p.item ∷ []))) [
      | true ↦ λ ef. kept true ef (t.fails_still ef)
      | false ↦ λ ef. (elim (is_failing bs p) as (λ y. is_failing bs p ≡ y → goal (cond f p.ahead (p.ahead ++ p.item ∷ []))) [
        | true ↦ λ ep. failed ef ep
        | false ↦ λ ep. kept false ef ep
      ]) refl
    ]) refl)
  where
    own_in : (xs : List Item) → has_change (xs ++ p.item ∷ []) p.item.change ≡ true
    own_in xs = list_any-append (λ (j : Item). j.change == p.item.change) xs (p.item ∷ []) ∙ (λ i. has_change xs p.item.change || (eq-eqb p.item.change p.item.change refl i || false)) ∙ yes (has_change xs p.item.change)
      where
        yes : (x : Bool) → x || (true || false) ≡ true
        yes true = refl
        yes false = refl

-- ---- the touched item was taken out, and didn't land

known_out : (stand : ℕ → Option Bool) (before ahead : List Item) (t : Item) → Known stand [] [] before ahead before → stand t.change ≡ None → has_change before t.change ≡ false → Known stand [] (t.change ∷ []) (before ++ t ∷ []) ahead before
known_out stand before ahead t k none fresh = record {
  fine = λ n h. fine n (t.change == n) refl h;
  stays = λ n h. stays n (t.change == n) refl h;
  no_mark = λ n h s. refl;
  not_gone = λ n h. gone n (t.change == n) refl h;
  not_ahead = λ n h. k.not_ahead n (in_more n h);
  not_staying = λ n h. k.not_staying n (in_more n h);
}
  where
    at_own : (n : ℕ) → (t.change == n) ≡ true → stand n ≡ None
    at_own n e = ap stand (sym (eqb-true t.change n e)) ∙ none

    less : (x y : Bool) → x || y ≡ false → x ≡ false
    less true y h = h
    less false y h = refl

    in_more : (n : ℕ) → has_change (before ++ t ∷ []) n ≡ false → has_change before n ≡ false
    in_more n h = less (has_change before n) (t.change == n || false) (sym (list_any-append (λ (j : Item). j.change == n) before (t ∷ [])) ∙ h)

    fine : (n : ℕ) (e : Bool) → (t.change == n) ≡ e → has_change (before ++ t ∷ []) n ≡ true → is_fine (stand n) ≡ has_change ahead n
    fine n true e h = ap is_fine (at_own n e) ∙ sym (k.not_ahead n (moved before t.change n e fresh))
    fine n false e h = k.fine n (other_in before t n true e h)

    stays : (n : ℕ) (e : Bool) → (t.change == n) ≡ e → has_change (before ++ t ∷ []) n ≡ true → is_some (stand n) && not (t.change == n || false) ≡ has_change before n
    stays n true e h = ap (λ (o : Option Bool). is_some o && not (t.change == n || false)) (at_own n e) ∙ sym (moved before t.change n e fresh)
    stays n false e h = ap (λ x. is_some (stand n) && not (x || false)) e ∙ k.stays n (other_in before t n true e h)

    gone : (n : ℕ) (e : Bool) → (t.change == n) ≡ e → has_change (before ++ t ∷ []) n ≡ false → t.change == n || false ≡ false
    gone n true e h = absurd (true≢false (sym (list_any-append (λ (j : Item). j.change == n) before (t ∷ []) ∙ ap (λ x. has_change before n || (x || false)) e ∙ yes (has_change before n)) ∙ h))
      where
        yes : (x : Bool) → x || (true || false) ≡ true
        yes true = refl
        yes false = refl
    gone n false e h = ap (λ x. x || false) e

followed_out : (before ahead : List Item) (t : Item) → has_change ahead t.change ≡ false → Followed (t.change ∷ []) (before ++ t ∷ []) ahead before
followed_out before ahead t h = followed_gone [] before ahead before t (followed_start before ahead) h

-- all behind it: where it was failing its needers go, where it wasn't each line has changed
pub taken_out : (name : List ℕ) (bounds : Bounds) (stand : ℕ → Option Bool) (bs : List Build) (n w : ℕ) (before ahead : List Item) (t : Item) (f : Bool) (behind : List Place) → Known stand [] [] before ahead before → stand t.change ≡ None → has_change before t.change ≡ false →
    Quiet stand bs (before ++ t ∷ []) (cond f ahead (ahead ++ t ∷ [])) behind → NotLanded t.change behind →
    (let vs = visits stand bs same (cond f ahead (ahead ++ t ∷ [])) behind in
    Right name bounds bs n w before (places_after bs ahead behind) (rows_seen vs) (forced name bounds (record { resets = not f; passes = false; ahead = last_serial ahead; gone = t.change ∷ []; marks = []; reports = n; window = w }) vs))
taken_out name bounds stand bs n w before ahead t f [] kn none fresh q l = tt
taken_out name bounds stand bs n w before ahead t false (p ∷ ps) kn none fresh q l =
    reset name bounds stand bs t.change false (last_serial ahead) (t.change ∷ []) [] n w (before ++ t ∷ []) (ahead ++ t ∷ []) ahead before (p ∷ ps)
    (known_out stand before ahead t kn none fresh) refl (own_in before) (own_in ahead) (kn.not_ahead t.change fresh) q l
  where
    own_in : (xs : List Item) → has_change (xs ++ t ∷ []) t.change ≡ true
    own_in xs = list_any-append (λ (j : Item). j.change == t.change) xs (t ∷ []) ∙ (λ i. has_change xs t.change || (eq-eqb t.change t.change refl i || false)) ∙ yes (has_change xs t.change)
      where
        yes : (x : Bool) → x || (true || false) ≡ true
        yes true = refl
        yes false = refl
taken_out name bounds stand bs n w before ahead t true (p ∷ ps) kn none fresh q l =
    let k : Carry = record { resets = false; passes = false; ahead = last_serial ahead; gone = t.change ∷ []; marks = []; reports = n; window = w } in
    let old = with_ahead ahead p in
    let v = seen stand bs old p in
    let known = known_out stand before ahead t kn none fresh in
    let met = (none_parts bs (before ++ t ∷ []) old q.0.stays).0 in
    let s : Sees bs before k v old = record {
      same_item = (refl, refl, refl);
      same_jobs = refl;
      same_fast = refl;
      blocked = blocked_seen stand [] (t.change ∷ []) (before ++ t ∷ []) ahead before p.needs known met;
      met = met_seen stand [] (t.change ∷ []) (before ++ t ∷ []) ahead before p.needs known met;
      outcomes = λ job. sym (outcomes_live bs old job q.0.counting);
      stopping = λ going. stop_running bs old going q.0.counting;
      ahead = refl;
      first = first_last ahead;
    } in
    same_mark name bounds stand bs (before ++ t ∷ []) before k v old ps refl refl s refl known (followed_out before ahead t (kn.not_ahead t.change fresh)) q.0.fresh (ap is_some q.0.standing) q.1

-- ---- it landed

pub landed_out : (name : List ℕ) (bounds : Bounds) (stand : ℕ → Option Bool) (bs : List Build) (n w : ℕ) (before : List Item) (t : Item) (behind : List Place) → Known stand [] [] before [] before → has_change before t.change ≡ false →
    Behind t bs behind → Quiet stand bs (before ++ t ∷ []) (t ∷ []) behind →
    (let vs = visits stand bs (landed_place t) (t ∷ []) behind in
    Right name bounds bs n w before (places_after bs [] (map (landed_place t) behind)) (rows_seen vs) (forced name bounds (passing [] [] n w) vs))
landed_out name bounds stand bs n w before t [] kn fresh h q = tt
landed_out name bounds stand bs n w before t (p ∷ ps) kn fresh h q = pass name bounds stand bs t (before ++ t ∷ []) before (p ∷ ps) without h q [] [] n w before kn (followed_start before [])
  where
    or_off : (x : Bool) → x || false ≡ x
    or_off true = refl
    or_off false = refl

    without : Without t (before ++ t ∷ []) before
    without = record {
      split = λ m. list_any-append (λ (j : Item). j.change == m) before (t ∷ []) ∙ ap (λ x. has_change before m || x) (or_off (t.change == m));
      out = fresh;
    }
