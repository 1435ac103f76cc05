-- The edits of a walk that has made its visits settle one queue and touch nothing else.
use Rattle.std.proofs.Common.{◌≡◌, ℕ, Bool, true, false, not, ◌&&◌, ◌||◌, cond, is_some, flat_map, true≢false, Option}
use Rattle.std.proofs.Common.{Some, None, List, [], ◌∷◌, ◌++◌, map, fold, refl, sym, ap, ◌∙◌, subst}
use Rattle.std.specs.Prelude.{◌==◌}
use Rattle.std.specs.Option.{option_map_or}
use Rattle.std.specs.List.{AllPass, AllByRecursion as Each}
use Rattle.std.proofs.lemmas.Bool.{eq-eqb, eqb-true}
use Rattle.std.proofs.lemmas.List.Elements.{All-nil, All-cons, All-append, All-from_recursion}
use Rattle.gate_types.specs.declared.records.Build.{Build}
use Rattle.gate_types.specs.declared.records.Item.{Item as ItemRow}
use Rattle.gate_types.specs.declared.records.Verdict.{Verdict}
use Rattle.gate_types.specs.declared.edits.Edit.{Edit}
use Rattle.gate_types.specs.declared.edits.Edit.TheVariants as edit
use Rattle.gate_types.specs.Names.{same_name}
use Rattle.gate_types.specs.Settings.{Settings}
use Rattle.gate_types.specs.State.{Item, Queue, State}
use Rattle.gate_types.specs.Standing.{with_ahead, next_ahead, places_after, place_of}
use Rattle.gate_types.specs.Rebase.{rebase}
use Rattle.gate_types.specs.Window.{Bounds, bounds_of}
use Rattle.gate_types.specs.Sweep.{Judged, judged, goes, swept_queue, without_plans}
use Rattle.gate_types.specs.Lawful.{IsSound, serials_of}
use Rattle.gate_types.specs.Rows.{Rows, row_of, edited_items, edited_builds, fold_edits}
use Rattle.gate_types.specs.Once.{Content}
use Rattle.gate_types.specs.Tables.{edited_plans}
use Rattle.gate_types.specs.Rising.{In}
use Rattle.gate_types.proofs.NameLemmas.{same_name_is}
use Rattle.gate_laws.specs.Touch.{has_serial, touched_by, rebase_one, settle_one, settle_touched}
use Rattle.gate_queue_rules.specs.Settled.{swept_of, rows_in}
use Rattle.gate_queue_rules.specs.Edits.{window_behind}
use Rattle.gate_walk.specs.Walk.{Seen, Carry, Walk, is_same_row, row_by as row_of_visit, row_edits, verdict_by}
use Rattle.gate_walk.specs.Walk.{stopped_by, window_edits_by, visit_edits}
use Rattle.gate_walk.specs.Rescan.{rows_with}
use Rattle.gate_walk.specs.UnderWay.{Delivered, queue_after, stale_rows, rows_seen, walk_by, next_by, AreWanted}
use Rattle.gate_reads.specs.Moves.{Columns, row_by_columns, swept}
use Rattle.gate_reads.specs.declared.touched.TouchedItem.{TouchedItem}
use Rattle.gate_laws.proofs.Members.{every, from_map, to_map, from_flat, any_from, any_to, all_to, contains_in}
use Rattle.gate_laws.proofs.Counts.{distinct_from}
use Rattle.gate_laws.proofs.Stays.{Tells}
use Rattle.gate_laws.proofs.Swept.{staying_items, keeps_items, tells_all}
use Rattle.gate_laws.proofs.RebaseIsSound.{rebase_is_sound}
use Rattle.gate_laws.proofs.OtherQueuesStay.{none_goes_there}
use Rattle.gate_laws.proofs.Alone.{name_alone, same_name_of}
use Rattle.gate_laws.proofs.Touches.{serials_apart, name_itself}
use Rattle.gate_laws.proofs.RunIsLawful.{raw_step_is_sound}
use Rattle.gate_laws.proofs.OnlyOneQueueIsTouched.{only_one_queue_is_touched}
use Rattle.gate_walk.proofs.UnderWay.{walked}
use Rattle.gate_settling.specs.Touching.{Touching, delivered, sees, HasWalked}
use Rattle.gate_settling.proofs.ColumnLemmas.{columns_of, others_stay}
use Rattle.gate_settling.proofs.ListLemmas.{each_same}
use Rattle.gate_settling.proofs.SeamLemmas.{is_of, is_own, row_parts, one_of, SettlesRows, OthersStay, SettlesOne}
use Rattle.gate_settling.proofs.LeftLemmas.{left}
use Rattle.gate_settling.proofs.WantedLemmas.{wanted_in}
use Rattle.gate_settling.proofs.DroppedPlans.{is_dropped, is_there, stays_there, plans_left, drops_seen, drops_are_out}

-- ---- the edits of a visit are the queue's own

abbrev Own : List Queue → List ℕ → Edit → Type 0
Own qs name e = is_own qs name e ≡ true

own_stops : (qs : List Queue) (name : List ℕ) (bs : List Build) →
    AllPass (is_own qs name) (map (λ (b : Build). edit.StopBuild b.number) bs)
own_stops qs name [] = All-nil (Own qs name)
own_stops qs name (b ∷ bs) =
    All-cons (Own qs name) (edit.StopBuild b.number) (map (λ (x : Build). edit.StopBuild x.number) bs) refl
    (own_stops qs name bs)

own_row : (qs : List Queue) (name : List ℕ) (reports : ℕ) (stored row : ItemRow) (v : Option Verdict) →
    is_of qs name row.serial ≡ true → AllPass (is_own qs name) (row_edits name reports stored row v)
own_row qs name reports stored row None h = by_test (is_same_row stored row)
  where
    by_test : (t : Bool) → AllPass (is_own qs name) (cond t [] (edit.PutItem name row ∷ []))
    by_test true = All-nil (Own qs name)
    by_test false = All-cons (Own qs name) (edit.PutItem name row) [] (name_itself name) (All-nil (Own qs name))
own_row qs name reports stored row (Some v) h =
    All-cons (Own qs name) _ (edit.DropItem row.serial ∷ []) (name_itself name)
    (All-cons (Own qs name) (edit.DropItem row.serial) [] h (All-nil (Own qs name)))

own_window : (qs : List Queue) (name : List ℕ) (bounds : Bounds) (window : ℕ) (v : Option Verdict) →
    AllPass (is_own qs name) (window_edits_by name bounds window v)
own_window qs name bounds window v = by_test (window == window_behind bounds window v)
  where
    new : Edit
    new = edit.SetWindow name (window_behind bounds window v)

    by_test : (t : Bool) → AllPass (is_own qs name) (cond t [] (new ∷ []))
    by_test true = All-nil (Own qs name)
    by_test false = All-cons (Own qs name) new [] (name_itself name) (All-nil (Own qs name))

own_visit : (qs : List Queue) (name : List ℕ) (bounds : Bounds) (k : Carry) (v : Seen) → is_of qs name v.row.serial ≡ true →
    AllPass (is_own qs name) (visit_edits name bounds k v)
own_visit qs name bounds k v h =
    let stops = map (λ (b : Build). edit.StopBuild b.number) (stopped_by k v) in
    let puts = row_edits name k.reports v.row (row_of_visit k v) (verdict_by k v) in
    All-append (Own qs name) (stops ++ puts) (window_edits_by name bounds k.window (verdict_by k v))
    (All-append (Own qs name) stops puts (own_stops qs name (stopped_by k v))
    (own_row qs name k.reports v.row (row_of_visit k v) (verdict_by k v) h))
    (own_window qs name bounds k.window (verdict_by k v))

name_kept : (d : Delivered) (vs : List Seen) → (walk_by d vs).name ≡ (queue_after d).name
name_kept d [] = refl
name_kept d (v ∷ vs) = name_kept d vs

own_walk : (d : Delivered) (qs : List Queue) (name : List ℕ) → (queue_after d).name ≡ name →
    ((v : Seen) → In v (rows_seen d) → is_of qs name v.row.serial ≡ true) → (vs : List Seen) → AreWanted d vs →
    AllPass (is_own qs name) (walk_by d vs).told
own_walk d qs name named of [] w = All-nil (Own qs name)
own_walk d qs name named of (v ∷ vs) w =
    let b = walk_by d vs in
    let there = wanted_in b.carry.gone (next_by d vs) (rows_seen d) v w.0 in
    All-append (Own qs name) b.told (visit_edits b.name b.bounds b.carry v) (own_walk d qs name named of vs w.1)
    (subst (λ n. AllPass (is_own qs name) (visit_edits n b.bounds b.carry v)) (sym (name_kept d vs ∙ named))
    (own_visit qs name b.bounds b.carry v (of v there)))

-- ---- of a delivery under way

after_sound : {c : Settings} {x : Content} {k : TouchedItem} (h : Touching c x k) → IsSound c h.after
after_sound {c = c} {x = x} h =
    raw_step_is_sound c x.state h.delivery h.reply h.after h.sound h.lawful.lawful h.is_accepted

touched_is : {c : Settings} {x : Content} {k : TouchedItem} (h : Touching c x k) →
    touched_by c x.state h.delivery ≡ Some k.queue
touched_is h = (walked (delivered h)).touched ∙ ap Some h.named

queue_left : {c : Settings} {x : Content} {k : TouchedItem} (h : Touching c x k) →
    In (queue_after (delivered h)) h.after.queues
queue_left h = contains_in h.after.queues (queue_after (delivered h)) (walked (delivered h)).there

name_left : {c : Settings} {x : Content} {k : TouchedItem} (h : Touching c x k) →
    (queue_after (delivered h)).name ≡ k.queue
name_left h = (left h).name ∙ h.named

-- the serials of the touched queue's items are its own
own_serial : {c : Settings} {x : Content} {k : TouchedItem} (h : Touching c x k) (j : Item) →
    In j (queue_after (delivered h)).items → is_of h.after.queues k.queue j.serial ≡ true
own_serial {c = c} {k = k} h j m =
    all_to (λ q. same_name q.name k.queue || not (has_serial q.items j.serial)) h.after.queues
    (λ q mq. by_serial q mq (has_serial q.items j.serial) refl)
  where
    or_true : (b : Bool) → b || true ≡ true
    or_true true = refl
    or_true false = refl

    by_serial : (q : Queue) → In q h.after.queues → (b : Bool) → has_serial q.items j.serial ≡ b →
        same_name q.name k.queue || not b ≡ true
    by_serial q mq false e = or_true (same_name q.name k.queue)
    by_serial q mq true e =
        let o = queue_after (delivered h) in
        let own = any_to (λ (i : Item). i.serial == j.serial) o.items j m (eq-eqb j.serial j.serial refl) in
        let same = serials_apart c h.after (after_sound h) j.serial q o mq (queue_left h) e own in
        ap (λ b. b || false) (same_name_of q.name k.queue (ap (λ (z : Queue). z.name) same ∙ name_left h))

seen_own : {c : Settings} {x : Content} {k : TouchedItem} (h : Touching c x k) (v : Seen) →
    In v (rows_seen (delivered h)) → is_of h.after.queues k.queue v.row.serial ≡ true
seen_own {c = c} {x = x} {k = k} h v m =
    let r = from_map (sees h) (stale_rows (delivered h)) v m in
    let j = from_map (row_by_columns (columns_of c x.state)) (queue_after (delivered h)).items r.0
    (subst (In r.0) (left h).rows r.1) in
    subst (λ n. is_of h.after.queues k.queue n ≡ true)
    (ap (λ (y : ItemRow). y.serial) j.2 ∙ ap (λ (y : Seen). y.row.serial) r.2) (own_serial h j.0 j.1)

-- its rows are settled
mine_settled : {c : Settings} {x : Content} {k : TouchedItem} (h : Touching c x k) (w : Walk) → HasWalked h w →
    (let o = queue_after (delivered h) in
    fold_edits (rows_with o (map (row_by_columns (columns_of c x.state)) o.items) h.after.builds) w.told
    ≡ rows_in c (swept c h.after) (swept_of c h.after o))
mine_settled h w done =
    let o = queue_after (delivered h) in
    ap (λ rows. fold_edits (rows_with o rows h.after.builds) w.told) (sym (left h).rows) ∙ done.settled

rows_settled : {c : Settings} {x : Content} {k : TouchedItem} (h : Touching c x k) (w : Walk) → HasWalked h w →
    (q : Queue) → In q h.after.queues → SettlesRows c h.after k.queue (columns_of c x.state) w.told q
rows_settled {c = c} {x = x} {k = k} h w done q m named =
    let o = queue_after (delivered h) in
    let t = h.after in
    let same : o ≡ q = name_alone c t h.sound (after_sound h) o q (queue_left h) m
    (same_name_of o.name q.name (name_left h ∙ sym (same_name_is q.name k.queue named))) in
    subst (λ (z : Queue). fold_edits (rows_with z (map (row_by_columns (columns_of c x.state)) z.items) t.builds) w.told
    ≡ rows_in c (swept c t) (swept_of c t z)) same (mine_settled h w done)

others_settled : {c : Settings} {x : Content} {k : TouchedItem} (h : Touching c x k) (q : Queue) →
    In q h.after.queues → OthersStay c h.after k.queue (columns_of c x.state) q
others_settled {c = c} {x = x} {k = k} h q m apart =
    let t = h.after in
    let o = swept_of c t q in
    others_stay c x.state h.delivery h.reply t h.sound h.lawful.lawful h.is_accepted o
    (to_map (swept_of c t) t.queues q m)
    (ap (λ f. option_map_or (λ name. not (same_name o.name name)) f true) (touched_is h) ∙ ap not apart)

-- ---- the plans

-- whether an item goes in the whole state
abbrev goes_now : Settings → State → ℕ → Bool
goes_now c t = goes (flat_map (judged c (rebase c t)) t.queues)

-- a queue keeps the items that don't go
keeps_stayers : {c : Settings} {x : Content} {k : TouchedItem} (h : Touching c x k) (q : Queue) →
    In q h.after.queues → (swept_of c h.after q).items ≡ staying_items (goes_now c h.after) q.items
keeps_stayers {c = c} h q m =
    let u = rebase c h.after in
    let leaves = goes_now c h.after in
    let sound = rebase_is_sound c h.after (after_sound h) in
    let told = tells_all c u (distinct_from (flat_map serials_of u.queues) sound.serials_differ) in
    keeps_items c u leaves q
    (every (λ (o : Queue). Each (Tells leaves) (judged c u o)) u.queues
    (All-from_recursion (λ (o : Queue). Each (Tells leaves) (judged c u o)) u.queues told) q m)

-- a serial that doesn't stay is of no item that is left
left_serials : (leaves : ℕ → Bool) (n : ℕ) (is : List Item) →
    has_serial (staying_items leaves is) n ≡ (not (leaves n) && has_serial is n)
left_serials leaves n [] = off (not (leaves n))
  where
    off : (b : Bool) → false ≡ (b && false)
    off true = refl
    off false = refl
left_serials leaves n (i ∷ is) =
    by_test (leaves i.serial) refl (i.serial == n) refl (left_serials leaves n is)
  where
    first : (b : Bool) → b ≡ false → true ≡ (not b && true)
    first true e = absurd (true≢false e)
    first false e = refl

    by_test : (t : Bool) → leaves i.serial ≡ t → (u : Bool) → i.serial == n ≡ u →
        has_serial (staying_items leaves is) n ≡ (not (leaves n) && has_serial is n) →
        has_serial (cond (not t) (i ∷ staying_items leaves is) (staying_items leaves is)) n
        ≡ (not (leaves n) && (u || has_serial is n))
    by_test true l true k h =
        let same : leaves n ≡ true = ap leaves (sym (eqb-true i.serial n k)) ∙ l in
        h ∙ ap (λ b. not b && has_serial is n) same ∙ sym (ap (λ b. not b && true) same)
    by_test true l false k h = h
    by_test false l true k h =
        ap (λ b. b || has_serial (staying_items leaves is) n) k
        ∙ first (leaves n) (ap leaves (sym (eqb-true i.serial n k)) ∙ l)
    by_test false l false k h = ap (λ b. b || has_serial (staying_items leaves is) n) k ∙ h

-- where an item stays the whole queue, none goes
none_leaves : (leaves : ℕ → Bool) (n : ℕ) (is : List Item) → is ≡ staying_items leaves is → has_serial is n ≡ true →
    leaves n ≡ false
none_leaves leaves n is e h = by_leaving (leaves n) (sym h ∙ ap (λ l. has_serial l n) e ∙ left_serials leaves n is)
  where
    by_leaving : (t : Bool) → true ≡ (not t && has_serial is n) → t ≡ false
    by_leaving true s = absurd (true≢false s)
    by_leaving false s = refl

-- what goes is of the touched queue
goes_here : {c : Settings} {x : Content} {k : TouchedItem} (h : Touching c x k) (n : ℕ) →
    goes_now c h.after n ≡ true → has_serial (queue_after (delivered h)).items n ≡ true
goes_here {c = c} {x = x} {k = k} h n e =
    let test : Judged → Bool = λ j. is_some j.verdict && j.item.serial == n in
    let j = any_from test (flat_map (judged c (rebase c t)) t.queues) e in
    let q = from_flat (judged c (rebase c t)) t.queues j.0 j.1 in
    let there = by_serial q.0 (any_to test (judged c (rebase c t) q.0) j.0 q.2 j.2) (has_serial q.0.items n) refl in
    by_name q.0 q.1 there (same_name q.0.name k.queue) refl
  where
    t : State
    t = h.after

    by_serial : (q : Queue) → goes (judged c (rebase c t) q) n ≡ true → (b : Bool) → has_serial q.items n ≡ b →
        b ≡ true
    by_serial q g true s = refl
    by_serial q g false s =
        absurd (true≢false (sym g ∙ none_goes_there c (rebase c t) q (rebase c t).builds n [] [] q.items s))

    by_name : (q : Queue) → In q t.queues → has_serial q.items n ≡ true → (b : Bool) → same_name q.name k.queue ≡ b →
        has_serial (queue_after (delivered h)).items n ≡ true
    by_name q m s true named =
        let o = queue_after (delivered h) in
        let same : o ≡ q = name_alone c t h.sound (after_sound h) o q (queue_left h) m
        (same_name_of o.name q.name (name_left h ∙ sym (same_name_is q.name k.queue named))) in
        subst (λ (z : Queue). has_serial z.items n ≡ true) (sym same) s
    by_name q m s false named =
        let alone : swept c t ≡ settle_one k.queue c t =
        only_one_queue_is_touched c x.state h.delivery h.reply t h.lawful.lawful h.is_accepted
        ∙ ap (λ name. settle_touched name c t) (touched_is h) in
        let as_it_is : swept_of c t q ≡ q =
        each_same (swept_of c t) (one_of c t k.queue) t.queues (ap (λ (s : State). s.queues) alone) q m
        ∙ ap (λ b. cond b (swept_queue (bounds_of c q) (judged c (rebase_one k.queue c t) q) q) q) named in
        absurd (true≢false (sym e ∙ none_leaves (goes_now c t) n q.items
        (ap (λ (z : Queue). z.items) (sym as_it_is) ∙ keeps_stayers h q m) s))

-- the serials of a queue's rows are those of its items
rows_serials : (c : Settings) (s : State) (q : Queue) (bs : List Build) (n : ℕ) (ahead is : List Item) →
    is_there n (map (row_of bs) (places_after bs ahead (map (place_of c s q) is))) ≡ has_serial is n
rows_serials c s q bs n ahead [] = refl
rows_serials c s q bs n ahead (i ∷ is) =
    ap (λ b. i.serial == n || b) (rows_serials c s q bs n (next_ahead bs (with_ahead ahead (place_of c s q i))) is)

by_serials : (cols : ℕ → Columns) (n : ℕ) (is : List Item) → is_there n (map (row_by_columns cols) is) ≡ has_serial is n
by_serials cols n [] = refl
by_serials cols n (i ∷ is) = ap (λ b. i.serial == n || b) (by_serials cols n is)

-- the walk drops those items that go
drops_goers : {c : Settings} {x : Content} {k : TouchedItem} (h : Touching c x k) (w : Walk) → HasWalked h w →
    (n : ℕ) → is_dropped w.told n ≡ goes_now c h.after n
drops_goers {c = c} {x = x} {k = k} h w done n =
    by_drop (is_dropped w.told n) refl (goes_now c t n) refl
  where
    t : State
    t = h.after

    o : Queue
    o = queue_after (delivered h)

    start : List ItemRow
    start = map (row_by_columns (columns_of c x.state)) o.items

    told : w.told ≡ (walk_by (delivered h) done.visits).told
    told = ap (λ (y : Walk). y.told) done.visited.is

    -- at the end stand the items that don't go
    at_end : is_there n (fold (edited_items o.name) start w.told) ≡ (not (goes_now c t n) && has_serial o.items n)
    at_end =
        ap (λ (r : Rows). is_there n r.items) (sym (row_parts (rows_with o start t.builds) w.told) ∙ mine_settled h w done)
        ∙ rows_serials c (swept c t) (swept_of c t o) (swept c t).builds n [] (swept_of c t o).items
        ∙ ap (λ l. has_serial l n) (keeps_stayers h o (queue_left h))
        ∙ left_serials (goes_now c t) n o.items

    was_there : is_dropped w.told n ≡ true → has_serial o.items n ≡ true
    was_there d =
        sym (by_serials (columns_of c x.state) n o.items) ∙ ap (is_there n) (sym (left h).rows)
        ∙ drops_seen (delivered h) done.visits n done.visited.were_wanted (ap (λ es. is_dropped es n) (sym told) ∙ d)

    by_drop : (a : Bool) → is_dropped w.told n ≡ a → (b : Bool) → goes_now c t n ≡ b → a ≡ b
    by_drop true d true g = refl
    by_drop false d false g = refl
    by_drop true d false g =
        let out = ap (λ es. is_there n (fold (edited_items o.name) start es)) told
        ∙ drops_are_out (delivered h) o.name done.visits n start done.visited.were_wanted
        (ap (λ es. is_dropped es n) (sym told) ∙ d) in
        absurd (true≢false (sym (at_end ∙ (λ z. not (g z) && was_there d z)) ∙ out))
    by_drop false d true g =
        let here = goes_here h n g in
        let stays = stays_there o.name n w.told start d (by_serials (columns_of c x.state) n o.items ∙ here) in
        absurd (true≢false (sym stays ∙ at_end ∙ ap (λ b. not b && has_serial o.items n) g))

plans_settled : {c : Settings} {x : Content} {k : TouchedItem} (h : Touching c x k) (w : Walk) → HasWalked h w →
    AllPass (is_own h.after.queues k.queue) w.told →
    fold edited_plans h.after.plans w.told ≡ (swept c h.after).plans
plans_settled {k = k} h w done own =
    plans_left h.after.queues k.queue w.told h.after.plans own
    ∙ (λ z. without_plans (λ n. drops_goers h w done n z) h.after.plans)

pub settles_one : {c : Settings} {x : Content} {k : TouchedItem} (h : Touching c x k) (w : Walk) → HasWalked h w →
    SettlesOne c x h.after k.queue w.told
settles_one {c = c} {x = x} {k = k} h w done =
    let t = h.after in
    let o = queue_after (delivered h) in
    let start = rows_with o (map (row_by_columns (columns_of c x.state)) o.items) t.builds in
    let own : AllPass (is_own t.queues k.queue) w.told =
    subst (λ (b : Walk). AllPass (is_own t.queues k.queue) b.told) (sym done.visited.is)
    (own_walk (delivered h) t.queues k.queue (name_left h) (seen_own h) done.visits done.visited.were_wanted) in
    record {
      alone = only_one_queue_is_touched c x.state h.delivery h.reply t h.lawful.lawful h.is_accepted
          ∙ ap (λ n. settle_touched n c t) (touched_is h);
      own = own;
      rows = rows_settled h w done;
      others = others_settled h;
      plans = plans_settled h w done own;
      builds = ap (λ n. fold (edited_builds n) t.builds w.told) (sym (name_left h))
          ∙ ap (λ (r : Rows). r.builds) (sym (row_parts start w.told) ∙ mine_settled h w done);
    }
