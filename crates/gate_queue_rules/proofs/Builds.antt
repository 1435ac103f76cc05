-- The fold of a queue's edits over its builds.
use Rattle.std.proofs.Common.{◌≡◌, ℕ, suc, ◌<◌, ◌≤◌, Bool, true, false, not, ◌&&◌, ◌||◌, cond, Option, Some, None}
use Rattle.std.proofs.Common.{is_some, List, [], ◌∷◌, ◌++◌, map, fold, refl, sym, ap, ◌∙◌, subst, arith, ◌⊎◌, inl}
use Rattle.std.proofs.Common.{inr, ⊎_elim}
use Rattle.std.specs.Prelude.{filter, ◌==◌, ◌≢◌}
use Rattle.std.specs.List.{list_any}
use Rattle.std.proofs.lemmas.List.Sums.{fold-append}
use Rattle.std.proofs.lemmas.Bool.{eq-eqb, ne_eqb}
use Rattle.std.proofs.lemmas.Bool.Decides.{eqb_tells}
use Rattle.gate_types.specs.declared.records.Item.{Item as ItemRow}
use Rattle.gate_types.specs.declared.records.Build.{Build}
use Rattle.gate_types.specs.declared.records.Verdict.{Verdict}
use Rattle.gate_types.specs.declared.edits.Edit.{Edit}
use Rattle.gate_types.specs.declared.edits.Edit.TheVariants as edit
use Rattle.gate_types.specs.State.{Item}
use Rattle.gate_types.specs.Line.{Place, same_entries, line, ran_on}
use Rattle.gate_types.specs.Slot.{is_blocked, is_running, is_cut, is_wanted}
use Rattle.gate_types.specs.Rebase.{with_live, stays_live}
use Rattle.gate_types.specs.Sweep.{judge, judged_after, verdict_of, next_staying, goes, without_runs}
use Rattle.gate_types.specs.Rows.{row_of, edited_builds, change_build}
use Rattle.gate_types.specs.Rising.{RisesFrom}
use Rattle.gate_types.proofs.PlainLemmas.{or_false}
use Rattle.gate_queue_rules.specs.Edits.{stops, stop_edits, item_edits, edits_at, next_reports}
use Rattle.gate_queue_rules.proofs.Ordered.{build_number}
use Rattle.gate_queue_rules.proofs.Folds.{edits_along}
use Rattle.gate_laws.proofs.LiveBuildsCount.{place_serial}

abbrev stopped : Build → Build
stopped b = with_live false b

abbrev pub stop_if : (Build → Bool) → Build → Build
stop_if test b = cond (test b) (stopped b) b

cond_same : {X : Type 0} (t : Bool) (x : X) → cond t x x ≡ x
cond_same true x = refl
cond_same false x = refl

pub or_assoc : (x y z : Bool) → (x || y) || z ≡ x || (y || z)
or_assoc true y z = refl
or_assoc false y z = refl

again : (t : Bool) (b : Build) (n : ℕ) → cond ((cond t (stopped b) b).number == n) (stopped (cond t (stopped b) b)) (cond t (stopped b) b) ≡ cond (t || b.number == n) (stopped b) b
again true b n = cond_same (b.number == n) (stopped b)
again false b n = refl

map_again : (bs : List Build) (test : Build → Bool) (n : ℕ) → change_build n (with_live false) (map (stop_if test) bs) ≡ map (stop_if (λ b. test b || b.number == n)) bs
map_again [] test n = refl
map_again (b ∷ bs) test n = λ k. again (test b) b n k ∷ map_again bs test n k

-- builds stopped one after another
stopped_all : (name : List ℕ) (bs cs : List Build) (test : Build → Bool) → fold (edited_builds name) (map (stop_if test) bs) (map (λ b. edit.StopBuild b.number) cs) ≡ map (stop_if (λ b. test b || list_any (λ c. b.number == c.number) cs)) bs
stopped_all name bs [] test = λ k. map (stop_if (λ b. sym (or_false (test b)) k)) bs
stopped_all name bs (c ∷ cs) test =
    ap (λ l. fold (edited_builds name) l (map (λ (b : Build). edit.StopBuild b.number) cs)) (map_again bs test c.number)
    ∙ stopped_all name bs cs (λ b. test b || b.number == c.number)
    ∙ (λ k. map (stop_if (λ b. or_assoc (test b) (b.number == c.number) (list_any (λ x. b.number == x.number) cs) k)) bs)

abbrev Has : List Build → Build → Type 0
Has [] b = ⊥
Has (x ∷ xs) b = (x ≡ b) ⊎ Has xs b

map_same : (f g : Build → Build) (bs : List Build) → ((b : Build) → Has bs b → f b ≡ g b) → map f bs ≡ map g bs
map_same f g [] h = refl
map_same f g (b ∷ bs) h = λ k. h b (inl refl) k ∷ map_same f g bs (λ x m. h x (inr m)) k

any_none : (m n : ℕ) (test : Build → Bool) (bs : List Build) → m < n → RisesFrom build_number n bs → list_any (λ c. m == c.number) (filter test bs) ≡ false
any_none m n test [] l r = refl
any_none m n test (b ∷ bs) l r = let from : n ≤ b.number = r.0 in by_test (omega arith) (any_none m (suc b.number) test bs (omega arith) r.1) (test b)
  where
    by_test : m < b.number → list_any (λ c. m == c.number) (filter test bs) ≡ false → (t : Bool) → list_any (λ c. m == c.number) (cond t (b ∷ filter test bs) (filter test bs)) ≡ false
    by_test below rest true = ap (λ x. x || list_any (λ c. m == c.number) (filter test bs)) (ne_eqb m b.number (λ e. omega (arith, e))) ∙ rest
    by_test below rest false = rest

has_above : (n : ℕ) (bs : List Build) (b : Build) → RisesFrom build_number n bs → Has bs b → n ≤ b.number
has_above n [] b r m = absurd m
has_above n (x ∷ xs) b r m =
    ⊎_elim (λ (e : x ≡ b). subst (λ (y : Build). n ≤ y.number) e r.0)
    (λ (h : Has xs b). let i : suc x.number ≤ b.number = has_above (suc x.number) xs b r.1 h in let j : n ≤ x.number = r.0 in omega arith) m

-- a build's number is that of a selected build just where it is selected
any_of : (n : ℕ) (test : Build → Bool) (bs : List Build) (b : Build) → RisesFrom build_number n bs → Has bs b → list_any (λ c. b.number == c.number) (filter test bs) ≡ test b
any_of n test [] b r m = absurd m
any_of n test (x ∷ xs) b r m = ⊎_elim here (λ (h : Has xs b). there_at (has_above (suc x.number) xs b r.1 h) (any_of (suc x.number) test xs b r.1 h) (test x)) m
  where
    here_at : (t : Bool) → list_any (λ c. x.number == c.number) (cond t (x ∷ filter test xs) (filter test xs)) ≡ t
    here_at true = ap (λ y. y || list_any (λ c. x.number == c.number) (filter test xs)) (eq-eqb x.number x.number refl)
    here_at false = any_none x.number (suc x.number) test xs (omega arith) r.1

    here : x ≡ b → list_any (λ c. b.number == c.number) (filter test (x ∷ xs)) ≡ test b
    here e = subst (λ (y : Build). list_any (λ c. y.number == c.number) (filter test (x ∷ xs)) ≡ test y) e (here_at (test x))

    there_at : suc x.number ≤ b.number → list_any (λ c. b.number == c.number) (filter test xs) ≡ test b → (t : Bool) → list_any (λ c. b.number == c.number) (cond t (x ∷ filter test xs) (filter test xs)) ≡ test b
    there_at above rest true = ap (λ y. y || list_any (λ c. b.number == c.number) (filter test xs)) (ne_eqb b.number x.number (λ e. omega (arith, e))) ∙ rest
    there_at above rest false = rest

own_leave : (name : List ℕ) (n : ℕ) (i : ItemRow) (v : Option Verdict) (bs : List Build) → fold (edited_builds name) bs (item_edits name n i v) ≡ bs
own_leave name n i None bs = refl
own_leave name n i (Some v) bs = refl

-- the builds that one item stops
abbrev stops_at : List Build → List Item → Place → Build → Bool
stops_at bs staying p = stops p (is_some (verdict_of bs staying p) || is_cut bs p)

-- those that some item stops
abbrev pub stops_along : List Build → List Item → List Place → Build → Bool
stops_along bs staying [] b = false
stops_along bs staying (p ∷ ps) b = stops_at bs staying p b || stops_along bs (next_staying staying (judge bs staying p)) ps b

builds_step : (name : List ℕ) (bs : List Build) (n : ℕ) (staying : List Item) (p : Place) (test : Build → Bool) (rest : List Edit) → RisesFrom build_number 0 bs →
    fold (edited_builds name) (map (stop_if test) bs) (edits_at name bs n staying p ++ rest) ≡ fold (edited_builds name) (map (stop_if (λ b. test b || stops_at bs staying p b)) bs) rest
builds_step name bs n staying p test rest r =
    let f = edited_builds name in
    let stop = stop_edits bs p (is_some (verdict_of bs staying p) || is_cut bs p) in
    let own = item_edits name n (row_of bs p) (verdict_of bs staying p) in
    fold-append f (map (stop_if test) bs) (stop ++ own) rest
    ∙ ap (λ l. fold f l rest)
    (fold-append f (map (stop_if test) bs) stop own
    ∙ own_leave name n (row_of bs p) (verdict_of bs staying p) (fold f (map (stop_if test) bs) stop)
    ∙ stopped_all name bs (filter (stops_at bs staying p) bs) test
    ∙ map_same (stop_if (λ b. test b || list_any (λ c. b.number == c.number) (filter (stops_at bs staying p) bs))) (stop_if (λ b. test b || stops_at bs staying p b)) bs
    (λ b m. ap (λ t. cond (test b || t) (stopped b) b) (any_of 0 (stops_at bs staying p) bs b r m)))

-- each build that some item stops, and no other, is stopped
builds_along : (name : List ℕ) (bs : List Build) (n : ℕ) (staying : List Item) (ps : List Place) (test : Build → Bool) → RisesFrom build_number 0 bs →
    fold (edited_builds name) (map (stop_if test) bs) (edits_along name bs n staying ps) ≡ map (stop_if (λ b. test b || stops_along bs staying ps b)) bs
builds_along name bs n staying [] test r = λ k. map (stop_if (λ b. sym (or_false (test b)) k)) bs
builds_along name bs n staying (p ∷ ps) test r =
    let next = next_staying staying (judge bs staying p) in
    let m = next_reports n (verdict_of bs staying p) in
    builds_step name bs n staying p test (edits_along name bs m next ps) r
    ∙ builds_along name bs m next ps (λ b. test b || stops_at bs staying p b) r
    ∙ (λ k. map (stop_if (λ b. or_assoc (test b) (stops_at bs staying p b) (stops_along bs next ps b) k)) bs)

-- ---- where a build stays live

stop_live : (a l : Bool) (b : Build) → cond a (with_live false b) (with_live l b) ≡ with_live (l && not a) b
stop_live true true b = refl
stop_live true false b = refl
stop_live false true b = refl
stop_live false false b = refl

abbrev left : Bool → Bool → Bool → Bool → Bool → Bool → Bool → Bool → Bool
left l x nb sm g u r a = l && not (l && x && (not (l && x && nb && sm) || (g || u) && r) || a)

abbrev right : Bool → Bool → Bool → Bool → Bool → Bool → Bool → Bool → Bool → Bool → Bool → Bool
right l x y nb sm g u r q c v = l && (not (y || q) || ((l && x && nb && sm) && not (r && u) || c)) && not (r && (g && y || v))

mine : (l nb sm g u r : Bool) → left l true nb sm g u r false ≡ right l true true nb sm g u r false false false
mine false nb sm g u r = refl
mine true false sm g u r = refl
mine true true false g u r = refl
mine true true true false false true = refl
mine true true true false true true = refl
mine true true true false false false = refl
mine true true true false true false = refl
mine true true true true false true = refl
mine true true true true true true = refl
mine true true true true false false = refl
mine true true true true true false = refl

other : (l nb sm g u r a q c v : Bool) → l && not a ≡ (l && (not q || c) && not (r && v)) → left l false nb sm g u r a ≡ right l false false nb sm g u r q c v
other false nb sm g u r a q c v h = refl
other true nb sm true u r a q c v h = h
other true nb sm false u r a q c v h = h

x_off : (l z : Bool) → l && false && z ≡ false
x_off true z = refl
x_off false z = refl

c_off : (l nb sm z : Bool) → (l && false && nb && sm) && z ≡ false
c_off true nb sm z = refl
c_off false nb sm z = refl

v_off : (g : Bool) → g && false ≡ false
v_off true = refl
v_off false = refl

abbrev is_of : List Place → Build → Bool
is_of ps b = list_any (λ p. p.item.serial == b.serial) ps

abbrev wanted_at : List Build → List Place → Build → Bool
wanted_at bs ps b = list_any (λ p. is_wanted bs p b) ps

-- a build of a lower serial than all these places have
record Aside (bs : List Build) (staying : List Item) (ps : List Place) (b : Build) : Type 0 where
  stopping : stops_along bs staying ps b ≡ false
  queued : is_of ps b ≡ false
  counting : wanted_at bs ps b ≡ false
  leaving : goes (judged_after bs staying ps) b.serial ≡ false

aside : (bs : List Build) (b : Build) (n : ℕ) (staying : List Item) (ps : List Place) → b.serial < n → RisesFrom place_serial n ps → Aside bs staying ps b
aside bs b n staying [] l r = record { stopping = refl; queued = refl; counting = refl; leaving = refl }
aside bs b n staying (p ∷ ps) l r =
    let from : n ≤ p.item.serial = r.0 in
    let x : b.serial == p.item.serial ≡ false = ne_eqb b.serial p.item.serial (λ s. omega (arith, s)) in
    let y : p.item.serial == b.serial ≡ false = ne_eqb p.item.serial b.serial (λ s. omega (arith, s)) in
    let next = next_staying staying (judge bs staying p) in
    let t = aside bs b (suc p.item.serial) next ps (omega arith) r.1 in
    let nb = not (is_blocked p) in
    let sm = same_entries (ran_on p.landings b) (line p) in
    let g = is_some (verdict_of bs staying p) in
    let u = is_cut bs p in
    record {
      stopping = ap (λ z. b.live && z && (not (b.live && z && nb && sm) || (g || u) && is_running b.outcome) || stops_along bs next ps b) x
          ∙ ap (λ z. z || stops_along bs next ps b) (x_off b.live (not (b.live && false && nb && sm) || (g || u) && is_running b.outcome))
          ∙ t.stopping;
      queued = ap (λ z. z || is_of ps b) y ∙ t.queued;
      counting = ap (λ z. (b.live && z && nb && sm) && not (is_running b.outcome && u) || wanted_at bs ps b) x
          ∙ ap (λ z. z || wanted_at bs ps b) (c_off b.live nb sm (not (is_running b.outcome && u))) ∙ t.counting;
      leaving = ap (λ z. g && z || goes (judged_after bs next ps) b.serial) y ∙ ap (λ z. z || goes (judged_after bs next ps) b.serial) (v_off g) ∙ t.leaving;
    }

-- a build stays live just where it does after a rebase and a sweep
lives : (bs : List Build) (b : Build) (n : ℕ) (staying : List Item) (ps : List Place) → RisesFrom place_serial n ps →
    b.live && not (stops_along bs staying ps b) ≡ (b.live && (not (is_of ps b) || wanted_at bs ps b) && not (is_running b.outcome && goes (judged_after bs staying ps) b.serial))
lives bs b n staying [] r = none b.live (is_running b.outcome)
  where
    none : (l r : Bool) → l && true ≡ (l && true && not (r && false))
    none true true = refl
    none true false = refl
    none false r = refl
lives bs b n staying (p ∷ ps) r =
    let next = next_staying staying (judge bs staying p) in
    let nb = not (is_blocked p) in
    let sm = same_entries (ran_on p.landings b) (line p) in
    let g = is_some (verdict_of bs staying p) in
    let u = is_cut bs p in
    let run = is_running b.outcome in
    ⊎_elim
    (λ (t : (b.serial == p.item.serial ≡ true) × (b.serial ≡ p.item.serial)).
    let same : b.serial ≡ p.item.serial = t.1 in
    let o = aside bs b (suc p.item.serial) next ps (omega arith) r.1 in
    let y : p.item.serial == b.serial ≡ true = eq-eqb p.item.serial b.serial (sym same) in
    (λ k. left b.live (t.0 k) nb sm g u run (o.stopping k)) ∙ mine b.live nb sm g u run ∙ sym (λ k. right b.live (t.0 k) (y k) nb sm g u run (o.queued k) (o.counting k) (o.leaving k)))
    (λ (t : (b.serial == p.item.serial ≡ false) × (b.serial ≢ p.item.serial)).
    let y : p.item.serial == b.serial ≡ false = ne_eqb p.item.serial b.serial (λ s. t.1 (sym s)) in
    let h = lives bs b (suc p.item.serial) next ps r.1 in
    (λ k. left b.live (t.0 k) nb sm g u run (stops_along bs next ps b)) ∙ other b.live nb sm g u run (stops_along bs next ps b) (is_of ps b) (wanted_at bs ps b) (goes (judged_after bs next ps) b.serial) h ∙ sym (λ k. right b.live (t.0 k) (y k) nb sm g u run (is_of ps b) (wanted_at bs ps b) (goes (judged_after bs next ps) b.serial)))
    (eqb_tells b.serial p.item.serial)

builds_are : (bs cs : List Build) (ps : List Place) → RisesFrom place_serial 0 ps →
    map (stop_if (λ b. false || stops_along bs [] ps b)) cs ≡ without_runs (goes (judged_after bs [] ps)) (map (λ b. with_live (b.live && stays_live bs ps b) b) cs)
builds_are bs [] ps r = refl
builds_are bs (b ∷ cs) ps r = λ k. (stop_live (stops_along bs [] ps b) b.live b ∙ ap (λ l. with_live l b) (lives bs b 0 [] ps r)) k ∷ builds_are bs cs ps r k

unstopped : (cs : List Build) → map (stop_if (λ b. false)) cs ≡ cs
unstopped [] = refl
unstopped (c ∷ cs) = ap (λ l. c ∷ l) (unstopped cs)

-- the builds are those of a rebase and then a sweep
pub builds_fold : (name : List ℕ) (bs : List Build) (n : ℕ) (ps : List Place) → RisesFrom build_number 0 bs → RisesFrom place_serial 0 ps →
    fold (edited_builds name) bs (edits_along name bs n [] ps) ≡ without_runs (goes (judged_after bs [] ps)) (map (λ b. with_live (b.live && stays_live bs ps b) b) bs)
builds_fold name bs n ps r s =
    ap (λ (l : List Build). fold (edited_builds name) l (edits_along name bs n [] ps)) (sym (unstopped bs))
    ∙ builds_along name bs n [] ps (λ b. false) r
    ∙ builds_are bs bs ps s
