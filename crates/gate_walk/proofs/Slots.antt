-- The slots of an item by its live builds alone: they count, or after a change of its line none does.
use Rattle.std.proofs.Common.{◌≡◌, ℕ, Bool, true, false, not, ◌&&◌, ◌||◌, cond, List, [], ◌∷◌, ◌++◌, map, refl, sym}
use Rattle.std.proofs.Common.{ap, ◌∙◌, true≢false}
use Rattle.std.specs.Prelude.{filter, ◌==◌, nat_lt}
use Rattle.std.specs.List.{list_any, list_all}
use Rattle.std.proofs.lemmas.Bool.{and_parts, or_parts, and_from, eqb-true}
use Rattle.std.proofs.lemmas.List.Folds.{list_any-append}
use Rattle.gate_types.specs.declared.config.Job.{Job}
use Rattle.gate_types.specs.declared.records.Build.{Build}
use Rattle.gate_types.specs.declared.records.Entry.{Entry}
use Rattle.gate_types.specs.declared.records.Landing.{Landing}
use Rattle.gate_types.specs.Names.{same_name}
use Rattle.gate_types.specs.State.{Item, has_change}
use Rattle.gate_types.specs.Line.{Place, same_entries, line, ran_on, landings_below, landed_entry, item_entry}
use Rattle.gate_types.specs.Slot.{is_blocked, is_running, counts, is_cut, is_wanted, outcomes_of}
use Rattle.gate_queue_rules.specs.Outcomes.{outcomes_among}

-- a live build of the item
abbrev pub is_live_of : Place → Build → Bool
is_live_of p b = b.live && b.serial == p.item.serial

-- the live builds of the item
abbrev pub live_of : List Build → Place → List Build
live_of bs p = filter (is_live_of p) bs

-- each of them counts
abbrev pub all_count : List Build → Place → Bool
all_count bs p = list_all (λ b. not (is_live_of p b) || counts p b) bs

-- each of them has ended
abbrev pub all_ended : List Build → Place → Bool
all_ended bs p = list_all (λ b. not (is_live_of p b) || not (is_running b.outcome)) bs

-- where the item is cut, each of them has
abbrev pub EndedIfCut : List Build → Place → Type 0
EndedIfCut bs p = is_cut bs p ≡ true → all_ended bs p ≡ true

-- where each of them is wanted, each counts
pub wanted_all_count : (cs bs : List Build) (p : Place) → list_all (λ b. not (is_live_of p b) || is_wanted cs p b) bs ≡ true →
    all_count bs p ≡ true
wanted_all_count cs [] p h = refl
wanted_all_count cs (b ∷ bs) p h =
    let both = and_parts (not (is_live_of p b) || is_wanted cs p b) (list_all (λ x. not (is_live_of p x) || is_wanted cs p x) bs) h in
    and_from (not (is_live_of p b) || counts p b) (all_count bs p) (less (is_live_of p b) (counts p b) (not (is_running b.outcome && is_cut cs p)) both.0)
    (wanted_all_count cs bs p both.1)
  where
    less : (l x y : Bool) → not l || x && y ≡ true → not l || x ≡ true
    less false x y k = refl
    less true true y k = refl
    less true false y k = k

-- and where the item is cut, each has ended
pub wanted_all_ended : (cs bs : List Build) (p : Place) → list_all (λ b. not (is_live_of p b) || is_wanted cs p b) bs ≡ true →
    is_cut cs p ≡ true → all_ended bs p ≡ true
wanted_all_ended cs [] p h u = refl
wanted_all_ended cs (b ∷ bs) p h u =
    let both = and_parts (not (is_live_of p b) || is_wanted cs p b) (list_all (λ x. not (is_live_of p x) || is_wanted cs p x) bs) h in
    and_from (not (is_live_of p b) || not (is_running b.outcome)) (all_ended bs p)
    (ends (is_live_of p b) (counts p b) (is_running b.outcome) (ap (λ t. not (is_live_of p b) || counts p b && not (is_running b.outcome && t)) (sym u) ∙ both.0))
    (wanted_all_ended cs bs p both.1 u)
  where
    ends : (l x r : Bool) → not l || x && not (r && true) ≡ true → not l || not r ≡ true
    ends false x r k = refl
    ends true x false k = refl
    ends true true true k = k
    ends true false true k = k

pub count_all : (l s n q : Bool) → not (l && s) || l && s && n && q ≡ true → l && s && n && q ≡ (l && s)
count_all true true n q h = h
count_all true false n q h = refl
count_all false s n q h = refl

among : (b : Build) (job : Job) (x : Bool) (f g : List Build) → map (λ (c : Build). c.outcome) f ≡ outcomes_among g job →
    map (λ (c : Build). c.outcome) (cond (same_name b.job job.name && x) (b ∷ f) f) ≡ outcomes_among (cond x (b ∷ g) g) job
among b job false f g h = off (same_name b.job job.name)
  where
    off : (s : Bool) → map (λ (c : Build). c.outcome) (cond (s && false) (b ∷ f) f) ≡ outcomes_among g job
    off true = h
    off false = h
among b job true f g h = on (same_name b.job job.name)
  where
    on : (s : Bool) → map (λ (c : Build). c.outcome) (cond (s && true) (b ∷ f) f) ≡ map (λ (c : Build). c.outcome) (cond s (b ∷ filter (λ c. same_name c.job job.name) g) (filter (λ c. same_name c.job job.name) g))
    on true = λ k. b.outcome ∷ h k
    on false = h

-- where all live builds count, they are what a job's outcomes are read from
pub outcomes_live : (bs : List Build) (p : Place) (job : Job) → all_count bs p ≡ true → outcomes_of bs p job ≡ outcomes_among (live_of bs p) job
outcomes_live [] p job h = refl
outcomes_live (b ∷ bs) p job h =
    let both = and_parts (not (is_live_of p b) || counts p b) (all_count bs p) h in
    let same = count_all b.live (b.serial == p.item.serial) (not (is_blocked p)) (same_entries (ran_on p.landings b) (line p)) both.0 in
    (λ k. map (λ (c : Build). c.outcome) (cond (same_name b.job job.name && same k) (b ∷ filter (λ c. same_name c.job job.name && counts p c) bs) (filter (λ c. same_name c.job job.name && counts p c) bs)))
    ∙ among b job (is_live_of p b) (filter (λ c. same_name c.job job.name && counts p c) bs) (live_of bs p) (outcomes_live bs p job both.1)

-- ---- changes in a line

-- one of these entries is of the change
abbrev names : List Entry → ℕ → Bool
names es n = list_any (λ e. e.change == n) es

same_names : (xs ys : List Entry) (n : ℕ) → same_entries xs ys ≡ true → names xs n ≡ names ys n
same_names [] [] n h = refl
same_names [] (y ∷ ys) n h = absurd (true≢false (sym h))
same_names (x ∷ xs) [] n h = absurd (true≢false (sym h))
same_names (x ∷ xs) (y ∷ ys) n h =
    let all = and_parts (x.change == y.change && x.revision == y.revision) (same_entries xs ys) h in
    let own = and_parts (x.change == y.change) (x.revision == y.revision) all.0 in
    λ k. (eqb-true x.change y.change own.0 k) == n || same_names xs ys n all.1 k

names_landed : (ls : List Landing) (n : ℕ) → names (map landed_entry ls) n ≡ list_any (λ l. l.change == n) ls
names_landed [] n = refl
names_landed (l ∷ ls) n = ap (λ t. l.change == n || t) (names_landed ls n)

names_items : (is : List Item) (n : ℕ) → names (map item_entry is) n ≡ has_change is n
names_items [] n = refl
names_items (i ∷ is) n = ap (λ t. i.change == n || t) (names_items is n)

-- the line names the changes landed below, those ahead, and its own
names_line : (p : Place) (n : ℕ) → names (line p) n ≡ (list_any (λ l. l.change == n) (landings_below p) || (has_change p.ahead n || (p.item.change == n || false)))
names_line p n =
    list_any-append (λ (e : Entry). e.change == n) (map landed_entry (landings_below p)) (map item_entry p.ahead ++ item_entry p.item ∷ [])
    ∙ (λ k. names_landed (landings_below p) n k || list_any-append (λ (e : Entry). e.change == n) (map item_entry p.ahead) (item_entry p.item ∷ []) k)
    ∙ (λ k. list_any (λ l. l.change == n) (landings_below p) || (names_items p.ahead n k || (p.item.change == n || false)))

none_below : (ls : List Landing) (test : Landing → Bool) (n : ℕ) → list_any (λ l. l.change == n) ls ≡ false → list_any (λ l. l.change == n) (filter test ls) ≡ false
none_below [] test n h = refl
none_below (l ∷ ls) test n h =
    let both = or_parts (l.change == n) (list_any (λ x. x.change == n) ls) h in
    by_test both.0 (none_below ls test n both.1) (test l)
  where
    by_test : (l.change == n) ≡ false → list_any (λ x. x.change == n) (filter test ls) ≡ false → (t : Bool) → list_any (λ x. x.change == n) (cond t (l ∷ filter test ls) (filter test ls)) ≡ false
    by_test e r true = ap (λ t. t || list_any (λ x. x.change == n) (filter test ls)) e ∙ r
    by_test e r false = r

-- a change is in the line before it and not in the one after it
pub record Lost (n : ℕ) (old new : Place) : Type 0 where
  pub was_ahead : has_change old.ahead n ≡ true
  pub is_not_ahead : has_change new.ahead n ≡ false
  pub not_itself : (new.item.change == n) ≡ false
  pub not_landed : list_any (λ l. l.change == n) new.landings ≡ false
  pub same_item : old.item.serial ≡ new.item.serial
  pub same_landings : old.landings ≡ new.landings

named_old : (a x b : Bool) → x ≡ true → a || (x || b) ≡ true
named_old true x b h = refl
named_old false true b h = refl
named_old false false b h = absurd (true≢false (sym h))

not_both : (n : ℕ) (old new : Place) → Lost n old new → (b : Build) → same_entries (ran_on old.landings b) (line old) ≡ true → same_entries (ran_on new.landings b) (line new) ≡ true → ⊥
not_both n old new g b ho hn =
    let was : names (line old) n ≡ true =
    names_line old n ∙ named_old (list_any (λ l. l.change == n) (landings_below old)) (has_change old.ahead n) (old.item.change == n || false) g.was_ahead in
    let is : names (line new) n ≡ false =
    names_line new n
    ∙ (λ k. none_below new.landings (λ l. nat_lt l.serial new.item.serial) n g.not_landed k || (g.is_not_ahead k || (g.not_itself k || false))) in
    true≢false
    (sym was ∙ sym (same_names (ran_on old.landings b) (line old) n ho) ∙ ap (λ ls. names (ran_on ls b) n) g.same_landings ∙ same_names (ran_on new.landings b) (line new) n hn ∙ is)

-- so no build counts that counted before
pub counts_no_more : (bs : List Build) (n : ℕ) (old new : Place) (b : Build) → Lost n old new → not (is_live_of old b) || counts old b ≡ true → counts new b ≡ false
counts_no_more bs n old new b g h = by_both (counts new b) refl
  where
    four : (l s x y : Bool) → l && s && x && y ≡ true → (l ≡ true) × (s ≡ true) × (y ≡ true)
    four true true true true e = (refl, refl, refl)
    four true true true false e = absurd (true≢false (sym e))
    four true true false y e = absurd (true≢false (sym e))
    four true false x y e = absurd (true≢false (sym e))
    four false s x y e = absurd (true≢false (sym e))

    by_both : (t : Bool) → counts new b ≡ t → t ≡ false
    by_both false e = refl
    by_both true e =
        let now = four b.live (b.serial == new.item.serial) (not (is_blocked new)) (same_entries (ran_on new.landings b) (line new)) e in
        let serial : (b.serial == old.item.serial) ≡ true = ap (λ m. b.serial == m) g.same_item ∙ now.1 in
        let counted : counts old b ≡ true = ap (λ t. not t || counts old b) (sym (and_from b.live (b.serial == old.item.serial) now.0 serial)) ∙ h in
        let before = four b.live (b.serial == old.item.serial) (not (is_blocked old)) (same_entries (ran_on old.landings b) (line old)) counted in
        absurd (not_both n old new g b before.2 now.2)

pub none_counts : (bs : List Build) (n : ℕ) (old new : Place) → Lost n old new → all_count bs old ≡ true → (job : Job) → outcomes_of bs new job ≡ []
none_counts [] n old new g h job = refl
none_counts (b ∷ bs) n old new g h job =
    let both = and_parts (not (is_live_of old b) || counts old b) (all_count bs old) h in
    off (same_name b.job job.name) (counts_no_more bs n old new b g both.0)
    ∙ none_counts bs n old new g both.1 job
  where
    off : (s : Bool) → counts new b ≡ false → map (λ (c : Build). c.outcome) (cond (s && counts new b) (b ∷ filter (λ c. same_name c.job job.name && counts new c) bs) (filter (λ c. same_name c.job job.name && counts new c) bs)) ≡ outcomes_of bs new job
    off true e = ap (λ t. map (λ (c : Build). c.outcome) (cond t (b ∷ filter (λ c. same_name c.job job.name && counts new c) bs) (filter (λ c. same_name c.job job.name && counts new c) bs))) e
    off false e = refl
