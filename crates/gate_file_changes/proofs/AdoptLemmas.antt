-- Tables that stand for a content, rewritten for other settings, stand for the content that these adopt.
use Rattle.std.proofs.Common.{◌≡◌, ◌<◌, ◌+◌, ℕ, zero, suc, Bool, true, false, ◌&&◌, ◌||◌, cond, Option, Some, None}
use Rattle.std.proofs.Common.{List, [], ◌∷◌, ◌++◌, arith, get_or, length, map, take, refl, sym, ap, ◌∙◌, subst}
use Rattle.std.proofs.Common.{true≢false}
use Rattle.std.specs.Prelude.{IsPermutation, find, option_map}
use Rattle.std.specs.List.{list_any, list_all}
use Rattle.std.specs.Option.{option_map_or}
use Rattle.std.proofs.lemmas.Bool.{and_parts}
use Rattle.sqlite.specs.Tree.{Trees}
use Rattle.sqlite_keyed.proofs.ListLemmas.{map-map}
use Rattle.gate_types.specs.Adopt.{may_adopt, adopted_content}
use Rattle.gate_types.specs.AdoptedTables.{adopted_rows, adopted_window, empty_rows, resized_rows}
use Rattle.gate_types.specs.Names.{same_name}
use Rattle.gate_types.specs.Once.{Content}
use Rattle.gate_types.specs.Settings.{Settings, has_queue}
use Rattle.gate_types.specs.State.{Queue}
use Rattle.gate_types.specs.SettingsText.{settings_text}
use Rattle.gate_types.specs.Tables.{QueueRows, tables}
use Rattle.gate_types.specs.declared.config.Queue.{Queue as QueueSetting}
use Rattle.gate_types.proofs.AdoptedLemmas.{tables_adopted}
use Rattle.gate_types.proofs.NameLemmas.{same_name_is}
use Rattle.gate_rows.specs.Matches.{StandsFor, Matches, of_queue, placed}
use Rattle.gate_schema.specs.Rows.{QueueRow, Stands, Stored}
use Rattle.gate_file_changes.specs.Adopts.{CanAdopt, resized_setting, rewritten, window_in}
use Rattle.gate_file_changes.specs.Making.{first_queue_rows}

-- ---- names

some_is : {X : Type 0} (x y : X) → Some x ≡ Some y → x ≡ y
some_is x y e = cc

-- what is found passes
found_passes : {X : Type 0} (p : X → Bool) (xs : List X) (y : X) → find p xs ≡ Some y → p y ≡ true
found_passes p [] y e = absurd cc
found_passes {X} p (x ∷ xs) y e = by_test (p x) refl (found_passes p xs y) e
  where
    by_test : (b : Bool) → p x ≡ b → (find p xs ≡ Some y → p y ≡ true) → cond b (Some x) (find p xs) ≡ Some y → p y ≡ true
    by_test true h more f = subst (λ z. p z ≡ true) (some_is x y f) h
    by_test false h more f = more f

-- where nothing is found, nothing passes
none_passes : {X : Type 0} (p : X → Bool) (xs : List X) → list_any p xs ≡ false → find p xs ≡ None
none_passes p [] e = refl
none_passes {X} p (x ∷ xs) e = by_test (p x) (none_passes p xs) e
  where
    by_test : (b : Bool) → (list_any p xs ≡ false → find p xs ≡ None) → (b || list_any p xs) ≡ false → cond b (Some x) (find p xs) ≡ None
    by_test true more f = absurd (true≢false f)
    by_test false more f = more f

-- the names of things
any_named : {X : Type 0} (f : X → List ℕ) (name : List ℕ) (xs : List X) → list_any (λ x. same_name (f x) name) xs ≡ list_any (λ m. same_name m name) (map f xs)
any_named f name [] = refl
any_named f name (x ∷ xs) = ap (λ b. same_name (f x) name || b) (any_named f name xs)

all_named : {X : Type 0} (f : X → List ℕ) (p : List ℕ → Bool) (xs : List X) → list_all (λ x. p (f x)) xs ≡ list_all p (map f xs)
all_named f p [] = refl
all_named f p (x ∷ xs) = ap (λ b. p (f x) && b) (all_named f p xs)

named_in : (p : List ℕ → Bool) (name : List ℕ) (ms : List (List ℕ)) → list_all p ms ≡ true → list_any (λ m. same_name m name) ms ≡ true → p name ≡ true
named_in p name [] all any = absurd (true≢false (sym any))
named_in p name (m ∷ ms) all any =
    let both = and_parts (p m) (list_all p ms) all in
    by_name (same_name m name) refl any both.0 (named_in p name ms both.1)
  where
    by_name : (b : Bool) → same_name m name ≡ b → (b || list_any (λ n. same_name n name) ms) ≡ true → p m ≡ true → (list_any (λ n. same_name n name) ms ≡ true → p name ≡ true) → p name ≡ true
    by_name true h any here later = subst (λ n. p n ≡ true) (same_name_is m name h) here
    by_name false h any here later = later any

-- ---- one queue

adopted_name : (c : Settings) (told : List QueueRows) (r : QueueSetting) → (adopted_rows c told r).name ≡ r.name
adopted_name c told r = by_found (find (λ q. same_name q.name r.name) told) refl
  where
    by_found : (o : Option QueueRows) → find (λ q. same_name q.name r.name) told ≡ o → (option_map_or (resized_rows c r) o (empty_rows r)).name ≡ r.name
    by_found None e = refl
    by_found (Some q) e = same_name_is q.name r.name (found_passes (λ q. same_name q.name r.name) told q e)

-- the rows keep the window that is told
window_told : (name : List ℕ) (n : ℕ) (told : List QueueRows) → window_in (placed n told) name ≡ option_map (λ (q : QueueRows). q.window) (find (λ q. same_name q.name name) told)
window_told name n [] = refl
window_told name n (q ∷ told) = by_name (same_name q.name name) (window_told name (suc n) told)
  where
    by_name : (b : Bool) → window_in (placed (suc n) told) name ≡ option_map (λ (q : QueueRows). q.window) (find (λ q. same_name q.name name) told) →
        option_map (λ (q : QueueRow). q.window) (cond b (Some (record { name = q.name; place = n; window = q.window })) (find (λ (q : QueueRow). same_name q.name name) (placed (suc n) told))) ≡
        option_map (λ (q : QueueRows). q.window) (cond b (Some q) (find (λ q. same_name q.name name) told))
    by_name true h = refl
    by_name false h = h

adopted_window_is : (c : Settings) (told : List QueueRows) (r : QueueSetting) → adopted_window c r (window_in (placed 0 told) r.name) ≡ (adopted_rows c told r).window
adopted_window_is c told r =
    ap (adopted_window c r) (window_told r.name 0 told) ∙ by_found (find (λ q. same_name q.name r.name) told)
  where
    by_found : (o : Option QueueRows) → adopted_window c r (option_map (λ (q : QueueRows). q.window) o) ≡ (option_map_or (resized_rows c r) o (empty_rows r)).window
    by_found None = refl
    by_found (Some q) = refl

-- the rows of the queues, in their new places
places_adopted : (c : Settings) (told : List QueueRows) (n : ℕ) (rs : List QueueSetting) → first_queue_rows n (map (resized_setting c (placed 0 told)) rs) ≡ placed n (map (adopted_rows c told) rs)
places_adopted c told n [] = refl
places_adopted c told n (r ∷ rs) =
    ap (λ w. record { name = r.name; place = n; window = w } ∷ first_queue_rows (suc n) (map (resized_setting c (placed 0 told)) rs)) (adopted_window_is c told r)
    ∙ ap (λ name. record { name = name; place = n; window = (adopted_rows c told r).window } ∷ first_queue_rows (suc n) (map (resized_setting c (placed 0 told)) rs)) (sym (adopted_name c told r))
    ∙ ap (λ l. record { name = (adopted_rows c told r).name; place = n; window = (adopted_rows c told r).window } ∷ l) (places_adopted c told (suc n) rs)

-- ---- the lists of a queue

-- a list of a queue that its window says nothing of
record IsSteady {X : Type 0} (list : QueueRows → List X) : Type 0 where
  resized_same : (q : QueueRows) (w : ℕ) → list (record q { window = w }) ≡ list q
  none_there : (r : QueueSetting) → list (empty_rows r) ≡ []

list_adopted : {X : Type 0} (list : QueueRows → List X) → IsSteady list → (c : Settings) (told : List QueueRows) (r : QueueSetting) → list (adopted_rows c told r) ≡ of_queue list r.name told
list_adopted {X} list steady c told r = by_found (find (λ q. same_name q.name r.name) told)
  where
    by_found : (o : Option QueueRows) → list (option_map_or (resized_rows c r) o (empty_rows r)) ≡ option_map_or list o []
    by_found None = steady.none_there r
    by_found (Some q) = steady.resized_same q (adopted_window c r (Some q.window))

found_adopted : {X : Type 0} (list : QueueRows → List X) → IsSteady list → (c : Settings) (told : List QueueRows) (name : List ℕ) (rs : List QueueSetting) → list_any (λ r. same_name r.name name) rs ≡ true →
    of_queue list name (map (adopted_rows c told) rs) ≡ of_queue list name told
found_adopted list steady c told name [] any = absurd (true≢false (sym any))
found_adopted {X} list steady c told name (r ∷ rs) any =
    ap (λ n. option_map_or list (cond (same_name n name) (Some (adopted_rows c told r)) (find (λ q. same_name q.name name) (map (adopted_rows c told) rs))) []) (adopted_name c told r)
    ∙ by_name (same_name r.name name) refl (found_adopted list steady c told name rs) any
  where
    by_name : (b : Bool) → same_name r.name name ≡ b → (list_any (λ (r : QueueSetting). same_name r.name name) rs ≡ true → of_queue list name (map (adopted_rows c told) rs) ≡ of_queue list name told) → (b || list_any (λ (r : QueueSetting). same_name r.name name) rs) ≡ true →
        option_map_or list (cond b (Some (adopted_rows c told r)) (find (λ q. same_name q.name name) (map (adopted_rows c told) rs))) [] ≡ of_queue list name told
    by_name true h more any = list_adopted list steady c told r ∙ ap (λ n. of_queue list n told) (same_name_is r.name name h)
    by_name false h more any = more any

lost_adopted : (c : Settings) (told : List QueueRows) (name : List ℕ) (rs : List QueueSetting) → list_any (λ r. same_name r.name name) rs ≡ false →
    find (λ q. same_name q.name name) (map (adopted_rows c told) rs) ≡ None
lost_adopted c told name [] any = refl
lost_adopted c told name (r ∷ rs) any =
    ap (λ n. cond (same_name n name) (Some (adopted_rows c told r)) (find (λ q. same_name q.name name) (map (adopted_rows c told) rs))) (adopted_name c told r)
    ∙ by_name (same_name r.name name) (lost_adopted c told name rs) any
  where
    by_name : (b : Bool) → (list_any (λ (r : QueueSetting). same_name r.name name) rs ≡ false → find (λ (q : QueueRows). same_name q.name name) (map (adopted_rows c told) rs) ≡ None) → (b || list_any (λ (r : QueueSetting). same_name r.name name) rs) ≡ false →
        cond b (Some (adopted_rows c told r)) (find (λ q. same_name q.name name) (map (adopted_rows c told) rs)) ≡ None
    by_name true more any = absurd (true≢false any)
    by_name false more any = more any

-- each list stays, where no queue is gone
still_there : {X : Type 0} (list : QueueRows → List X) → IsSteady list → (c : Settings) (told : List QueueRows) (rs : List QueueSetting) →
    ((name : List ℕ) → list_any (λ (q : QueueRows). same_name q.name name) told ≡ true → list_any (λ r. same_name r.name name) rs ≡ true) →
    (name : List ℕ) → of_queue list name (map (adopted_rows c told) rs) ≡ of_queue list name told
still_there {X} list steady c told rs there name = by_any (list_any (λ r. same_name r.name name) rs) refl
  where
    lost : (b : Bool) → list_any (λ (q : QueueRows). same_name q.name name) told ≡ b → list_any (λ r. same_name r.name name) rs ≡ false → of_queue list name told ≡ []
    lost true h none = absurd (true≢false (sym (there name h) ∙ none))
    lost false h none = ap (λ o. option_map_or list o []) (none_passes (λ (q : QueueRows). same_name q.name name) told h)

    by_any : (b : Bool) → list_any (λ r. same_name r.name name) rs ≡ b → of_queue list name (map (adopted_rows c told) rs) ≡ of_queue list name told
    by_any true h = found_adopted list steady c told name rs h
    by_any false h =
        ap (λ o. option_map_or list o []) (lost_adopted c told name rs h)
        ∙ sym (lost (list_any (λ (q : QueueRows). same_name q.name name) told) refl h)

-- ---- all of it

-- the names of the queues that are told
-- the queues of a content are those of the settings
abbrev pub HasItsQueues : Settings → Content → Type 0
HasItsQueues c x = map (λ (q : Queue). q.name) x.state.queues ≡ map (λ (q : QueueSetting). q.name) c.queues

told_names : (c : Settings) (x : Content) → HasItsQueues c x → map (λ (q : QueueRows). q.name) (tables c x).queues ≡ map (λ (q : QueueSetting). q.name) c.queues
told_names c x its = map-map _ _ x.state.queues ∙ its

-- no queue is gone
none_gone : (c d : Settings) (x : Content) → HasItsQueues c x → may_adopt c d ≡ true → (name : List ℕ) →
    list_any (λ (q : QueueRows). same_name q.name name) (tables c x).queues ≡ true → list_any (λ (r : QueueSetting). same_name r.name name) d.queues ≡ true
none_gone c d x its may name any =
    let all = (and_parts _ _ may).0 in
    named_in (λ n. has_queue d.queues n) name (map (λ (q : QueueSetting). q.name) c.queues)
    (sym (all_named (λ (q : QueueSetting). q.name) (λ n. has_queue d.queues n) c.queues) ∙ all)
    (ap (λ ms. list_any (λ m. same_name m name) ms) (sym (told_names c x its)) ∙ sym (any_named (λ (q : QueueRows). q.name) name (tables c x).queues) ∙ any)

pub matches_adopted : (c d : Settings) (x : Content) (b : Stored) → HasItsQueues c x → may_adopt c d ≡ true → Matches b (tables c x) →
    Matches (rewritten (settings_text d) (map (resized_setting c b.queues) d.queues) b) (tables d (adopted_content c d x))
matches_adopted c d x b its may h =
    let told = (tables c x).queues in
    let there = none_gone c d x its may in
    let are = h.queues_are in
    subst (Matches (rewritten (settings_text d) (map (resized_setting c b.queues) d.queues) b)) (sym (tables_adopted c d x)) (record {
      counters_are = h.counters_are;
      queues_are = record {
        places = ap (λ rows. first_queue_rows 0 (map (resized_setting c rows) d.queues)) are.places ∙ places_adopted c told 0 d.queues;
        items_are = λ name. are.items_are name ∙ sym (still_there (λ q. q.items) (record { resized_same = λ q w. refl; none_there = λ r. refl }) c told d.queues there name);
        landings_are = λ name. subst (IsPermutation _) (sym (still_there (λ q. q.landings) (record { resized_same = λ q w. refl; none_there = λ r. refl }) c told d.queues there name)) (are.landings_are name);
        reports_are = λ name. subst (IsPermutation _) (sym (still_there (λ q. q.reports) (record { resized_same = λ q w. refl; none_there = λ r. refl }) c told d.queues there name)) (are.reports_are name);
      };
      changes_are = h.changes_are;
      needs_are = h.needs_are;
      builds_are = h.builds_are;
      kept_are = h.kept_are;
      plans_are = h.plans_are;
    })

-- tables rewritten so stand for the content that the other settings adopt
pub stands_adopted : (old new : Trees) (c d : Settings) (x : Content) (text : List ℕ) (can : CanAdopt old c d x) → text ≡ settings_text d →
    Stands new (rewritten text (map (resized_setting c can.stands.stored.queues) d.queues) can.stands.stored) → StandsFor new d (adopted_content c d x)
stands_adopted old new c d x text can is stands =
    let b = can.stands.stored in
    record {
      stored = rewritten (settings_text d) (map (resized_setting c b.queues) d.queues) b;
      stands = subst (λ t. Stands new (rewritten t (map (resized_setting c b.queues) d.queues) b)) is stands;
      settings = refl;
      matches = matches_adopted c d x b can.lawful.lawful.sound.queues_are_set can.may can.stands.matches;
    }

-- ---- one queue more

pub map_more : {X Y : Type 0} (f : X → Y) (xs : List X) (k : ℕ) (x : X) → k < length xs → x ≡ get_or xs k x → map f (take k xs) ++ f x ∷ [] ≡ map f (take (k + 1) xs)
map_more f [] k x within is = absurd (omega (arith, within))
map_more f (y ∷ ys) zero x within is = ap (λ z. f z ∷ []) is
map_more f (y ∷ ys) (suc k) x within is =
    let e : suc (k + 1) ≡ suc k + 1 = omega arith in
    ap (λ l. f y ∷ l) (map_more f ys k x (omega (arith, within)) is) ∙ ap (λ n. map f (take n (y ∷ ys))) e
