-- The changes that may enter, and the state after some admissions.
use Rattle.std.proofs.Common.{◌≡◌, ℕ, zero, suc, ◌+◌, ◌≤◌, Bool, true, false, not, ◌&&◌, ◌||◌, cond, Option, Some}
use Rattle.std.proofs.Common.{None, List, [], ◌∷◌, map, fold, length, refl, sym, ap, ◌∙◌, arith, inl, inr, true≢false}
use Rattle.std.proofs.Common.{add-one, zero-add, lt-ltb, ◌-◌}
use Rattle.std.specs.Prelude.{find, is_some, nat_lt, ◌==◌, unwrap_or}
use Rattle.std.specs.List.{list_any}
use Rattle.std.specs.Option.{option_map_or}
use Rattle.std.proofs.lemmas.Bool.{or_parts, and_parts, not-true}
use lib.Pointwise.{bytes_decides}
use Rattle.gate_types.specs.declared.config.Project.{Project}
use Rattle.gate_types.specs.declared.records.Change.{Change}
use Rattle.gate_types.specs.declared.records.Item.{Item as ItemRow}
use Rattle.gate_types.specs.declared.records.Need.{Need}
use Rattle.gate_types.specs.declared.records.Plan.{Plan}
use Rattle.gate_types.specs.declared.records.Ready.{Ready}
use Rattle.gate_types.specs.declared.records.Stage.TheVariants as stage
use Rattle.gate_types.specs.Names.{same_name, is_name}
use Rattle.gate_types.specs.Once.{Content}
use Rattle.gate_types.specs.Lawful.{IsSound}
use Rattle.gate_types.specs.Forms.{IsLawfulContent, is_queue_in_form}
use Rattle.gate_laws.proofs.Members.{every}
use Rattle.gate_types.proofs.DistinctLemmas.{names_differ}
use Rattle.gate_types.specs.Settings.{Settings, are_sound, are_distinct}
use Rattle.gate_types.specs.State.{Item, Queue, State, has_change, change_of, known_change, project_of}
use Rattle.gate_types.specs.State.{known_or_closed, need_of}
use Rattle.gate_types.specs.Slot.{are_met_by}
use Rattle.gate_types.specs.Standing.{needs_of, with_ahead, place_of, places_after, next_ahead}
use Rattle.gate_types.specs.Rows.{row_of, item_rows}
use Rattle.gate_types.specs.Admit.{may_enter, next_plan, entered, admit_one, admit}
use Rattle.gate_book_trait.specs.Reads.{queue_named, items_in}
use Rattle.gate_book_trait.proofs.ReadLemmas.{and_first}
use Rattle.gate_admission.specs.Known.{IsQueue, has_room, has_place}
use Rattle.gate_admission.specs.Enters.{row_of_change}
use Rattle.gate_reads.proofs.Queues.{names}
use Rattle.gate_types.specs.Counters.{last_number}
use Rattle.gate_types.specs.Limits.{most_items}
use Rattle.gate_types.specs.Rising.{In}

-- the names of the queues differ, and none is empty
pub record AreNamed (s : State) : Type 0 where
  pub distinct : are_distinct (map (λ q. q.name) s.queues) ≡ true
  pub not_empty : list_any (same_name []) (map (λ q. q.name) s.queues) ≡ false

abbrev last_serial : ℕ
last_serial = last_number

found_along : (c : Settings) (s : State) (q : Queue) (m : ℕ) (ahead is : List Item) →
    is_some (row_of_change m (map (row_of s.builds) (places_after s.builds ahead (map (place_of c s q) is)))) ≡
    has_change is m
found_along c s q m ahead [] = refl
found_along c s q m ahead (i ∷ is) =
    by_test (i.change == m) (found_along c s q m (next_ahead s.builds (with_ahead ahead (place_of c s q i))) is)
  where
    rest : Option ItemRow
    rest = row_of_change m (map (row_of s.builds) (places_after s.builds
        (next_ahead s.builds (with_ahead ahead (place_of c s q i))) (map (place_of c s q) is)))

    by_test : (b : Bool) → is_some rest ≡ has_change is m →
        is_some (cond b (Some (row_of s.builds (with_ahead ahead (place_of c s q i)))) rest) ≡ (b || has_change is m)
    by_test true h = refl
    by_test false h = h

-- a row is found where the item is
pub item_found : (c : Settings) (s : State) (name : List ℕ) (q : Queue) (m : ℕ) → queue_named s name ≡ Some q →
    is_some (row_of_change m (items_in c s name)) ≡ has_change q.items m
item_found c s name q m e =
    ap (λ o. is_some (row_of_change m (option_map_or (item_rows c s) o []))) e ∙ found_along c s q m [] q.items

-- ---- one queue is asked

-- no queue of a name
none_named : (f : Queue → Bool) (name : List ℕ) (qs : List Queue) → list_any (same_name name) (names qs) ≡ false →
    list_any (λ q. same_name q.name name && f q) qs ≡ false
none_named f name [] h = refl
none_named f name (q ∷ qs) h =
    let both = or_parts (same_name name q.name) (list_any (same_name name) (names qs)) h in
    by_test (same_name q.name name) refl both.0 (none_named f name qs both.1)
  where
    by_test : (b : Bool) → same_name q.name name ≡ b → same_name name q.name ≡ false →
        list_any (λ q. same_name q.name name && f q) qs ≡ false →
        (b && f q || list_any (λ q. same_name q.name name && f q) qs) ≡ false
    by_test true e h r = absurd (true≢false (sym
        ((bytes_decides name q.name).1 (sym ((bytes_decides q.name name).0 e))) ∙ h))
    by_test false e h r = r

-- one queue at most has a name
one_named : (f : Queue → Bool) (name : List ℕ) (qs : List Queue) → are_distinct (names qs) ≡ true →
    list_any (λ q. same_name q.name name && f q) qs ≡ option_map_or f (find (λ q. same_name q.name name) qs) false
one_named f name [] d = refl
one_named f name (q ∷ qs) d =
    let both = and_parts (not (list_any (same_name q.name) (names qs))) (are_distinct (names qs)) d in
    by_test (same_name q.name name) refl (not-true (list_any (same_name q.name) (names qs)) both.0)
    (one_named f name qs both.1)
  where
    or_false : (b : Bool) → (b || false) ≡ b
    or_false true = refl
    or_false false = refl

    by_test : (b : Bool) → same_name q.name name ≡ b → list_any (same_name q.name) (names qs) ≡ false →
        list_any (λ q. same_name q.name name && f q) qs ≡ option_map_or f (find (λ q. same_name q.name name) qs) false →
        (b && f q || list_any (λ q. same_name q.name name && f q) qs) ≡
        option_map_or f (cond b (Some q) (find (λ q. same_name q.name name) qs)) false
    by_test true e h r =
        let same : q.name ≡ name = (bytes_decides q.name name).0 e in
        ap (λ x. f q || x) (none_named f name qs (ap (λ n. list_any (same_name n) (names qs)) (sym same) ∙ h))
        ∙ or_false (f q)
    by_test false e h r = r

and_assoc : (x y z : Bool) → (x && y && z) ≡ (x && (y && z))
and_assoc true y z = refl
and_assoc false y z = refl

pub may_is : (c : Settings) (s : State) (r : Ready) → AreNamed s →
    may_enter c s r ≡ has_place s (project_of c s r.change).queue (needs_of s r.change)
may_is c s r a =
    (λ k. list_any (λ q. and_assoc (same_name q.name (project_of c s r.change).queue) (nat_lt (length q.items) most_items)
    (are_met_by q.items (needs_of s r.change)) k) s.queues)
    ∙ one_named (λ q. nat_lt (length q.items) most_items && are_met_by q.items (needs_of s r.change))
    (project_of c s r.change).queue s.queues a.distinct

-- a change of no project may not
turned : (n : List ℕ) → same_name [] n ≡ false → same_name n [] ≡ false
turned [] e = e
turned (x ∷ xs) e = refl

none_empty : (f : Queue → Bool) (qs : List Queue) → list_any (same_name []) (names qs) ≡ false →
    option_map_or f (find (λ q. same_name q.name []) qs) false ≡ false
none_empty f [] h = refl
none_empty f (q ∷ qs) h =
    let both = or_parts (same_name [] q.name) (list_any (same_name []) (names qs)) h in
    ap (λ t. option_map_or f (cond t (Some q) (find (λ q. same_name q.name []) qs)) false) (turned q.name both.0)
    ∙ none_empty f qs both.1

pub no_project : (c : Settings) (s : State) (r : Ready) → AreNamed s →
    find (λ p. same_name p.name (change_of s r.change).project) c.projects ≡ None → may_enter c s r ≡ false
no_project c s r a e =
    may_is c s r a ∙ ap (λ (o : Option Project). has_place s
    (unwrap_or o (record { name = []; queue = []; jobs = []; fail_fast = false })).queue (needs_of s r.change)) e
    ∙ none_empty (λ q. nat_lt (length q.items) most_items && are_met_by q.items (needs_of s r.change)) s.queues a.not_empty

pub in_project : (c : Settings) (s : State) (r : Ready) (p : Project) → AreNamed s →
    find (λ p. same_name p.name (change_of s r.change).project) c.projects ≡ Some p →
    may_enter c s r ≡ has_place s p.queue (needs_of s r.change)
in_project c s r p a e =
    may_is c s r a ∙ ap (λ (o : Option Project). has_place s
    (unwrap_or o (record { name = []; queue = []; jobs = []; fail_fast = false })).queue (needs_of s r.change)) e

-- the names of a sound state are those of the lawful content before it
pub are_named : (c : Settings) (x : Content) (v : State) → are_sound c ≡ true → IsLawfulContent c x → IsSound c v →
    AreNamed v
are_named c x v sound lawful led =
    let same : names x.state.queues ≡ names v.queues = lawful.lawful.sound.queues_are_set ∙ sym led.queues_are_set in
    record {
      distinct = ap are_distinct led.queues_are_set ∙ names_differ c sound;
      not_empty = ap (list_any (same_name [])) (sym same)
          ∙ none_there x.state.queues (λ q m. in_form q
          (every (λ (p : Queue). is_queue_in_form p ≡ true) x.state.queues lawful.in_form.state.queues q m));
    }
  where
    filled : (n : List ℕ) → is_name n ≡ true → same_name [] n ≡ false
    filled [] e = absurd (true≢false (sym e))
    filled (b ∷ bs) e = refl

    in_form : (q : Queue) → is_queue_in_form q ≡ true → same_name [] q.name ≡ false
    in_form q e = filled q.name (and_first (is_name q.name) _
        (and_first _ _ (and_first _ _ (and_first _ _ (and_first _ _ e)))))

    none_there : (qs : List Queue) → ((q : Queue) → In q qs → same_name [] q.name ≡ false) →
        list_any (same_name []) (names qs) ≡ false
    none_there [] h = refl
    none_there (q ∷ qs) h =
        ap (λ t. t || list_any (same_name []) (names qs)) (h q (inl refl)) ∙ none_there qs (λ p m. h p (inr m))

-- the queue of a change's project
pub queue_is : (c : Settings) (s : State) (n : ℕ) (p : Project) →
    find (λ (q : Project). same_name q.name (change_of s n).project) c.projects ≡ Some p →
    p.queue ≡ (project_of c s n).queue
queue_is c s n p e =
    sym (ap (λ (o : Option Project).
    (unwrap_or o (record { name = []; queue = []; jobs = []; fail_fast = false })).queue) e)

-- the plan of what enters, by that project
pub plan_is : (c : Settings) (s : State) (n : ℕ) (p : Project) →
    find (λ (q : Project). same_name q.name (change_of s n).project) c.projects ≡ Some p → (serial : ℕ) →
    serial ≡ s.counters.order + 1 → (plan : Plan) →
    plan ≡ record { serial = serial; jobs = p.jobs; fast = p.fail_fast } → plan ≡ next_plan c s n
plan_is c s n p e serial at plan made =
    let project : p ≡ project_of c s n =
    sym (ap (λ (o : Option Project). unwrap_or o (record { name = []; queue = []; jobs = []; fail_fast = false })) e) in
    made ∙ (λ i. record { serial = at i; jobs = (project i).jobs; fast = (project i).fail_fast })

-- ---- what is known of a change

pub project_is : (s : State) (n : ℕ) (k : Option Change) → k ≡ known_change s n →
    (known_or_closed k).project ≡ (change_of s n).project
project_is s n k e = ap (λ (o : Option Change). (known_or_closed o).project) e ∙ by_cases (known_change s n)
  where
    by_cases : (o : Option Change) → (known_or_closed o).project ≡
        (unwrap_or o (record { number = n; project = []; revision = 0; stage = stage.Closed; needs = [] })).project
    by_cases None = refl
    by_cases (Some x) = refl

pub needs_are : (s : State) (n : ℕ) (k : Option Change) → k ≡ known_change s n →
    map (need_of s) (known_or_closed k).needs ≡ needs_of s n
needs_are s n k e = ap (λ (o : Option Change). map (need_of s) (known_or_closed o).needs) e
    ∙ by_cases (known_change s n)
  where
    by_cases : (o : Option Change) → map (need_of s) (known_or_closed o).needs ≡
        map (need_of s) (unwrap_or o (record {
          number = n;
          project = [];
          revision = 0;
          stage = stage.Closed;
          needs =
              [];
        })).needs
    by_cases None = refl
    by_cases (Some x) = refl

-- room, where the needs are met
pub place_is : (v : State) (name : List ℕ) (needs : List Need) →
    ((q : Queue) → queue_named v name ≡ Some q → are_met_by q.items needs ≡ true) →
    has_room v name ≡ has_place v name needs
place_is v name needs h = by_queue (queue_named v name) refl
  where
    and_true : (b t : Bool) → t ≡ true → b ≡ (b && t)
    and_true true t e = sym e
    and_true false t e = refl

    by_queue : (o : Option Queue) → queue_named v name ≡ o →
        option_map_or (λ (q : Queue). nat_lt (length q.items) most_items) o false ≡
        option_map_or (λ (q : Queue). nat_lt (length q.items) most_items && are_met_by q.items needs) o false
    by_queue None e = refl
    by_queue (Some q) e = and_true (nat_lt (length q.items) most_items) (are_met_by q.items needs) (h q e)

-- a queue with a place is there
pub place_there : (v : State) (name : List ℕ) (needs : List Need) → has_place v name needs ≡ true → IsQueue v name
place_there v name needs e = by_queue (queue_named v name) refl e
  where
    by_queue : (o : Option Queue) → queue_named v name ≡ o →
        option_map_or (λ (q : Queue). nat_lt (length q.items) most_items && are_met_by q.items needs) o false ≡ true →
        IsQueue v name
    by_queue None f h = absurd (true≢false (sym h))
    by_queue (Some q) f h = record { queue = q; named = f }

-- ---- the tries

-- after some tries
abbrev pub tries : Settings → State → ℕ → State
tries c s zero = s
tries c s (suc n) = tries c (admit_one c s) n

pub admit_tries : (c : Settings) (s : State) → admit c s ≡ tries c s (length s.ready)
admit_tries c s = along s.ready s
  where
    along : (rs : List Ready) (t : State) → fold (λ (u : State) (_ : Ready). admit_one c u) t rs ≡ tries c t (length rs)
    along [] t = refl
    along (r ∷ rs) t = along rs (admit_one c t)

pub tries_more : (c : Settings) (s : State) (n : ℕ) → tries c s (n + 1) ≡ admit_one c (tries c s n)
tries_more c s n = ap (tries c s) (add-one n) ∙ last s n
  where
    last : (t : State) (m : ℕ) → tries c t (suc m) ≡ admit_one c (tries c t m)
    last t zero = refl
    last t (suc m) = last (admit_one c t) m

tries_rest : (c : Settings) (s : State) (m k : ℕ) → tries c s (m + k) ≡ tries c (tries c s m) k
tries_rest c s zero k = ap (tries c s) (zero-add k)
tries_rest c s (suc m) k = ap (tries c s) (suc_more m k) ∙ tries_rest c (admit_one c s) m k
  where
    suc_more : (m k : ℕ) → suc m + k ≡ suc (m + k)
    suc_more m k = omega arith

-- where nobody may enter nobody does
pub nobody_more : (c : Settings) (s : State) (k : ℕ) → find (may_enter c s) s.ready ≡ None → tries c s k ≡ s
nobody_more c s zero e = refl
nobody_more c s (suc k) e = ap (λ (t : State). tries c t k)
    (ap (λ (o : Option Ready). option_map_or (entered c s) o s) e) ∙ nobody_more c s k e

pub all_in : (c : Settings) (s : State) (m n : ℕ) → m ≤ n →
    find (may_enter c (tries c s m)) (tries c s m).ready ≡ None → tries c s n ≡ tries c s m
all_in c s m n l e =
    let split : n ≡ m + (n - m) = omega arith in
    ap (tries c s) split ∙ tries_rest c s m (n - m) ∙ nobody_more c (tries c s m) (n - m) e

pub one_in : (c : Settings) (s : State) (r : Ready) → find (may_enter c s) s.ready ≡ Some r →
    admit_one c s ≡ entered c s r
one_in c s r e = ap (λ (o : Option Ready). option_map_or (entered c s) o s) e

-- the order counter never falls
pub order_rises : (c : Settings) (s : State) (k : ℕ) → s.counters.order ≤ (tries c s k).counters.order
order_rises c s zero = omega arith
order_rises c s (suc k) =
    let one = by_found (find (may_enter c s) s.ready) in
    let rest = order_rises c (admit_one c s) k in
    omega (arith, one, rest)
  where
    by_found : (o : Option Ready) → s.counters.order ≤ (option_map_or (entered c s) o s).counters.order
    by_found None = omega arith
    by_found (Some r) = omega arith

-- where one may enter and no serial is left, the counter passes the last
pub none_left : (c : Settings) (s : State) (m n : ℕ) (r : Ready) → m + 1 ≤ n →
    find (may_enter c (tries c s m)) (tries c s m).ready ≡ Some r → last_serial ≤ (tries c s m).counters.order →
    nat_lt last_serial (tries c s n).counters.order ≡ true
none_left c s m n r l e h =
    let u = tries c s m in
    let split : n ≡ (m + 1) + (n - (m + 1)) = omega arith in
    let next : tries c s (m + 1) ≡ entered c u r = tries_more c s m ∙ one_in c u r e in
    let drawn : (tries c s (m + 1)).counters.order ≡ u.counters.order + 1 = ap (λ (t : State). t.counters.order) next in
    let rest : (tries c s (m + 1)).counters.order ≤ (tries c (tries c s (m + 1)) (n - (m + 1))).counters.order =
    order_rises c (tries c s (m + 1)) (n - (m + 1)) in
    let same : (tries c s n).counters.order ≡ (tries c (tries c s (m + 1)) (n - (m + 1))).counters.order =
    ap (λ (t : State). t.counters.order) (ap (tries c s) split ∙ tries_rest c s (m + 1) (n - (m + 1))) in
    lt-ltb last_serial (tries c s n).counters.order (omega (arith, h, drawn, rest, same))
