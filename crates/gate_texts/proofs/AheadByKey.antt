-- What is ahead of an item, asked by key: the item of a change is just where it stands before it and isn't failing.
use Rattle.std.proofs.Common.{◌≡◌, ℕ, suc, ◌≤◌, Bool, true, false, not, ◌&&◌, ◌||◌, cond, Option, Some, None, List}
use Rattle.std.proofs.Common.{[], ◌∷◌, ◌++◌, refl, sym, ap, ◌∙◌, subst, inl, inr, arith, lt-ltb, le-ltb, true≢false}
use Rattle.std.specs.Prelude.{◌==◌, find, nat_lt, option_map}
use Rattle.std.specs.List.{list_any, list_all}
use Rattle.std.proofs.lemmas.Bool.{eqb-true}
use Rattle.std.proofs.lemmas.List.Folds.{list_all-map}
use Rattle.gate_types.specs.declared.records.Build.{Build}
use Rattle.gate_types.specs.declared.records.Need.{Need}
use Rattle.gate_types.specs.Names.{same_name}
use Rattle.gate_types.specs.Settings.{Settings, are_sound}
use Rattle.gate_types.specs.State.{Item, Queue, State, change_of, is_landed, has_change, need_of}
use Rattle.gate_types.specs.Line.{Place}
use Rattle.gate_types.specs.Slot.{are_met_by, is_blocked}
use Rattle.gate_types.specs.Standing.{is_failing, next_ahead, places}
use Rattle.gate_types.specs.Lawful.{IsSound}
use Rattle.gate_types.specs.Rising.{In}
use Rattle.gate_types.proofs.PlainLemmas.{and_false}
use Rattle.gate_laws.proofs.Members.{found, not_found, any_to, none_to, to_flat, to_map}
use Rattle.gate_laws.proofs.Counts.{one_of}
use Rattle.gate_laws.proofs.Alone.{same_name_of, name_alone}
use Rattle.gate_book_trait.specs.Reads.{queued_of}
use Rattle.gate_reads.proofs.KnownPlaces.{place_facts}
use Rattle.gate_reads.proofs.Stood.{Stood, stood, stood_in, stood_there, queued_as, queued_is, change_once}
use Rattle.gate_reads.proofs.Walking.{places_from, place_behind, RiseFrom}
use Rattle.gate_texts.specs.Ahead.{is_ahead, is_blocked_by_key}

-- ---- in its queue

-- a place stands before a serial, and isn't failing
abbrev pub stands_before : List Build → ℕ → Place → Bool
stands_before bs serial p = nat_lt p.item.serial serial && not (is_failing bs p)

-- and is that of a change
abbrev pub is_before : List Build → ℕ → ℕ → Place → Bool
is_before bs n serial p = p.item.change == n && stands_before bs serial p

rise_less : (m n : ℕ) (is : List Item) → m ≤ n → RiseFrom n is → RiseFrom m is
rise_less m n [] l r = tt
rise_less m n (i ∷ is) l r = let from : n ≤ i.serial = r.0 in (omega (arith, l, from), r.1)

late : (bs : List Build) (n serial : ℕ) (p : Place) → serial ≤ p.item.serial → is_before bs n serial p ≡ false
late bs n serial p l =
    ap (λ b. p.item.change == n && (b && not (is_failing bs p))) (le-ltb p.item.serial serial l)
    ∙ and_false (p.item.change == n)

none_late : (c : Settings) (s : State) (q : Queue) (n serial : ℕ) (ahead is : List Item) → RiseFrom serial is →
    list_any (is_before s.builds n serial) (places_from c s q ahead is) ≡ false
none_late c s q n serial ahead [] r = refl
none_late c s q n serial ahead (i ∷ is) r =
    let from : serial ≤ i.serial = r.0 in
    let here = place_behind c s q ahead i in
    (λ k. late s.builds n serial here from k || none_late c s q n serial (next_ahead s.builds here) is
    (rise_less serial (suc i.serial) is (omega (arith, from)) r.1) k)

lowest : (c : Settings) (s : State) (q : Queue) (n : ℕ) (ahead is : List Item) → RiseFrom n is → (p : Place) →
    In p (places_from c s q ahead is) → n ≤ p.item.serial
lowest c s q n ahead [] r p m = absurd m
lowest c s q n ahead (i ∷ is) r p m =
    let from : n ≤ i.serial = r.0 in
    let here = place_behind c s q ahead i in
    elim m [
      | inl e ↦ subst (λ (y : Place). n ≤ y.item.serial) e from
      | inr k ↦ lowest c s q n (next_ahead s.builds here) is
          (rise_less n (suc i.serial) is (omega (arith, from)) r.1) p k
    ]

any_append : (n : ℕ) (is : List Item) (i : Item) →
    has_change (is ++ i ∷ []) n ≡ has_change is n || (i.change == n || false)
any_append n [] i = refl
any_append n (j ∷ js) i = ap (λ b. j.change == n || b) (any_append n js i)
    ∙ grouped (j.change == n) (has_change js n) (i.change == n || false)
  where
    grouped : (a b d : Bool) → a || (b || d) ≡ (a || b) || d
    grouped true b d = refl
    grouped false b d = refl

-- what is ahead behind a place before the serial
one_ahead : (bs : List Build) (n serial : ℕ) (p : Place) → suc p.item.serial ≤ serial →
    has_change (next_ahead bs p) n ≡ has_change p.ahead n || is_before bs n serial p
one_ahead bs n serial p l =
    by_failing (is_failing bs p)
    ∙ ap (λ b. has_change p.ahead n || (p.item.change == n && (b && not (is_failing bs p))))
    (sym (lt-ltb p.item.serial serial l))
  where
    or_none : (a b : Bool) → a ≡ a || (b && false)
    or_none true b = refl
    or_none false true = refl
    or_none false false = refl

    or_one : (a b : Bool) → a || (b || false) ≡ a || (b && true)
    or_one true b = refl
    or_one false true = refl
    or_one false false = refl

    by_failing : (f : Bool) → has_change (cond f p.ahead (p.ahead ++ p.item ∷ [])) n
        ≡ has_change p.ahead n || (p.item.change == n && (true && not f))
    by_failing true = or_none (has_change p.ahead n) (p.item.change == n)
    by_failing false = any_append n p.ahead p.item ∙ or_one (has_change p.ahead n) (p.item.change == n)

ahead_along : (c : Settings) (s : State) (q : Queue) (n m : ℕ) (ahead is : List Item) → RiseFrom m is → (p : Place) →
    In p (places_from c s q ahead is) →
    has_change p.ahead n
    ≡ has_change ahead n || list_any (is_before s.builds n p.item.serial) (places_from c s q ahead is)
ahead_along c s q n m ahead [] r p k = absurd k
ahead_along c s q n m ahead (i ∷ is) r p k = elim k [
  | inl e ↦ first p e
  | inr later ↦ behind (lowest c s q (suc i.serial) (next_ahead s.builds (place_behind c s q ahead i)) is r.1 p later)
      (ahead_along c s q n (suc i.serial) (next_ahead s.builds (place_behind c s q ahead i)) is r.1 p later)
]
  where
    here : Place
    here = place_behind c s q ahead i

    rest : List Place
    rest = places_from c s q (next_ahead s.builds here) is

    or_false : (a : Bool) → a ≡ a || (false || false)
    or_false true = refl
    or_false false = refl

    first : (y : Place) → here ≡ y →
        has_change y.ahead n ≡ has_change ahead n || list_any (is_before s.builds n y.item.serial) (here ∷ rest)
    first y e = subst (λ (z : Place).
        has_change z.ahead n ≡ has_change ahead n || list_any (is_before s.builds n z.item.serial) (here ∷ rest)) e
        (or_false (has_change ahead n)
        ∙ (λ j. has_change ahead n || (sym (late s.builds n i.serial here (omega arith)) j
        || sym (none_late c s q n i.serial (next_ahead s.builds here) is
        (rise_less i.serial (suc i.serial) is (omega arith) r.1)) j)))

    grouped : (a b d : Bool) → (a || b) || d ≡ a || (b || d)
    grouped true b d = refl
    grouped false b d = refl

    behind : suc i.serial ≤ p.item.serial →
        has_change p.ahead n
        ≡ has_change (next_ahead s.builds here) n || list_any (is_before s.builds n p.item.serial) rest →
        has_change p.ahead n ≡ has_change ahead n || list_any (is_before s.builds n p.item.serial) (here ∷ rest)
    behind below h =
        h ∙ ap (λ b. b || list_any (is_before s.builds n p.item.serial) rest)
        (one_ahead s.builds n p.item.serial here below)
        ∙ grouped (has_change ahead n) (is_before s.builds n p.item.serial here)
        (list_any (is_before s.builds n p.item.serial) rest)

-- a change is ahead of a place just where a place of it stands before that one, and isn't failing
pub ahead_is : (c : Settings) (s : State) (q : Queue) (n : ℕ) → RiseFrom 1 q.items → (p : Place) →
    In p (places c s q) →
    has_change p.ahead n ≡ list_any (is_before s.builds n p.item.serial) (places c s q)
ahead_is c s q n r p m = ahead_along c s q n 1 [] q.items r p m

-- ---- among all items

pub found_ahead : (c : Settings) (s : State) → are_sound c ≡ true → IsSound c s → (q : Queue) → In q s.queues →
    (n serial : ℕ) → list_any (is_before s.builds n serial) (places c s q) ≡ is_ahead q.name serial (queued_of c s n)
found_ahead c s a h q mq n serial =
    by_found (find is_it (stood c s)) refl ∙ sym (ap (is_ahead q.name serial) (queued_is c s n))
  where
    is_it : Stood → Bool
    is_it x = x.place.item.change == n

    as_stood : Place → Stood
    as_stood p = record { queue = q; place = p }

    is_stood : (p : Place) → In p (places c s q) → In (as_stood p) (stood c s)
    is_stood p m = to_flat (stood_in c s) s.queues q (as_stood p) mq (to_map as_stood (places c s q) p m)

    by_found : (o : Option Stood) → find is_it (stood c s) ≡ o →
        list_any (is_before s.builds n serial) (places c s q)
        ≡ is_ahead q.name serial (option_map (queued_as s) o)
    by_found None e =
        none_to (is_before s.builds n serial) (places c s q)
        (λ p m. ap (λ b. b && stands_before s.builds serial p)
        (not_found is_it (stood c s) e (as_stood p) (is_stood p m)))
    by_found (Some y) e =
        by_name (same_name y.queue.name q.name) refl
        ∙ grouped (same_name y.queue.name q.name) (nat_lt y.place.item.serial serial)
        (not (is_failing s.builds y.place))
      where
        grouped : (a b d : Bool) → a && (b && d) ≡ (a && b) && d
        grouped true b d = refl
        grouped false b d = refl

        there : In y (stood c s) × (is_it y ≡ true)
        there = found is_it (stood c s) y e

        parts : In y.queue s.queues × In y.place (places c s y.queue)
        parts = stood_there c s y there.0

        -- a place of the change is the one that was found
        same : (p : Place) → In p (places c s q) → p.item.change == n ≡ true → y ≡ as_stood p
        same p m t =
            let of_y : y.place.item.change ≡ n = eqb-true y.place.item.change n there.1 in
            one_of (λ (x : Stood). x.place.item.change) (stood c s) y (as_stood p)
            (change_once c s h y.place.item.change) there.0 (is_stood p m)
            (of_y ∙ sym (eqb-true p.item.change n t))

        by_change : (p : Place) → In p (places c s q) → (b d : Bool) → p.item.change == n ≡ b →
            (y ≡ as_stood p → d ≡ false) → b && d ≡ false
        by_change p m true d t f = f (same p m t)
        by_change p m false d t f = refl

        by_name : (b : Bool) → same_name y.queue.name q.name ≡ b →
            list_any (is_before s.builds n serial) (places c s q) ≡ b && stands_before s.builds serial y.place
        by_name false t =
            none_to (is_before s.builds n serial) (places c s q)
            (λ p m. by_change p m (p.item.change == n) (stands_before s.builds serial p) refl
            (λ k. let one = same_name_of y.queue.name q.name (ap (λ (x : Stood). x.queue.name) k) in
            absurd (true≢false (sym one ∙ t))))
        by_name true t = by_before (stands_before s.builds serial y.place) refl
          where
            one : y.queue ≡ q
            one = name_alone c s a h y.queue q parts.0 mq t

            by_before : (d : Bool) → stands_before s.builds serial y.place ≡ d →
                list_any (is_before s.builds n serial) (places c s q) ≡ d
            by_before true g =
                any_to (is_before s.builds n serial) (places c s q) y.place
                (subst (λ r. In y.place (places c s r)) one parts.1) ((λ k. there.1 k && g k))
            by_before false g =
                none_to (is_before s.builds n serial) (places c s q)
                (λ p m. by_change p m (p.item.change == n) (stands_before s.builds serial p) refl
                (λ k. sym (ap (λ (x : Stood). stands_before s.builds serial x.place) k) ∙ g))

-- ---- whether it is blocked

pub blocked_by_key : (c : Settings) (s : State) → are_sound c ≡ true → IsSound c s → (x : Stood) → In x (stood c s) →
    RiseFrom 1 x.queue.items → is_blocked_by_key c s (queued_as s x) ≡ is_blocked x.place
blocked_by_key c s a h x m r =
    let there = stood_there c s x m in
    let q = x.queue in
    let p = x.place in
    let facts = place_facts c s q p there.1 in
    ap not (
    (λ k. list_all (λ n. is_landed (change_of s n)
    || (sym (found_ahead c s a h q there.0 n p.item.serial) ∙ sym (ahead_is c s q n r p there.1)) k)
    (change_of s p.item.change).needs)
    ∙ sym (list_all-map (λ (n : Need). n.landed || has_change p.ahead n.change) (need_of s)
    (change_of s p.item.change).needs)
    ∙ ap (are_met_by p.ahead) (sym facts.needs))
