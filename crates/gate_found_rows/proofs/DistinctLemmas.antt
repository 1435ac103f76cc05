-- One of each of what a query shows, where a number tells its rows apart.
use Rattle.std.proofs.Common.{◌≡◌, ◌≢◌, ◌<◌, ◌<ℤ◌, ℕ, pos, List, [], ◌∷◌, map, filter, flat_map, Bool, true, nat_cmp}
use Rattle.std.proofs.Common.{refl, sym, ap, ap₂, subst, ◌∙◌, arith, inl, inr, Ordering, Less, Equal, Greater}
use Rattle.std.proofs.Common.{IsPermutation, unwrap_or}
use Rattle.std.specs.Prelude.{AllPairs}
use Rattle.std.specs.List.{AllByRecursion, AllZip, list_all}
use Rattle.std.specs.Ordering.{on, ordering_then}
use Rattle.std.proofs.lemmas.Bool.Decides.{nat_tests}
use Rattle.std.proofs.lemmas.Cmp.{tied_itself}
use Rattle.std.proofs.lemmas.Int.{ints}
use Rattle.std.proofs.lemmas.List.Elements.{All-from_recursion}
use Rattle.std.proofs.lemmas.List.Kept.{AllPairs-cons}
use Rattle.std.proofs.lemmas.List.Sorted.{Contains-permutation, IsPermutation-sym, IsPermutation-trans}
use Rattle.sqlite.specs.Collation.TheVariants.{Binary}
use Rattle.sqlite.specs.Order.{Row}
use Rattle.sqlite.specs.Query.{IsAnswer, Output, Query, as_count, output, output_cmp}
use Rattle.sqlite.specs.Term.{Term, holds}
use Rattle.sqlite.specs.Tree.{Trees}
use Rattle.sqlite.specs.declared.types.Value.TheVariants.{Int}
use Rattle.sqlite_keyed.proofs.ListLemmas.{ascending-map, ascending_weaker, map-map}
use Rattle.sqlite_keyed.proofs.SortLemmas.{sorted_unique}
use Rattle.sqlite_rules.specs.Lists.{Has}
use Rattle.sqlite_rules.proofs.ListLemmas.{all_from, all_has, contains_had, has_contained, has_either, has_filtered}
use Rattle.sqlite_rules.proofs.ListLemmas.{has_kept, has_left, has_right}
use Rattle.sqlite_sql.proofs.QueryLemmas.{output_cmp_total}
use Rattle.sqlite_sql.specs.Group.{IsDistinctOf, members}
use Rattle.sqlite_trees.specs.Tree.{IsAscending}
use Rattle.sqlite_value.proofs.KeyLemmas.{collated_cmp_total}
use Rattle.sqlite_value.specs.Keys.{ascending, collated_cmp}
use Rattle.sqlite_value.specs.Order.{column}
use Rattle.sqlite_value.specs.declared.keys.Collation.{Collation}
use Rattle.gate_schema.proofs.ValueLemmas.{value_cmp-pos}
use Rattle.gate_found_rows.proofs.JoinLemmas.{over_tables, pairs}
use Rattle.gate_found_rows.proofs.KeyedReads.{rises}
use Rattle.gate_found_rows.proofs.SortedLemmas.{in_order, in_order_rises, in_order_same}

-- ---- what a list has

-- what a list has, its permutation has
pub has_permuted : {X : Type 0} (xs ys : List X) (x : X) → IsPermutation xs ys → Has xs x → Has ys x
has_permuted xs ys x same h = has_contained ys x (Contains-permutation xs ys x same (contains_had xs x h))

-- what lists have is of one of them
pub has_of : {X Y : Type 0} (f : X → List Y) (xs : List X) (y : Y) → Has (flat_map f xs) y → (x : X) × Has xs x × Has (f x) y
has_of f [] y h = absurd h
has_of f (x ∷ xs) y h = elim (has_either (f x) (flat_map f xs) y h) [ inl here ↦ (x, inl refl, here) | inr later ↦ let found = has_of f xs y later in (found.0, inr found.1, found.2) ]

-- and back
pub has_in : {X Y : Type 0} (f : X → List Y) (xs : List X) (x : X) (y : Y) → Has xs x → Has (f x) y → Has (flat_map f xs) y
has_in f [] x y h here = absurd h
has_in f (z ∷ xs) x y (inl same) here = has_left (f z) (flat_map f xs) y (subst (λ w. Has (f w) y) same here)
has_in f (z ∷ xs) x y (inr later) here = has_right (f z) (flat_map f xs) y (has_in f xs x y later here)

-- what a mapped list has is made of one element
pub has_made : {X Y : Type 0} (f : X → Y) (xs : List X) (y : Y) → Has (map f xs) y → (x : X) × Has xs x × (y ≡ f x)
has_made f [] y h = absurd h
has_made f (x ∷ xs) y (inl same) = (x, inl refl, same)
has_made f (x ∷ xs) y (inr later) = let found = has_made f xs y later in (found.0, inr found.1, found.2)

-- and back
pub has_making : {X Y : Type 0} (f : X → Y) (xs : List X) (x : X) → Has xs x → Has (map f xs) (f x)
has_making f [] x h = absurd h
has_making f (z ∷ xs) x (inl same) = inl (ap f same)
has_making f (z ∷ xs) x (inr later) = inr (has_making f xs x later)

-- what pairs make is made of two that pass together
has_pair : {X Y O : Type 0} (p : X → Y → Bool) (out : X → Y → O) (xs : List X) (ys : List Y) (o : O) → Has (flat_map (λ x. map (out x) (filter (p x) ys)) xs) o
    → (x : X) × (y : Y) × Has xs x × Has ys y × (p x y ≡ true) × (o ≡ out x y)
has_pair p out xs ys o h =
    let at = has_of (λ x. map (out x) (filter (p x) ys)) xs o h in
    let made = has_made (out at.0) (filter (p at.0) ys) o at.2 in
    let passed = has_filtered (p at.0) ys made.0 made.1 in
    (at.0, made.0, at.1, passed.0, passed.1, made.2)

-- and back
has_pairing : {X Y O : Type 0} (p : X → Y → Bool) (out : X → Y → O) (xs : List X) (ys : List Y) (x : X) (y : Y) → Has xs x → Has ys y → p x y ≡ true
    → Has (flat_map (λ x. map (out x) (filter (p x) ys)) xs) (out x y)
has_pairing p out xs ys x y h k passes =
    has_in (λ x. map (out x) (filter (p x) ys)) xs x (out x y) h (has_making (out x) (filter (p x) ys) y (has_kept (p x) ys y k passes))

module _ {X : Type 0} (key : X → ℕ) where
  -- each number is below each later one
  abbrev Rises : List X → Type 0
  Rises xs = IsAscending (λ x y. key x < key y) xs

  -- where numbers rise, one element has a number
  one_of_key : (xs : List X) (x y : X) → Rises xs → Has xs x → Has xs y → key x ≡ key y → x ≡ y
  one_of_key [] x y up h k same = absurd h
  one_of_key (z ∷ zs) x y up (inl p) (inl q) same = p ∙ sym q
  one_of_key (z ∷ zs) x y up (inl p) (inr q) same = let less = all_has (λ w. key z < key w) zs y up.0 q in let at = ap key p in absurd (omega (arith, less, at, same))
  one_of_key (z ∷ zs) x y up (inr p) (inl q) same = let less = all_has (λ w. key z < key w) zs x up.0 p in let at = ap key q in absurd (omega (arith, less, at, same))
  one_of_key (z ∷ zs) x y up (inr p) (inr q) same = one_of_key zs x y up.1 p q same

  -- two lists that rise and have the same elements are one
  same_rising : (xs ys : List X) → Rises xs → Rises ys → ((z : X) → Has xs z → Has ys z) → ((z : X) → Has ys z → Has xs z) → xs ≡ ys
  same_rising [] [] up high to from = refl
  same_rising [] (y ∷ ys) up high to from = absurd (from y (inl refl))
  same_rising (x ∷ xs) [] up high to from = absurd (to x (inl refl))
  same_rising (x ∷ xs) (y ∷ ys) up high to from = ap₂ (λ z zs. z ∷ zs) first (same_rising xs ys up.1 high.1 (λ z h. later_of_ys z h (to z (inr h))) (λ z h. later_of_xs z h (from z (inr h))))
    where
      first : x ≡ y
      first = elim (to x (inl refl)) [
        | inl same ↦ same
        | inr h ↦ elim (from y (inl refl)) [
          | inl same ↦ sym same
          | inr k ↦ let less = all_has (λ w. key y < key w) ys x high.0 h in let more = all_has (λ w. key x < key w) xs y up.0 k in absurd (omega (arith, less, more))
        ]
      ]

      later_of_ys : (z : X) → Has xs z → Has (y ∷ ys) z → Has ys z
      later_of_ys z h (inl same) = let less = all_has (λ w. key x < key w) xs z up.0 h in let at = ap key (same ∙ sym first) in absurd (omega (arith, less, at))
      later_of_ys z h (inr k) = k

      later_of_xs : (z : X) → Has ys z → Has (x ∷ xs) z → Has xs z
      later_of_xs z h (inl same) = let less = all_has (λ w. key y < key w) ys z high.0 h in let at = ap key (same ∙ first) in absurd (omega (arith, less, at))
      later_of_xs z h (inr k) = k

  module _ (cmp : X → X → Ordering) (itself : (x : X) → cmp x x ≡ Equal) where
    -- the first of each group is among all
    first_has : (groups : List (X × List X)) (x : X) → Has (map (λ g. g.0) groups) x → Has (flat_map members groups) x
    first_has [] x h = absurd h
    first_has (g ∷ gs) x (inl same) = inl same
    first_has (g ∷ gs) x (inr later) = has_right (members g) (flat_map members gs) x (first_has gs x later)

    -- each has the like of it among the first
    like_of : (groups : List (X × List X)) (x : X) → AllByRecursion (λ g. AllByRecursion (λ y. cmp g.0 y ≡ Equal) g.1) groups → Has (flat_map members groups) x
        → (y : X) × Has (map (λ g. g.0) groups) y × (cmp y x ≡ Equal)
    like_of [] x alike h = absurd h
    like_of (g ∷ gs) x alike h = elim (has_either (members g) (flat_map members gs) x h) [
      | inl here ↦ elim here [ inl same ↦ (g.0, inl refl, subst (λ z. cmp g.0 z ≡ Equal) (sym same) (itself g.0)) | inr behind ↦ (g.0, inl refl, all_has (λ y. cmp g.0 y ≡ Equal) g.1 x alike.0 behind) ]
      | inr later ↦ let found = like_of gs x alike.1 later in (found.0, inr found.1, found.2)
    ]

    -- numbers that differ from each later one differ pairwise
    pairwise : (xs : List X) → IsAscending (λ x y. key x ≢ key y) xs → AllPairs (λ x y. key x ≢ key y) xs
    pairwise [] apart = λ i j d less within. absurd (omega arith)
    pairwise (x ∷ xs) apart = AllPairs-cons (λ x y. key x ≢ key y) x xs (All-from_recursion (λ y. key x ≢ key y) xs apart.0) (pairwise xs apart.1)

    -- one of each of a list that has what this one has, whose numbers rise, is this one in some order
    pub distinct_is : (all kept xs : List X) → IsDistinctOf cmp all kept → Rises xs → ((z : X) → Has all z → Has xs z) → ((z : X) → Has xs z → Has all z)
        → ((x y : X) → Has xs x → Has xs y → cmp x y ≡ Equal → key x ≡ key y) → IsPermutation kept xs
    distinct_is all kept xs distinct up to from keyed = subst (IsPermutation kept) whole (in_order_same key kept differ)
      where
        groups : List (X × List X)
        groups = distinct.0

        inside : (z : X) → Has kept z → Has xs z
        inside z h = to z (has_permuted (flat_map members groups) all z (IsPermutation-sym _ _ distinct.1.same) (first_has groups z (subst (λ l. Has l z) distinct.2 h)))

        covered : (z : X) → Has xs z → Has kept z
        covered z h =
            let like = like_of groups z distinct.1.alike (has_permuted all (flat_map members groups) z distinct.1.same (from z h)) in
            let had = subst (λ l. Has l like.0) (sym distinct.2) like.1 in
            subst (Has kept) (one_of_key xs like.0 z up (inside like.0 had) h (keyed like.0 z (inside like.0 had) h like.2)) had

        apart : (ys : List X) → ((z : X) → Has ys z → Has xs z) → IsAscending (λ x y. cmp x y ≢ Equal) ys → IsAscending (λ x y. key x ≢ key y) ys
        apart [] within far = tt
        apart (y ∷ ys) within far = (
          all_from (λ z. key y ≢ key z) ys (λ z h same.
              all_has (λ w. cmp y w ≢ Equal) ys z far.0 h (subst (λ w. cmp y w ≡ Equal) (one_of_key xs y z up (within y (inl refl)) (within z (inr h)) same) (itself y))),
          apart ys (λ z h. within z (inr h)) far.1,
        )

        differ : AllPairs (λ x y. key x ≢ key y) kept
        differ = pairwise kept (apart kept inside (subst (IsAscending (λ x y. cmp x y ≢ Equal)) (sym distinct.2) (ascending-map _ (λ g. g.0) groups distinct.1.apart)))

        rising : Rises (in_order key kept)
        rising = ascending_weaker _ (λ x y. key x < key y) (λ x y less. omega (arith, ints)) _ (in_order_rises key kept)

        whole : in_order key kept ≡ xs
        whole = same_rising (in_order key kept) xs rising up (λ z h. inside z (has_permuted _ kept z (IsPermutation-sym _ _ (in_order_same key kept differ)) h)) (λ z h. has_permuted kept _ z (in_order_same key kept differ) (covered z h))

-- ---- one of each of the pairs that pass

-- the number that a row is sorted by
abbrev number_in : Output → ℕ
number_in o = unwrap_or (as_count (column o.0 0)) 0

-- by what is shown
abbrev by_shown : List Collation → Output → Output → Ordering
by_shown collations = on (λ (o : Output). o.1) (collated_cmp collations)

-- what ties in two columns ties in the first
ties_first : (a b : Ordering) → ordering_then a b ≡ Equal → a ≡ Equal
ties_first Less b h = h
ties_first Equal b h = refl
ties_first Greater b h = h

-- numbers that tie are one
one_number : (m n : ℕ) → nat_cmp m n ≡ Equal → m ≡ n
one_number m n e = grind (arith, nat_tests)

module _ {X Y Z : Type 0} (R : Row → X → Type 0) (S : Row → Y → Type 0) (first second : ℕ) (test project : List Term) (order : Term) (collations : List Collation) (params : Row)
    (p : X → Y → Bool) (out : X → Y → Output)
    (same : (r s : Row) (x : X) (y : Y) → R r x → S s y → list_all (holds (params ∷ r ∷ s ∷ [])) test ≡ p x y)
    (shows : (r s : Row) (x : X) (y : Y) → R r x → S s y → output (over_tables first second test project ((order, ascending Binary) ∷ [])) (params ∷ r ∷ s ∷ []) ≡ out x y)
    (key : Z → ℕ) (behind : Z → Row) where
  -- the query, by rising numbers
  abbrev pub once : Query
  once = record (over_tables first second test project ((order, ascending Binary) ∷ [])) { distinct = true; collations = Binary ∷ collations }

  -- a record, and in front of it the number that it is sorted by
  abbrev pub made : Z → Output
  made z = (Int (pos (key z)) ∷ [], Int (pos (key z)) ∷ behind z)

  -- records that are shown alike have one number
  shown_alike : (y z : Z) → by_shown (Binary ∷ collations) (made y) (made z) ≡ Equal → key y ≡ key z
  shown_alike y z alike = one_number (key y) (key z) (sym (value_cmp-pos (key y) (key z)) ∙ ties_first _ _ alike)

  module _ (xs : List X) (ys : List Y) (zs : List Z)
      (to : (x : X) (y : Y) → Has xs x → Has ys y → p x y ≡ true → (z : Z) × Has zs z × (out x y ≡ made z))
      (from : (z : Z) → Has zs z → (x : X) × (y : Y) × Has xs x × Has ys y × (p x y ≡ true) × (out x y ≡ made z)) where
    -- what is made of each pair
    abbrev all : List Output
    all = flat_map (λ x. map (out x) (filter (p x) ys)) xs

    has_once : (o : Output) → Has all o → Has (map made zs) o
    has_once o h =
        let at = has_pair p out xs ys o h in
        let is = to at.0 at.1 at.2 at.3 at.4 in
        subst (Has (map made zs)) (sym (at.5 ∙ is.2)) (has_making made zs is.0 is.1)

    has_all : (o : Output) → Has (map made zs) o → Has all o
    has_all o h =
        let is = has_made made zs o h in
        let at = from is.0 is.1 in
        subst (Has all) (at.5 ∙ sym is.2) (has_pairing p out xs ys at.0 at.1 at.2 at.3 at.4)

    keyed : (a b : Output) → Has (map made zs) a → Has (map made zs) b → by_shown (Binary ∷ collations) a b ≡ Equal → number_in a ≡ number_in b
    keyed a b h k alike =
        let y = has_made made zs a h in
        let z = has_made made zs b k in
        ap number_in y.2 ∙ shown_alike y.0 z.0 (subst (λ o. by_shown (Binary ∷ collations) (made y.0) o ≡ Equal) z.2 (subst (λ o. by_shown (Binary ∷ collations) o b ≡ Equal) y.2 alike)) ∙ ap number_in (sym z.2)

    -- where pairs lead to records whose numbers rise, and each record has a pair, the records are shown
    pub shows_once : (db : Trees) (rows : List Row) → AllZip R (db first) xs → AllZip S (db second) ys → IsAscending (λ y z. pos (key y) <ℤ pos (key z)) zs
        → IsAnswer once db params rows → rows ≡ map (λ z. Int (pos (key z)) ∷ behind z) zs
    shows_once db rows told tells up a =
        let is_all : map (output once) a.staged ≡ all = ap (map (output once)) a.grouped ∙ pairs R S first second test project ((order, ascending Binary) ∷ []) params p out same shows (db first) xs told (db second) ys tells in
        let rise = ascending-map (λ a b. number_in a < number_in b) made zs (ascending_weaker _ (λ y z. key y < key z) (λ y z less. omega (arith, ints)) zs up) in
        let mine = distinct_is number_in (by_shown (Binary ∷ collations)) (λ o. tied_itself (collated_cmp_total (Binary ∷ collations)) o.1) all a.kept (map made zs)
        (subst (λ l. IsDistinctOf (by_shown (Binary ∷ collations)) l a.kept) is_all a.distinct) rise has_once has_all keyed in
        let strict = ascending-map (λ a b. output_cmp once a b ≡ Less) made zs (ascending_weaker _ (λ y z. output_cmp once (made y) (made z) ≡ Less) (λ y z less. rises _ _ (key y) (key z) refl refl less) zs up) in
        let is : a.ordered ≡ map made zs = sorted_unique (output_cmp once) (output_cmp_total once) (map made zs) a.ordered strict (IsPermutation-trans _ _ _ (IsPermutation-sym _ _ mine) a.same) a.sorted in
        a.shown ∙ ap (map (λ (o : Output). o.1)) is ∙ map-map (λ (o : Output). o.1) made zs
