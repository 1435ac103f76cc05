-- The index of needs.
use Rattle.std.proofs.Common.{◌≡◌, ℕ, ◌+◌, ◌<◌, inl, inr, ⊎_elim, Bool, true, false, cond, ◌||◌, Option, Some, None}
use Rattle.std.proofs.Common.{List, [], ◌∷◌, ◌++◌, length, take, get_or, refl, sym, ap, subst, ◌∙◌, eqb-true, arith}
use Rattle.std.specs.Prelude.{◌==◌, filter, find, option_map, unwrap_or}
use Rattle.std.specs.List.{AllByRecursion, cons_option, filter_map, list_any}
use Rattle.std.specs.List.Sorted.{IsPermutation}
use Rattle.std.specs.Option.{option_map_or}
use Rattle.std.proofs.lemmas.Bool.{false≢true}
use Rattle.std.proofs.lemmas.List.{take_more}
use Rattle.std.proofs.lemmas.List.Elements.{All-from_recursion, recursion_from_All}
use Rattle.std.proofs.lemmas.List.Sorted.{All-permutation, IsPermutation-sym}
use Rattle.std.proofs.lemmas.Option.{none-some}
use Rattle.gate_types.specs.declared.edits.Edit.{Edit}
use Rattle.gate_types.specs.declared.records.Item.{Item}
use Rattle.gate_types.specs.declared.rows.ChangeRow.{ChangeRow}
use Rattle.gate_types.specs.Rising.{In}
use Rattle.gate_types.proofs.PlainLemmas.{all_push}
use Rattle.gate_types.specs.Tables.{needs_in}
use Rattle.gate_memory.specs.declared.pairs.Pair.{Pair}
use Rattle.gate_memory.specs.Pairs.{IsFit}
use Rattle.gate_memory.specs.Needs.{TellsNeeds, TellsSerials, IsSmall, pair_of_need, needs_brought, needs_of_all}
use Rattle.gate_book_trait.proofs.Finding.{all_in, in_weaker}

-- ---- rows that are there

pub all_from : {X : Type 0} (P : X → Type 0) (xs : List X) → ((x : X) → In x xs → P x) → AllByRecursion P xs
all_from P [] h = tt
all_from P (x ∷ xs) h = (h x (inl refl), all_from P xs (λ y t. h y (inr t)))

pub in_filter : {X : Type 0} (test : X → Bool) (z : X) (xs : List X) → test z ≡ true → In z xs → In z (filter test xs)
in_filter test z [] e there = absurd there
in_filter {X} test z (x ∷ xs) e there = by_test (test x) refl (λ t. in_filter test z xs e t) there
  where
    by_test : (t : Bool) → test x ≡ t → (In z xs → In z (filter test xs)) → In z (x ∷ xs) → In z (cond t (x ∷ filter test xs) (filter test xs))
    by_test true h rest there = ⊎_elim (λ s. inl s) (λ t. inr (rest t)) there
    by_test false h rest there = ⊎_elim (λ (s : x ≡ z). absurd (false≢true (sym h ∙ ap test s ∙ e))) rest there

pub all_filter : {X : Type 0} (P : X → Type 0) (test : X → Bool) (xs : List X) → AllByRecursion P xs → AllByRecursion P (filter test xs)
all_filter P test [] all = tt
all_filter P test (x ∷ xs) all = by_test (test x) (all_filter P test xs all.1)
  where
    by_test : (t : Bool) → AllByRecursion P (filter test xs) → AllByRecursion P (cond t (x ∷ filter test xs) (filter test xs))
    by_test true rest = (all.0, rest)
    by_test false rest = rest

-- what a filter keeps was there and passes
pub from_filter : {X : Type 0} (test : X → Bool) (x : X) (xs : List X) → In x (filter test xs) → In x xs × (test x ≡ true)
from_filter test x [] there = absurd there
from_filter {X} test x (y ∷ ys) there = by_test (test y) refl there (from_filter test x ys)
  where
    by_test : (t : Bool) → test y ≡ t → In x (cond t (y ∷ filter test ys) (filter test ys)) → (In x (filter test ys) → In x ys × (test x ≡ true)) → In x (y ∷ ys) × (test x ≡ true)
    by_test true h there rest = ⊎_elim (λ e. (inl e, sym (ap test e) ∙ h)) (λ t. let r = rest t in (inr r.0, r.1)) there
    by_test false h there rest = let r = rest there in (inr r.0, r.1)

-- what a row gives is among what all give
pub in_given : {X Y : Type 0} (h : X → Option Y) (x : X) (y : Y) (xs : List X) → In x xs → h x ≡ Some y → In y (filter_map h xs)
in_given h x y [] there e = absurd there
in_given {X} {Y} h x y (z ∷ zs) there e = by_given (h z) refl (in_given h x y zs) there
  where
    by_given : (o : Option Y) → h z ≡ o → (In x zs → h x ≡ Some y → In y (filter_map h zs)) → In x (z ∷ zs) → In y (cons_option o (filter_map h zs))
    by_given None g rest there = ⊎_elim (λ s. absurd (none-some y (sym g ∙ ap h s ∙ e))) (λ t. rest t e) there
    by_given (Some w) g rest there = ⊎_elim (λ s. inl (ap (λ o. unwrap_or o w) (sym g ∙ ap h s ∙ e))) (λ t. inr (rest t e)) there

-- what a permutation keeps
pub moved_in : {X : Type 0} (xs ys : List X) → IsPermutation xs ys → (x : X) → In x xs → In x ys
moved_in xs ys moved x there =
    all_in (λ z. In z ys) xs x
    (recursion_from_All (λ z. In z ys) xs (All-permutation (λ z. In z ys) ys xs (IsPermutation-sym xs ys moved) (All-from_recursion (λ z. In z ys) ys (all_from (λ z. In z ys) ys (λ z t. t))))) there

-- what is so of the first rows and of the next
pub all_next : {X : Type 0} (P : X → Type 0) (xs : List X) (k : ℕ) (d : X) → k < length xs → AllByRecursion P (take k xs) → P (get_or xs k d) → AllByRecursion P (take (k + 1) xs)
all_next P xs k d l all p = rw (take_more xs k d l) (all_push P (take k xs) (get_or xs k d) all p)

pub all_more : {X : Type 0} (P : X → Type 0) (xs : List X) (k : ℕ) (x : X) → k < length xs → x ≡ get_or xs k x → AllByRecursion P (take k xs) → P x → AllByRecursion P (take (k + 1) xs)
all_more P xs k x l at all p = all_next P xs k x l all (subst P at p)

-- ---- the index

pub small_fit : (ps : List Pair) → AllByRecursion IsSmall ps → AllByRecursion IsFit ps
small_fit ps small = in_weaker IsSmall IsFit (λ p h. omega (arith, h)) ps small

any_told : (needs : List Pair) (j n : ℕ) (ms : List ℕ) → AllByRecursion (λ m. In (pair_of_need m j) needs) ms → list_any (λ m. m == n) ms ≡ true → In (pair_of_need n j) needs
any_told needs j n [] told any = absurd (false≢true any)
any_told needs j n (m ∷ ms) told any = by_number (m == n) refl any (any_told needs j n ms told.1)
  where
    by_number : (t : Bool) → m == n ≡ t → t || list_any (λ i. i == n) ms ≡ true → (list_any (λ i. i == n) ms ≡ true → In (pair_of_need n j) needs) → In (pair_of_need n j) needs
    by_number true e any rest = subst (λ i. In (pair_of_need i j) needs) (eqb-true m n e) told.0
    by_number false e any rest = rest any

-- a change that needs another tells so
pub needed_told : (needs : List Pair) (n k : ℕ) (rows : List ChangeRow) → TellsNeeds needs rows → list_any (λ m. m == n) (needs_in rows k) ≡ true → In (pair_of_need n k) needs
needed_told needs n k [] told any = absurd (false≢true any)
needed_told needs n k (r ∷ rs) told any = by_number (r.change.number == k) refl any (needed_told needs n k rs told.1)
  where
    by_number : (t : Bool) → r.change.number == k ≡ t → list_any (λ m. m == n) (option_map_or (λ c. c.needs) (option_map (λ (r : ChangeRow). r.change) (cond t (Some r) (find (λ r. r.change.number == k) rs))) []) ≡ true → (list_any (λ m. m == n) (needs_in rs k) ≡ true → In (pair_of_need n k) needs) → In (pair_of_need n k) needs
    by_number true e any rest = subst (λ j. In (pair_of_need n j) needs) (eqb-true r.change.number k e) (any_told needs r.change.number n r.change.needs told.0 any)
    by_number false e any rest = rest any

-- more serials tell what some did
pub serials_more : (n : ℕ) (some more : List ℕ) (items : List Item) → ((m : ℕ) → In m some → In m more) → TellsSerials n some items → TellsSerials n more items
serials_more n some more items h told = in_weaker (λ (i : Item). i.change ≡ n → In i.serial some) (λ (i : Item). i.change ≡ n → In i.serial more) (λ i t e. h i.serial (t e)) items told

-- ---- how many

needs_push : (es : List Edit) (e : Edit) → needs_of_all (es ++ e ∷ []) ≡ needs_of_all es + needs_brought e
needs_push [] e = omega arith
needs_push (d ∷ ds) e = let rest = needs_push ds e in omega (arith, rest)

pub needs_more : (es : List Edit) (k : ℕ) (e : Edit) → k < length es → e ≡ get_or es k e → needs_of_all (take (k + 1) es) ≡ needs_of_all (take k es) + needs_brought e
needs_more es k e l at = ap needs_of_all (take_more es k e l ∙ ap (λ d. take k es ++ d ∷ []) (sym at)) ∙ needs_push (take k es) e
