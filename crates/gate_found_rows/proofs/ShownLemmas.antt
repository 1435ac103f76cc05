-- Records that are found: what they pass, how many they are, and the first of them.
use Rattle.std.proofs.Common.{◌≡◌, ◌≤◌, ℕ, Bool, true, List, [], ◌∷◌, ◌++◌, filter, flat_map, get_or, length, map, ap}
use Rattle.std.proofs.Common.{◌∙◌, arith, slice_get, slice_index, option_map, find, Option, subst, Result, Ok, Err}
use Rattle.std.specs.Prelude.{IfOk, OnErr}
use Rattle.std.proofs.lemmas.List.Elements.{All-from_recursion, filter_passes, recursion_from_All}
use Rattle.std.proofs.lemmas.List.Kept.{AllPairs-filter}
use Rattle.std.specs.List.{AllByRecursion, AllPairs, AllPass}
use Rattle.sqlite.specs.Order.{Row}
use Rattle.sqlite_keyed.proofs.ListLemmas.{all-filter, slice_get-filter}
use Rattle.gate_book_trait.specs.Reads.{Answers}
use Rattle.gate_book_trait.specs.declared.fault.BookFault.{BookFault}
use Rattle.gate_found_rows.specs.Shown.{number_shown}
use Rattle.gate_found_rows.proofs.ListFacts.{first_of_map}

-- what all records pass, those that are kept pass
pub pass_filter : {X : Type 0} (form p : X → Bool) (xs : List X) → AllPass form xs → AllPass form (filter p xs)
pass_filter form p xs all =
    All-from_recursion (λ x. form x ≡ true) (filter p xs) (all-filter (λ x. form x ≡ true) p xs (recursion_from_All (λ x. form x ≡ true) xs all))

-- what the records of each list pass, those of all pass
pub pass_flat : {X Y : Type 0} (form : Y → Bool) (f : X → List Y) → ((x : X) → AllPass form (f x)) → (xs : List X) → AllPass form (flat_map f xs)
pass_flat {X} {Y} form f each xs = All-from_recursion (λ y. form y ≡ true) (flat_map f xs) (all xs)
  where
    both : (ys zs : List Y) → AllByRecursion (λ y. form y ≡ true) ys → AllByRecursion (λ y. form y ≡ true) zs → AllByRecursion (λ y. form y ≡ true) (ys ++ zs)
    both [] zs h k = k
    both (y ∷ ys) zs h k = (h.0, both ys zs h.1 k)

    all : (us : List X) → AllByRecursion (λ y. form y ≡ true) (flat_map f us)
    all [] = tt
    all (u ∷ us) = both (f u) (flat_map f us) (recursion_from_All (λ y. form y ≡ true) (f u) (each u)) (all us)

-- where no two records that pass may stand together, at most one passes
pub few_pass : {X : Type 0} (R : X → X → Type 0) (p : X → Bool) → ((x y : X) → p x ≡ true → p y ≡ true → R x y → ⊥) → (xs : List X) → AllPairs R xs
    → length (filter p xs) ≤ 1
few_pass {X} R p apart xs pairs = short (filter p xs) (AllPairs-filter R p xs pairs) (filter_passes p xs)
  where
    short : (ys : List X) → AllPairs R ys → AllPass p ys → length ys ≤ 1
    short [] pairs pass = omega arith
    short (y ∷ []) pairs pass = omega arith
    short (y ∷ z ∷ ys) pairs pass =
        absurd (apart y z (pass 0 y (omega arith)) (pass 1 y (omega arith)) (pairs 0 1 y (omega arith) (omega arith)))

-- the number in the first row
pub number_first : (ns : List ℕ) (rows : List Row) (row : Row) → 1 ≤ length rows → row ≡ get_or rows 0 row → rows ≡ map number_shown ns → row ≡ number_shown (slice_index ns 0)
number_first [] rows row some at is = absurd (let none = ap length is in omega arith)
number_first (n ∷ ns) rows row some at is = at ∙ ap (λ rs. get_or rs 0 row) is

-- a read that fails at no value answers it
pub surely : {T : Type 0} (v : T) (r : Result T BookFault) → IfOk r (λ x. x ≡ v) → OnErr r ⊥ → Answers v r
surely v (Ok x) ok err = ok
surely v (Err f) ok err = absurd err

-- what is answered of the first that is kept is answered of the first that is found
pub answers_found : {X : Type 0} (p : X → Bool) (xs : List X) (r : Result (Option X) BookFault) → Answers (slice_get (filter p xs) 0) r → Answers (find p xs) r
answers_found p xs r told = subst (λ o. Answers o r) (slice_get-filter p xs) told

-- and so of what is told of it
pub answers_told : {X Y : Type 0} (p : X → Bool) (f : X → Y) (xs : List X) (r : Result (Option Y) BookFault) → Answers (slice_get (map f (filter p xs)) 0) r
    → Answers (option_map f (find p xs)) r
answers_told p f xs r told = subst (λ o. Answers o r) (first_of_map f (filter p xs) ∙ ap (option_map f) (slice_get-filter p xs)) told
