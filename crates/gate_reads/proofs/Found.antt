-- What is found in a list by a key that stands once.
use Rattle.std.proofs.Common.{◌≡◌, ℕ, ◌≤◌, Bool, true, false, ◌||◌, cond, Option, Some, None, List, [], ◌∷◌, map}
use Rattle.std.proofs.Common.{refl, sym, ap, ◌∙◌, arith, true≢false}
use Rattle.std.specs.Prelude.{◌==◌, filter, find, is_some, option_map, option_and_then}
use Rattle.std.specs.Bool.{then_some}
use Rattle.std.specs.List.{list_any}
use Rattle.std.proofs.lemmas.Bool.{eq-eqb, eqb-true}
use Rattle.std.proofs.lemmas.Option.{none-some, same_Some}
use Rattle.gate_types.specs.Rising.{In}
use Rattle.gate_laws.proofs.Members.{found, not_found}
use Rattle.gate_laws.proofs.Counts.{times, hits, one_of}

-- a test passes somewhere just where something is found
pub any_found : {X : Type 0} (t : X → Bool) (xs : List X) → list_any t xs ≡ is_some (find t xs)
any_found t [] = refl
any_found t (x ∷ xs) = by_test (t x) (any_found t xs)
  where
    by_test : (b : Bool) → list_any t xs ≡ is_some (find t xs) →
        (b || list_any t xs) ≡ is_some (cond b (Some x) (find t xs))
    by_test true r = refl
    by_test false r = r

pub some_mapped : {X Y : Type 0} (f : X → Y) (o : Option X) → is_some (option_map f o) ≡ is_some o
some_mapped f (Some x) = refl
some_mapped f None = refl

pub some_then : {X : Type 0} (b : Bool) (x : X) → is_some (then_some b x) ≡ b
some_then true x = refl
some_then false x = refl

-- what an option was before a map
pub none_before : {X Y : Type 0} (f : X → Y) (o : Option X) → option_map f o ≡ None → o ≡ None
none_before f None e = refl
none_before f (Some x) e = absurd (none-some (f x) (sym e))

pub some_before : {X Y : Type 0} (f : X → Y) (o : Option X) (y : Y) → option_map f o ≡ Some y →
    (x : X) × (o ≡ Some x) × (f x ≡ y)
some_before f None y e = absurd (none-some y e)
some_before f (Some x) y e = (x, refl, same_Some (f x) y e)

-- a number that doesn't stand among the keys
none_found : {X : Type 0} (key : X → ℕ) (t : X → Bool) (n : ℕ) (xs : List X) → times n (map key xs) ≡ 0 →
    find (λ x. key x == n) (filter t xs) ≡ None
none_found key t n [] h = refl
none_found {X = X} key t n (x ∷ xs) h = by_key (key x == n) refl (t x) (λ k. none_found key t n xs k)
  where
    is_it : X → Bool
    is_it y = key y == n

    by_key : (b : Bool) → key x == n ≡ b → (d : Bool) → (times n (map key xs) ≡ 0 → find is_it (filter t xs) ≡ None) →
        find is_it (cond d (x ∷ filter t xs) (filter t xs)) ≡ None
    by_key true e d rest = let one = hits (key x) n (eqb-true (key x) n e) in absurd (omega (arith, one, h))
    by_key false e true rest = ap (λ b. cond b (Some x) (find is_it (filter t xs))) e ∙ rest (omega (arith, h))
    by_key false e false rest = rest (omega (arith, h))

-- among those that pass a test
pub found_passing : {X : Type 0} (key : X → ℕ) (t : X → Bool) (n : ℕ) (xs : List X) → times n (map key xs) ≤ 1 →
    find (λ x. key x == n) (filter t xs) ≡ option_and_then (λ x. then_some (t x) x) (find (λ x. key x == n) xs)
found_passing key t n [] h = refl
found_passing {X = X} key t n (x ∷ xs) h = by_key (key x == n) refl (t x) refl (λ k. found_passing key t n xs k)
  where
    is_it : X → Bool
    is_it y = key y == n

    passing : Option X → Option X
    passing o = option_and_then (λ y. then_some (t y) y) o

    by_key : (b : Bool) → key x == n ≡ b → (d : Bool) → t x ≡ d →
        (times n (map key xs) ≤ 1 → find is_it (filter t xs) ≡ passing (find is_it xs)) →
        find is_it (cond d (x ∷ filter t xs) (filter t xs)) ≡ passing (cond b (Some x) (find is_it xs))
    by_key true e true f rest = ap (λ b. cond b (Some x) (find is_it (filter t xs))) e ∙ sym (ap (λ d. then_some d x) f)
    by_key true e false f rest =
        let one = hits (key x) n (eqb-true (key x) n e) in
        none_found key t n xs (omega (arith, one, h)) ∙ sym (ap (λ d. then_some d x) f)
    by_key false e true f rest = ap (λ b. cond b (Some x) (find is_it (filter t xs))) e ∙ rest (omega (arith, h))
    by_key false e false f rest = rest (omega (arith, h))

-- an element by its own key
pub found_itself : {X : Type 0} (key : X → ℕ) (xs : List X) (x : X) → In x xs → times (key x) (map key xs) ≤ 1 →
    find (λ y. key y == key x) xs ≡ Some x
found_itself key xs x m h = by_found (find (λ y. key y == key x) xs) refl
  where
    by_found : (o : Option _) → find (λ y. key y == key x) xs ≡ o → o ≡ Some x
    by_found None e = absurd (true≢false (sym (eq-eqb (key x) (key x) refl) ∙ not_found (λ y. key y == key x) xs e x m))
    by_found (Some y) e =
        let there = found (λ z. key z == key x) xs y e in
        ap Some (sym (one_of key xs x y h m there.0 (sym (eqb-true (key y) (key x) there.1))))
