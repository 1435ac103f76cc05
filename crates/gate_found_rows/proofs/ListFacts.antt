-- Lists: what is found in them, and their first and last.
use Rattle.std.proofs.Common.{◌≡◌, List, [], ◌∷◌, ◌++◌, map, filter, find, reverse, slice_get, Bool, true, false}
use Rattle.std.proofs.Common.{cond, ◌&&◌, Option, Some, None, option_map, refl, sym, ap, ◌∙◌}
use Rattle.std.specs.Prelude.{IfSome, fold}
use Rattle.std.specs.List.{All, AllByRecursion}
use Rattle.std.specs.Option.{option_or}
use Rattle.std.proofs.lemmas.List.{reverse-append}
use Rattle.std.proofs.lemmas.List.Elements.{recursion_from_All}
use Rattle.sqlite_keyed.proofs.ListLemmas.{all_weaker, filter-map, slice_get-filter}
use Rattle.gate_types.proofs.PlainLemmas.{filter_twice}

-- ---- tests

-- what holds of all elements, and so what follows from it
pub all_so : {X : Type 0} (P Q : X → Type 0) → ((x : X) → P x → Q x) → (xs : List X) → All P xs → AllByRecursion Q xs
all_so P Q f xs all = all_weaker P Q f xs (recursion_from_All P xs all)

-- what passes does pass
pub passing : {X : Type 0} (p : X → Bool) (xs : List X) → AllByRecursion (λ x. p x ≡ true) (filter p xs)
passing p [] = tt
passing p (x ∷ xs) = go (p x) refl (passing p xs)
  where
    go : (b : Bool) → p x ≡ b → AllByRecursion (λ x. p x ≡ true) (filter p xs) → AllByRecursion (λ x. p x ≡ true) (cond b (x ∷ filter p xs) (filter p xs))
    go true e more = (e, more)
    go false e more = more

-- two filters in turn, with a map between
pub filter_in : {X Y : Type 0} (g : X → Bool) (h : Y → Bool) (f : X → Y) (xs : List X) → filter h (map f (filter g xs)) ≡ map f (filter (λ x. g x && h (f x)) xs)
filter_in g h f xs = filter-map h f (filter g xs) ∙ ap (map f) (filter_twice g (λ x. h (f x)) xs)

-- ---- the first and the last

-- what holds of all elements holds of the first
pub first_so : {X : Type 0} (P : X → Type 0) (xs : List X) → AllByRecursion P xs → IfSome (slice_get xs 0) P
first_so P [] all = tt
first_so P (x ∷ xs) all = all.0

-- the first of a mapped list
pub first_of_map : {X Y : Type 0} (f : X → Y) (xs : List X) → slice_get (map f xs) 0 ≡ option_map f (slice_get xs 0)
first_of_map f [] = refl
first_of_map f (x ∷ xs) = refl

-- the first that passes both tests is found by the second among those that pass the first
pub found_in : {X Y : Type 0} (g : X → Bool) (h : Y → Bool) (f : X → Y) (xs : List X) → option_map f (slice_get (filter (λ x. g x && h (f x)) xs) 0) ≡ find h (map f (filter g xs))
found_in g h f xs = sym (first_of_map f _) ∙ ap (λ l. slice_get l 0) (sym (filter_in g h f xs)) ∙ slice_get-filter h (map f (filter g xs))

-- what stands behind a list is its first only where the list is empty
end_of : {X Y : Type 0} (f : X → Y) (xs : List X) (x : X) (o : Option Y) → option_or (option_map f (slice_get xs 0)) (Some (f x)) ≡ option_or (option_map f (slice_get (xs ++ x ∷ []) 0)) o
end_of f [] x o = refl
end_of f (y ∷ xs) x o = refl

-- the last of a list is the first of it turned round
last_of : {X Y : Type 0} (f : X → Y) (xs : List X) (o : Option Y) → fold (λ last y. Some y) o (map f xs) ≡ option_or (option_map f (slice_get (reverse xs) 0)) o
last_of f [] o = refl
last_of f (x ∷ xs) o =
    last_of f xs (Some (f x)) ∙ end_of f (reverse xs) x o ∙ ap (λ l. option_or (option_map f (slice_get l 0)) o) (sym (reverse-append (x ∷ []) xs))

-- nothing in place of nothing
none_else : {X : Type 0} (o : Option X) → option_or o None ≡ o
none_else None = refl
none_else (Some x) = refl

-- the last that passes both tests is the last that the second leaves of those that pass the first
pub last_in : {X Y : Type 0} (g : X → Bool) (h : Y → Bool) (f : X → Y) (xs : List X) →
    option_map f (slice_get (reverse (filter (λ x. g x && h (f x)) xs)) 0) ≡ fold (λ last y. Some y) None (filter h (map f (filter g xs)))
last_in g h f xs = sym (none_else _) ∙ sym (last_of f (filter (λ x. g x && h (f x)) xs) None) ∙ ap (fold (λ last y. Some y) None) (sym (filter_in g h f xs))
