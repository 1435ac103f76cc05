-- Joined texts.
use Rattle.std.proofs.Common.{◌≡◌, ℕ, List, [], ◌∷◌, ◌++◌, map, refl, ap, sym, ◌∙◌}
use Rattle.std.specs.Prelude.{flat_map}
use Rattle.std.specs.List.{join_by}

flat_map_map : {X : Type 0} (f : X → List ℕ) (sep : List ℕ) (xs : List X) → flat_map (λ y. sep ++ f y) xs ≡ flat_map (λ y. sep ++ y) (map f xs)
flat_map_map f sep [] = refl
flat_map_map f sep (x ∷ xs) = ap (λ r. (sep ++ f x) ++ r) (flat_map_map f sep xs)

-- joined values are the joined texts of these
pub join_by_map : {X : Type 0} (f : X → List ℕ) (sep : List ℕ) (xs : List X) → join_by f sep xs ≡ join_by (λ t. t) sep (map f xs)
join_by_map f sep [] = refl
join_by_map f sep (x ∷ xs) = ap (λ r. f x ++ r) (flat_map_map f sep xs)

-- texts of values are joined as the values are
pub joined_as : {X Y : Type 0} (f : X → List ℕ) (g : Y → List ℕ) (sep : List ℕ) (xs : List X) (ys : List Y) → map f xs ≡ map g ys → join_by f sep xs ≡ join_by g sep ys
joined_as f g sep xs ys e = join_by_map f sep xs ∙ ap (join_by (λ t. t) sep) e ∙ sym (join_by_map g sep ys)
