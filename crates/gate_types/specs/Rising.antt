-- Rows whose keys rise, and what is among them.
use Rattle.std.specs.Prelude.{ℕ, suc, ◌≡◌, ◌≤◌, ◌⊎◌, List, [], ◌∷◌}

-- each key is n or above, and above those before it
abbrev pub RisesFrom : {X : Type 0} → (X → ℕ) → ℕ → List X → Type 0
RisesFrom key n [] = Unit {0}
RisesFrom key n (x ∷ xs) = (n ≤ key x) × RisesFrom key (suc (key x)) xs

-- a row is one of these
abbrev pub In : {X : Type 0} → X → List X → Type 0
In x [] = ⊥
In x (y ∷ ys) = (y ≡ x) ⊎ In x ys
