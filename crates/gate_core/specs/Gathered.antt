-- The lines as the engine gathers them, byte by byte: for the inside alone.
use Rattle.std.specs.Prelude.{ℕ, List, [], ◌∷◌, ◌++◌, if◌then◌else◌, ◌==◌}

-- the lines that end at an LF, each without it, where begun is what the first of them began with
abbrev pub whole_from : List ℕ → List ℕ → List (List ℕ)
whole_from begun [] = []
whole_from begun (b ∷ bs) = if b == 10 then begun ∷ whole_from [] bs else whole_from (begun ++ b ∷ []) bs

-- what stands behind the last LF
abbrev pub rest_from : List ℕ → List ℕ → List ℕ
rest_from begun [] = begun
rest_from begun (b ∷ bs) = if b == 10 then rest_from [] bs else rest_from (begun ++ b ∷ []) bs
