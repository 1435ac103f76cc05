-- One of some contents is held.
use Rattle.std.proofs.Common.{ℕ, List, [], ◌∷◌, inl, inr}
use Rattle.sqlite.specs.State.{State}
use Rattle.sqlite.specs.Tree.{Trees}
use Rattle.gate_types.specs.Once.{Content}
use Rattle.gate_types.specs.Settings.{Settings}
use Rattle.gate_rows.specs.Matches.{StandsFor}
use Rattle.gate_table_laws.specs.Held.{HoldsFor, HoldsForOne, StandsForOne}

-- where each content that the tables stand for is held
pub one_held : (db : Trees) (s : State) (names : List (List ℕ)) (c : Settings) → ((x : Content) → StandsFor db c x → HoldsFor s names c x) → (xs : List Content) → StandsForOne db c xs → HoldsForOne s names c xs
one_held db s names c holds [] it = it
one_held db s names c holds (x ∷ xs) (inl it) = inl (holds x it)
one_held db s names c holds (x ∷ xs) (inr it) = inr (one_held db s names c holds xs it)

-- where each content that the one tables stand for is one that the other stand for
pub one_stands : (one other : Trees) (c : Settings) → ((x : Content) → StandsFor one c x → StandsFor other c x) → (xs : List Content) → StandsForOne one c xs → StandsForOne other c xs
one_stands one other c stands [] it = it
one_stands one other c stands (x ∷ xs) (inl it) = inl (stands x it)
one_stands one other c stands (x ∷ xs) (inr it) = inr (one_stands one other c stands xs it)
