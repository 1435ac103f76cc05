-- How a book in memory keeps builds: by number, beside an index of all and one of the live ones, by serial.
use Rattle.std.specs.Prelude.{ℕ, ◌≡◌, ◌==◌, ◌≤◌, ◌+◌, Bool, ◌&&◌, true, List, vec_len, vec_capacity}
use Rattle.std.specs.List.{AllByRecursion}
use Rattle.gate_types.specs.declared.records.Build.{Build}
use Rattle.gate_types.specs.Rising.{RisesFrom, In}
use Rattle.gate_memory.specs.Pairs.{pair_key, IsFit}
use Rattle.gate_memory.specs.declared.pairs.Pair.{Pair}
use Rattle.gate_memory.specs.declared.builds.BuildTable.{BuildTable}

-- the number of a build
abbrev pub number_of_build : Build → ℕ
number_of_build b = b.number

-- a live build of a serial
abbrev pub is_live_of : ℕ → Build → Bool
is_live_of serial b = b.live && b.serial == serial

-- a build of a serial, live or not
abbrev pub is_build_of : ℕ → Build → Bool
is_build_of serial b = b.serial == serial

-- what an index keeps of a build
abbrev pub pair_of : Build → Pair
pair_of b = record { first = b.serial; second = b.number }

-- each live build stands in the index
abbrev pub TellsLive : List Pair → List Build → Type 0
TellsLive pairs builds = AllByRecursion (λ b. b.live ≡ true → In (pair_of b) pairs) builds

-- an index has the pair of each of these builds, and no other
pub record IsIndexOf (pairs : List Pair) (builds : List Build) : Type 0 where
  pub there : (b : Build) → In b builds → In (pair_of b) pairs
  pub back : (p : Pair) → In p pairs → (b : Build) × In b builds × (pair_of b ≡ p)

-- an index that rises, and has the pair of each of these builds, and no other
pub record Indexes (pairs : List Pair) (builds : List Build) : Type 0 where
  pub rise : RisesFrom pair_key 0 pairs
  pub fit : AllByRecursion IsFit pairs
  pub told : IsIndexOf pairs builds

-- all lists rise, the one index has all builds, and the other each live one
pub record IsKeptBuildTable (t : BuildTable) : Type 0 where
  pub rows_rise : RisesFrom number_of_build 0 t.rows.items
  pub live_rise : RisesFrom pair_key 0 t.live.items
  pub live_fit : AllByRecursion IsFit t.live.items
  pub live_told : TellsLive t.live.items t.rows.items
  pub all_told : Indexes t.told.items t.rows.items

-- room for n more builds
pub record HaveRoom (n : ℕ) (t : BuildTable) : Type 0 where
  pub rows : vec_len t.rows + n ≤ vec_capacity t.rows
  pub live : vec_len t.live + n ≤ vec_capacity t.live
  pub told : vec_len t.told + n ≤ vec_capacity t.told
