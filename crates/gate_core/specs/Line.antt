-- What a held line stands for.
use Rattle.std.specs.Prelude.{◌≡◌, ◌⊎◌, ℕ, ◌<◌, ◌≤◌, List, [], length, true, false, Option, MatchOption}
use denote.Ref.{Bor}
use Rattle.gate_types.specs.Limits.{most_bytes}
use Rattle.gate_core.specs.declared.line.Line.{Line}

-- it has these bytes, or knows that they are too many
pub record HoldsLine (line : Line) (begun : List ℕ) : Type 0 where
  pub state : ((line.long ≡ false) × (line.bytes.items ≡ begun))
      ⊎ ((line.long ≡ true) × (line.bytes.items ≡ [] → ⊥) × (most_bytes < length begun))

-- it is given, or known to be too long
abbrev pub ShowsLine : Option (Bor (List ℕ)) → List ℕ → Type 0
ShowsLine shown begun =
    MatchOption shown (most_bytes < length begun) (λ s. (s.now ≡ begun) × (length begun ≤ most_bytes))
