-- Lines that are answered in turn.
use Rattle.std.specs.Prelude.{◌≡◌, ◌⊎◌, ℕ, ◌<◌, ◌≤◌, List, [], ◌∷◌, ◌++◌, length, take, Option}
use Rattle.std.specs.Io.KnownBytes.{Appends}
use Rattle.gate_types.specs.declared.tap.Tap.{Tap}
use Rattle.gate_types.specs.Tap.{inside}
use Rattle.gate_core.specs.Limit.{too_large}
use Rattle.gate_types.specs.Limits.{most_bytes}

-- which text a line may get in a state, and which state is left then
abbrev pub Replying : Type 0 → Type 1
Replying S = S → List ℕ → List ℕ → S → Type 0

-- a line within the limit is answered by its replies; a longer one is too large, and changes nothing
abbrev pub AnswersLine : {S : Type 0} → Replying S → S → List ℕ → List ℕ → S → Type 0
AnswersLine replies s line text after =
    ((length line ≤ most_bytes) × replies s line text after)
    ⊎ ((most_bytes < length line) × (text ≡ too_large) × (after ≡ s))

-- the lines are answered in order, each by a text and an LF
abbrev pub Runs : {S : Type 0} → Replying S → S → List (List ℕ) → List ℕ → S → Type 0
Runs {S} replies s [] text after = (text ≡ []) × (after ≡ s)
Runs {S} replies s (line ∷ lines) text after =
    (said : List ℕ) × (more : List ℕ) × (mid : S)
    × AnswersLine replies s line said mid × (text ≡ (said ++ 10 ∷ []) ++ more) × Runs replies mid lines more after

-- the lines are answered, and their texts written
pub record Fed {S : Type 0} (replies : Replying S) (s : S) (lines : List (List ℕ)) (after : S)
    (old new : Option (List ℕ)) : Type 0 where
  pub text : List ℕ
  pub ran : Runs replies s lines text after
  pub written : Appends old new text

-- the first of the lines are answered, and the last of these was cut in writing
pub record BrokeInWriting {S : Type 0} (replies : Replying S) (s : S) (lines : List (List ℕ)) (after : S)
    (old new : Option (List ℕ)) : Type 0 where
  pub done : List (List ℕ)
  pub line : List ℕ
  pub more : List (List ℕ)
  pub split : lines ≡ done ++ line ∷ more
  pub text : List ℕ
  pub mid : S
  pub ran : Runs replies s done text mid
  pub said : List ℕ
  pub answered : AnswersLine replies mid line said after
  pub at : ℕ
  pub short : at < length (said ++ 10 ∷ [])
  pub written : Appends old new (text ++ take at (said ++ 10 ∷ []))

-- the same, written to a tap's writer
abbrev pub FedTo : {S T : Type 0} → (T → Option (List ℕ)) → Replying S → S → List (List ℕ) → S → Tap T → Tap T → Type 0
FedTo held replies s lines after old new = Fed replies s lines after (held (inside old)) (held (inside new))

abbrev pub BrokeTo : {S T : Type 0} → (T → Option (List ℕ)) → Replying S → S → List (List ℕ) → S → Tap T → Tap T
    → Type 0
BrokeTo held replies s lines after old new =
    BrokeInWriting replies s lines after (held (inside old)) (held (inside new))
