-- What a tap holds, and what its calls do to the known bytes.
use Rattle.std.specs.Prelude.{◌≡◌, ℕ, ◌<◌, List, length, take, Bool, Option, Result, MatchResult}
use Rattle.std.specs.Io.KnownBytes.{Appends, Consumes, IsAtEnd, Keeps}
use Rattle.gate_types.specs.declared.tap.Tap.{Tap}

abbrev pub inside : {T : Type 0} → Tap T → T
inside t = t.inner

abbrev pub has_failed : {T : Type 0} → Tap T → Bool
has_failed t = t.failed

-- how many more reads it makes
abbrev pub turns : {T : Type 0} → Tap T → ℕ
turns t = t.turns

-- a tap's reader gave these bytes; left tells what a reader has left, where that is known
abbrev pub Gave : {T : Type 0} → (T → Option (List ℕ)) → Tap T → Tap T → List ℕ → Type 0
Gave left old new bytes = Consumes (left (inside old)) (left (inside new)) bytes

-- a tap's reader is at its end
abbrev pub IsReadOut : {T : Type 0} → (T → Option (List ℕ)) → Tap T → Type 0
IsReadOut left tap = IsAtEnd (left (inside tap))

-- a read gave n bytes, none only at the end or with no room, or failed and took nothing
abbrev pub ReadsOnce : {T E : Type 0} → (T → Option (List ℕ)) → Tap T → Tap T → Result ℕ E → List ℕ → Type 0
ReadsOnce left old new r buf =
    MatchResult r (λ n. Gave left old new (take n buf) × (n ≡ 0 → 0 < length buf → IsReadOut left new))
    (λ _. Keeps (left (inside old)) (left (inside new)))

-- a tap's writer took these bytes; held tells what a writer holds, where that is known
abbrev pub Took : {T : Type 0} → (T → Option (List ℕ)) → Tap T → Tap T → List ℕ → Type 0
Took held old new bytes = Appends (held (inside old)) (held (inside new)) bytes

-- the bytes were written up to some place before their end
abbrev pub WritesFront : Option (List ℕ) → Option (List ℕ) → List ℕ → Type 0
WritesFront old new bytes = (n : ℕ) × (n < length bytes) × Appends old new (take n bytes)

-- a tap's writer took them up to some place before their end
abbrev pub TookFront : {T : Type 0} → (T → Option (List ℕ)) → Tap T → Tap T → List ℕ → Type 0
TookFront held old new bytes = WritesFront (held (inside old)) (held (inside new)) bytes
