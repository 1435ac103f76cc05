-- The lines of an input, and how far it was read.
use Rattle.std.specs.Prelude.{◌≡◌, ◌⊎◌, ℕ, ◌≤◌, ◌-◌, ◌==◌, List, ◌++◌, length, take, drop, filter, nat_lt, Option}
use Rattle.std.specs.List.{slice_split}
use Rattle.std.specs.Io.KnownBytes.{Consumes, IsAtEnd}
use Rattle.gate_core.specs.Limit.{longest_read}

-- what stands before, between and behind the LFs
abbrev pub pieces : List ℕ → List (List ℕ)
pieces input = slice_split (λ b. b == 10) input

-- the lines that an LF ended, each without it: all pieces but the last
abbrev pub whole_lines : List ℕ → List (List ℕ)
whole_lines input = take (length (pieces input) - 1) (pieces input)

-- the last piece, if it isn't empty
abbrev pub last_line : List ℕ → List (List ℕ)
last_line input = filter (λ piece. nat_lt 0 (length piece)) (drop (length (pieces input) - 1) (pieces input))

-- the lines of an input: what stands behind the last LF counts as one if it isn't empty
abbrev pub lines_of : List ℕ → List (List ℕ)
lines_of input = whole_lines input ++ last_line input

-- the lines of what a reader gave: the last may lack its LF only where the reader has nothing left
abbrev pub AreLinesRead : Option (List ℕ) → List ℕ → List (List ℕ) → Type 0
AreLinesRead left read lines = (lines ≡ whole_lines read) ⊎ ((lines ≡ lines_of read) × IsAtEnd left)

-- a reader gave these lines, and its last read was needed: line n, counted from 0, wasn't whole before
pub record ReadFor (old new : Option (List ℕ)) (lines : List (List ℕ)) (n : ℕ) : Type 0 where
  pub before : List ℕ
  pub chunk : List ℕ
  pub read : Consumes old new (before ++ chunk)
  pub one_read : length chunk ≤ longest_read
  pub every_line : AreLinesRead new (before ++ chunk) lines
  pub needed : length (whole_lines before) ≤ n
