-- The longest read, and the answer to a line over the limit.
use Rattle.std.specs.Prelude.{ℕ, List, codes}

-- what a line of over `most_bytes` is answered
abbrev pub too_large : List ℕ
too_large = codes "{\"error\":\"too-large\"}"

-- the most bytes that are read at once
abbrev pub longest_read : ℕ
longest_read = 4096
