-- How the text of what is ahead of a build is read, byte by byte.
use Rattle.std.specs.Prelude.{ℕ, ◌+◌, ◌*◌, ◌-◌, ◌&&◌, ◌||◌, ◌==◌, nat_lt, if◌then◌else◌, List, [], ◌∷◌, ◌++◌, Option}
use Rattle.std.specs.Prelude.{Some, None}
use Rattle.gate_types.specs.Forms.{is_change_number, is_revision_number}
use Rattle.gate_types.specs.declared.records.Entry.{Entry}
use Rattle.gate_build_queries.specs.declared.ahead.Progress.{Progress}
use Rattle.gate_build_queries.specs.declared.ahead.Progress.TheVariants.{Start, Outer, Opened, InChange, Between}
use Rattle.gate_build_queries.specs.declared.ahead.Progress.TheVariants.{InRevision, Closed, Next, End, Bad}

-- the value of a digit
abbrev pub digit_of : ℕ → Option ℕ
digit_of c = if nat_lt 47 c && nat_lt c 58 then Some (c - 48) else None

-- a digit more, with no zero in front, up to 999,999,999
abbrev pub with_digit : ℕ → ℕ → Option ℕ
with_digit n d = if n == 0 || nat_lt 99999999 n then None else Some (n * 10 + d)

-- the progress of a number, if there is one
abbrev pub progress_or_bad : Option ℕ → (ℕ → Progress) → Progress
progress_or_bad None f = Bad
progress_or_bad (Some n) f = f n

-- the number with this byte, if it is a digit
abbrev pub more_of : ℕ → Option ℕ → Option ℕ
more_of n None = None
more_of n (Some d) = with_digit n d

-- a byte within the number of a change
abbrev pub step_in_change : ℕ → ℕ → Progress
step_in_change n c =
    if c == 44 then (if is_change_number n then Between n else Bad)
    else progress_or_bad (more_of n (digit_of c)) (λ m. InChange m)

-- a byte within a revision
abbrev pub step_in_revision : ℕ → ℕ → ℕ → Progress
step_in_revision n r c =
    if c == 93 then (if is_revision_number r then Closed (record { change = n; revision = r }) else Bad)
    else progress_or_bad (more_of r (digit_of c)) (λ m. InRevision n m)

-- the progress behind a byte
abbrev pub step_byte : Progress → ℕ → Progress
step_byte Start c = if c == 91 then Outer else Bad
step_byte Outer c = if c == 91 then Opened else (if c == 93 then End else Bad)
step_byte Opened c = progress_or_bad (digit_of c) (λ n. InChange n)
step_byte (InChange n) c = step_in_change n c
step_byte (Between n) c = progress_or_bad (digit_of c) (λ r. InRevision n r)
step_byte (InRevision n r) c = step_in_revision n r c
step_byte (Closed e) c = if c == 44 then Next else (if c == 93 then End else Bad)
step_byte Next c = if c == 91 then Opened else Bad
step_byte End c = Bad
step_byte Bad c = Bad

-- the entry that has just ended
abbrev pub ended : Progress → List Entry
ended (Closed e) = e ∷ []
ended _ = []

-- the progress behind a text, and the entries that end in it
abbrev pub go : Progress → List Entry → List ℕ → Progress × List Entry
go p es [] = (p, es)
go p es (c ∷ cs) = go (step_byte p c) (es ++ ended (step_byte p c)) cs
