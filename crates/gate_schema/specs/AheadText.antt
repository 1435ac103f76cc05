-- The text of what is ahead of a build.
use Rattle.std.specs.Prelude.{ℕ, List, [], ◌∷◌, ◌++◌, Bool, true, false, if◌then◌else◌}
use Rattle.std.specs.Fmt.{decimal}
use Rattle.gate_types.specs.declared.records.Entry.{Entry}

-- a change and its revision, as [101,1]
abbrev pub entry_text : Entry → List ℕ
entry_text e = 91 ∷ (decimal e.change ++ 44 ∷ (decimal e.revision ++ 93 ∷ []))

-- a comma before all but the first
abbrev pub comma_if : Bool → List ℕ
comma_if later = if later then 44 ∷ [] else []

-- entries with commas between, and one before them where others came before
abbrev pub entries_text : Bool → List Entry → List ℕ
entries_text later [] = []
entries_text later (e ∷ es) = comma_if later ++ (entry_text e ++ entries_text true es)

-- entries in brackets, as [[101,1],[102,3]]
abbrev pub ahead_text : List Entry → List ℕ
ahead_text es = 91 ∷ (entries_text false es ++ 93 ∷ [])
