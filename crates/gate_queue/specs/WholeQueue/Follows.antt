-- For the inside alone: going along what a build ran on, entry by entry.
use Rattle.std.specs.Prelude.{ℕ, Bool, false, ◌&&◌, ◌==◌, ◌≡◌, List, ◌++◌, drop, slice_get, Option}
use Rattle.std.specs.Option.{option_map_or}
use Rattle.gate_types.specs.declared.records.Entry.{Entry}
use Rattle.gate_types.specs.Line.{same_entries}

-- whether this entry stands there
abbrev pub has_entry : List Entry → ℕ → Entry → Bool
has_entry ran n e = option_map_or (λ x. x.change == e.change && x.revision == e.revision) (slice_get ran n) false

-- from the entry of one index on these follow, up to the index that was found, if they do
pub record Follows (ran : List Entry) (from : ℕ) (entries : List Entry) (found : Option ℕ) : Type 0 where
  pub rest : (tail : List Entry) →
      same_entries (drop from ran) (entries ++ tail) ≡ option_map_or (λ n. same_entries (drop n ran) tail) found false
