-- For the inside alone: landings that are known to be on a line.
use Rattle.std.specs.Prelude.{ℕ, Bool, nat_lt, List, take}
use Rattle.std.specs.List.{list_all}
use Rattle.gate_types.specs.declared.records.Landing.{Landing}

-- the first n landings have serials below this one
abbrev pub are_below : ℕ → List Landing → ℕ → Bool
are_below n landings serial = list_all (λ l. nat_lt l.serial serial) (take n landings)
