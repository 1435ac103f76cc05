-- Pairs of numbers in their order.
use Rattle.std.specs.Prelude.{ℕ, ◌*◌, ◌+◌, ◌<◌}
use Rattle.gate_memory.specs.declared.pairs.Pair.{Pair}

-- the first number decides before the second
abbrev pub pair_key : Pair → ℕ
pair_key p = p.first * 18446744073709551616 + p.second

-- its second number is of 64 bits, so that no two pairs have one key
abbrev pub IsFit : Pair → Type 0
IsFit p = p.second < 18446744073709551616
