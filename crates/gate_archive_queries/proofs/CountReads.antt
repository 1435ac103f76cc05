-- What a query that counts rows shows.
use Rattle.std.proofs.Common.{◌≡◌, ◌≤◌, ℕ, min, arith, ap}
use Rattle.gate_found_rows.specs.Shown.{number_shown}
use Rattle.gate_queue_queries.proofs.CountReads.{counted}
use Rattle.gate_types.specs.Counters.{last_number}

-- which is their number, where they are no more than may be drawn
pub counted_is : (n : ℕ) → n ≤ last_number → counted n ≡ number_shown n
counted_is n few = let least : min n 9223372036854775807 ≡ n = omega arith in ap number_shown least
