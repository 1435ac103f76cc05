-- The counters: approvals, builds and orders each get the numbers 1, 2, 3 and so on.
use Rattle.std.specs.Prelude.{ℕ, min}

-- the last number that may be drawn of each: 10^15
abbrev pub last_number : ℕ
last_number = 1000000000000000

-- the last number drawn of each
pub record Drawn : Type 0 where
  pub approval : ℕ
  pub build : ℕ
  pub order : ℕ

-- the counters, none above the last number
abbrev pub capped : Drawn → Drawn
capped d = record {
  approval = min d.approval last_number;
  build = min d.build last_number;
  order = min d.order last_number;
}
