-- The build that a worker is given next, under a number.
use Rattle.std.specs.Prelude.{ℕ}
use Rattle.gate_types.specs.declared.records.Build.{Build}

-- a build under another number
abbrev pub under_number : ℕ → Build → Build
under_number n b = record b { number = n }
