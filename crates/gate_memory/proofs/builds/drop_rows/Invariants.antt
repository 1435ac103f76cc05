use Rattle.std.proofs.Common.{◌≡◌, ◌≤◌, ◌++◌, not, take, drop}
use Rattle.std.specs.Prelude.{filter, vec_len, vec_capacity}
use Rattle.gate_memory.specs.Builds.{is_build_of}
use Rattle.gate_memory.proofs.builds.drop_rows.Given as goal

abbrev pub invariant-loop-position : goal.invariant-loop-position
invariant-loop-position l = record {
  order : l.end ≤ l.position;
  rest : take l.end l.rows.items ++ filter (λ b. not (is_build_of l.serial b)) (drop l.position l.rows.items) ≡ filter (λ b. not (is_build_of l.serial b)) l.fn.rows.items;
  len : vec_len l.rows ≡ vec_len l.fn.rows;
  capacity : vec_capacity l.rows ≡ vec_capacity l.fn.rows;
}
