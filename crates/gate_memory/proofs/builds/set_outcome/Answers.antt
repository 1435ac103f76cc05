use Rattle.std.proofs.Common.{◌≡◌, None}
use Rattle.std.specs.Prelude.{◌==◌, find}
use Rattle.gate_types.specs.Rows.{with_outcome}
use Rattle.gate_memory.specs.Sorted.{IsAtPosition}
use Rattle.gate_memory.specs.Builds.{number_of_build}
use Rattle.gate_memory.proofs.SortedLemmas.{changed_at, changed_none}
use Rattle.gate_memory.proofs.builds.set_outcome.Goals as goal

pub returns-in-Some-clause-rows : goal.returns-in-Some-clause-rows
returns-in-Some-clause-rows c =
    let there : IsAtPosition number_of_build c.args.number c.args.rows.now.items c.in-Some.position = rw (c.get.ensures.value, c.deref.ensures.value) at c.in-Some.ensures.there in
    changed_at number_of_build c.args.number (with_outcome c.args.outcome) c.args.rows.now.items c.in-Some.position c.index_mut.result.now c.index_mut.result.now c.requires there c.index_mut.ensures.value

pub returns-in_default-clause-rows : goal.returns-in_default-clause-rows
returns-in_default-clause-rows c =
    let missing : find (λ b. number_of_build b == c.args.number) c.args.rows.now.items ≡ None = rw (c.get.ensures.value, c.deref.ensures.value) at c.in_default.ensures.missing in
    changed_none number_of_build c.args.number (with_outcome c.args.outcome) c.args.rows.now.items missing
