use Rattle.std.proofs.Common.{◌≡◌, None}
use Rattle.std.specs.Prelude.{◌==◌, find}
use Rattle.gate_types.specs.Keys.{serial_of_plan}
use Rattle.gate_types.specs.Tables.{unmarked}
use Rattle.gate_memory.specs.Sorted.{IsAtPosition}
use Rattle.gate_memory.proofs.SortedLemmas.{changed_at, changed_none}
use Rattle.gate_memory.proofs.plans.unmark.Goals as goal

pub returns-in-Some-clause-rows : goal.returns-in-Some-clause-rows
returns-in-Some-clause-rows c =
    let there : IsAtPosition serial_of_plan c.args.serial c.args.rows.now.items c.in-Some.position = rw (c.get.ensures.value, c.deref.ensures.value) at c.in-Some.ensures.there in
    changed_at serial_of_plan c.args.serial unmarked c.args.rows.now.items c.in-Some.position c.index_mut.result.now c.index_mut.result.now c.requires there c.index_mut.ensures.value

pub returns-in_default-clause-rows : goal.returns-in_default-clause-rows
returns-in_default-clause-rows c =
    let missing : find (λ p. serial_of_plan p == c.args.serial) c.args.rows.now.items ≡ None = rw (c.get.ensures.value, c.deref.ensures.value) at c.in_default.ensures.missing in
    changed_none serial_of_plan c.args.serial unmarked c.args.rows.now.items missing
