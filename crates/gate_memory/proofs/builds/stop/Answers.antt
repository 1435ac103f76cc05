use Rattle.std.proofs.Common.{◌≡◌, ◌∙◌, ap, false, None}
use Rattle.std.specs.Prelude.{◌==◌, find}
use Rattle.gate_types.specs.Rebase.{with_live}
use Rattle.gate_memory.specs.Sorted.{IsAtPosition}
use Rattle.gate_memory.specs.Builds.{number_of_build}
use Rattle.gate_memory.proofs.SortedLemmas.{key_at, changed_at, changed_none}
use Rattle.gate_memory.proofs.builds.stop.Goals as goal

pub returns-in_default-clause-rows : goal.returns-in_default-clause-rows
returns-in_default-clause-rows c =
    let missing : find (λ b. number_of_build b == c.args.number) c.args.rows.now.items ≡ None = rw (c.get.ensures.value, c.deref.ensures.value) at c.in_default.ensures.missing in
    changed_none number_of_build c.args.number (with_live false) c.args.rows.now.items missing

pub returns-clause-rows : goal.returns-clause-rows
returns-clause-rows c =
    let there : IsAtPosition number_of_build c.args.number c.args.rows.now.items c.in-Some.position = rw (c.get.ensures.value, c.deref.ensures.value) at c.in-Some.ensures.there in
    changed_at number_of_build c.args.number (with_live false) c.args.rows.now.items c.in-Some.position c.index_mut-build.result.now c.index_mut-build.result.now c.requires there c.index_mut-build.ensures.value

pub returns-clause-pair : goal.returns-clause-pair
returns-clause-pair c =
    let there : IsAtPosition number_of_build c.args.number c.args.rows.now.items c.in-Some.position = rw (c.get.ensures.value, c.deref.ensures.value) at c.in-Some.ensures.there in
    let same = c.get-3.ensures.value ∙ ap number_of_build c.index_mut-build.ensures.value ∙ key_at number_of_build c.args.number c.args.rows.now.items c.in-Some.position c.index_mut-build.result.now there in
    (same, c.get-3.type_inv)
