use Rattle.std.proofs.Common.{◌≡◌, ◌∙◌, ap, arith, bytes_eq, codes, length, slice_index_or, true}
use Rattle.gate_file_meta.proofs.JudgeLemmas.{no_copy, same_copy}
use Rattle.gate_migration.proofs.StandingLemmas.{rows_standing}
use Rattle.gate_migration.proofs.migrating.judge_rows.Goals as goal

pub returns-in_default-value_for-3-clause-judged : goal.returns-in_default-value_for-3-clause-judged
returns-in_default-value_for-3-clause-judged c version kept e =
    no_copy _ kept c.in_default-value_for-3.is (c.value_for-3.ensures.found kept (c.third-item.is ∙ ap (λ rs. slice_index_or rs 2 c.third-item.result) e))

pub returns-clause-judged : goal.returns-clause-judged
returns-clause-judged c version kept e =
    let second = same_copy _ c.in-Some-value_for.version version c.in-Some-value_for.is (c.value_for-2.ensures.found version (c.second-item.is ∙ ap (λ rs. slice_index_or rs 1 c.second-item.result) e)) in
    let third = same_copy _ c.in-Some-value_for-2.kept kept c.in-Some-value_for-2.is (c.value_for-3.ensures.found kept (c.third-item.is ∙ ap (λ rs. slice_index_or rs 2 c.third-item.result) e)) in
    rw (second, third) at c.judge_version.ensures

pub returns-clause-told : goal.returns-clause-told
returns-clause-told c =
    let three : length c.args.rows.now ≡ 3 = omega (arith, c.in-len3.len_at_least, c.in-len3.len_below) in
    let gate : bytes_eq c.in-Some.format.now (codes "gate") ≡ true = grind (arith) in
    rows_standing c.args.rows.now c.first-item.result c.second-item.result c.third-item.result c.judge_version.result c.in-Some.format.now c.in-Some-value_for.version.now c.in-Some-value_for-2.kept.now c.args.settings.now
    three c.first-item.is c.second-item.is c.third-item.is c.in-Some.ensures.only c.in-Some-value_for.ensures.only c.in-Some-value_for-2.ensures.only gate c.judge_version.ensures
