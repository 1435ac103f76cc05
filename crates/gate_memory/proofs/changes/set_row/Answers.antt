use Rattle.std.proofs.Common.{rules, ◌≡◌, ◌∙◌, ◌<◌, sym, length, Some}
use Rattle.gate_types.specs.Keys.{number_of_change}
use Rattle.gate_memory.specs.Changes.{position_at}
use Rattle.gate_memory.proofs.StageLemmas.{apart_staged, finds_staged, none_staged, rows_staged}
use Rattle.gate_memory.proofs.TableLemmas.{position_bound}
use Rattle.gate_memory.proofs.changes.set_row.Goals as goal

pub index_mut-row-requires : goal.index_mut-row-requires
index_mut-row-requires c =
    let rows = c.args.rows.now.items in
    let h : c.in-Some.position < length rows = position_bound number_of_change c.args.number rows c.in-Some.position (sym (c.in-Some.ensures ∙ c.requires.finds c.args.number)) in
    search (rules, h)

pub returns-in-Some-clause-rows : goal.returns-in-Some-clause-rows
returns-in-Some-clause-rows c =
    let rows = c.args.rows.now.items in
    let at : position_at number_of_change c.args.number rows ≡ Some c.in-Some.position = sym (c.in-Some.ensures ∙ c.requires.finds c.args.number) in
    rows_staged c.args.number c.args.stage rows c.in-Some.position c.index_mut-row.result.now c.index_mut-row.result.now at c.index_mut-row.ensures.value

pub returns-in-Some-clause-finds : goal.returns-in-Some-clause-finds
returns-in-Some-clause-finds c =
    let rows = c.args.rows.now.items in
    let at : position_at number_of_change c.args.number rows ≡ Some c.in-Some.position = sym (c.in-Some.ensures ∙ c.requires.finds c.args.number) in
    finds_staged c.args.number c.args.stage rows c.in-Some.position c.index_mut-row.result.now c.index_mut-row.result.now at c.index_mut-row.ensures.value c.args.positions.now (sym c.in-Some.ensures) c.requires.finds

pub returns-in-Some-clause-apart : goal.returns-in-Some-clause-apart
returns-in-Some-clause-apart c =
    let rows = c.args.rows.now.items in
    let at : position_at number_of_change c.args.number rows ≡ Some c.in-Some.position = sym (c.in-Some.ensures ∙ c.requires.finds c.args.number) in
    apart_staged c.args.number c.args.stage rows c.in-Some.position c.index_mut-row.result.now c.index_mut-row.result.now at c.index_mut-row.ensures.value c.requires.apart

pub returns-in_default-clause-rows : goal.returns-in_default-clause-rows
returns-in_default-clause-rows c = none_staged c.args.number c.args.stage c.args.rows.now.items (sym (c.requires.finds c.args.number) ∙ sym c.in_default.ensures)
