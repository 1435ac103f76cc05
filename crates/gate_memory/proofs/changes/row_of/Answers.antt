use Rattle.std.proofs.Common.{◌∙◌, ap, List}
use Rattle.gate_types.specs.declared.rows.ChangeRow.{ChangeRow}
use Rattle.gate_types.specs.Keys.{number_of_change}
use Rattle.gate_memory.proofs.TableLemmas.{row_found, row_at}
use Rattle.gate_memory.proofs.changes.row_of.Goals as goal

pub returns-in-Some : goal.returns-in-Some
returns-in-Some c =
    let rows : List ChangeRow = c.args.rows.now in
    c.row_in.ensures ∙ ap (row_at rows) (c.in-Some.ensures ∙ c.requires c.args.number) ∙ row_found number_of_change c.args.number rows

pub returns-in-None : goal.returns-in-None
returns-in-None c =
    let rows : List ChangeRow = c.args.rows.now in
    ap (row_at rows) (c.in-None.ensures ∙ c.requires c.args.number) ∙ row_found number_of_change c.args.number rows
