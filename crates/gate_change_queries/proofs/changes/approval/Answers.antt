use Rattle.std.proofs.Common.{◌∙◌, Option, eqb, filter, option_and_then, subst}
use Rattle.sqlite.specs.Held.{state}
use Rattle.sqlite_keyed.proofs.ListLemmas.{slice_get-filter}
use Rattle.gate_schema.specs.Schema.{gate_schema}
use Rattle.gate_types.specs.declared.rows.ChangeRow.{ChangeRow}
use Rattle.gate_book_trait.specs.Reads.{Answers}
use Rattle.gate_schema.specs.Rows.{change_key}
use Rattle.gate_change_queries.proofs.ChangeReads.{approval_found}
use Rattle.gate_change_queries.proofs.ChangeTexts.{approval_asks}
use Rattle.gate_change_queries.proofs.changes.approval.Goals as goal

pub returns-in_err-rows-clause-only_reads : goal.returns-in_err-rows-clause-only_reads
returns-in_err-rows-clause-only_reads g c = c.read_rows.ensures.only_reads gate_schema approval_asks.0.1

pub returns-clause-only_reads : goal.returns-clause-only_reads
returns-clause-only_reads g c = c.read_rows.ensures.only_reads gate_schema approval_asks.0.1

pub returns-clause-found : goal.returns-clause-found
returns-clause-found g c clean b shows whole =
    let old = state g.S.Store c.args.conn.now in
    let has : ChangeRow → _ = λ (r : ChangeRow). eqb (change_key r) c.args.number in
    let it = c.in_ok-rows.ensures.finds clean in
    let rows = approval_found old b c.args.number c.in_ok-rows.rows.items (shows it.0) (rw c.change.ensures at it.1) in
    subst (λ (o : Option ChangeRow). Answers (option_and_then (λ (r : ChangeRow). r.approval) o) c.first_approval.result) (slice_get-filter has b.changes)
    (c.first_approval.ensures (filter has b.changes) (c.deref.ensures.value ∙ rows))
