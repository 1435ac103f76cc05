use Rattle.std.proofs.Common.{IsTrue, ◌∙◌, eqb}
use Rattle.sqlite.specs.Held.{state}
use Rattle.sqlite.specs.State.{HasCleanDisk}
use Rattle.gate_schema.specs.Schema.{gate_schema}
use Rattle.gate_types.specs.declared.rows.ChangeRow.{ChangeRow}
use Rattle.gate_schema.specs.Rows.{change_key}
use Rattle.gate_found_rows.specs.Reads.{IsOnlyRead, Shows}
use Rattle.gate_change_queries.proofs.ChangeReads.{change_found, changes_as}
use Rattle.gate_change_queries.proofs.ChangeTexts.{change_asks}
use Rattle.gate_found_rows.proofs.ReadLemmas.{answered_so, only_read_then, shown_still}
use Rattle.gate_found_rows.proofs.ShownLemmas.{answers_told}
use Rattle.gate_change_queries.proofs.changes.change.Goals as goal

pub returns-in_err-rows-clause-only_reads : goal.returns-in_err-rows-clause-only_reads
returns-in_err-rows-clause-only_reads g c =
    only_read_then (state g.S.Store c.args.conn.now) (state g.S.Store c.needs.new.conn) (state g.S.Store c.read_rows.new.conn)
    c.needs.ensures.only_reads (c.read_rows.ensures.only_reads gate_schema change_asks.0.1)

pub returns-clause-only_reads : goal.returns-clause-only_reads
returns-clause-only_reads g c =
    only_read_then (state g.S.Store c.args.conn.now) (state g.S.Store c.needs.new.conn) (state g.S.Store c.read_rows.new.conn)
    c.needs.ensures.only_reads (c.read_rows.ensures.only_reads gate_schema change_asks.0.1)

pub returns-clause-found : goal.returns-clause-found
returns-clause-found g c clean b shows whole =
    let old = state g.S.Store c.args.conn.now in
    let mid = state g.S.Store c.needs.new.conn in
    let new = state g.S.Store c.read_rows.new.conn in
    let last : IsOnlyRead mid new = c.read_rows.ensures.only_reads gate_schema change_asks.0.1 in
    let early : HasCleanDisk mid = last.clean clean in
    let still : Shows mid b = shown_still old mid b (c.needs.ensures.only_reads.stays early) shows in
    let it = c.in_ok-rows.ensures.finds clean in
    let rows = change_found mid b c.args.number c.in_ok-rows.rows.items (still it.0) (rw c.change.ensures at it.1) in
    let needed = c.in_ok-needs.ensures.found early b shows whole in
    answers_told (λ (r : ChangeRow). eqb (change_key r) c.args.number) (λ (r : ChangeRow). r.change) b.changes c.first_change.result
    (c.first_change.ensures _ (c.deref.ensures.value ∙ rows) (changes_as c.args.number _ b mid (still it.0) whole needed))

pub returns-clause-opened : goal.returns-clause-opened
returns-clause-opened g c clean =
    let old = state g.S.Store c.args.conn.now in
    let last : IsOnlyRead (state g.S.Store c.needs.new.conn) (state g.S.Store c.read_rows.new.conn) = c.read_rows.ensures.only_reads gate_schema change_asks.0.1 in
    answered_so (IsTrue old.is_open) c.first_change.result (c.in_ok-needs.ensures.opened (last.clean clean))
