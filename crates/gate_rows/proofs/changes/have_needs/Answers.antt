use Rattle.std.proofs.Common.{◌∙◌, [], ◌∷◌, pos}
use Rattle.sqlite.specs.Held.{state}
use Rattle.sqlite.specs.declared.types.Value.TheVariants.{Int}
use Rattle.gate_schema.proofs.NeedTable.{finds_needs, standing_needs_asks, standing_needs_sql}
use Rattle.gate_rows.proofs.QueryLeaves.{failed_keeps, shown_changes, shown_keeps}
use Rattle.gate_rows.proofs.changes.have_needs.Goals as goal

pub returns-in_err-rows-clause-kept : goal.returns-in_err-rows-clause-kept
returns-in_err-rows-clause-kept g c clean ready =
    failed_keeps _ _ (state g.S.Store c.args.tx.now.conn.now) (state g.S.Store c.query_all.new.self.conn.now) _ (c.in_err-rows.ensures.err clean)

pub returns-clause-found : goal.returns-clause-found
returns-clause-found g c clean ready b stands =
    c.are_needs.ensures _
    (c.as_slice.ensures.value
    ∙ finds_needs c.args.n (state g.S.Store c.args.tx.now.conn.now) (state g.S.Store c.query_all.new.self.conn.now) b c.in_ok-rows.rows.items ready (rw c.change.ensures at (c.in_ok-rows.ensures.ok clean)) stands)

pub returns-clause-changes : goal.returns-clause-changes
returns-clause-changes g c clean ready =
    shown_changes standing_needs_sql (Int (pos c.args.n) ∷ []) (state g.S.Store c.args.tx.now.conn.now) (state g.S.Store c.query_all.new.self.conn.now) c.in_ok-rows.rows.items standing_needs_asks.0.1 ready
    (rw c.change.ensures at (c.in_ok-rows.ensures.ok clean))

pub returns-clause-kept : goal.returns-clause-kept
returns-clause-kept g c clean ready =
    shown_keeps standing_needs_sql (Int (pos c.args.n) ∷ []) (state g.S.Store c.args.tx.now.conn.now) (state g.S.Store c.query_all.new.self.conn.now) c.in_ok-rows.rows.items standing_needs_asks.0.1 ready
    (rw c.change.ensures at (c.in_ok-rows.ensures.ok clean))
