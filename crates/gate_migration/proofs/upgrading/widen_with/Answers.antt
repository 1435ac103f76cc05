use Rattle.std.proofs.Common.{arith}
use Rattle.std.proofs.lemmas.Result.{on_ok_weaker}
use Rattle.sqlite.specs.State.{HasCleanDisk}
use Rattle.sqlite.specs.Held.{state}
use Rattle.gate_rows.proofs.ThenLemmas.{kept_then}
use Rattle.gate_migration.specs.Upgrade.{stored_without_plans}
use Rattle.gate_migration.proofs.upgrading.widen_with.Goals as goal

pub returns-clause-made : goal.returns-clause-made
returns-clause-made g c clean b t first can =
    let early : HasCleanDisk (state g.S.Store c.widen.new.tx.conn.now) = omega (arith, c.apply_all.ensures.crash.clean) in
    let filled = c.in_ok-widen.ensures.made b early first in
    on_ok_weaker c.apply_all.result
    (λ steps. (
      steps.changes.ready,
      record {
        stands = steps.changes.stands (stored_without_plans b) can.named filled.stands;
        matches = steps.told (stored_without_plans b) t can.named filled.stands can.known can.planned can.matches;
      },
    ))
    (c.apply_all.ensures.steps clean filled.ready)

pub returns-clause-kept : goal.returns-clause-kept
returns-clause-kept g c clean b first =
    let early : HasCleanDisk (state g.S.Store c.widen.new.tx.conn.now) = omega (arith, c.apply_all.ensures.crash.clean) in
    kept_then (state g.S.Store c.args.tx.now.conn.now) (state g.S.Store c.widen.new.tx.conn.now) (state g.S.Store c.apply_all.new.tx.conn.now)
    (c.widen.ensures.kept early first.inside) (c.apply_all.ensures.kept clean (c.in_ok-widen.ensures.made b early first).ready)
