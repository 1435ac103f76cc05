use Rattle.std.proofs.Common.{◌∙◌, arith, refl}
use Rattle.sqlite.specs.State.{HasCleanDisk}
use Rattle.sqlite.specs.Held.{state}
use Rattle.sqlite.proofs.StateLemmas.{survives_then}
use Rattle.gate_rows.proofs.ThenLemmas.{kept_then, survives_itself}
use Rattle.gate_rows.proofs.ThenLemmas.{needs_more, no_needs}
use Rattle.gate_rows.proofs.changes.add_needs.Goals as goal

pub loop-index-init : goal.loop-index-init
loop-index-init g c = record {
  same_reference = refl;
  changes = λ clean ready. no_needs (state g.S.Store c.args.tx.now.conn.now) ready;
  kept = λ clean ready. record { was_open = λ up. up; committed = λ up. refl };
  crash = survives_itself (state g.S.Store c.args.tx.now.conn.now);
}

pub loop-index-preserved : goal.loop-index-preserved
loop-index-preserved g c =
    let first = state g.S.Store c.args.tx.now.conn.now in
    let old = state g.S.Store c.loop-index.tx.conn.now in
    let new = state g.S.Store c.add_need.new.tx.conn.now in
    let was = c.loop-index.invariant in
    record {
      same_reference = c.add_need.ensures.same_reference ∙ was.same_reference;
      changes = λ clean ready.
          let before = was.changes (omega (arith, c.add_need.ensures.crash.clean)) ready in
          needs_more first old new c.args.n c.loop-index.index c.args.needs.now c.index-needs-index.result (omega arith) c.index-needs-index.is before (c.in_ok-add_need.ensures.changes clean before.ready);
      kept = λ clean ready.
          let early : HasCleanDisk old = omega (arith, c.add_need.ensures.crash.clean) in
          kept_then first old new (was.kept early ready) (c.add_need.ensures.kept clean (was.changes early ready).ready);
      crash = survives_then first old new (λ _. ⊥) (λ _. ⊥) (λ _. ⊥) (λ _ _ none. none) (λ _ _ none. none) was.crash c.add_need.ensures.crash;
    }
