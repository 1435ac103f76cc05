use Rattle.std.proofs.Common.{◌∙◌, arith, subst, []}
use Rattle.sqlite.specs.State.{HasCleanDisk}
use Rattle.sqlite.specs.Held.{state}
use Rattle.sqlite.proofs.StateLemmas.{survives_then}
use Rattle.gate_file_changes.specs.Making.{IsBare}
use Rattle.gate_file_changes.proofs.BareLemmas.{leads_on, leads_end}
use Rattle.gate_rows.proofs.ThenLemmas.{kept_then}
use Rattle.gate_file_changes.proofs.making.make_all.Goals as goal

pub loop-text-preserved : goal.loop-text-preserved
loop-text-preserved g c =
    let first = state g.S.Store c.args.tx.now.conn.now in
    let old = state g.S.Store c.loop-text.tx.conn.now in
    let new = state g.S.Store c.make_one.new.tx.conn.now in
    let was = c.loop-text.invariant in
    record {
      same_reference = c.make_one.ensures.same_reference ∙ was.same_reference;
      made = λ s t leads clean bare.
          let before = was.made s t leads (omega (arith, c.make_one.ensures.crash.clean)) bare in
          let next = leads_on (λ x. x.now) c.args.texts.now c.loop-text.text-index (record { ref_ptr = (0, 0); now = [] }) before.0 t (omega arith) before.2 in
          (next.0, c.in_ok-make_one.ensures.made before.0 next.0 next.1 clean before.1, next.2);
      inside = λ clean inside.
          let early : HasCleanDisk old = omega (arith, c.make_one.ensures.crash.clean) in
          c.in_ok-make_one.ensures.inside clean (was.inside early inside);
      kept = λ clean inside.
          let early : HasCleanDisk old = omega (arith, c.make_one.ensures.crash.clean) in
          kept_then first old new (was.kept early inside) (c.make_one.ensures.kept clean (was.inside early inside));
      crash = survives_then first old new (λ _. ⊥) (λ _. ⊥) (λ _. ⊥) (λ _ _ none. none) (λ _ _ none. none) was.crash c.make_one.ensures.crash;
    }

pub returns-clause-made : goal.returns-clause-made
returns-clause-made g c s t leads clean bare =
    let at = c.loop-text.invariant.made s t leads clean bare in
    subst (λ x. IsBare x (state g.S.Store c.loop-text.tx.conn.now)) (leads_end (λ x. x.now) c.args.texts.now c.loop-text.text-index at.0 t (omega arith) at.2) at.1
