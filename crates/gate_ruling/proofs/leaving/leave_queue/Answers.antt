use Rattle.std.proofs.Common.{◌∙◌, sym, refl, subst}
use Rattle.gate_types.specs.Step.{leave}
use Rattle.gate_reads.specs.Moves.{Moves}
use Rattle.gate_reads.specs.declared.touched.TouchedItem.{TouchedItem}
use Rattle.gate_ruling.specs.Leaving.{IsLeaving}
use Rattle.gate_ruling.proofs.leaving.leave_queue.Goals as goal

pub returns-clause-moves : goal.returns-clause-moves
returns-clause-moves g c trusted x holds lawful n so =
    let figures = c.in_ok-figures.ensures.found trusted _ x holds lawful in
    subst (λ m. Moves x c.in_ok-edits.edits.items (leave c.args.verdict m x.state)) so.row.change
    (c.in_ok-edits.ensures x lawful so.row.stored figures.reports (c.as_slice.ensures ∙ so.builds))

pub returns-clause-touched : goal.returns-clause-touched
returns-clause-touched g c trusted x holds lawful n so =
    subst (λ (k : TouchedItem). IsLeaving c.args.config.now x.state n c.args.verdict k) (sym c.touched.ensures)
    (record {
      row = so.row;
      event = refl;
      figures = c.in_ok-figures.ensures.found trusted _ x holds lawful;
    })
