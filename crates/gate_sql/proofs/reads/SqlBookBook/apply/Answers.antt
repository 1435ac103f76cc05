use Rattle.std.proofs.Common.{refl}
use Rattle.sqlite.specs.Held.{state}
use Rattle.gate_file_changes.proofs.ApplyLemmas.{applied, unchanged}
use Rattle.gate_sql.proofs.reads.SqlBookBook.apply.Goals as goal

pub returns-clause-applied : goal.returns-clause-applied
returns-clause-applied g c clean k x held lawful y after leads =
    let old = c.args.self.now in
    applied (λ book. state g.S.Store book.conn) (λ book. book.queues.items) old (record old { conn = c.apply.new.conn }) c.args.edits.now
    c.apply.result refl (rw c.as_slice.ensures.value at c.apply.ensures.ok) (rw c.as_slice.ensures.value at c.apply.ensures.settled)
    (rw c.as_slice.ensures.value at c.apply.ensures.crash) c.apply.ensures.fault clean k x y held lawful leads

pub returns-clause-unchanged : goal.returns-clause-unchanged
returns-clause-unchanged g c clean k x held lawful =
    let old = c.args.self.now in
    unchanged (λ book. state g.S.Store book.conn) (λ book. book.queues.items) old (record old { conn = c.apply.new.conn }) c.apply.result refl
    c.apply.ensures.err clean k x held
