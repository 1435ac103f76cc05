use Rattle.std.proofs.Common.{◌∙◌, refl, sym}
use Rattle.sqlite.specs.Held.{state}
use Rattle.gate_sql.proofs.HistoryLemmas.{history_so, no_queue}
use Rattle.gate_table_laws.proofs.KeptLemmas.{kept_by}
use Rattle.gate_sql.proofs.reads.SqlBookBook.history.Goals as goal

pub returns-then-not-is_among-clause-found : goal.returns-then-not-is_among-clause-found
returns-then-not-is_among-clause-found g c clean s x held lawful =
    no_queue held lawful c.args.queue.now (rw c.as_slice.ensures.value at (sym c.is_among.ensures ∙ c.if-not-is_among.true))

pub returns-clause-found : goal.returns-clause-found
returns-clause-found g c clean s x held lawful =
    history_so held lawful c.args.queue.now c.args.front.now g.W.Write.contents c.args.w.now c.history.new.w
    (rw c.as_slice.ensures.value at (sym c.is_among.ensures ∙ c.if-not-is_among.false)) c.history.result (c.history.ensures.found clean)

pub returns-clause-kept : goal.returns-clause-kept
returns-clause-kept g c =
    let old = c.args.self.now in
    kept_by (λ book. state g.S.Store book.conn) (λ book. book.queues.items) old (record old { conn = c.history.new.conn }) refl c.history.ensures.only_reads
