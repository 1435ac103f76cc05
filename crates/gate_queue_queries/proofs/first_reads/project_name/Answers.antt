use Rattle.std.proofs.Common.{◌≡◌, ◌∙◌, ap, arith, get_or, length, subst, sym}
use Rattle.std.proofs.lemmas.Result.{IfOk-weaker}
use Rattle.sqlite.specs.Held.{state}
use Rattle.sqlite_value.specs.Order.{column}
use Rattle.gate_queue_queries.specs.First.{first_schema}
use Rattle.gate_queue_queries.specs.First.{IsProjectOf}
use Rattle.gate_queue_queries.proofs.FirstReads.{project_asks, project_shown}
use Rattle.gate_queue_queries.proofs.first_reads.project_name.Goals as goal

pub returns-in_err-rows-clause-only_reads : goal.returns-in_err-rows-clause-only_reads
returns-in_err-rows-clause-only_reads g c = c.read_rows.ensures.only_reads first_schema project_asks.1

pub returns-in-len1-clause-only_reads : goal.returns-in-len1-clause-only_reads
returns-in-len1-clause-only_reads g c = c.read_rows.ensures.only_reads first_schema project_asks.1

pub returns-clause-only_reads : goal.returns-clause-only_reads
returns-clause-only_reads g c = c.read_rows.ensures.only_reads first_schema project_asks.1

pub returns-in-len1-clause-found : goal.returns-in-len1-clause-found
returns-in-len1-clause-found g c clean b shows =
    let old = state g.S.Store c.args.conn.now in
    let n = c.args.number in
    let it = c.in_ok-rows.ensures.finds clean in
    let rows = c.in_ok-rows.rows.items in
    let row = c.row-item.result in
    let same : c.as_slice.result.now ≡ rows = c.as_slice.ensures.value in
    let one : length rows ≡ 1 = omega (arith, c.in-len1.len_at_least, c.in-len1.len_below, ap length same) in
    let shown = project_shown old b n rows row (shows it.0) (rw c.change.ensures at it.1) one (c.row-item.is ∙ ap (λ l. get_or l 0 row) same) in
    IfOk-weaker c.path_name_in.result _ _ (λ x is. subst (IsProjectOf b.changes n) (sym is) shown.2) (c.path_name_in.ensures.ok shown.0 (ap (λ r. column r 0) shown.1))
