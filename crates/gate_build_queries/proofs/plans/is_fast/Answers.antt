use Rattle.std.proofs.Common.{◌≡◌, ◌∙◌, ap, arith, eqb, length, not}
use Rattle.sqlite.specs.Held.{state}
use Rattle.gate_schema.specs.Schema.{gate_schema}
use Rattle.gate_build_queries.proofs.PlanReads.{fast_found, found_is_any}
use Rattle.gate_build_queries.proofs.PlanTexts.{fast_asks}
use Rattle.gate_build_queries.proofs.plans.is_fast.Goals as goal

pub returns-in_err-rows-clause-only_reads : goal.returns-in_err-rows-clause-only_reads
returns-in_err-rows-clause-only_reads g c = c.read_rows.ensures.only_reads gate_schema fast_asks.0.1

pub returns-clause-only_reads : goal.returns-clause-only_reads
returns-clause-only_reads g c = c.read_rows.ensures.only_reads gate_schema fast_asks.0.1

pub returns-clause-found : goal.returns-clause-found
returns-clause-found g c clean b shows whole =
    let old = state g.S.Store c.args.conn.now in
    let it = c.in_ok-rows.ensures.finds clean in
    let rows = fast_found old b c.args.number c.in_ok-rows.rows.items (shows it.0) (rw c.serial.ensures at it.1) in
    let all = c.in_ok-rows.rows in
    let len : all.len ≡ length all.items = omega (arith, all.ok.0) in
    ap not c.is_empty.ensures ∙ ap (λ n. not (eqb n 0)) len ∙ ap (λ rs. not (eqb (length rs) 0)) rows ∙ found_is_any c.args.number b.fast
