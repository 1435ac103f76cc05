use Rattle.std.proofs.Common.{subst}
use Rattle.std.proofs.lemmas.Result.{IfOk-weaker}
use Rattle.sqlite.specs.Held.{state}
use Rattle.gate_schema.specs.Schema.{gate_schema}
use Rattle.gate_archive_queries.specs.Deliveries.{IsFirstOf}
use Rattle.gate_archive_queries.proofs.DeliveryReads.{place_asks, place_found}
use Rattle.gate_archive_queries.proofs.delivery_reads.place_of.Goals as goal

pub returns-in_err-rows-clause-only_reads : goal.returns-in_err-rows-clause-only_reads
returns-in_err-rows-clause-only_reads g c = c.read_rows.ensures.only_reads gate_schema place_asks.0.1

pub returns-clause-only_reads : goal.returns-clause-only_reads
returns-clause-only_reads g c = c.read_rows.ensures.only_reads gate_schema place_asks.0.1

pub returns-clause-found : goal.returns-clause-found
returns-clause-found g c clean b shows =
    let old = state g.S.Store c.args.conn.now in
    let it = c.in_ok-rows.ensures.finds clean in
    IfOk-weaker c.first_place.result _ _
    (λ place first. place_found old b c.args.id c.in_ok-rows.rows.items place (shows it.0) (rw c.bytes.ensures at it.1) (subst (λ l. IsFirstOf l place) c.deref.ensures.value first))
    c.first_place.ensures
