use Rattle.std.proofs.Common.{◌∙◌, ap, arith, not, rules, sym}
use Rattle.sqlite.proofs.Callers.{begun_plain}
use Rattle.sqlite.proofs.StateLemmas.{survives_then}
use Rattle.sqlite.specs.Held.{state}
use Rattle.sqlite.specs.State.{HasCleanDisk, IsUnchanged, Survives}
use Rattle.sqlite.specs.Values.{bound}
use Rattle.gate_found_rows.specs.Finds.{Stays}
use Rattle.gate_found_rows.proofs.StayLemmas.{begun_keeps, failed_stays, read_survives, stays_then, unchanged_stays}
use Rattle.gate_queue_queries.specs.History.{ShowsCommitted}
use Rattle.gate_archive_queries.specs.Deliveries.{accepted_shown}
use Rattle.gate_archive_queries.proofs.DeliveryLemmas.{opened_so}
use Rattle.gate_queue_queries.proofs.StreamLemmas.{plain_of, streams_at}
use Rattle.gate_archive_queries.proofs.delivery_reads.write_queried.Goals as goal

pub returns-in-Err-clause-stays : goal.returns-in-Err-clause-stays
returns-in-Err-clause-stays g c clean reads =
    let first = state g.S.Store c.args.conn.now in
    let mid = state g.S.Store c.check_open.new.conn in
    let new = state g.S.Store c.query.follows.lender-at-none in
    let refused = rw c.in-Err.is at c.query.follows.holds-at-none in
    let opened : HasCleanDisk mid = omega (arith, refused.survives.clean) in
    stays_then first mid new (c.check_open.ensures.stays opened)
    (failed_stays c.args.sql.now _ mid new _ (λ up. c.is_autocommit.ensures.settled (c.is_autocommit.ensures.value ∙ ap not c.check_open.ensures.mode) up) reads (refused.err clean))

pub returns-in-Err-clause-crash : goal.returns-in-Err-clause-crash
returns-in-Err-clause-crash g c clean reads =
    let first = state g.S.Store c.args.conn.now in
    let mid = state g.S.Store c.check_open.new.conn in
    let new = state g.S.Store c.query.follows.lender-at-none in
    let refused = rw c.in-Err.is at c.query.follows.holds-at-none in
    survives_then first mid new (λ _. ⊥) (λ _. ⊥) (λ _. ⊥) (λ _ _ none. none) (λ _ _ none. none) c.check_open.ensures.crash (read_survives c.args.sql.now _ mid new reads refused.survives)

pub returns-clause-found : goal.returns-clause-found
returns-clause-found g c clean told streams =
    let first = state g.S.Store c.args.conn.now in
    let mid = state g.S.Store c.check_open.new.conn in
    let start = c.in-Ok-query.rows.conn.now in
    let end = c.write_lines.new.rows.conn.now in
    let late : HasCleanDisk (state g.S.Store end) = search rules in
    let begun : HasCleanDisk (state g.S.Store start) = omega (arith, c.write_lines.ensures.crash.clean) in
    let opened : HasCleanDisk mid = omega (arith, c.in-Ok-query.ensures.survives.clean) in
    let same : IsUnchanged first mid = c.in-Ok.ensures.ok opened in
    let there = streams same.0.was_open in
    let at_mid = streams_at c.args.sql.now (bound c.args.params.now) accepted_shown told first mid same.0.now_is there in
    let on = begun_plain g.S.Store c.args.sql.now (bound c.args.params.now) c.check_open.new.conn start (plain_of _ at_mid.query at_mid.names at_mid.plain)
    (c.in-Ok-query.ensures.begun begun) in
    c.write_lines.ensures.found late c.args.sql.now (bound c.args.params.now) on.0 told
    (streams_at c.args.sql.now (bound c.args.params.now) accepted_shown told mid (state g.S.Store start) on.1.0.now_is at_mid)

pub returns-clause-opened : goal.returns-clause-opened
returns-clause-opened g c clean =
    let first = state g.S.Store c.args.conn.now in
    let mid = state g.S.Store c.check_open.new.conn in
    let late : HasCleanDisk (state g.S.Store c.write_lines.new.rows.conn.now) = search rules in
    let begun : HasCleanDisk (state g.S.Store c.in-Ok-query.rows.conn.now) = omega (arith, c.write_lines.ensures.crash.clean) in
    let opened : HasCleanDisk mid = omega (arith, c.in-Ok-query.ensures.survives.clean) in
    let same : IsUnchanged first mid = c.in-Ok.ensures.ok opened in
    opened_so first c.write_lines.result same.0.was_open

pub returns-clause-stays : goal.returns-clause-stays
returns-clause-stays g c clean reads =
    let first = state g.S.Store c.args.conn.now in
    let mid = state g.S.Store c.check_open.new.conn in
    let start = c.in-Ok-query.rows.conn.now in
    let end = c.write_lines.new.rows.conn.now in
    let late : HasCleanDisk (state g.S.Store end) = search rules in
    let begun : HasCleanDisk (state g.S.Store start) = omega (arith, c.write_lines.ensures.crash.clean) in
    let opened : HasCleanDisk mid = omega (arith, c.in-Ok-query.ensures.survives.clean) in
    let on : IsUnchanged mid (state g.S.Store start) = begun_keeps g.S.Store c.args.sql.now _ c.check_open.new.conn start reads (c.in-Ok-query.ensures.begun begun) in
    let settled : ShowsCommitted (state g.S.Store start) =
    λ up. on.0.now_is ∙ c.is_autocommit.ensures.settled (c.is_autocommit.ensures.value ∙ ap not c.check_open.ensures.mode) on.0.was_open ∙ sym on.0.committed_is in
    let it : Stays first (state g.S.Store end) =
    stays_then first mid (state g.S.Store end) (c.check_open.ensures.stays opened)
    (stays_then mid (state g.S.Store start) (state g.S.Store end) (unchanged_stays mid (state g.S.Store start) on) (c.write_lines.ensures.stays late settled)) in
    search rules

pub returns-clause-crash : goal.returns-clause-crash
returns-clause-crash g c clean reads =
    let first = state g.S.Store c.args.conn.now in
    let mid = state g.S.Store c.check_open.new.conn in
    let start = state g.S.Store c.in-Ok-query.rows.conn.now in
    let end = state g.S.Store c.write_lines.new.rows.conn.now in
    let asked : Survives mid start (λ _. ⊥) = read_survives c.args.sql.now _ mid start reads c.in-Ok-query.ensures.survives in
    let it : Survives first end (λ _. ⊥) =
    survives_then first mid end (λ _. ⊥) (λ _. ⊥) (λ _. ⊥) (λ _ _ none. none) (λ _ _ none. none) c.check_open.ensures.crash
    (survives_then mid start end (λ _. ⊥) (λ _. ⊥) (λ _. ⊥) (λ _ _ none. none) (λ _ _ none. none) asked c.write_lines.ensures.crash) in
    search rules
