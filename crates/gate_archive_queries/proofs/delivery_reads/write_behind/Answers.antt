use Rattle.std.proofs.Common.{Some, map, subst, sym}
use Rattle.sqlite.specs.Effect.{Database}
use Rattle.sqlite.specs.Held.{state}
use Rattle.sqlite.specs.State.{HasCleanDisk}
use Rattle.gate_found_rows.proofs.ReadLemmas.{only_read_then, shown_still}
use Rattle.gate_queue_queries.proofs.StreamLemmas.{read_by}
use Rattle.gate_archive_queries.specs.Deliveries.{HoldAbove, accepted}
use Rattle.gate_archive_queries.proofs.DeliveryLemmas.{behind_reads}
use Rattle.gate_archive_queries.proofs.DeliveryReads.{behind_streams, feeds}
use Rattle.gate_archive_queries.proofs.delivery_reads.write_behind.Goals as goal

pub returns-clause-found : goal.returns-clause-found
returns-clause-found g c clean b shows =
    let old = state g.S.Store c.args.conn.now in
    let mid = state g.S.Store c.place_of.new.conn in
    let early : HasCleanDisk mid = c.write_queried.ensures.clean clean in
    let stays = c.place_of.ensures.only_reads.stays early in
    let at = rw c.in-Ok-Some.field-0-is at (c.in-Ok-Some.ensures.found early b shows) in
    feeds b.kept at.0 (Some c.args.id) c.args.most c.args.front.now g.W.Write.contents c.args.w.now c.write_queried.new.w c.write_queried.result at.1
    ((rw c.place_value.ensures at (c.write_queried.ensures.found clean)) (map accepted at.0)
    (λ up. behind_streams mid b c.in-Ok-Some.place.rowid at.0 (shown_still old mid b stays shows up)
    (subst (λ (d : Database). HoldAbove (d.trees 21) c.in-Ok-Some.place.rowid at.0) (sym (stays.now_is up)) at.2)))

pub returns-clause-only_reads : goal.returns-clause-only_reads
returns-clause-only_reads g c =
    only_read_then _ _ _ c.place_of.ensures.only_reads
    (read_by _ _ _ behind_reads c.write_queried.ensures.clean c.write_queried.ensures.stays c.write_queried.ensures.crash)
