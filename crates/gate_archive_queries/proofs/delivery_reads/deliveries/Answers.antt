use Rattle.std.proofs.Common.{ap, map}
use Rattle.sqlite.specs.Held.{state}
use Rattle.gate_archive.specs.Feed.{behind}
use Rattle.gate_queue_queries.proofs.StreamLemmas.{read_by}
use Rattle.gate_archive_queries.specs.Deliveries.{accepted}
use Rattle.gate_archive_queries.proofs.DeliveryLemmas.{all_reads}
use Rattle.gate_archive_queries.proofs.DeliveryReads.{all_streams, feeds}
use Rattle.gate_archive_queries.proofs.delivery_reads.deliveries.Goals as goal

pub returns-clause-found : goal.returns-clause-found
returns-clause-found g c clean b shows =
    feeds b.kept b.kept c.args.after c.args.most c.args.front.now g.W.Write.contents c.args.w.now c.write_queried.new.w c.write_queried.result
    (ap (λ a. behind a b.kept) c.in_default.is)
    (c.write_queried.ensures.found clean (map accepted b.kept) (λ up. all_streams (state g.S.Store c.args.conn.now) b (shows up)))

pub returns-clause-only_reads : goal.returns-clause-only_reads
returns-clause-only_reads g c =
    read_by _ _ _ all_reads c.write_queried.ensures.clean c.write_queried.ensures.stays c.write_queried.ensures.crash
