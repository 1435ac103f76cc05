use Rattle.std.proofs.Common.{rules, ltb, ◌∙◌}
use Rattle.std.proofs.lemmas.List.Sorted.{IsPartitionPoint-from_clause, IsPartitionedBy-ltb}
use Rattle.gate_book_trait.specs.RowReads.{landing_serial}
use Rattle.gate_memory.proofs.SortedLemmas.{rises-nondecreasing, position_is, position_counts}
use Rattle.gate_memory.proofs.queues.count_below.Goals as goal

pub returns : goal.returns
returns c rise =
    let rows = c.args.landings.now in
    let parted = IsPartitionedBy-ltb landing_serial rows c.args.serial (λ i j d h l. rises-nondecreasing landing_serial 0 rows i j d rise h l) in
    let point = IsPartitionPoint-from_clause (λ row. ltb (landing_serial row) c.args.serial) _ _ c.partition_point.ensures.partitioned parted (λ a r q k. search rules) in
    position_is landing_serial c.args.serial rows c.partition_point.result c.partition_point.ensures.bound point.0 point.1
    ∙ position_counts landing_serial c.args.serial 0 rows rise
