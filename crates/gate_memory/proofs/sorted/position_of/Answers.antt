use Rattle.std.proofs.Common.{rules, ltb}
use Rattle.std.proofs.lemmas.List.Sorted.{IsPartitionPoint-from_clause, IsPartitionedBy-ltb}
use Rattle.gate_memory.proofs.SortedLemmas.{rises-nondecreasing, position_is}
use Rattle.gate_memory.proofs.sorted.position_of.Goals as goal

pub returns-clause-position : goal.returns-clause-position
returns-clause-position g c =
    let key = g.T.Keyed.key in
    let parted = IsPartitionedBy-ltb key c.args.rows.now c.args.key (λ i j d h l. rises-nondecreasing key 0 c.args.rows.now i j d c.requires h l) in
    let point = IsPartitionPoint-from_clause (λ row. ltb (key row) c.args.key) _ _ c.partition_point.ensures.partitioned parted (λ a r q k. search rules) in
    position_is key c.args.key c.args.rows.now c.partition_point.result c.partition_point.ensures.bound point.0 point.1
