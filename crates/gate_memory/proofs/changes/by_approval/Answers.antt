use Rattle.std.proofs.Common.{rules}
use Rattle.std.proofs.lemmas.List.Sorted.{IsNonDecreasingBy-from_sort_by_key}
use Rattle.gate_memory.proofs.changes.by_approval.Goals as goal

pub returns-clause-order : goal.returns-clause-order
returns-clause-order c = rw c.from_vec.ensures (IsNonDecreasingBy-from_sort_by_key (λ r. r.approval) _ c.sort_unstable_by_key.ensures.sorted (λ a r q k. search rules))
