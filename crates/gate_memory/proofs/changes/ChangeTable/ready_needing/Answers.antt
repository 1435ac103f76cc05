use Rattle.std.proofs.Common.{subst, ◌≡◌, List}
use Rattle.std.specs.List.{filter_map}
use Rattle.std.specs.List.Sorted.{IsPermutation}
use Rattle.gate_types.specs.declared.records.Ready.{Ready}
use Rattle.gate_memory.specs.Changes.{changes_of}
use Rattle.gate_memory.specs.TableReads.{needing_by}
use Rattle.gate_memory.proofs.NeedingLemmas.{needing_is}
use Rattle.gate_memory.proofs.changes.ChangeTable.ready_needing.Goals as goal

pub returns : goal.returns
returns c ready are =
    let rows = changes_of c.args.self.now in
    let n = c.args.change in
    let pairs = c.needing-pairs.result.now in
    let found : c.in_ok-found.found ≡ filter_map (needing_by rows n) pairs = rw c.deref.ensures.value at c.in_ok-found.ensures in
    let same : IsPermutation (filter_map (needing_by rows n) pairs) c.by_approval.result = subst (λ (rs : List Ready). IsPermutation rs c.by_approval.result) found c.by_approval.ensures.same in
    needing_is rows ready n pairs c.by_approval.result are c.needing-pairs.ensures.rising c.needing-pairs.ensures.told same c.by_approval.ensures.order
