use Rattle.std.proofs.Common.{◌≡◌, ◌∙◌}
use Rattle.std.specs.List.{filter_map}
use Rattle.gate_memory.specs.Changes.{changes_of, ready_by}
use Rattle.gate_memory.proofs.ReadyLemmas.{ready_is}
use Rattle.gate_memory.proofs.changes.ChangeTable.ready.Goals as goal

pub returns : goal.returns
returns c ready are =
    let kept = c.requires in
    let pairs = c.args.self.now.ready.items in
    let rows = changes_of c.args.self.now in
    let found : c.in_ok-found.found ≡ filter_map (ready_by rows) pairs = rw (c.deref.ensures.value, c.deref-2.ensures.value) at c.in_ok-found.ensures in
    found ∙ ready_is rows ready pairs are kept.ready_rise kept.ready_fit kept.ready_told
