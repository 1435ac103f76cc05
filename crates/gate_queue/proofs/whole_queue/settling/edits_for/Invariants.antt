use Rattle.std.proofs.Common.{◌≡◌, ◌≤◌, ◌+◌, ◌++◌, true, drop, take, []}
use Rattle.std.specs.Prelude.{nat_lt}
use Rattle.std.specs.List.{list_all}
use Rattle.gate_types.specs.Window.{bounds_by}
use Rattle.gate_queue.specs.WholeQueue.Facts.{places_by}
use Rattle.gate_queue_rules.specs.Edits.{edits_after, window_after}
use Rattle.gate_queue.proofs.whole_queue.settling.edits_for.Given as goal

abbrev pub invariant-loop-index : goal.invariant-loop-index
invariant-loop-index l = record {
  room : l.pass.reports ≤ l.facts.reports + l.index;
  shared : list_all (λ x. nat_lt x.serial l.pass.below) (take l.pass.shared l.facts.landings.now) ≡ true;
  edits :
      l.pass.edits ++ edits_after l.facts.settings.now.name l.builds l.pass.reports l.pass.ahead.items l.pass.staying.items (places_by l.facts.landings.now (drop l.index l.items) (drop l.index l.facts.items.now))
      ≡ edits_after l.facts.settings.now.name l.builds l.facts.reports [] [] (places_by l.facts.landings.now l.items l.facts.items.now);
  window :
      window_after l.builds (bounds_by l.facts.settings.now) l.pass.window l.pass.ahead.items l.pass.staying.items (places_by l.facts.landings.now (drop l.index l.items) (drop l.index l.facts.items.now))
      ≡ window_after l.builds (bounds_by l.facts.settings.now) l.facts.window [] [] (places_by l.facts.landings.now l.items l.facts.items.now);
}
