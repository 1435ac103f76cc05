-- For the inside alone: a pass over the items of a queue.
use Rattle.std.specs.Prelude.{◌≡◌, List, ◌++◌}
use Rattle.gate_types.specs.declared.records.Item.{Item as ItemRow}
use Rattle.gate_types.specs.declared.records.Build.{Build}
use Rattle.gate_types.specs.declared.edits.Edit.{Edit}
use Rattle.gate_types.specs.Line.{Place}
use Rattle.gate_types.specs.Standing.{next_ahead}
use Rattle.gate_types.specs.Window.{bounds_by}
use Rattle.gate_types.specs.Sweep.{verdict_of, judge, next_staying}
use Rattle.gate_queue.specs.declared.whole_queue.facts.Facts.{Facts}
use Rattle.gate_queue.specs.declared.whole_queue.settling.Pass.{Pass}
use Rattle.gate_queue_rules.specs.Edits.{edits_at, next_reports, window_behind, edits_of_queue}
use Rattle.gate_queue.specs.WholeQueue.Facts.{places_by}

-- the item of a place is added to each part of the pass
pub record AddsPlace (facts : Facts) (builds : List Build) (p : Place) (old new : Pass) : Type 0 where
  pub ahead : new.ahead.items ≡ next_ahead builds p
  pub staying : new.staying.items ≡ next_staying old.staying.items (judge builds old.staying.items p)
  pub edits : new.edits ≡ old.edits ++ edits_at facts.settings.now.name builds old.reports old.staying.items p
  pub window : new.window
      ≡ window_behind (bounds_by facts.settings.now) old.window (verdict_of builds old.staying.items p)
  pub reports : new.reports ≡ next_reports old.reports (verdict_of builds old.staying.items p)

-- the edits that settle the queue that facts tell of
abbrev pub edits_by : Facts → List ItemRow → List Build → List Edit
edits_by facts items builds =
    edits_of_queue facts.settings.now.name (bounds_by facts.settings.now) facts.window facts.reports builds
    (places_by facts.landings.now items facts.items.now)
