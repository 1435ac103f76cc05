use Rattle.std.proofs.Common.{◌≡◌, [], length, take, drop}
use Rattle.gate_types.specs.Keys.{serial_of_item}
use Rattle.gate_types.specs.Rising.{RisesFrom}
use Rattle.gate_live.specs.Held.{HasRoomIn, IsKeptQueue, queue_of}
use Rattle.gate_live.proofs.filling.queue_with.Given as goal

abbrev pub invariant-loop-item : goal.invariant-loop-item
invariant-loop-item l = record {
  kept : IsKeptQueue l.queue;
  room : HasRoomIn (length (drop l.item-index l.items)) l.queue;
  rows : RisesFrom serial_of_item 0 l.items → queue_of l.queue ≡ record {
    rows = record { name = l.name; window = l.window; items = take l.item-index l.items; landings = []; reports = [] };
    landings = l.landings;
    reports = l.reports;
  };
}
