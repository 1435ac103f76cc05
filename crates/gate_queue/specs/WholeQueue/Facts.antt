-- The places of a queue's items, by what is known of it.
use Rattle.std.specs.Prelude.{false, List, [], ◌∷◌}
use Rattle.gate_types.specs.declared.records.Item.{Item as ItemRow}
use Rattle.gate_types.specs.declared.records.Landing.{Landing}
use Rattle.gate_types.specs.State.{Item}
use Rattle.gate_types.specs.Line.{Place}
use Rattle.gate_types.specs.Standing.{with_ahead}
use Rattle.gate_types.specs.Rows.{item_of}
use Rattle.gate_queue.specs.declared.whole_queue.facts.ItemFacts.{ItemFacts}
use Rattle.gate_queue.specs.declared.whole_queue.context.ItemContext.{ItemContext}

-- the place of an item, as far as its line asks for it
abbrev pub place_for_line : List Landing → List Item → Item → Place
place_for_line landings ahead i =
    record { landings = landings; ahead = ahead; item = i; needs = []; jobs = []; fast = false }

-- the place of an item, before what is ahead is known
abbrev pub place_by : List Landing → ItemRow → ItemFacts → Place
place_by landings i f = record {
  landings = landings;
  ahead = [];
  item = item_of i;
  needs = f.needs.now;
  jobs = f.jobs.now;
  fast = f.fast;
}

-- the same, once what is ahead is known
abbrev pub place_behind : List Item → List Landing → ItemRow → ItemFacts → Place
place_behind ahead landings i f = with_ahead ahead (place_by landings i f)

-- the places of the items, each with the facts that go with it
abbrev pub places_by : List Landing → List ItemRow → List ItemFacts → List Place
places_by landings [] fs = []
places_by landings (i ∷ items) [] = []
places_by landings (i ∷ items) (f ∷ fs) = place_by landings i f ∷ places_by landings items fs

-- the place that an item's context stands for
abbrev pub place_in_context : ItemContext → Place
place_in_context c = record {
  landings = c.landings.now;
  ahead = c.ahead.now;
  item = c.item;
  needs = c.needs.now;
  jobs = c.jobs.now;
  fast = c.fast;
}
