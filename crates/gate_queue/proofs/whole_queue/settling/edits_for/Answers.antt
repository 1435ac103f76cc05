use Rattle.std.proofs.Common.{◌≡◌, ◌≤◌, ◌+◌, ◌∷◌, drop, get_or, arith, sym, ◌∙◌}
use Rattle.gate_types.specs.Window.{bounds_by}
use Rattle.gate_types.specs.Sweep.{verdict_of}
use Rattle.gate_queue.specs.WholeQueue.Facts.{places_by, place_by, place_behind}
use Rattle.gate_queue_rules.specs.Edits.{next_reports}
use Rattle.gate_queue.proofs.WholeQueue.PlaceLemmas.{places-drop, edits_after_more, window_after_more, next_reports-le}
use Rattle.gate_queue.proofs.whole_queue.settling.edits_for.Goals as goal

pub loop-index-preserved : goal.loop-index-preserved
loop-index-preserved c =
    let ls = c.args.facts.now.landings.now in
    let items = c.args.items.now in
    let fs = c.args.facts.now.items.now in
    let i = c.loop-index.index in
    let item = c.index-items-index.result in
    let fact = get_or fs i c.index-facts-index.result in
    let pass = c.loop-index.pass in
    let bs = c.args.builds.now in
    let now = c.visit.new.self in
    let v = c.in_ok-visit.ensures.visited in
    let rest = places_by ls (drop (i + 1) items) (drop (i + 1) fs) in
    let here : places_by ls (drop i items) (drop i fs) ≡ place_by ls item fact ∷ rest =
    places-drop ls items fs i item c.index-facts-index.result (omega arith) (omega arith) ∙ (λ k. place_by ls (sym c.index-items-index.is k) fact ∷ rest) in
    let few : next_reports pass.reports (verdict_of bs pass.staying.items (place_behind pass.ahead.items ls item fact)) ≤ pass.reports + 1 = next_reports-le pass.reports _ in
    let many : now.reports ≡ next_reports pass.reports (verdict_of bs pass.staying.items (place_behind pass.ahead.items ls item fact)) = v.reports in
    let before : pass.reports ≤ c.args.facts.now.reports + i = c.loop-index.invariant.room in
    record {
      room = omega arith;
      shared = c.in_ok-visit.ensures.shared;
      edits = edits_after_more c.args.facts.now.settings.now.name bs pass.reports now.reports pass.ahead.items now.ahead.items pass.staying.items now.staying.items (place_by ls item fact) rest _ pass.edits now.edits _
          here v.ahead v.staying v.edits v.reports c.loop-index.invariant.edits;
      window = window_after_more bs (bounds_by c.args.facts.now.settings.now) pass.window now.window pass.ahead.items now.ahead.items pass.staying.items now.staying.items (place_by ls item fact) rest _ _
          here v.ahead v.staying v.window c.loop-index.invariant.window;
    }
