use Rattle.std.proofs.Common.{if◌then◌else◌, is_some, [], ◌∷◌, ◌++◌, ap, ◌∙◌}
use Rattle.gate_types.specs.Window.{bounds_by}
use Rattle.gate_types.specs.Standing.{is_failing}
use Rattle.gate_types.specs.Sweep.{verdict_of}
use Rattle.gate_queue_rules.specs.Edits.{edits_at, window_behind, next_reports}
use Rattle.gate_queue.proofs.WholeQueue.PlaceLemmas.{place_is}
use Rattle.gate_queue.proofs.whole_queue.settling.Pass.visit.Goals as goal

pub returns-clause-visited : goal.returns-clause-visited
returns-clause-visited c =
    let facts = c.args.facts.now in
    let old = c.args.self.now in
    let builds = c.args.builds.now in
    let ruling = c.in_ok-ruling.ensures in
    let place = place_is _ _ facts.landings.now c.args.item.now _ c.args.about.now c.deref.ensures.value c.of-bare.ensures in
    let verdict = ruling.verdict ∙ (λ k. verdict_of builds (c.deref-2.ensures.value k) (place k)) in
    record {
      ahead = c.in_ok-push_unless.ensures
          ∙ (λ k. if (ruling.failing ∙ ap (is_failing builds) place) k then old.ahead.items else old.ahead.items ++ c.of-bare.ensures k ∷ []);
      staying = c.in_ok-push_unless-2.ensures
          ∙ (λ k. if (c.is_some.ensures ∙ ap is_some verdict) k then old.staying.items else old.staying.items ++ c.of-bare.ensures k ∷ []);
      edits = ruling.edits ∙ (λ k. old.edits ++ edits_at facts.settings.now.name builds old.reports (c.deref-2.ensures.value k) (place k));
      window = c.window_behind-self.ensures ∙ ap (window_behind (bounds_by facts.settings.now) old.window) verdict;
      reports = c.reports_behind-self.ensures.value ∙ ap (next_reports old.reports) verdict;
    }
