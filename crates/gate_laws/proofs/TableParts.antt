-- A fold of edits acts on each table by itself.
use Rattle.std.proofs.Common.{◌≡◌, List, [], ◌∷◌, map, fold, sym, ◌∙◌}
use Rattle.std.proofs.lemmas.List.{map-id}
use Rattle.gate_types.specs.declared.edits.Edit.{Edit}
use Rattle.gate_types.specs.Tables.{Tables, QueueRows, edited_changes, edited_queue, edited_plans, edited_build_rows}
use Rattle.gate_types.specs.Tables.{edited_counters, edited_kept, edited_tables, fold_all}
use Rattle.gate_laws.proofs.Members.{map_map}

pub all_parts : (t : Tables) (es : List Edit) → fold_all t es ≡ record {
  changes = fold edited_changes t.changes es;
  queues = map (λ q. fold (λ r e. edited_queue e r) q es) t.queues;
  plans = fold edited_plans t.plans es;
  builds = fold edited_build_rows t.builds es;
  counters = fold edited_counters t.counters es;
  kept = fold edited_kept t.kept es;
}
all_parts t [] = λ i. record t { queues = sym (map-id t.queues) i }
all_parts t (e ∷ es) =
    all_parts (edited_tables t e) es
    ∙ (λ i. record {
      changes = fold edited_changes t.changes (e ∷ es);
      queues = map_map (λ (q : QueueRows). fold (λ r d. edited_queue d r) q es) (edited_queue e) t.queues i;
      plans = fold edited_plans t.plans (e ∷ es);
      builds = fold edited_build_rows t.builds (e ∷ es);
      counters = fold edited_counters t.counters (e ∷ es);
      kept = fold edited_kept t.kept (e ∷ es);
    })
