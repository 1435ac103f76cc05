-- From the tables that a migration leaves to the content that they stand for.
use Rattle.std.proofs.Common.{◌≡◌, ◌∙◌, List, [], ◌∷◌, map, ap, refl, subst}
use Rattle.std.specs.Prelude.{flat_map, true, ℕ}
use Rattle.sqlite.specs.Tree.{Trees}
use Rattle.gate_types.specs.Migrate.{migrated_content, plans_of_queue, put_all}
use Rattle.gate_types.specs.Once.{Content}
use Rattle.gate_types.specs.Settings.{Settings}
use Rattle.gate_types.specs.SettingsText.{settings_text}
use Rattle.gate_types.specs.State.{put_by}
use Rattle.gate_types.specs.Tables.{QueueRows, Tables, edited_queue, edited_tables, fold_all}
use Rattle.gate_types.specs.declared.edits.Edit.TheVariants as edit
use Rattle.gate_types.specs.declared.records.Plan.{Plan}
use Rattle.gate_schema.specs.Edits.{after_edits}
use Rattle.gate_schema.specs.Rows.{Stored}
use Rattle.gate_rows.specs.Matches.{StandsFor, Matches}
use Rattle.gate_file_changes.specs.Applies.{are_known}
use Rattle.gate_migration.specs.Migrates.{puts}
use Rattle.gate_migration.specs.Upgrade.{HasUpgraded, tables_before, stored_without_plans}
use Rattle.gate_file_changes.proofs.ApplyLemmas.{edits_keep_settings}

-- they are of no queue
pub puts_known : (names : List (List ℕ)) (ps : List Plan) → are_known names (puts ps) ≡ true
puts_known names [] = refl
puts_known names (p ∷ ps) = puts_known names ps

-- a plan put leaves what stands of each queue
queues_same : (p : Plan) (qs : List QueueRows) → map (edited_queue (edit.PutPlan p)) qs ≡ qs
queues_same p [] = refl
queues_same p (q ∷ qs) = ap (λ l. q ∷ l) (queues_same p qs)

-- all edits put the plans
pub plans_fold : (t : Tables) (ps : List Plan) → fold_all t (puts ps) ≡ record t { plans = put_all t.plans ps }
plans_fold t [] = refl
plans_fold t (p ∷ ps) =
    let one : edited_tables t (edit.PutPlan p) ≡ record t { plans = put_by (λ (q : Plan). q.serial) p t.plans } =
    ap (λ (qs : List QueueRows). record t { queues = qs; plans = put_by (λ (q : Plan). q.serial) p t.plans }) (queues_same p t.queues) in
    ap (λ (u : Tables). fold_all u (puts ps)) one ∙ plans_fold (record t { plans = put_by (λ (q : Plan). q.serial) p t.plans }) ps

-- the plans of all items and landings, by the settings
abbrev pub first_plans : Settings → Content → List Plan
first_plans c x = flat_map (plans_of_queue c x.state) x.state.queues

-- what is left of the tables of a content stands for what it becomes
pub stands_for_migrated : (db : Trees) (c : Settings) (x : Content) (b : Stored) → b.settings ≡ settings_text c
    → HasUpgraded db b (puts (first_plans c x)) (tables_before c x) → StandsFor db c (migrated_content c x)
stands_for_migrated db c x b settings h = record {
  stored = after_edits (puts (first_plans c x)) (stored_without_plans b);
  stands = h.stands;
  settings = edits_keep_settings (puts (first_plans c x)) (stored_without_plans b) ∙ settings;
  matches = subst (Matches (after_edits (puts (first_plans c x)) (stored_without_plans b))) (plans_fold (tables_before c x) (first_plans c x)) h.matches;
}
