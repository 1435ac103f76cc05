-- The rows of a file that holds the tables of a lawful content have the form of a gate's.
use Rattle.std.proofs.Common.{◌≡◌, ◌≢◌, true, sym, subst}
use Rattle.std.specs.Prelude.{AllPairs}
use Rattle.std.specs.List.{AllPass}
use Rattle.gate_types.specs.declared.records.Kept.{Kept}
use Rattle.gate_types.specs.Forms.{IsLawfulContent, are_counters_in_form, is_kept_in_form}
use Rattle.gate_types.specs.Once.{Content}
use Rattle.gate_types.specs.Settings.{Settings}
use Rattle.gate_types.specs.Tables.{tables}
use Rattle.gate_schema.specs.Rows.{Stored}
use Rattle.gate_rows.specs.Matches.{Matches, NeedsMatch}
use Rattle.gate_found_rows.specs.Whole.{IsWhole}
use Rattle.gate_table_laws.proofs.told.ChangeReads.{approvals_of_rows}
use Rattle.gate_table_laws.proofs.told.ItemForms.{changes_differ, items_are_few, items_in_form}
use Rattle.gate_table_laws.proofs.told.PlanReads.{jobs_are_placed, jobs_in_form}
use Rattle.gate_table_laws.proofs.told.RowForms.{builds_in_form, changes_in_form, windows_in_form}

-- all of it
pub rows_are_whole : {c : Settings} {x : Content} {b : Stored} → IsLawfulContent c x → Matches b (tables c x) → IsWhole b
rows_are_whole {c = c} {x = x} {b = b} lawful told = record {
  counters = subst (λ d. are_counters_in_form d ≡ true) (sym told.counters_are) lawful.in_form.state.counters;
  windows = windows_in_form c x b lawful told;
  changes = changes_in_form c x b lawful told;
  approvals_differ = approvals_of_rows c x b told lawful;
  needs = subst (NeedsMatch b.needs) (sym told.changes_are) told.needs_are;
  items = items_in_form c x b lawful told;
  changes_differ = changes_differ c x b lawful told;
  items_are_few = items_are_few c x b lawful told;
  builds = builds_in_form c x b lawful told;
  jobs = jobs_in_form c x b lawful told;
  jobs_are_placed = jobs_are_placed c x b told;
  kept = subst (AllPass is_kept_in_form) (sym told.kept_are) lawful.in_form.kept;
  ids_differ = subst (AllPairs (λ (k l : Kept). k.id ≢ l.id)) (sym told.kept_are) lawful.in_form.ids_differ;
}
