-- Each read of the file is that of the content whose tables it holds.
use Rattle.std.proofs.Common.{ap}
use Rattle.std.specs.Prelude.{◌&&◌, ◌==◌, filter, find, flat_map, option_to_list}
use Rattle.gate_types.specs.declared.records.Build.{Build}
use Rattle.gate_types.specs.declared.records.Item.{Item}
use Rattle.gate_types.specs.Forms.{IsLawfulContent}
use Rattle.gate_types.specs.Once.{Content}
use Rattle.gate_types.specs.Settings.{Settings}
use Rattle.gate_types.specs.Tables.{tables}
use Rattle.gate_book_trait.specs.Reads.{items_between}
use Rattle.gate_schema.specs.Rows.{AreNamed, Stored, build_key}
use Rattle.gate_rows.specs.Matches.{Matches}
use Rattle.gate_table_laws.specs.Answers.{IsAnsweredBy}
use Rattle.gate_table_laws.proofs.told.ChangeReads.{approval_is, change_is, ready_is, ready_needing_is}
use Rattle.gate_table_laws.proofs.told.ItemReads.{item_is, needing_is, queued_is}
use Rattle.gate_table_laws.proofs.told.Items.{items_are}
use Rattle.gate_table_laws.proofs.told.PlanReads.{plan_is}
use Rattle.gate_table_laws.proofs.told.QueueReads.{landing_before_is, landings_count, reports_are, window_is}

-- all of them
pub reads_are_told : {c : Settings} {x : Content} {b : Stored} → IsLawfulContent c x → AreNamed b →
    Matches b (tables c x) → IsAnsweredBy b c x
reads_are_told {c = c} {x = x} {b = b} lawful named told = record {
  items = items_are c x b told;
  item = item_is c x b lawful told named;
  queued = queued_is c x b lawful told named;
  needing = needing_is c x b told;
  change = change_is c x b told;
  approval = approval_is c x b told lawful;
  ready = ready_is c x b told lawful;
  ready_needing = ready_needing_is c x b told lawful;
  build = λ n. ap (find (λ (y : Build). build_key y == n)) told.builds_are;
  plan = plan_is c x b lawful told;
  live_builds = λ serial. ap (filter (λ (y : Build). y.live && y.serial == serial)) told.builds_are;
  plans_between = λ name above last k.
      flat_map (λ (i : Item). option_to_list (plan_is c x b lawful told i.serial k))
      (items_between above last (items_are c x b told name k));
  builds_between = λ name above last k.
      flat_map (λ (i : Item). filter (λ (y : Build). y.live && y.serial == i.serial) (told.builds_are k))
      (items_between above last (items_are c x b told name k));
  window = window_is c x b told;
  landing_count = landings_count c x b told;
  reports = reports_are c x b told;
  landing_before = landing_before_is c x b told lawful;
  counters = told.counters_are;
  kept = told.kept_are;
}
