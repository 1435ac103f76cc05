use Rattle.std.proofs.Common.{◌≡◌, ◌∙◌, IsTrue, inl, inr, refl, subst, true}
use Rattle.sqlite.specs.Held.{state}
use Rattle.sqlite.specs.State.{HasCleanDisk}
use Rattle.gate_types.specs.Settings.{are_sound}
use Rattle.gate_found_rows.proofs.StayLemmas.{stays_then}
use Rattle.gate_migration.specs.Migrates.{puts}
use Rattle.gate_migration.specs.Upgrade.{CanUpgrade, HasUpgraded, tables_before}
use Rattle.gate_migration.proofs.FirstTells.{can_upgrade, first_shown, tells_state}
use Rattle.gate_migration.proofs.MigrateLemmas.{first_plans, stands_for_migrated}
use Rattle.gate_migration.proofs.UpgradeLemmas.{can_still, leaves_then}
use Rattle.gate_migration.proofs.migrating.carry_out.Goals as goal

pub returns-in-Ok-upgrade_if_open-clause-done : goal.returns-in-Ok-upgrade_if_open-clause-done
returns-in-Ok-upgrade_if_open-clause-done g c clean up x can =
    let old = state g.S.Store c.args.conn.now in
    let mid = state g.S.Store c.first_plans.new.conn in
    let k = c.args.config.now in
    let early : HasCleanDisk mid = c.upgrade_if_open.ensures.clean clean in
    let sound : are_sound k ≡ true = c.show_sound.ensures in
    let stays = c.first_plans.ensures.only_reads.stays early in
    let b = can.stands.stored in
    let found = c.in-Ok.ensures.found early b x.state (λ _. first_shown old k x can) (tells_state k x b sound can.queues_are_set can.stands.matches) in
    let are : c.deref.result.now ≡ puts (first_plans k x) = c.deref.ensures.value ∙ found in
    let there : IsTrue mid.is_open → CanUpgrade mid b c.deref.result.now (tables_before k x) =
    λ open_still. can_still old mid b c.deref.result.now (tables_before k x) (stays.now_is open_still) (can_upgrade old k x c.deref.result.now sound are can) in
    let all = c.in-Ok-upgrade_if_open.ensures.all clean b (tables_before k x) there in
    record {
      schema_is = all.0;
      stands = stands_for_migrated _ k x b can.stands.settings (subst (λ l. HasUpgraded (state g.S.Store c.upgrade_if_open.new.conn).now.trees b l (tables_before k x)) are all.1);
    }

pub returns-clause-done : goal.returns-clause-done
returns-clause-done g c clean up x can =
    let old = state g.S.Store c.args.conn.now in
    let mid = state g.S.Store c.first_plans.new.conn in
    let k = c.args.config.now in
    let early : HasCleanDisk mid = c.upgrade_if_open.ensures.clean clean in
    let sound : are_sound k ≡ true = c.show_sound.ensures in
    let stays = c.first_plans.ensures.only_reads.stays early in
    let b = can.stands.stored in
    let found = c.in-Ok.ensures.found early b x.state (λ _. first_shown old k x can) (tells_state k x b sound can.queues_are_set can.stands.matches) in
    let are : c.deref.result.now ≡ puts (first_plans k x) = c.deref.ensures.value ∙ found in
    let there : IsTrue mid.is_open → CanUpgrade mid b c.deref.result.now (tables_before k x) =
    λ open_still. can_still old mid b c.deref.result.now (tables_before k x) (stays.now_is open_still) (can_upgrade old k x c.deref.result.now sound are can) in
    (refl, stays_then old mid (state g.S.Store c.upgrade_if_open.new.conn) stays (c.in-Err.ensures.none clean b (tables_before k x) there))

pub returns-in-Ok-upgrade_if_open-clause-crash : goal.returns-in-Ok-upgrade_if_open-clause-crash
returns-in-Ok-upgrade_if_open-clause-crash g c clean up x can db may =
    let old = state g.S.Store c.args.conn.now in
    let mid = state g.S.Store c.first_plans.new.conn in
    let k = c.args.config.now in
    let early : HasCleanDisk mid = c.upgrade_if_open.ensures.clean clean in
    let sound : are_sound k ≡ true = c.show_sound.ensures in
    let stays = c.first_plans.ensures.only_reads.stays early in
    let b = can.stands.stored in
    let found = c.in-Ok.ensures.found early b x.state (λ _. first_shown old k x can) (tells_state k x b sound can.queues_are_set can.stands.matches) in
    let are : c.deref.result.now ≡ puts (first_plans k x) = c.deref.ensures.value ∙ found in
    let there : IsTrue mid.is_open → CanUpgrade mid b c.deref.result.now (tables_before k x) =
    λ open_still. can_still old mid b c.deref.result.now (tables_before k x) (stays.now_is open_still) (can_upgrade old k x c.deref.result.now sound are can) in
    leaves_then old mid (state g.S.Store c.upgrade_if_open.new.conn) early clean (c.first_plans.ensures.only_reads.crash early)
    (λ db may. elim (c.upgrade_if_open.ensures.crash clean b (tables_before k x) there db may) [
      | inl m ↦ inl m
      | inr u ↦ inr (stands_for_migrated db k x b can.stands.settings (subst (λ l. HasUpgraded db b l (tables_before k x)) are u))
    ]) db may

pub returns-clause-crash : goal.returns-clause-crash
returns-clause-crash g c clean up x can db may =
    let old = state g.S.Store c.args.conn.now in
    let mid = state g.S.Store c.first_plans.new.conn in
    let k = c.args.config.now in
    let early : HasCleanDisk mid = c.upgrade_if_open.ensures.clean clean in
    let sound : are_sound k ≡ true = c.show_sound.ensures in
    let stays = c.first_plans.ensures.only_reads.stays early in
    let b = can.stands.stored in
    let found = c.in-Ok.ensures.found early b x.state (λ _. first_shown old k x can) (tells_state k x b sound can.queues_are_set can.stands.matches) in
    let are : c.deref.result.now ≡ puts (first_plans k x) = c.deref.ensures.value ∙ found in
    let there : IsTrue mid.is_open → CanUpgrade mid b c.deref.result.now (tables_before k x) =
    λ open_still. can_still old mid b c.deref.result.now (tables_before k x) (stays.now_is open_still) (can_upgrade old k x c.deref.result.now sound are can) in
    leaves_then old mid (state g.S.Store c.upgrade_if_open.new.conn) early clean (c.first_plans.ensures.only_reads.crash early)
    (λ db may. elim (c.upgrade_if_open.ensures.crash clean b (tables_before k x) there db may) [
      | inl m ↦ inl m
      | inr u ↦ inr (stands_for_migrated db k x b can.stands.settings (subst (λ l. HasUpgraded db b l (tables_before k x)) are u))
    ]) db may
