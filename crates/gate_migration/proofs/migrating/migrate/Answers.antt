use Rattle.std.proofs.Common.{◌≡◌, ◌∙◌, Bool, ap, inl, inr, refl, subst, sym, true≢false, Err, Ok, Some}
use Rattle.sqlite.specs.Held.{state}
use Rattle.sqlite.specs.State.{HasCleanDisk}
use Rattle.sqlite.specs.Tree.{Trees}
use Rattle.gate_schema.specs.Rows.{first_version, schema_version}
use Rattle.gate_types.specs.SettingsText.{settings_text}
use Rattle.gate_schema.specs.Schema.{gate_schema}
use Rattle.gate_queue_queries.specs.First.{first_schema}
use Rattle.gate_migration.specs.Migrates.{CanMigrate}
use Rattle.gate_migration.specs.Standing.{IsMigrated, IsStanding, fault_before, is_newly_taken}
use Rattle.gate_migration.specs.Standing.{IsMigratedOf, IsStandingOf}
use Rattle.gate_file_meta.specs.Reading.{IsUnread, ShowsMeta}
use Rattle.gate_migration.proofs.FirstTells.{names_free, still_can}
use Rattle.gate_file_meta.proofs.SchemaLemmas.{one_schema}
use Rattle.gate_migration.proofs.StandingLemmas.{already_judged, already_told, carried_judged, carried_told}
use Rattle.gate_migration.proofs.StandingLemmas.{done_from, fault_judged, fault_told, fault_unread, first_fails}
use Rattle.gate_migration.proofs.StandingLemmas.{none_other, not_first, not_second, second_fails, settled_from}
use Rattle.gate_migration.proofs.StandingLemmas.{some_to_migrate, taken_judged}
use Rattle.gate_migration.proofs.UpgradeLemmas.{leaves_then}
use Rattle.gate_migration.proofs.migrating.migrate.Goals as goal

pub returns-then-taken-clause-done : goal.returns-then-taken-clause-done
returns-then-taken-clause-done g c clean up x it set =
    let old = state g.S.Store c.args.conn.now in
    let mid = state g.S.Store c.standing_in.new.conn in
    let k = c.args.config.now in
    let has : c.args.conn.now.schema ≡ first_schema = one_schema first_schema c.args.conn.now.schema _ refl it.stands.listed (c.schema.ensures.live up).0.lists in
    let taken : c.has_new_names-taken.result ≡ is_newly_taken c.args.conn.now.schema = c.has_new_names-taken.ensures ∙ ap is_newly_taken c.schema.ensures.value in
    absurd (true≢false (sym c.if-taken.true ∙ taken ∙ ap is_newly_taken has ∙ names_free))

pub returns-then-taken-clause-already : goal.returns-then-taken-clause-already
returns-then-taken-clause-already g c clean up s x it =
    let has : c.args.conn.now.schema ≡ gate_schema = one_schema gate_schema c.args.conn.now.schema _ refl it.stands.listed (c.schema.ensures.live up).0.lists in
    absurd (not_first c.in-Ok-true.field-0 _ _ c.in-Ok-true.field-0-test (c.in-Ok-true.ensures.judged clean _ _ _ schema_version _ has it.stands.meta))

pub returns-then-taken-clause-judged : goal.returns-then-taken-clause-judged
returns-then-taken-clause-judged g c clean tables indexes views version kept has meta =
    let text : c.as_str.result.now ≡ settings_text c.args.config.now = c.as_str.ensures.value ∙ c.in-Ok.ensures in
    let taken : c.has_new_names-taken.result ≡ is_newly_taken c.args.conn.now.schema = c.has_new_names-taken.ensures ∙ ap is_newly_taken c.schema.ensures.value in
    let standing = subst (IsStanding (Ok c.in-Ok-true.field-0) version kept) text (c.in-Ok-true.ensures.judged clean tables indexes views version kept has meta) in
    taken_judged c.in-Ok-true.field-0 _ version kept c.args.config.now c.in-Ok-true.field-0-test (sym taken ∙ c.if-taken.true) standing

pub returns-then-taken-clause-crash : goal.returns-then-taken-clause-crash
returns-then-taken-clause-crash g c clean up x it set db may =
    let old = state g.S.Store c.args.conn.now in
    let mid = state g.S.Store c.standing_in.new.conn in
    let k = c.args.config.now in
    let has : c.args.conn.now.schema ≡ first_schema = one_schema first_schema c.args.conn.now.schema _ refl it.stands.listed (c.schema.ensures.live up).0.lists in
    elim (c.standing_in.ensures.crash.crash clean db may) [ inl o ↦ inl o | inr none ↦ absurd none ]

pub returns-in-Ok-true-clause-done : goal.returns-in-Ok-true-clause-done
returns-in-Ok-true-clause-done g c clean up x it set =
    let old = state g.S.Store c.args.conn.now in
    let mid = state g.S.Store c.standing_in.new.conn in
    let k = c.args.config.now in
    let has : c.args.conn.now.schema ≡ first_schema = one_schema first_schema c.args.conn.now.schema _ refl it.stands.listed (c.schema.ensures.live up).0.lists in
    let new = state g.S.Store c.carry_out.new.conn in
    let early : HasCleanDisk mid = c.carry_out.ensures.clean clean in
    let same = c.in-Ok-true.ensures.same early in
    let can : CanMigrate mid k x = still_can old mid k x same.0.now_is (record { schema_is = has; stands = it; queues_are_set = set }) in
    done_from c.carry_out.result old mid new k x (record { was_open = λ _. same.0.was_open; now_is = λ _. same.0.now_is }) c.carry_out.ensures.answer (c.carry_out.ensures.done clean same.0.is_open x can)

pub returns-in-Ok-true-clause-settled : goal.returns-in-Ok-true-clause-settled
returns-in-Ok-true-clause-settled g c clean up x it set =
    let old = state g.S.Store c.args.conn.now in
    let mid = state g.S.Store c.standing_in.new.conn in
    let k = c.args.config.now in
    let has : c.args.conn.now.schema ≡ first_schema = one_schema first_schema c.args.conn.now.schema _ refl it.stands.listed (c.schema.ensures.live up).0.lists in
    let new = state g.S.Store c.carry_out.new.conn in
    let early : HasCleanDisk mid = c.carry_out.ensures.clean clean in
    let same = c.in-Ok-true.ensures.same early in
    let can : CanMigrate mid k x = still_can old mid k x same.0.now_is (record { schema_is = has; stands = it; queues_are_set = set }) in
    settled_from c.carry_out.result mid new k x (λ (db : Trees). g.S.Store.recovers c.carry_out.new.conn.store db) (g.met.S.Store.settled c.carry_out.new.conn.store)
    (c.carry_out.ensures.settled clean) (c.carry_out.ensures.done clean same.0.is_open x can)

pub returns-in-Ok-true-clause-already : goal.returns-in-Ok-true-clause-already
returns-in-Ok-true-clause-already g c clean up s x it =
    let has : c.args.conn.now.schema ≡ gate_schema = one_schema gate_schema c.args.conn.now.schema _ refl it.stands.listed (c.schema.ensures.live up).0.lists in
    absurd (not_first c.in-Ok-true.field-0 _ _ c.in-Ok-true.field-0-test (c.in-Ok-true.ensures.judged (c.carry_out.ensures.clean clean) _ _ _ schema_version _ has it.stands.meta))

pub returns-in-Ok-true-clause-judged : goal.returns-in-Ok-true-clause-judged
returns-in-Ok-true-clause-judged g c clean tables indexes views version kept has meta =
    let text : c.as_str.result.now ≡ settings_text c.args.config.now = c.as_str.ensures.value ∙ c.in-Ok.ensures in
    let taken : c.has_new_names-taken.result ≡ is_newly_taken c.args.conn.now.schema = c.has_new_names-taken.ensures ∙ ap is_newly_taken c.schema.ensures.value in
    let standing = subst (IsStanding (Ok c.in-Ok-true.field-0) version kept) text (c.in-Ok-true.ensures.judged (c.carry_out.ensures.clean clean) tables indexes views version kept has meta) in
    carried_judged c.in-Ok-true.field-0 c.carry_out.result _ version kept c.args.config.now c.in-Ok-true.field-0-test (sym taken ∙ c.if-taken.false) c.carry_out.ensures.answer standing

pub returns-in-Ok-true-clause-told : goal.returns-in-Ok-true-clause-told
returns-in-Ok-true-clause-told g c clean =
    let text : c.as_str.result.now ≡ settings_text c.args.config.now = c.as_str.ensures.value ∙ c.in-Ok.ensures in
    let taken : c.has_new_names-taken.result ≡ is_newly_taken c.args.conn.now.schema = c.has_new_names-taken.ensures ∙ ap is_newly_taken c.schema.ensures.value in
    let old = state g.S.Store c.args.conn.now in
    let standing = subst (IsStandingOf (Ok c.in-Ok-true.field-0) (ShowsMeta old.now)) text (c.in-Ok-true.ensures.told (c.carry_out.ensures.clean clean)) in
    carried_told c.in-Ok-true.field-0 c.carry_out.result _ (ShowsMeta old.now) c.args.config.now c.in-Ok-true.field-0-test (sym taken ∙ c.if-taken.false) c.carry_out.ensures.answer standing

pub returns-in-Ok-true-clause-crash : goal.returns-in-Ok-true-clause-crash
returns-in-Ok-true-clause-crash g c clean up x it set db may =
    let old = state g.S.Store c.args.conn.now in
    let mid = state g.S.Store c.standing_in.new.conn in
    let k = c.args.config.now in
    let has : c.args.conn.now.schema ≡ first_schema = one_schema first_schema c.args.conn.now.schema _ refl it.stands.listed (c.schema.ensures.live up).0.lists in
    let new = state g.S.Store c.carry_out.new.conn in
    let early : HasCleanDisk mid = c.carry_out.ensures.clean clean in
    let same = c.in-Ok-true.ensures.same early in
    let can : CanMigrate mid k x = still_can old mid k x same.0.now_is (record { schema_is = has; stands = it; queues_are_set = set }) in
    leaves_then old mid new early clean c.standing_in.ensures.crash (c.carry_out.ensures.crash clean same.0.is_open x can) db may

pub returns-in-Ok-false-clause-done : goal.returns-in-Ok-false-clause-done
returns-in-Ok-false-clause-done g c clean up x it set =
    let old = state g.S.Store c.args.conn.now in
    let mid = state g.S.Store c.standing_in.new.conn in
    let k = c.args.config.now in
    let has : c.args.conn.now.schema ≡ first_schema = one_schema first_schema c.args.conn.now.schema _ refl it.stands.listed (c.schema.ensures.live up).0.lists in
    absurd (not_second c.in-Ok-false.field-0 _ _ c.in-Ok-false.field-0-test (c.in-Ok-false.ensures.judged clean _ _ _ first_version _ has it.stands.rows.meta))

pub returns-in-Ok-false-clause-settled : goal.returns-in-Ok-false-clause-settled
returns-in-Ok-false-clause-settled g c clean up x it set =
    let old = state g.S.Store c.args.conn.now in
    let mid = state g.S.Store c.standing_in.new.conn in
    let k = c.args.config.now in
    let has : c.args.conn.now.schema ≡ first_schema = one_schema first_schema c.args.conn.now.schema _ refl it.stands.listed (c.schema.ensures.live up).0.lists in
    absurd (not_second c.in-Ok-false.field-0 _ _ c.in-Ok-false.field-0-test (c.in-Ok-false.ensures.judged clean _ _ _ first_version _ has it.stands.rows.meta))

pub returns-in-Ok-false-clause-already : goal.returns-in-Ok-false-clause-already
returns-in-Ok-false-clause-already g c clean up s x it =
    let has : c.args.conn.now.schema ≡ gate_schema = one_schema gate_schema c.args.conn.now.schema _ refl it.stands.listed (c.schema.ensures.live up).0.lists in
    (refl, record { stays = c.standing_in.ensures.stays clean; crash = c.standing_in.ensures.crash })

pub returns-in-Ok-false-clause-judged : goal.returns-in-Ok-false-clause-judged
returns-in-Ok-false-clause-judged g c clean tables indexes views version kept has meta =
    let text : c.as_str.result.now ≡ settings_text c.args.config.now = c.as_str.ensures.value ∙ c.in-Ok.ensures in
    let standing = subst (IsStanding (Ok c.in-Ok-false.field-0) version kept) text (c.in-Ok-false.ensures.judged clean tables indexes views version kept has meta) in
    already_judged c.in-Ok-false.field-0 (is_newly_taken c.args.conn.now.schema) version kept c.args.config.now c.in-Ok-false.field-0-test standing

pub returns-in-Ok-false-clause-told : goal.returns-in-Ok-false-clause-told
returns-in-Ok-false-clause-told g c clean =
    let text : c.as_str.result.now ≡ settings_text c.args.config.now = c.as_str.ensures.value ∙ c.in-Ok.ensures in
    let old = state g.S.Store c.args.conn.now in
    let standing = subst (IsStandingOf (Ok c.in-Ok-false.field-0) (ShowsMeta old.now)) text (c.in-Ok-false.ensures.told clean) in
    already_told c.in-Ok-false.field-0 (is_newly_taken c.args.conn.now.schema) (ShowsMeta old.now) c.args.config.now c.in-Ok-false.field-0-test standing

pub returns-in-Ok-false-clause-unread : goal.returns-in-Ok-false-clause-unread
returns-in-Ok-false-clause-unread g c clean none =
    absurd (c.in-Ok-false.ensures.unread clean none)

pub returns-in-Ok-false-clause-none : goal.returns-in-Ok-false-clause-none
returns-in-Ok-false-clause-none g c clean nothing =
    record { stays = c.standing_in.ensures.stays clean; crash = c.standing_in.ensures.crash }

pub returns-in-Ok-false-clause-crash : goal.returns-in-Ok-false-clause-crash
returns-in-Ok-false-clause-crash g c clean up x it set db may =
    let old = state g.S.Store c.args.conn.now in
    let mid = state g.S.Store c.standing_in.new.conn in
    let k = c.args.config.now in
    let has : c.args.conn.now.schema ≡ first_schema = one_schema first_schema c.args.conn.now.schema _ refl it.stands.listed (c.schema.ensures.live up).0.lists in
    elim (c.standing_in.ensures.crash.crash clean db may) [ inl o ↦ inl o | inr none ↦ absurd none ]

pub returns-clause-done : goal.returns-clause-done
returns-clause-done g c clean up x it set =
    let old = state g.S.Store c.args.conn.now in
    let mid = state g.S.Store c.standing_in.new.conn in
    let k = c.args.config.now in
    let has : c.args.conn.now.schema ≡ first_schema = one_schema first_schema c.args.conn.now.schema _ refl it.stands.listed (c.schema.ensures.live up).0.lists in
    let text : c.as_str.result.now ≡ settings_text c.args.config.now = c.as_str.ensures.value ∙ c.in-Ok.ensures in
    let f = first_fails c.in-Err.fault _ _ (it.settings ∙ sym text) (c.in-Err.ensures.judged clean _ _ _ first_version _ has it.stands.rows.meta) in
    (c.fault_before.ensures ∙ ap (fault_before _) f, c.standing_in.ensures.stays clean)

pub returns-clause-already : goal.returns-clause-already
returns-clause-already g c clean up s x it =
    let has : c.args.conn.now.schema ≡ gate_schema = one_schema gate_schema c.args.conn.now.schema _ refl it.stands.listed (c.schema.ensures.live up).0.lists in
    let f = second_fails c.in-Err.fault _ _ (c.in-Err.ensures.judged clean _ _ _ schema_version _ has it.stands.meta) in
    (c.fault_before.ensures ∙ ap (fault_before _) f, record { stays = c.standing_in.ensures.stays clean; crash = c.standing_in.ensures.crash })

pub returns-clause-judged : goal.returns-clause-judged
returns-clause-judged g c clean tables indexes views version kept has meta =
    let text : c.as_str.result.now ≡ settings_text c.args.config.now = c.as_str.ensures.value ∙ c.in-Ok.ensures in
    let taken : c.has_new_names-taken.result ≡ is_newly_taken c.args.conn.now.schema = c.has_new_names-taken.ensures ∙ ap is_newly_taken c.schema.ensures.value in
    let is = c.fault_before.ensures ∙ ap (λ (t : Bool). fault_before t c.in-Err.fault) taken in
    let standing = subst (IsStanding (Err c.in-Err.fault) version kept) text (c.in-Err.ensures.judged clean tables indexes views version kept has meta) in
    subst (λ f. IsMigrated (Err f) (is_newly_taken c.args.conn.now.schema) version kept c.args.config.now) (sym is) (fault_judged c.in-Err.fault _ version kept c.args.config.now standing)

pub returns-clause-told : goal.returns-clause-told
returns-clause-told g c clean =
    let text : c.as_str.result.now ≡ settings_text c.args.config.now = c.as_str.ensures.value ∙ c.in-Ok.ensures in
    let taken : c.has_new_names-taken.result ≡ is_newly_taken c.args.conn.now.schema = c.has_new_names-taken.ensures ∙ ap is_newly_taken c.schema.ensures.value in
    let is = c.fault_before.ensures ∙ ap (λ (t : Bool). fault_before t c.in-Err.fault) taken in
    let old = state g.S.Store c.args.conn.now in
    let standing = subst (IsStandingOf (Err c.in-Err.fault) (ShowsMeta old.now)) text (c.in-Err.ensures.told clean) in
    subst (λ f. IsMigratedOf (Err f) (is_newly_taken c.args.conn.now.schema) (ShowsMeta old.now) c.args.config.now) (sym is) (fault_told c.in-Err.fault _ (ShowsMeta old.now) c.args.config.now standing)

pub returns-clause-unread : goal.returns-clause-unread
returns-clause-unread g c clean none =
    subst (λ f. IsUnread (Some f)) (sym c.fault_before.ensures) (fault_unread c.in-Err.fault _ (c.in-Err.ensures.unread clean none))

pub returns-clause-none : goal.returns-clause-none
returns-clause-none g c clean nothing =
    record { stays = c.standing_in.ensures.stays clean; crash = c.standing_in.ensures.crash }

pub returns-clause-crash : goal.returns-clause-crash
returns-clause-crash g c clean up x it set db may =
    let old = state g.S.Store c.args.conn.now in
    let mid = state g.S.Store c.standing_in.new.conn in
    let k = c.args.config.now in
    let has : c.args.conn.now.schema ≡ first_schema = one_schema first_schema c.args.conn.now.schema _ refl it.stands.listed (c.schema.ensures.live up).0.lists in
    elim (c.standing_in.ensures.crash.crash clean db may) [ inl o ↦ inl o | inr none ↦ absurd none ]

pub returns-in-Ok-true-clause-refused : goal.returns-in-Ok-true-clause-refused
returns-in-Ok-true-clause-refused g c clean = none_other _ c.carry_out.result c.carry_out.ensures.answer

pub returns-in-Ok-true-clause-none : goal.returns-in-Ok-true-clause-none
returns-in-Ok-true-clause-none g c clean nothing =
    let text : c.as_str.result.now ≡ settings_text c.args.config.now = c.as_str.ensures.value ∙ c.in-Ok.ensures in
    let taken : c.has_new_names-taken.result ≡ is_newly_taken c.args.conn.now.schema = c.has_new_names-taken.ensures ∙ ap is_newly_taken c.schema.ensures.value in
    let old = state g.S.Store c.args.conn.now in
    let standing = subst (IsStandingOf (Ok c.in-Ok-true.field-0) (ShowsMeta old.now)) text (c.in-Ok-true.ensures.told (c.carry_out.ensures.clean clean)) in
    absurd (some_to_migrate old.now c.args.config.now c.in-Ok-true.field-0 c.in-Ok-true.field-0-test (sym taken ∙ c.if-taken.false) standing nothing)

pub returns-then-taken-clause-refused : goal.returns-then-taken-clause-refused
returns-then-taken-clause-refused g c clean other =
    record { stays = c.standing_in.ensures.stays clean; crash = c.standing_in.ensures.crash }

pub returns-clause-refused : goal.returns-clause-refused
returns-clause-refused g c clean other =
    record { stays = c.standing_in.ensures.stays clean; crash = c.standing_in.ensures.crash }
