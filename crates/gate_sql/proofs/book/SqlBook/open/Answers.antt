use Rattle.std.proofs.Common.{◌≡◌, ◌∙◌, inl, inr, Some, ap, refl, subst, sym}
use Rattle.sqlite.specs.Effect.{Database}
use Rattle.sqlite.specs.Held.{state}
use Rattle.sqlite.specs.State.{HasCleanDisk}
use Rattle.gate_schema.specs.Rows.{schema_version}
use Rattle.gate_types.specs.Adopt.{adopted_content}
use Rattle.gate_types.specs.SettingsText.{settings_text}
use Rattle.gate_rows.specs.Matches.{StandsFor}
use Rattle.gate_schema.specs.Schema.{gate_schema}
use Rattle.gate_found_rows.proofs.StayLemmas.{stays_then}
use Rattle.gate_table_laws.specs.Held.{IsShownFor}
use Rattle.gate_file_meta.specs.Reading.{HoldsMeta, ShowsMeta}
use Rattle.gate_file_meta.proofs.JudgeLemmas.{found_of_others, found_of_same, found_others, found_same, only_refused}
use Rattle.gate_file_meta.proofs.JudgeLemmas.{only_unavailable, told_so}
use Rattle.gate_file_meta.proofs.MetaLemmas.{shown_held}
use Rattle.gate_sql.proofs.OpenLemmas.{can_adopt, kept_is, may_open, not_found, own_kept, own_refused, some_to_adopt}
use Rattle.gate_file_meta.proofs.SchemaLemmas.{one_schema}
use Rattle.gate_sql.proofs.book.SqlBook.open.Goals as goal

pub returns-in-Ok-None-clause-opens : goal.returns-in-Ok-None-clause-opens
returns-in-Ok-None-clause-opens g c up x it clean =
    let has : c.args.conn.schema ≡ gate_schema = one_schema gate_schema c.args.conn.schema _ refl (it.stands).listed (c.schema.ensures.live up).0.lists in
    let same = c.in-Ok-None.ensures.same clean in
    let is = same.0.0.now_is in
    record {
      sound = c.show_sound.ensures;
      names_are = c.in-Ok.ensures.1;
      shows = λ _. record { schema_is = ap (λ (d : Database). d.schema) is ∙ has; stands = subst (λ (d : Database). StandsFor d.trees c.args.config.now x) (sym is) it };
    }

pub returns-in-Ok-None-clause-settled : goal.returns-in-Ok-None-clause-settled
returns-in-Ok-None-clause-settled g c up x it clean db left =
    let has : c.args.conn.schema ≡ gate_schema = one_schema gate_schema c.args.conn.schema _ refl (it.stands).listed (c.schema.ensures.live up).0.lists in
    let same = c.in-Ok-None.ensures.same clean in
    let is = g.met.S.Store.settled c.kept_in.new.conn.store db same.0.0.is_open left ∙ ap (λ (d : Database). d.trees) (same.0.0.committed_is ∙ sym same.1) in
    subst (λ trees. StandsFor trees c.args.config.now x) (sym is) it

pub returns-in-Ok-None-clause-lasts : goal.returns-in-Ok-None-clause-lasts
returns-in-Ok-None-clause-lasts g c clean db left =
    let same = c.in-Ok-None.ensures.same clean in
    g.met.S.Store.settled c.kept_in.new.conn.store db same.0.0.is_open left ∙ ap (λ (d : Database). d.trees) (same.0.0.committed_is ∙ sym same.1 ∙ sym same.0.0.now_is)

pub returns-in-Ok-None-clause-adopts : goal.returns-in-Ok-None-clause-adopts
returns-in-Ok-None-clause-adopts g c up cs x keeps may clean =
    let old = state g.S.Store c.args.conn in
    let text : c.as_str.result.now ≡ settings_text c.args.config.now = c.as_str.ensures.value ∙ c.in-Ok.ensures.0 in
    let has : c.args.conn.schema ≡ gate_schema = one_schema gate_schema c.args.conn.schema _ refl (keeps.stands.stands).listed (c.schema.ensures.live up).0.lists in
    let found = found_same _ _ _ _ c.in-Ok-None.field-0-is (c.in-Ok-None.ensures.judged text clean _ _ _ schema_version _ has keeps.stands.stands.meta) in
    let sound = c.show_sound.ensures in
    let own = own_kept c.one_text_a_setting.ensures _ cs c.args.config.now x keeps sound c.settings_are_in_form.ensures found.1 in
    let same = c.in-Ok-None.ensures.same clean in
    let is = same.0.0.now_is in
    let it = subst (λ s. StandsFor old.now.trees s x) own.0 keeps.stands in
    record {
      sound = sound;
      names_are = c.in-Ok.ensures.1;
      shows = λ _. subst (IsShownFor (state g.S.Store c.kept_in.new.conn) c.args.config.now) (sym own.1) (record { schema_is = ap (λ (d : Database). d.schema) is ∙ has; stands = subst (λ (d : Database). StandsFor d.trees c.args.config.now x) (sym is) it });
    }

pub returns-in-Ok-None-clause-adopted : goal.returns-in-Ok-None-clause-adopted
returns-in-Ok-None-clause-adopted g c up cs x keeps may clean db left =
    let old = state g.S.Store c.args.conn in
    let text : c.as_str.result.now ≡ settings_text c.args.config.now = c.as_str.ensures.value ∙ c.in-Ok.ensures.0 in
    let has : c.args.conn.schema ≡ gate_schema = one_schema gate_schema c.args.conn.schema _ refl (keeps.stands.stands).listed (c.schema.ensures.live up).0.lists in
    let found = found_same _ _ _ _ c.in-Ok-None.field-0-is (c.in-Ok-None.ensures.judged text clean _ _ _ schema_version _ has keeps.stands.stands.meta) in
    let sound = c.show_sound.ensures in
    let own = own_kept c.one_text_a_setting.ensures _ cs c.args.config.now x keeps sound c.settings_are_in_form.ensures found.1 in
    let same = c.in-Ok-None.ensures.same clean in
    let is = same.0.0.now_is in
    let it = subst (λ s. StandsFor old.now.trees s x) own.0 keeps.stands in
    let are = g.met.S.Store.settled c.kept_in.new.conn.store db same.0.0.is_open left ∙ ap (λ (d : Database). d.trees) (same.0.0.committed_is ∙ sym same.1) in
    subst (StandsFor db c.args.config.now) (sym own.1) (subst (λ trees. StandsFor trees c.args.config.now x) (sym are) it)

pub returns-in-Ok-None-clause-refuses : goal.returns-in-Ok-None-clause-refuses
returns-in-Ok-None-clause-refuses g c up cs x keeps refused clean =
    let text : c.as_str.result.now ≡ settings_text c.args.config.now = c.as_str.ensures.value ∙ c.in-Ok.ensures.0 in
    let has : c.args.conn.schema ≡ gate_schema = one_schema gate_schema c.args.conn.schema _ refl (keeps.stands.stands).listed (c.schema.ensures.live up).0.lists in
    let found = found_same _ _ _ _ c.in-Ok-None.field-0-is (c.in-Ok-None.ensures.judged text clean _ _ _ schema_version _ has keeps.stands.stands.meta) in
    let sound = c.show_sound.ensures in
    let own = own_kept c.one_text_a_setting.ensures _ cs c.args.config.now x keeps sound c.settings_are_in_form.ensures found.1 in
    own_refused cs c.args.config.now own.0 refused

pub returns-in-Ok-None-clause-judged : goal.returns-in-Ok-None-clause-judged
returns-in-Ok-None-clause-judged g c tables indexes views version kept has meta clean =
    let text : c.as_str.result.now ≡ settings_text c.args.config.now = c.as_str.ensures.value ∙ c.in-Ok.ensures.0 in
    let found = found_same _ _ _ _ c.in-Ok-None.field-0-is (c.in-Ok-None.ensures.judged text clean tables indexes views version kept has meta) in
    (found.0, inl found.1)

pub returns-in-Ok-None-clause-told : goal.returns-in-Ok-None-clause-told
returns-in-Ok-None-clause-told g c clean =
    let text : c.as_str.result.now ≡ settings_text c.args.config.now = c.as_str.ensures.value ∙ c.in-Ok.ensures.0 in
    let old = state g.S.Store c.args.conn in
    (settings_text c.args.config.now, inl refl, found_of_same _ (ShowsMeta old.now) c.args.config.now c.in-Ok-None.field-0-is (c.in-Ok-None.ensures.told text clean))

pub returns-in-Ok-None-clause-held : goal.returns-in-Ok-None-clause-held
returns-in-Ok-None-clause-held g c tables indexes views has clean =
    let text : c.as_str.result.now ≡ settings_text c.args.config.now = c.as_str.ensures.value ∙ c.in-Ok.ensures.0 in
    let old = state g.S.Store c.args.conn in
    (settings_text c.args.config.now, inl refl, shown_held tables indexes views old.now _ _ has (found_of_same _ (ShowsMeta old.now) c.args.config.now c.in-Ok-None.field-0-is (c.in-Ok-None.ensures.told text clean)))

pub returns-in-Ok-None-clause-crash : goal.returns-in-Ok-None-clause-crash
returns-in-Ok-None-clause-crash g c none clean =
    c.kept_in.ensures.crash

pub returns-in-Ok-None-clause-leaves : goal.returns-in-Ok-None-clause-leaves
returns-in-Ok-None-clause-leaves g c cs x has keeps may clean db left =
    elim (c.kept_in.ensures.crash.crash clean db left) [ inl before ↦ inl before | inr none ↦ absurd none ]

pub returns-in-Ok-None-clause-quiet : goal.returns-in-Ok-None-clause-quiet
returns-in-Ok-None-clause-quiet g c x has it clean =
    c.kept_in.ensures.crash

pub returns-in-Ok-None-clause-refused : goal.returns-in-Ok-None-clause-refused
returns-in-Ok-None-clause-refused g c cs x has keeps refused clean =
    c.kept_in.ensures.crash

pub returns-in-Ok-adopt-clause-opens : goal.returns-in-Ok-adopt-clause-opens
returns-in-Ok-adopt-clause-opens g c up x it clean =
    let mid = state g.S.Store c.kept_in.new.conn in
    let early : HasCleanDisk mid = c.adopt.ensures.clean clean in
    let text : c.as_str.result.now ≡ settings_text c.args.config.now = c.as_str.ensures.value ∙ c.in-Ok.ensures.0 in
    let has : c.args.conn.schema ≡ gate_schema = one_schema gate_schema c.args.conn.schema _ refl (it.stands).listed (c.schema.ensures.live up).0.lists in
    let found = found_others _ c.in-Ok-Some.kept _ _ _ c.in-Ok-Some.field-0-is (c.in-Ok-Some.ensures.judged text early _ _ _ schema_version _ has it.stands.meta) in
    absurd (found.1 it.settings)

pub returns-in-Ok-adopt-clause-settled : goal.returns-in-Ok-adopt-clause-settled
returns-in-Ok-adopt-clause-settled g c up x it clean db left =
    let mid = state g.S.Store c.kept_in.new.conn in
    let early : HasCleanDisk mid = c.adopt.ensures.clean clean in
    let text : c.as_str.result.now ≡ settings_text c.args.config.now = c.as_str.ensures.value ∙ c.in-Ok.ensures.0 in
    let has : c.args.conn.schema ≡ gate_schema = one_schema gate_schema c.args.conn.schema _ refl (it.stands).listed (c.schema.ensures.live up).0.lists in
    let found = found_others _ c.in-Ok-Some.kept _ _ _ c.in-Ok-Some.field-0-is (c.in-Ok-Some.ensures.judged text early _ _ _ schema_version _ has it.stands.meta) in
    absurd (found.1 it.settings)

pub returns-in-Ok-adopt-clause-lasts : goal.returns-in-Ok-adopt-clause-lasts
returns-in-Ok-adopt-clause-lasts g c clean db left =
    let held = c.in-Ok-adopt.ensures.settled clean in
    g.met.S.Store.settled c.adopt.new.conn.store db held.0 left ∙ ap (λ (d : Database). d.trees) held.1

pub returns-in-Ok-adopt-clause-adopts : goal.returns-in-Ok-adopt-clause-adopts
returns-in-Ok-adopt-clause-adopts g c up cs x keeps may clean =
    let old = state g.S.Store c.args.conn in
    let mid = state g.S.Store c.kept_in.new.conn in
    let early : HasCleanDisk mid = c.adopt.ensures.clean clean in
    let text : c.as_str.result.now ≡ settings_text c.args.config.now = c.as_str.ensures.value ∙ c.in-Ok.ensures.0 in
    let new = state g.S.Store c.adopt.new.conn in
    let again : c.as_str-in-Ok-Some.result.now ≡ settings_text c.args.config.now = c.as_str-in-Ok-Some.ensures.value ∙ c.in-Ok.ensures.0 in
    let has : c.args.conn.schema ≡ gate_schema = one_schema gate_schema c.args.conn.schema _ refl (keeps.stands.stands).listed (c.schema.ensures.live up).0.lists in
    let found = found_others _ c.in-Ok-Some.kept _ _ _ c.in-Ok-Some.field-0-is (c.in-Ok-Some.ensures.judged text early _ _ _ schema_version _ has keeps.stands.stands.meta) in
    let same = c.in-Ok-Some.ensures.same early in
    let is = same.0.0.now_is in
    let named = kept_is c.one_text_a_setting.ensures _ cs c.args.config.now c.in-Ok-Some.kept x keeps found.2 in
    let can = can_adopt old.now mid.now cs c.args.config.now c.in-Ok-Some.kept x is named keeps may in
    let on = ap (λ (d : Database). d.schema) is ∙ has in
    let shown = subst (λ s. IsShownFor new c.args.config.now (adopted_content s c.args.config.now x)) named (c.in-Ok-adopt.ensures.made clean again x on can) in
    record {
      sound = c.show_sound.ensures;
      names_are = c.in-Ok.ensures.1;
      shows = λ _. shown;
    }

pub returns-in-Ok-adopt-clause-adopted : goal.returns-in-Ok-adopt-clause-adopted
returns-in-Ok-adopt-clause-adopted g c up cs x keeps may clean db left =
    let old = state g.S.Store c.args.conn in
    let mid = state g.S.Store c.kept_in.new.conn in
    let early : HasCleanDisk mid = c.adopt.ensures.clean clean in
    let text : c.as_str.result.now ≡ settings_text c.args.config.now = c.as_str.ensures.value ∙ c.in-Ok.ensures.0 in
    let new = state g.S.Store c.adopt.new.conn in
    let again : c.as_str-in-Ok-Some.result.now ≡ settings_text c.args.config.now = c.as_str-in-Ok-Some.ensures.value ∙ c.in-Ok.ensures.0 in
    let has : c.args.conn.schema ≡ gate_schema = one_schema gate_schema c.args.conn.schema _ refl (keeps.stands.stands).listed (c.schema.ensures.live up).0.lists in
    let found = found_others _ c.in-Ok-Some.kept _ _ _ c.in-Ok-Some.field-0-is (c.in-Ok-Some.ensures.judged text early _ _ _ schema_version _ has keeps.stands.stands.meta) in
    let same = c.in-Ok-Some.ensures.same early in
    let is = same.0.0.now_is in
    let named = kept_is c.one_text_a_setting.ensures _ cs c.args.config.now c.in-Ok-Some.kept x keeps found.2 in
    let can = can_adopt old.now mid.now cs c.args.config.now c.in-Ok-Some.kept x is named keeps may in
    let on = ap (λ (d : Database). d.schema) is ∙ has in
    let shown = subst (λ s. IsShownFor new c.args.config.now (adopted_content s c.args.config.now x)) named (c.in-Ok-adopt.ensures.made clean again x on can) in
    let held = c.in-Ok-adopt.ensures.settled clean in
    let are = g.met.S.Store.settled c.adopt.new.conn.store db held.0 left ∙ ap (λ (d : Database). d.trees) held.1 in
    subst (λ trees. StandsFor trees c.args.config.now (adopted_content cs c.args.config.now x)) (sym are) shown.stands

pub returns-in-Ok-adopt-clause-refuses : goal.returns-in-Ok-adopt-clause-refuses
returns-in-Ok-adopt-clause-refuses g c up cs x keeps refused clean =
    let mid = state g.S.Store c.kept_in.new.conn in
    let early : HasCleanDisk mid = c.adopt.ensures.clean clean in
    let text : c.as_str.result.now ≡ settings_text c.args.config.now = c.as_str.ensures.value ∙ c.in-Ok.ensures.0 in
    let has : c.args.conn.schema ≡ gate_schema = one_schema gate_schema c.args.conn.schema _ refl (keeps.stands.stands).listed (c.schema.ensures.live up).0.lists in
    let found = found_others _ c.in-Ok-Some.kept _ _ _ c.in-Ok-Some.field-0-is (c.in-Ok-Some.ensures.judged text early _ _ _ schema_version _ has keeps.stands.stands.meta) in
    not_found c.one_text_a_setting.ensures _ cs c.args.config.now c.in-Ok-Some.kept x keeps refused found.2 found.3

pub returns-in-Ok-adopt-clause-judged : goal.returns-in-Ok-adopt-clause-judged
returns-in-Ok-adopt-clause-judged g c tables indexes views version kept has meta clean =
    let mid = state g.S.Store c.kept_in.new.conn in
    let early : HasCleanDisk mid = c.adopt.ensures.clean clean in
    let text : c.as_str.result.now ≡ settings_text c.args.config.now = c.as_str.ensures.value ∙ c.in-Ok.ensures.0 in
    let found = found_others _ c.in-Ok-Some.kept _ _ _ c.in-Ok-Some.field-0-is (c.in-Ok-Some.ensures.judged text early tables indexes views version kept has meta) in
    (found.0, inr (c.in-Ok-Some.kept, found.2, found.3))

pub returns-in-Ok-adopt-clause-told : goal.returns-in-Ok-adopt-clause-told
returns-in-Ok-adopt-clause-told g c clean =
    let old = state g.S.Store c.args.conn in
    let mid = state g.S.Store c.kept_in.new.conn in
    let early : HasCleanDisk mid = c.adopt.ensures.clean clean in
    let text : c.as_str.result.now ≡ settings_text c.args.config.now = c.as_str.ensures.value ∙ c.in-Ok.ensures.0 in
    let found = found_of_others _ c.in-Ok-Some.kept (ShowsMeta old.now) c.args.config.now c.in-Ok-Some.field-0-is (c.in-Ok-Some.ensures.told text early) in
    (found.0, inr (c.in-Ok-Some.kept, found.2, found.3), found.4)

pub returns-in-Ok-adopt-clause-held : goal.returns-in-Ok-adopt-clause-held
returns-in-Ok-adopt-clause-held g c tables indexes views has clean =
    let old = state g.S.Store c.args.conn in
    let mid = state g.S.Store c.kept_in.new.conn in
    let early : HasCleanDisk mid = c.adopt.ensures.clean clean in
    let text : c.as_str.result.now ≡ settings_text c.args.config.now = c.as_str.ensures.value ∙ c.in-Ok.ensures.0 in
    let found = found_of_others _ c.in-Ok-Some.kept (ShowsMeta old.now) c.args.config.now c.in-Ok-Some.field-0-is (c.in-Ok-Some.ensures.told text early) in
    (found.0, inr (c.in-Ok-Some.kept, found.2, found.3), shown_held tables indexes views old.now _ _ has found.4)

pub returns-in-Ok-adopt-clause-crash : goal.returns-in-Ok-adopt-clause-crash
returns-in-Ok-adopt-clause-crash g c none clean =
    let old = state g.S.Store c.args.conn in
    let mid = state g.S.Store c.kept_in.new.conn in
    let early : HasCleanDisk mid = c.adopt.ensures.clean clean in
    let text : c.as_str.result.now ≡ settings_text c.args.config.now = c.as_str.ensures.value ∙ c.in-Ok.ensures.0 in
    let found = found_of_others _ c.in-Ok-Some.kept (ShowsMeta old.now) c.args.config.now c.in-Ok-Some.field-0-is (c.in-Ok-Some.ensures.told text early) in
    absurd (some_to_adopt old.now c.args.config.now c.in-Ok-Some.kept found none)

pub returns-in-Ok-adopt-clause-leaves : goal.returns-in-Ok-adopt-clause-leaves
returns-in-Ok-adopt-clause-leaves g c cs x has keeps may clean db left =
    let old = state g.S.Store c.args.conn in
    let mid = state g.S.Store c.kept_in.new.conn in
    let early : HasCleanDisk mid = c.adopt.ensures.clean clean in
    let text : c.as_str.result.now ≡ settings_text c.args.config.now = c.as_str.ensures.value ∙ c.in-Ok.ensures.0 in
    let again : c.as_str-in-Ok-Some.result.now ≡ settings_text c.args.config.now = c.as_str-in-Ok-Some.ensures.value ∙ c.in-Ok.ensures.0 in
    let found = found_others _ c.in-Ok-Some.kept _ _ _ c.in-Ok-Some.field-0-is (c.in-Ok-Some.ensures.judged text early _ _ _ schema_version _ has keeps.stands.stands.meta) in
    let same = c.in-Ok-Some.ensures.same early in
    let is = same.0.0.now_is in
    let named = kept_is c.one_text_a_setting.ensures _ cs c.args.config.now c.in-Ok-Some.kept x keeps found.2 in
    let can = can_adopt old.now mid.now cs c.args.config.now c.in-Ok-Some.kept x is named keeps may in
    let on = ap (λ (d : Database). d.schema) is ∙ has in
    elim (c.adopt.ensures.crash clean again x on can db left) [
      | inl before ↦ elim (c.kept_in.ensures.crash.crash early db before) [ inl first ↦ inl first | inr none ↦ absurd none ]
      | inr stands ↦ inr (subst (λ s. StandsFor db c.args.config.now (adopted_content s c.args.config.now x)) named stands)
    ]

pub returns-in-Ok-adopt-clause-quiet : goal.returns-in-Ok-adopt-clause-quiet
returns-in-Ok-adopt-clause-quiet g c x has it clean =
    let mid = state g.S.Store c.kept_in.new.conn in
    let early : HasCleanDisk mid = c.adopt.ensures.clean clean in
    let text : c.as_str.result.now ≡ settings_text c.args.config.now = c.as_str.ensures.value ∙ c.in-Ok.ensures.0 in
    let found = found_others _ c.in-Ok-Some.kept _ _ _ c.in-Ok-Some.field-0-is (c.in-Ok-Some.ensures.judged text early _ _ _ schema_version _ has it.stands.meta) in
    absurd (found.1 it.settings)

pub returns-in-Ok-adopt-clause-refused : goal.returns-in-Ok-adopt-clause-refused
returns-in-Ok-adopt-clause-refused g c cs x has keeps refused clean =
    let mid = state g.S.Store c.kept_in.new.conn in
    let early : HasCleanDisk mid = c.adopt.ensures.clean clean in
    let text : c.as_str.result.now ≡ settings_text c.args.config.now = c.as_str.ensures.value ∙ c.in-Ok.ensures.0 in
    let found = found_others _ c.in-Ok-Some.kept _ _ _ c.in-Ok-Some.field-0-is (c.in-Ok-Some.ensures.judged text early _ _ _ schema_version _ has keeps.stands.stands.meta) in
    absurd (not_found c.one_text_a_setting.ensures _ cs c.args.config.now c.in-Ok-Some.kept x keeps refused found.2 found.3)

pub returns-in-Ok-Some-clause-quiet : goal.returns-in-Ok-Some-clause-quiet
returns-in-Ok-Some-clause-quiet g c x has it clean =
    let mid = state g.S.Store c.kept_in.new.conn in
    let early : HasCleanDisk mid = c.adopt.ensures.clean clean in
    let text : c.as_str.result.now ≡ settings_text c.args.config.now = c.as_str.ensures.value ∙ c.in-Ok.ensures.0 in
    let found = found_others _ c.in-Ok-Some.kept _ _ _ c.in-Ok-Some.field-0-is (c.in-Ok-Some.ensures.judged text early _ _ _ schema_version _ has it.stands.meta) in
    absurd (found.1 it.settings)

pub returns-in-Ok-Some-clause-refused : goal.returns-in-Ok-Some-clause-refused
returns-in-Ok-Some-clause-refused g c cs x has keeps refused clean =
    let mid = state g.S.Store c.kept_in.new.conn in
    let early : HasCleanDisk mid = c.adopt.ensures.clean clean in
    let text : c.as_str.result.now ≡ settings_text c.args.config.now = c.as_str.ensures.value ∙ c.in-Ok.ensures.0 in
    let found = found_others _ c.in-Ok-Some.kept _ _ _ c.in-Ok-Some.field-0-is (c.in-Ok-Some.ensures.judged text early _ _ _ schema_version _ has keeps.stands.stands.meta) in
    absurd (not_found c.one_text_a_setting.ensures _ cs c.args.config.now c.in-Ok-Some.kept x keeps refused found.2 found.3)

pub returns-in-Ok-Some-clause-none : goal.returns-in-Ok-Some-clause-none
returns-in-Ok-Some-clause-none g c clean =
    let mid = state g.S.Store c.kept_in.new.conn in
    let early : HasCleanDisk mid = c.adopt.ensures.clean clean in
    record {
      stays = stays_then (state g.S.Store c.args.conn) mid (state g.S.Store c.adopt.new.conn) (c.kept_in.ensures.stays early) (c.in-Err-adopt.ensures.none clean);
      untouched = λ other. absurd (other c.in-Err-adopt.ensures.fault);
    }

pub returns-in-Ok-Some-clause-crash : goal.returns-in-Ok-Some-clause-crash
returns-in-Ok-Some-clause-crash g c none clean =
    let old = state g.S.Store c.args.conn in
    let mid = state g.S.Store c.kept_in.new.conn in
    let early : HasCleanDisk mid = c.adopt.ensures.clean clean in
    let text : c.as_str.result.now ≡ settings_text c.args.config.now = c.as_str.ensures.value ∙ c.in-Ok.ensures.0 in
    let found = found_of_others _ c.in-Ok-Some.kept (ShowsMeta old.now) c.args.config.now c.in-Ok-Some.field-0-is (c.in-Ok-Some.ensures.told text early) in
    absurd (some_to_adopt old.now c.args.config.now c.in-Ok-Some.kept found none)

pub returns-in-Ok-Some-clause-leaves : goal.returns-in-Ok-Some-clause-leaves
returns-in-Ok-Some-clause-leaves g c cs x has keeps may clean db left =
    let old = state g.S.Store c.args.conn in
    let mid = state g.S.Store c.kept_in.new.conn in
    let early : HasCleanDisk mid = c.adopt.ensures.clean clean in
    let text : c.as_str.result.now ≡ settings_text c.args.config.now = c.as_str.ensures.value ∙ c.in-Ok.ensures.0 in
    let again : c.as_str-in-Ok-Some.result.now ≡ settings_text c.args.config.now = c.as_str-in-Ok-Some.ensures.value ∙ c.in-Ok.ensures.0 in
    let found = found_others _ c.in-Ok-Some.kept _ _ _ c.in-Ok-Some.field-0-is (c.in-Ok-Some.ensures.judged text early _ _ _ schema_version _ has keeps.stands.stands.meta) in
    let same = c.in-Ok-Some.ensures.same early in
    let is = same.0.0.now_is in
    let named = kept_is c.one_text_a_setting.ensures _ cs c.args.config.now c.in-Ok-Some.kept x keeps found.2 in
    let can = can_adopt old.now mid.now cs c.args.config.now c.in-Ok-Some.kept x is named keeps may in
    let on = ap (λ (d : Database). d.schema) is ∙ has in
    elim (c.adopt.ensures.crash clean again x on can db left) [
      | inl before ↦ elim (c.kept_in.ensures.crash.crash early db before) [ inl first ↦ inl first | inr none ↦ absurd none ]
      | inr stands ↦ inr (subst (λ s. StandsFor db c.args.config.now (adopted_content s c.args.config.now x)) named stands)
    ]

pub returns-clause-quiet : goal.returns-clause-quiet
returns-clause-quiet g c x has it clean =
    c.kept_in.ensures.crash

pub returns-clause-refused : goal.returns-clause-refused
returns-clause-refused g c cs x has keeps refused clean =
    c.kept_in.ensures.crash

pub returns-clause-opens : goal.returns-clause-opens
returns-clause-opens g c up x it clean =
    let text : c.as_str.result.now ≡ settings_text c.args.config.now = c.as_str.ensures.value ∙ c.in-Ok.ensures.0 in
    let has : c.args.conn.schema ≡ gate_schema = one_schema gate_schema c.args.conn.schema _ refl (it.stands).listed (c.schema.ensures.live up).0.lists in
    only_unavailable c.in-Err.fault _ c.args.config.now (inl it.settings) (c.in-Err.ensures.judged text clean _ _ _ schema_version _ has it.stands.meta)

pub returns-clause-adopts : goal.returns-clause-adopts
returns-clause-adopts g c up cs x keeps may clean =
    let text : c.as_str.result.now ≡ settings_text c.args.config.now = c.as_str.ensures.value ∙ c.in-Ok.ensures.0 in
    let has : c.args.conn.schema ≡ gate_schema = one_schema gate_schema c.args.conn.schema _ refl (keeps.stands.stands).listed (c.schema.ensures.live up).0.lists in
    only_unavailable c.in-Err.fault _ c.args.config.now (may_open _ cs c.args.config.now x keeps may) (c.in-Err.ensures.judged text clean _ _ _ schema_version _ has keeps.stands.stands.meta)

pub returns-clause-refuses : goal.returns-clause-refuses
returns-clause-refuses g c up cs x keeps refused clean =
    let text : c.as_str.result.now ≡ settings_text c.args.config.now = c.as_str.ensures.value ∙ c.in-Ok.ensures.0 in
    let has : c.args.conn.schema ≡ gate_schema = one_schema gate_schema c.args.conn.schema _ refl (keeps.stands.stands).listed (c.schema.ensures.live up).0.lists in
    only_refused c.in-Err.fault _ c.args.config.now (c.in-Err.ensures.judged text clean _ _ _ schema_version _ has keeps.stands.stands.meta)

pub returns-clause-judged : goal.returns-clause-judged
returns-clause-judged g c tables indexes views version kept has meta clean =
    let text : c.as_str.result.now ≡ settings_text c.args.config.now = c.as_str.ensures.value ∙ c.in-Ok.ensures.0 in
    c.in-Err.ensures.judged text clean tables indexes views version kept has meta

pub returns-clause-held : goal.returns-clause-held
returns-clause-held g c tables indexes views has clean =
    let old = state g.S.Store c.args.conn in
    let text : c.as_str.result.now ≡ settings_text c.args.config.now = c.as_str.ensures.value ∙ c.in-Ok.ensures.0 in
    told_so (Some c.in-Err.fault) (ShowsMeta old.now) (HoldsMeta old.now.trees) c.args.config.now (λ version kept shows. shown_held tables indexes views old.now version kept has shows) (c.in-Err.ensures.told text clean)

pub returns-clause-none : goal.returns-clause-none
returns-clause-none g c clean =
    record { stays = c.kept_in.ensures.stays clean; untouched = λ other. c.kept_in.ensures.crash }

pub returns-clause-crash : goal.returns-clause-crash
returns-clause-crash g c none clean =
    c.kept_in.ensures.crash

pub returns-clause-leaves : goal.returns-clause-leaves
returns-clause-leaves g c cs x has keeps may clean db left =
    elim (c.kept_in.ensures.crash.crash clean db left) [ inl before ↦ inl before | inr none ↦ absurd none ]
