use Rattle.std.proofs.Common.{rules, true, ◌≡◌, ◌∙◌, ap, sym, subst}
use Rattle.sqlite.specs.Effect.{Database}
use Rattle.sqlite.specs.Held.{state}
use Rattle.sqlite.proofs.StateLemmas.{survives_weaker}
use Rattle.gate_types.specs.Settings.{Settings, are_sound}
use Rattle.gate_types.specs.SettingsText.{settings_text}
use Rattle.gate_schema.specs.Rows.{Stands}
use Rattle.gate_file_changes.specs.Making.{first_stored, first_queue_rows}
use Rattle.gate_sql.proofs.EmptyLemmas.{stands_for_empty}
use Rattle.gate_sql.proofs.book.SqlBook.create.Goals as goal

pub returns-in-Ok-fill-clause-made : goal.returns-in-Ok-fill-clause-made
returns-in-Ok-fill-clause-made g c bare clean =
    let text : c.as_str.result.now ≡ settings_text c.args.config.now = c.as_str.ensures.value ∙ c.in-Ok.ensures.0 in
    let queues : c.as_slice.result.now ≡ c.args.config.now.queues = c.as_slice.ensures ∙ ap (λ (s : Settings). s.queues) c.config.view_is in
    let shown = c.in-Ok-fill.ensures.all clean bare in
    record {
      sound = subst (λ (k : Settings). are_sound k ≡ true) c.config.view_is c.config.invariant;
      names_are = c.in-Ok.ensures.1;
      shows = λ up. record { schema_is = shown.schema_is; stands = stands_for_empty _ _ _ _ text queues shown.stands };
    }

pub returns-in-Ok-fill-clause-crash : goal.returns-in-Ok-fill-clause-crash
returns-in-Ok-fill-clause-crash g c bare =
    let text : c.as_str.result.now ≡ settings_text c.args.config.now = c.as_str.ensures.value ∙ c.in-Ok.ensures.0 in
    let queues : c.as_slice.result.now ≡ c.args.config.now.queues = c.as_slice.ensures ∙ ap (λ (s : Settings). s.queues) c.config.view_is in
    survives_weaker (state g.S.Store c.args.conn) (state g.S.Store c.fill.new.conn) _ _ (λ _ db stands. stands_for_empty db _ _ _ text queues stands) (c.fill.ensures.crash bare)

pub returns-in-Ok-fill-clause-settled : goal.returns-in-Ok-fill-clause-settled
returns-in-Ok-fill-clause-settled g c bare clean db left =
    let text : c.as_str.result.now ≡ settings_text c.args.config.now = c.as_str.ensures.value ∙ c.in-Ok.ensures.0 in
    let queues : c.as_slice.result.now ≡ c.args.config.now.queues = c.as_slice.ensures ∙ ap (λ (s : Settings). s.queues) c.config.view_is in
    let shown = c.in-Ok-fill.ensures.settled clean in
    let is = g.met.S.Store.settled c.fill.new.conn.store db shown.0 left ∙ ap (λ (d : Database). d.trees) shown.1 in
    stands_for_empty db _ _ _ text queues (subst (λ trees. Stands trees (first_stored c.as_str.result.now (first_queue_rows 0 c.as_slice.result.now))) (sym is) (c.in-Ok-fill.ensures.all clean bare).stands)

pub returns-clause-crash : goal.returns-clause-crash
returns-clause-crash g c bare =
    let text : c.as_str.result.now ≡ settings_text c.args.config.now = c.as_str.ensures.value ∙ c.in-Ok.ensures.0 in
    let queues : c.as_slice.result.now ≡ c.args.config.now.queues = c.as_slice.ensures ∙ ap (λ (s : Settings). s.queues) c.config.view_is in
    survives_weaker (state g.S.Store c.args.conn) (state g.S.Store c.fill.new.conn) _ _ (λ _ db stands. stands_for_empty db _ _ _ text queues stands) (c.fill.ensures.crash bare)

pub returns-in_default-clause-faults : goal.returns-in_default-clause-faults
returns-in_default-clause-faults g c = search rules

pub returns-in-Ok-fill-clause-faults : goal.returns-in-Ok-fill-clause-faults
returns-in-Ok-fill-clause-faults g c = search rules

pub returns-clause-faults : goal.returns-clause-faults
returns-clause-faults g c = search rules
