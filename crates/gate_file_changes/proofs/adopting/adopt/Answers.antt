use Rattle.std.proofs.Common.{◌≡◌, ◌∙◌, inl, inr, ap, map, subst}
use Rattle.sqlite.specs.Held.{state}
use Rattle.sqlite.specs.State.{HasCleanDisk}
use Rattle.gate_types.specs.Settings.{Settings}
use Rattle.gate_found_rows.specs.Reads.{Shows}
use Rattle.gate_found_rows.proofs.ReadLemmas.{shown_still}
use Rattle.gate_schema.specs.Rows.{Stands}
use Rattle.gate_file_changes.specs.Adopts.{resized_setting, rewritten}
use Rattle.gate_file_changes.proofs.AdoptLemmas.{stands_adopted}
use Rattle.gate_table_laws.proofs.told.Whole.{rows_are_whole}
use Rattle.gate_file_changes.proofs.adopting.adopt.Goals as goal

pub returns-in-Ok-write_rows-clause-made : goal.returns-in-Ok-write_rows-clause-made
returns-in-Ok-write_rows-clause-made g c clean text x has can =
    let old = state g.S.Store c.args.conn.now in
    let mid = state g.S.Store c.resized_queues.new.conn in
    let new = state g.S.Store c.write_rows.new.conn in
    let b = can.stands.stored in
    let early : HasCleanDisk mid = c.write_rows.ensures.clean clean in
    let shows : Shows old b = λ up. record { schema_is = has; stands = can.stands.stands } in
    let whole = rows_are_whole can.lawful can.stands.matches in
    let queues : c.in-Ok.queues ≡ map (resized_setting c.args.held.now b.queues) c.args.config.now.queues =
    c.in-Ok.ensures.found early b shows whole ∙ ap (λ qs. map (resized_setting c.args.held.now b.queues) qs) (c.as_slice.ensures ∙ ap (λ (s : Settings). s.queues) c.config.view_is) in
    let still : Shows mid b = shown_still old mid b (c.resized_queues.ensures.only_reads.stays early) shows in
    let shown = c.in-Ok-write_rows.ensures.all clean b still in
    record {
      schema_is = shown.schema_is;
      stands = stands_adopted old.now.trees new.now.trees c.args.held.now c.args.config.now x c.args.settings.now can text
          (subst (λ qs. Stands new.now.trees (rewritten c.args.settings.now qs b)) (c.as_slice-2.ensures ∙ queues) shown.stands);
    }

pub returns-in-Ok-write_rows-clause-crash : goal.returns-in-Ok-write_rows-clause-crash
returns-in-Ok-write_rows-clause-crash g c clean text x has can db left =
    let old = state g.S.Store c.args.conn.now in
    let mid = state g.S.Store c.resized_queues.new.conn in
    let b = can.stands.stored in
    let early : HasCleanDisk mid = c.write_rows.ensures.clean clean in
    let shows : Shows old b = λ up. record { schema_is = has; stands = can.stands.stands } in
    let whole = rows_are_whole can.lawful can.stands.matches in
    let queues : c.in-Ok.queues ≡ map (resized_setting c.args.held.now b.queues) c.args.config.now.queues =
    c.in-Ok.ensures.found early b shows whole ∙ ap (λ qs. map (resized_setting c.args.held.now b.queues) qs) (c.as_slice.ensures ∙ ap (λ (s : Settings). s.queues) c.config.view_is) in
    let still : Shows mid b = shown_still old mid b (c.resized_queues.ensures.only_reads.stays early) shows in
    elim (c.write_rows.ensures.crash clean b still db left) [
      | inl before ↦ elim ((c.resized_queues.ensures.only_reads.crash early).crash early db before) [ inl first ↦ inl first | inr none ↦ absurd none ]
      | inr stands ↦ inr (stands_adopted old.now.trees db c.args.held.now c.args.config.now x c.args.settings.now can text
          (subst (λ qs. Stands db (rewritten c.args.settings.now qs b)) (c.as_slice-2.ensures ∙ queues) stands))
    ]

pub returns-clause-crash : goal.returns-clause-crash
returns-clause-crash g c clean text x has can db left =
    let old = state g.S.Store c.args.conn.now in
    let mid = state g.S.Store c.resized_queues.new.conn in
    let b = can.stands.stored in
    let early : HasCleanDisk mid = c.write_rows.ensures.clean clean in
    let shows : Shows old b = λ up. record { schema_is = has; stands = can.stands.stands } in
    let whole = rows_are_whole can.lawful can.stands.matches in
    let queues : c.in-Ok.queues ≡ map (resized_setting c.args.held.now b.queues) c.args.config.now.queues =
    c.in-Ok.ensures.found early b shows whole ∙ ap (λ qs. map (resized_setting c.args.held.now b.queues) qs) (c.as_slice.ensures ∙ ap (λ (s : Settings). s.queues) c.config.view_is) in
    let still : Shows mid b = shown_still old mid b (c.resized_queues.ensures.only_reads.stays early) shows in
    elim (c.write_rows.ensures.crash clean b still db left) [
      | inl before ↦ elim ((c.resized_queues.ensures.only_reads.crash early).crash early db before) [ inl first ↦ inl first | inr none ↦ absurd none ]
      | inr stands ↦ inr (stands_adopted old.now.trees db c.args.held.now c.args.config.now x c.args.settings.now can text
          (subst (λ qs. Stands db (rewritten c.args.settings.now qs b)) (c.as_slice-2.ensures ∙ queues) stands))
    ]
