use Rattle.std.proofs.Common.{List, ap, sym, subst, ◌∙◌, map}
use Rattle.std.specs.List.{AllPass}
use Rattle.gate_types.specs.Window.{bounds_by}
use Rattle.gate_types.specs.declared.edits.Edit.{Edit}
use Rattle.gate_types.specs.Rows.{fold_edits, item_of}
use Rattle.gate_queue.specs.WholeQueue.Facts.{places_by}
use Rattle.gate_queue.specs.WholeQueue.Settles.{stored_rows, is_own}
use Rattle.gate_queue_rules.proofs.Ordered.{rises, row_serial, build_number}
use Rattle.gate_queue.proofs.WholeQueue.PlaceLemmas.{go_with}
use Rattle.gate_queue_rules.proofs.Settled.{settles}
use Rattle.gate_queue.proofs.WholeQueue.OwnEdits.{own_edits}
use Rattle.gate_queue.proofs.whole_queue.settling.settle.Goals as goal

pub returns : goal.returns
returns c =
    let facts = c.args.facts.now in
    let items = c.args.items.now in
    let builds = c.args.builds.now in
    record {
      rows = λ reports e.
          ap (λ (edits : List Edit). fold_edits (stored_rows facts items builds reports) edits) (c.into_vec.ensures ∙ c.in_ok-edits.ensures)
          ∙ settles facts.settings.now.name (bounds_by facts.settings.now) facts.window facts.reports builds items facts.landings.now (places_by facts.landings.now items facts.items.now) reports (map item_of items) e
          (go_with facts.landings.now items facts.items.now c.requires.facts_of_each) (rises row_serial items c.requires.items_rise) (rises build_number builds c.requires.builds_rise);
      own = subst (AllPass (is_own facts.settings.now.name items builds)) (sym (c.into_vec.ensures ∙ c.in_ok-edits.ensures))
          (own_edits facts.settings.now.name (bounds_by facts.settings.now) facts.window facts.reports builds items facts.landings.now facts.items.now);
    }
