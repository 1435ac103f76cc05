use Rattle.std.proofs.Common.{◌∙◌, ap}
use Rattle.std.specs.Prelude.{string_bytes}
use Rattle.gate_texts.specs.Listed.{with_entry}
use Rattle.gate_texts.proofs.Entries.{entries_next}
use Rattle.gate_texts.proofs.ChangeTexts.{needs_are}
use Rattle.gate_book_trait.proofs.KeptLemmas.{then}
use Rattle.gate_texts.proofs.change.needs_text.Goals as goal

pub loop-need-preserved : goal.loop-need-preserved
loop-need-preserved g c = record {
  kept = then c.loop-need.invariant.kept c.in_ok-text.ensures.kept;
  told = λ trusted config x holds lawful.
      let before = c.in_ok-text.ensures.kept.trusted_before trusted in
      let held = c.loop-need.invariant.kept.holds_on before config x holds in
      entries_next (needs_are config x.state) c.args.needs.now c.loop-need.need-index c.need-item.result
      c.loop-need-test.true c.need-item.is (string_bytes c.loop-need.list) (string_bytes c.push_entry.new.list)
      (string_bytes c.in_ok-text.text) (c.loop-need.invariant.told before config x holds lawful)
      (c.in_ok-text.ensures.found trusted config x held lawful) (c.in_ok-push_entry.ensures
      ∙ ap (with_entry (string_bytes c.loop-need.list)) c.as_str.ensures.value);
}
