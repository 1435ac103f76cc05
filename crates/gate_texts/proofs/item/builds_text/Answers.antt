use Rattle.std.proofs.Common.{◌∙◌, ap}
use Rattle.std.specs.Prelude.{string_bytes}
use Rattle.gate_texts.specs.Listed.{with_entry}
use Rattle.gate_texts.proofs.Entries.{entries_next}
use Rattle.gate_texts.proofs.ItemTexts.{summaries_are}
use Rattle.gate_texts.proofs.item.builds_text.Goals as goal

pub loop-build-preserved : goal.loop-build-preserved
loop-build-preserved c =
    entries_next summaries_are c.args.builds.now c.loop-build.build-index c.build-item.result
    c.loop-build-test.true c.build-item.is (string_bytes c.loop-build.list) (string_bytes c.push_entry.new.list)
    (string_bytes c.in_ok-entry.entry) c.loop-build.invariant c.in_ok-entry.ensures
    (c.in_ok-push_entry.ensures ∙ ap (with_entry (string_bytes c.loop-build.list)) c.as_str.ensures.value)
