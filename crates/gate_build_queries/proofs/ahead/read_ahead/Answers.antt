use Rattle.std.proofs.Common.{true≢false, ◌∙◌, sym, ap}
use Rattle.gate_schema.specs.AheadText.{ahead_text}
use Rattle.gate_build_queries.proofs.AheadLemmas.{never_other, progress_told}
use Rattle.gate_build_queries.proofs.ahead.read_ahead.Goals as goal

pub returns-then-not-is_end-clause-damaged : goal.returns-then-not-is_end-clause-damaged
returns-then-not-is_end-clause-damaged c es is form =
    let told = progress_told c.in_ok-progress.progress c.in_ok-progress.entries.items c.args.text.now es c.in_ok-progress.ensures is form in
    absurd (true≢false (sym (c.is_end.ensures told.0) ∙ c.if-not-is_end.true))

pub returns-then-ne-clause-damaged : goal.returns-then-ne-clause-damaged
returns-then-ne-clause-damaged c es is form =
    let told = progress_told c.in_ok-progress.progress c.in_ok-progress.entries.items c.args.text.now es c.in_ok-progress.ensures is form in
    absurd (never_other _ _ (c.as_bytes.ensures.value ∙ c.in_ok-again.ensures ∙ ap ahead_text (c.as_slice.ensures.value ∙ told.1) ∙ sym is) (sym c.ne.ensures ∙ c.if-ne.true))

pub returns-clause-told : goal.returns-clause-told
returns-clause-told c es is form =
    (progress_told c.in_ok-progress.progress c.in_ok-progress.entries.items c.args.text.now es c.in_ok-progress.ensures is form).1
