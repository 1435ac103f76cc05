use Rattle.std.proofs.Common.{◌∙◌, ◌∷◌, ◌++◌, ap, arith, take, false, not, eqb}
use Rattle.gate_schema.specs.AheadText.{entry_text, entries_text, comma_if}
use Rattle.gate_rows.proofs.AheadLemmas.{comma_but, entries_more}
use Rattle.gate_rows.proofs.ahead.write_ahead.Goals as goal

pub loop-place-preserved : goal.loop-place-preserved
loop-place-preserved c =
    let entry = c.index-ahead-place.result in
    let before = entries_text false (take c.loop-place.place c.args.ahead.now) in
    c.in_ok-push_entry.ensures ∙ ap (λ t. t ++ (c.separator.result.now ++ entry_text entry)) c.loop-place.invariant
    ∙ ap (λ s. 91 ∷ (before ++ (s ++ entry_text entry)))
    (c.separator.ensures ∙ comma_but (eqb c.loop-place.place 0))
    ∙ ap (λ e. 91 ∷ (before ++ (comma_if (not (eqb c.loop-place.place 0)) ++ entry_text e))) c.index-ahead-place.is
    ∙ ap (λ l. 91 ∷ l) (entries_more c.loop-place.place c.args.ahead.now entry (omega arith))
