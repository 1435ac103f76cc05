use Rattle.std.proofs.Common.{[], ◌∷◌, ◌++◌, sym, ◌∙◌}
use Rattle.std.specs.Prelude.{decimal}
use Rattle.gate_types.specs.Columns.{right, left, number_or_dash}
use Rattle.gate_types.specs.History.{verdict_word, landing_place}
use Rattle.gate_book_trait.proofs.ReportLines.{report_joined}
use Rattle.gate_book_trait.proofs.history.report_line.Goals as goal

pub returns : goal.returns
returns c =
    let r = c.args.report.now in
    c.in_ok-text.ensures.ok
    ∙ (λ k. c.in_ok-numbers.ensures k ++ (32 ∷ (c.verdict_text-verdict.ensures k
    ++ (32 ∷ (c.in_ok-landing.ensures k ++ 10 ∷ [])))))
    ∙ sym (report_joined (right 6 (decimal c.args.place)) (right 6 (decimal r.serial)) (right 9 (decimal r.change))
    (right 4 (decimal r.revision)) (left 10 (verdict_word r.verdict))
    (right 6 (number_or_dash (landing_place r.verdict))))
