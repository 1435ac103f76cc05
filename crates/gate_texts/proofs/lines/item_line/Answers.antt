use Rattle.std.proofs.Common.{[], ◌∷◌, ◌++◌, sym, ◌∙◌}
use Rattle.std.specs.Prelude.{decimal}
use Rattle.gate_types.specs.Columns.{right, left, number_or_dash}
use Rattle.gate_texts.specs.Lines.{job_column_by, standing_word_by}
use Rattle.gate_texts.proofs.LineLemmas.{item_joined}
use Rattle.gate_texts.proofs.lines.item_line.Goals as goal

pub returns : goal.returns
returns c =
    let i = c.args.item.now in
    c.in_ok-text.ensures.ok
    ∙ (λ k. c.in_ok-numbers.ensures k ++ (32 ∷ (c.in_ok-ahead.ensures k
    ++ (32 ∷ (c.standing_text-standing.ensures k ++ (c.in_ok-jobs.ensures k ++ 10 ∷ []))))))
    ∙ sym (item_joined (right 6 (decimal i.serial)) (right 9 (decimal i.change)) (right 4 (decimal i.revision))
    (right 6 (number_or_dash i.ahead)) (left 7 (standing_word_by c.args.blocked i.failing))
    (job_column_by c.args.cut c.args.builds.now) c.args.jobs.now)
