use Rattle.std.proofs.Common.{◌≡◌, arith, length, sym}
use Rattle.gate_file_meta.proofs.JudgeLemmas.{pair_for}
use Rattle.gate_file_meta.proofs.meta.value_for.Goals as goal

pub returns-then-is_text-clause-only : goal.returns-then-is_text-clause-only
returns-then-is_text-clause-only c =
    let two : length c.args.row.now ≡ 2 = grind (arith) in
    pair_for c.args.row.now c.in_ok-text_at.field-0.now c.args.key.now c.text_at-then-is_text.result two c.in_ok-text_at.ensures.only.1 (sym c.if-is_text.ensures) c.text_at-then-is_text.ensures.only
