use Rattle.std.proofs.Common.{ap, sym, drop, rules}
use Rattle.std.specs.Bool.{then_some}
use Rattle.gate_wire.proofs.FooterLemmas.{no_footer}
use Rattle.gate_wire.proofs.footers.behind_footer.Goals as goal

pub returns-else-eq_ignore_ascii_case : goal.returns-else-eq_ignore_ascii_case
returns-else-eq_ignore_ascii_case c =
    let none = no_footer c.split_at.result.0.now c.args.line.now c.split_at.ensures.front (λ e. let same = c.if-eq_ignore_ascii_case.ensures.test.1 e in absurd (search rules)) in
    sym (ap (λ b. then_some b (drop 11 c.args.line.now)) none)
