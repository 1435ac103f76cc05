use Rattle.std.proofs.Common.{sym, subst, refl, rules}
use Rattle.gate_types.specs.Tables.{Leads}
use Rattle.gate_book_trait.proofs.ReadingLemmas.{is_read_under}
use Rattle.gate_reads.specs.Raw.{IsRaw}
use Rattle.gate_reads.specs.Moves.{in_state}
use Rattle.gate_core.proofs.Steps.{stands_steps}
use Rattle.gate_core.proofs.ruled.rule.Goals as goal

pub returns-in-Stands-clause-reads : goal.returns-in-Stands-clause-reads
returns-in-Stands-clause-reads g c = is_read_under (λ trusted x holds lawful.
    let s = c.args.config.now in
    let raw = subst (IsRaw s x c.args.delivery.now) c.in-Stands.is (c.in_ok-refusal.ensures.reads.found trusted x holds lawful) in
    record {
      after = x.state;
      steps = stands_steps s x.state c.args.delivery.now c.in-Stands.reply lawful.lawful raw;
      leads = subst (λ es. Leads s x es (in_state x x.state)) (sym c.new.ensures.items) refl;
    })
    (search rules) (search rules)

pub returns-in-Moved-clause-reads : goal.returns-in-Moved-clause-reads
returns-in-Moved-clause-reads g c = is_read_under (λ trusted x holds lawful.
    let before = c.settle.ensures.kept.trusted_before trusted in
    let raw = subst (IsRaw c.args.config.now x c.args.delivery.now) c.in-Moved.is (c.in_ok-refusal.ensures.reads.found before x holds lawful) in
    c.settle.ensures.found trusted x (c.in_ok-refusal.ensures.reads.kept.holds_on before _ x holds) lawful c.args.delivery.now raw)
    (search rules) (search rules)
