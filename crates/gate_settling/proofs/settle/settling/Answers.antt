use Rattle.std.proofs.Common.{◌++◌, sym, subst, rules}
use Rattle.gate_types.specs.Tables.{Leads}
use Rattle.gate_reads.specs.Moves.{in_state, swept}
use Rattle.gate_reads.specs.Touches.{Touches}
use Rattle.gate_settling.specs.Touching.{AreToldOf}
use Rattle.gate_settling.proofs.KeptLemmas.{if_ok_so}
use Rattle.gate_book_trait.proofs.ReadingLemmas.{is_read_under}
use Rattle.gate_settling.proofs.TouchingLemmas.{touching, settled_some, settled_none}
use Rattle.gate_settling.proofs.settle.settling.Goals as goal

pub returns-in-Some : goal.returns-in-Some
returns-in-Some g c = is_read_under (λ trusted x holds lawful d r t raw e acts touches moves.
    let s = c.args.config.now in
    let here = subst (Touches s x.state d) c.in-Some.is touches in
    let way = touching s x d r t c.in-Some.touched (search rules) lawful e acts here in
    if_ok_so {P = λ edits. AreToldOf way.0 edits.items} c.edits_of_walk.result
    (λ edits told. settled_some way.0 t raw edits.items way.1 moves told)
    (c.edits_of_walk.ensures.found trusted x holds lawful way.0))
    (search rules) (search rules)

pub returns-in-None : goal.returns-in-None
returns-in-None g c = is_read_under (λ trusted x holds lawful d r t raw e acts touches moves.
    let s = c.args.config.now in
    let none = subst (Touches s x.state d) c.in-None.is touches in
    subst (λ es. Leads s x (raw ++ es) (in_state x (swept s t))) (sym c.new.ensures.items)
    (settled_none s x d r t raw (search rules) lawful e none moves))
    (search rules) (search rules)
