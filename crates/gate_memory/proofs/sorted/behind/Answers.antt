use Rattle.std.proofs.Common.{arith, ◌≤◌, length, ap, ◌∙◌}
use Rattle.std.specs.Prelude.{drop, nat_lt, ◌-◌}
use Rattle.std.proofs.lemmas.List.{take_all, length-drop}
use Rattle.gate_memory.proofs.SortedLemmas.{behind_is, rises-filter}
use Rattle.gate_memory.proofs.sorted.behind.Goals as goal

pub returns-clause-rows : goal.returns-clause-rows
returns-clause-rows g c =
    let rows = c.args.rows.now in
    let position = c.position_of-position.result in
    let all : length (drop position rows) ≤ length rows - position = omega (arith, length-drop position rows) in
    take_all (length rows - position) (drop position rows) all
    ∙ ap (λ i. drop i rows) c.position_of-position.ensures.position ∙ behind_is g.T.Keyed.key c.args.key 0 rows c.requires

pub returns-clause-rising : goal.returns-clause-rising
returns-clause-rising g c =
    let key = g.T.Keyed.key in
    rw (returns-clause-rows g c) (rises-filter key (λ row. nat_lt c.args.key (key row)) 0 c.args.rows.now c.requires)
