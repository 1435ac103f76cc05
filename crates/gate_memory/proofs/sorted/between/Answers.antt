use Rattle.std.proofs.Common.{rules, ◌≤◌, arith, ◌∙◌}
use Rattle.std.specs.Prelude.{take, drop, ◌-◌}
use Rattle.gate_memory.proofs.SortedLemmas.{position_order, between_is}
use Rattle.gate_memory.proofs.sorted.between.Goals as goal

pub slice_bounds-result-count : goal.slice_bounds-result-count
slice_bounds-result-count g c =
    let order = position_order g.T.Keyed.key c.args.from c.args.to c.args.rows.now c.requires.order in
    omega (arith, order, c.position_of-start.ensures.position, c.position_of-end.ensures.position)

pub slice_bounds-result-start : goal.slice_bounds-result-start
slice_bounds-result-start g c =
    let h : c.position_of-start.result ≤ c.position_of-end.result = slice_bounds-result-count g c in
    search (rules, h)

pub returns : goal.returns
returns g c =
    (λ i. take (c.position_of-end.ensures.position i - c.position_of-start.ensures.position i) (drop (c.position_of-start.ensures.position i) c.args.rows.now))
    ∙ between_is g.T.Keyed.key c.args.from c.args.to 0 c.args.rows.now c.requires.order c.requires.rising
