use Rattle.std.proofs.Common.{arith, suc, ◌≡◌, ◌<◌, ◌-◌, length, sym, ap, ◌∙◌, None, Some}
use Rattle.std.proofs.lemmas.Option.{slice_get-get_or}
use Rattle.gate_memory.specs.Sorted.{position_in}
use Rattle.gate_memory.proofs.SortedLemmas.{last_none, last_at}
use Rattle.gate_memory.proofs.sorted.last_below.Goals as goal

pub returns-then-position-eq0 : goal.returns-then-position-eq0
returns-then-position-eq0 g c = sym (last_none g.T.Keyed.key c.args.key 0 c.args.rows.now None c.requires (sym c.position_of-position.ensures.position ∙ c.if-position-eq0.true))

pub returns-else-position-eq0 : goal.returns-else-position-eq0
returns-else-position-eq0 g c =
    let key = g.T.Keyed.key in
    let xs = c.args.rows.now in
    let k = c.position_of-position.result - 1 in
    let before : position_in key c.args.key xs ≡ suc k = sym c.position_of-position.ensures.position ∙ omega (arith, c.if-position-eq0.false) in
    let within : k < length xs = omega (arith, c.position_of-position.ensures.bound, c.if-position-eq0.false) in
    ap (λ row. Some row) c.index-rows-position.is
    ∙ sym (last_at key c.args.key 0 xs None k c.requires before ∙ slice_get-get_or xs k c.index-rows-position.result within)
