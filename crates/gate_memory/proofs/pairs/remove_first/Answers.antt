use Rattle.std.proofs.Common.{◌≡◌, ◌+◌, ◌≤◌, ◌∙◌, arith}
use Rattle.std.specs.List.{remove_range}
use Rattle.gate_memory.specs.Sorted.{position_in}
use Rattle.gate_memory.specs.Pairs.{pair_key}
use Rattle.gate_memory.specs.declared.pairs.Pair.{Pair}
use Rattle.gate_memory.proofs.SortedLemmas.{position_order, outside_is}
use Rattle.gate_memory.proofs.PairLemmas.{those_of_others}
use Rattle.gate_memory.proofs.pairs.remove_first.Goals as goal

pub drop_positions-requires-clause-ordered : goal.drop_positions-requires-clause-ordered
drop_positions-requires-clause-ordered c =
    let n = c.args.first in
    let pairs = c.args.pairs.now.items in
    let least : Pair = record { first = n; second = 0 } in
    let next : Pair = record { first = n + 1; second = 0 } in
    let start : c.position_of-start.result ≡ position_in pair_key (pair_key least) pairs = rw (c.key.ensures, c.deref.ensures.value) at c.position_of-start.ensures.position in
    let end : c.position_of-end.result ≡ position_in pair_key (pair_key next) pairs = rw (c.key-2.ensures, c.deref-2.ensures.value) at c.position_of-end.ensures.position in
    let low : pair_key least ≤ pair_key next = omega arith in
    omega (arith, start, end, position_order pair_key (pair_key least) (pair_key next) pairs low)

pub returns-clause-pairs : goal.returns-clause-pairs
returns-clause-pairs c =
    let n = c.args.first in
    let pairs = c.args.pairs.now.items in
    let least : Pair = record { first = n; second = 0 } in
    let next : Pair = record { first = n + 1; second = 0 } in
    let start : c.position_of-start.result ≡ position_in pair_key (pair_key least) pairs = rw (c.key.ensures, c.deref.ensures.value) at c.position_of-start.ensures.position in
    let end : c.position_of-end.result ≡ position_in pair_key (pair_key next) pairs = rw (c.key-2.ensures, c.deref-2.ensures.value) at c.position_of-end.ensures.position in
    let low : pair_key least ≤ pair_key next = omega arith in
    c.drop_positions.ensures.pairs ∙ (λ i. remove_range pairs (start i) (end i))
    ∙ outside_is pair_key (pair_key least) (pair_key next) 0 pairs low c.requires.rising ∙ those_of_others n pairs c.requires.fit
