use Rattle.std.proofs.Common.{◌≡◌, ◌∙◌}
use Rattle.std.specs.Prelude.{◌&&◌, nat_lt, nat_le, filter}
use Rattle.gate_memory.specs.declared.pairs.Pair.{Pair}
use Rattle.gate_memory.specs.Pairs.{pair_key}
use Rattle.gate_memory.proofs.PairLemmas.{those_of_first}
use Rattle.gate_memory.proofs.pairs.of_first.Goals as goal

pub returns : goal.returns
returns c =
    let found : c.between.result.now ≡ filter (λ (p : Pair). nat_le c.key.result (pair_key p) && nat_lt (pair_key p) c.key-2.result) c.args.pairs.now = c.between.ensures in
    found ∙ (λ i. filter (λ (p : Pair). nat_le (c.key.ensures i) (pair_key p) && nat_lt (pair_key p) (c.key-2.ensures i)) c.args.pairs.now) ∙ those_of_first c.args.first c.args.pairs.now c.requires.fit
