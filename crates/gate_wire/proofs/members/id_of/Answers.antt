use Rattle.std.proofs.Common.{ap, rules, Ok}
use Rattle.gate_wire.specs.Reading.{id_at, or_bad, ◌>>=◌}
use Rattle.gate_types.proofs.PlainLemmas.{none_unless}
use Rattle.gate_wire.proofs.members.id_of.Goals as goal

pub returns-in-Err : goal.returns-in-Err
unfolding id_at
returns-in-Err c = λ _. rw c.in_ok-text.ensures
    (ap (λ o. or_bad o >>= λ bytes. Ok (record { 0 = bytes })) (none_unless _ (λ u e. let bad = c.in-Err.ensures.ok.1 (u, e) in absurd (search rules))))
