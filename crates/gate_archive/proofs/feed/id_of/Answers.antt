use Rattle.std.proofs.Common.{ap, rules, sym}
use Rattle.std.specs.Option.{option_map}
use Rattle.gate_types.proofs.PlainLemmas.{none_unless}
use Rattle.gate_archive.proofs.feed.id_of.Goals as goal

pub returns-in-Err : goal.returns-in-Err
returns-in-Err c =
    sym (ap (λ o. option_map (λ bytes. record { 0 = bytes }) o) (none_unless _ (λ u e. let bad = c.in-Err.ensures.ok.1 (u, e) in absurd (search rules))))
