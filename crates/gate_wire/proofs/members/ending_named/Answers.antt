use Rattle.std.proofs.Common.{◌≡◌, ◌∙◌, subst}
use Rattle.std.specs.Prelude.{IfSome}
use Rattle.gate_types.specs.Canonical.{ending_word}
use Rattle.gate_wire.proofs.EndingLemmas.{named_in_turn}
use Rattle.gate_wire.proofs.members.ending_named.Goals as goal

pub returns : goal.returns
returns c =
    let bytes = c.as_bytes.ensures.value in
    named_in_turn c.args.word.now c.of_word.result (λ e at. c.of_word.ensures.told e (bytes ∙ at))
    (subst (λ w. IfSome c.of_word.result (λ e. w ≡ ending_word e)) bytes c.of_word.ensures.form)
