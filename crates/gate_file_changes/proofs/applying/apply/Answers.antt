use Rattle.std.proofs.Common.{◌≡◌, ◌∙◌, sym, true}
use Rattle.gate_file_changes.specs.Applies.{are_known}
use Rattle.gate_file_changes.proofs.ApplyLemmas.{led_by}
use Rattle.gate_file_changes.proofs.applying.apply.Goals as goal

pub returns-in-Ok-clause-ok : goal.returns-in-Ok-clause-ok
returns-in-Ok-clause-ok g c clean cs x y names shows lawful leads =
    let known : are_known c.args.queues.now c.args.edits.now ≡ true = sym c.names_known_queues.ensures ∙ c.if-not-names_known_queues.false in
    c.in-Ok.ensures.ok clean cs x y shows (led_by c.args.queues.now cs x c.args.edits.now y names lawful known leads)

pub returns-in-Ok-clause-settled : goal.returns-in-Ok-clause-settled
returns-in-Ok-clause-settled g c clean cs x y names shows lawful leads =
    let known : are_known c.args.queues.now c.args.edits.now ≡ true = sym c.names_known_queues.ensures ∙ c.if-not-names_known_queues.false in
    c.in-Ok.ensures.settled clean cs x y shows (led_by c.args.queues.now cs x c.args.edits.now y names lawful known leads)

pub returns-in-Ok-clause-crash : goal.returns-in-Ok-clause-crash
returns-in-Ok-clause-crash g c clean cs x y names shows lawful leads =
    let known : are_known c.args.queues.now c.args.edits.now ≡ true = sym c.names_known_queues.ensures ∙ c.if-not-names_known_queues.false in
    c.in-Ok.ensures.crash clean cs x y shows (led_by c.args.queues.now cs x c.args.edits.now y names lawful known leads)

pub returns-in-Err-clause-crash : goal.returns-in-Err-clause-crash
returns-in-Err-clause-crash g c clean cs x y names shows lawful leads =
    let known : are_known c.args.queues.now c.args.edits.now ≡ true = sym c.names_known_queues.ensures ∙ c.if-not-names_known_queues.false in
    c.in-Err.ensures.crash clean cs x y shows (led_by c.args.queues.now cs x c.args.edits.now y names lawful known leads)
