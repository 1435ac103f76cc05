use Rattle.std.proofs.Common.{◌≡◌, refl, sym, subst}
use Rattle.std.specs.Prelude.{Err, None, option_map}
use Rattle.gate_core.specs.Held.{Goes}
use Rattle.gated_cli.specs.OverFile.{file_fault}
use Rattle.gated_cli.specs.Showing.{StopsLines, WritesShown, lines_behind}
use Rattle.gated_cli.proofs.AskLemmas.{unasked, unnamed}
use Rattle.gated_cli.proofs.run.showing.write_deliveries.Goals as goal

pub returns-in-Ok-clause-gate : goal.returns-in-Ok-clause-gate
returns-in-Ok-clause-gate g c =
    subst (λ at. Goes g.B.Book.IsTrusted g.B.Book.Holds c.args.gate.now c.write_behind.new.gate (λ x then. (then ≡ x)
    × WritesShown (lines_behind x at) g.W.Write.contents c.args.output.now c.write_behind.new.output c.write_behind.result))
    c.in-Ok.ensures c.write_behind.ensures.gate

pub returns-in-Err-clause-gate : goal.returns-in-Err-clause-gate
returns-in-Err-clause-gate g c =
    unasked g.B.Book.IsTrusted g.B.Book.Holds c.args.gate.now g.W.Write.contents c.args.output.now (option_map (λ s. s.now) c.args.after)
    c.in-Err.fault c.in-Err.ensures

pub returns-in-Err-clause-err : goal.returns-in-Err-clause-err
returns-in-Err-clause-err g c =
    subst (StopsLines c.args.output.now c.args.output.now)
    (sym (unnamed (option_map (λ s. s.now) c.args.after) c.in-Err.fault c.in-Err.ensures)) refl

pub returns-in-Err-clause-opened : goal.returns-in-Err-clause-opened
returns-in-Err-clause-opened g c =
    subst (λ f. file_fault {T = Unit {0}} (Err f) ≡ None)
    (sym (unnamed (option_map (λ s. s.now) c.args.after) c.in-Err.fault c.in-Err.ensures)) refl
