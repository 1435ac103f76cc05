use Rattle.std.proofs.Common.{subst, sym}
use Rattle.gated_cli.proofs.EndLemmas.{both, has_fault}
use Rattle.gated_cli.proofs.TalkLemmas.{is_done, told_then}
use Rattle.gated_cli.specs.Telling.{ToldBy}
use Rattle.gated_cli.proofs.run.run.Goals as goal

pub returns-clause-done : goal.returns-clause-done
returns-clause-done g c e =
    let done = is_done _ _ _ c.perform.result c.ended.result c.ended.ensures.done c.ended.ensures.fault c.perform.ensures.ok e in
    (subst (ToldBy g.E.Write.contents c.args.cmd c.args.errors.now) (sym done.0) c.perform.ensures.told, done.1)

pub returns-clause-fault : goal.returns-clause-fault
returns-clause-fault g c e =
    let h = has_fault _ _ _ c.perform.result c.ended.result c.ended.ensures.done c.ended.ensures.fault
    (both _ _ c.perform.result c.perform.ensures.err c.perform.ensures.why) e in (
      h.0,
      told_then g.E.Write.contents c.args.cmd c.args.errors.now c.perform.new.errors c.ended.new.errors h.0 c.requires.teller
          c.perform.ensures.told h.1 c.ended.ensures.silent,
      h.2.0,
      h.2.1,
    )

pub returns-clause-made : goal.returns-clause-made
returns-clause-made g c e =
    (is_done _ _ _ c.perform.result c.ended.result c.ended.ensures.done c.ended.ensures.fault c.perform.ensures.made e).1
