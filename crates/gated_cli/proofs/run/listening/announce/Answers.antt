use Rattle.std.proofs.Common.{refl}
use Rattle.std.proofs.lemmas.Result.{err_from_is_err_and}
use Rattle.gated_cli.specs.Doing.{beside}
use Rattle.gated_cli.proofs.FileLemmas.{line_is_cut}
use Rattle.gated_cli.proofs.run.listening.announce.Goals as goal

pub returns-in_err-write_line-clause-err : goal.returns-in_err-write_line-clause-err
returns-in_err-write_line-clause-err g c =
    let p = err_from_is_err_and c.from_residual-in_err-write_line.result c.from_residual-in_err-write_line.ensures.1 in
    rw p.1 (line_is_cut c.args.asked p.0
    (λ left failed. beside g.W.Write.contents left failed c.args.output.now)
    (λ left failed. beside g.W.Write.contents left failed c.write_line.new.self) p.2
    (λ left failed. record {
      port = c.in_ok-port.port;
      bound = c.in_ok-port.ensures.ok;
      unread = refl;
      failed = c.in_err-write_line.ensures.failed;
      written = rw (c.as_str.ensures.value, c.in_ok-text.ensures.ok) at c.in_err-write_line.ensures.err;
    }))

pub returns-clause-ok : goal.returns-clause-ok
returns-clause-ok g c = λ left failed. record {
  port = c.in_ok-port.port;
  bound = c.in_ok-port.ensures.ok;
  unread = refl;
  written = rw (c.as_str.ensures.value, c.in_ok-text.ensures.ok) at c.in_ok-write_line.ensures.ok;
}
