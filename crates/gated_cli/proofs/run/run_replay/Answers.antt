use Rattle.std.proofs.Common.{ap₂, inl, inr}
use Rattle.std.proofs.KnownBytes.{Appends-trans}
use Rattle.std.proofs.lemmas.Result.{err_from_is_err_and}
use Rattle.gate_types.specs.Gated.{new_gate}
use Rattle.gated_cli.specs.Doing.{status_of, streams}
use Rattle.gated_cli.proofs.TellLemmas.{with_status, without_status}
use Rattle.gated_cli.proofs.EndLemmas.{replay_ends, made_from, refused_status, cut_status, read_for}
use Rattle.gated_cli.proofs.ShowLemmas.{status_breaks, status_shown}
use Rattle.gated_cli.proofs.run.run_replay.Goals as goal
use Rattle.gated_cli.proofs.run.run_replay.Goals.{then-status+in_ok-write_status, else-status}

pub returns-clause-ok : goal.returns-clause-ok
returns-clause-ok g c =
    let h = c.in_ok-replay.ensures.ok in
    let went = h.5.passes tt (new_gate c.in_ok-config.config) c.in_ok-gate.ensures in
    let shown = status_of went.0 in
    record {
      answers = record {
        config = c.in_ok-config.config;
        settings = c.in_ok-config.ensures.ok;
        input = h.0;
        read = h.1;
        ended = h.2;
        replies = h.3;
        gate = went.0;
        answered = went.2.0;
      };
      written = elim c.if-status.branch [
        | then-status+in_ok-write_status w ↦ rw w.output-is (with_status _ _ c.args.status h.3 shown w.if-status.true (Appends-trans _ _ _ h.3 shown h.4 (status_shown g.W.Write.contents w.write_status.result w.in_ok-write_status.field-0 went.0 c.replay.new.w w.write_status.new.output w.in_ok-write_status.was (w.write_status.ensures.gate.passes tt went.0 went.1).2.1)))
        | else-status w ↦ rw w.output-is (without_status _ _ c.args.status h.3 shown w.if-status.false h.4)
      ];
    }

pub returns-in_err-replay-clause-err : goal.returns-in_err-replay-clause-err
returns-in_err-replay-clause-err g c =
    let p = err_from_is_err_and c.from_residual-in_err-replay.result c.from_residual-in_err-replay.ensures.1 in
    rw p.1 (made_from p.0 _ c.args.status _ _ p.2 (replay_ends c.replay.result c.in_err-replay.field-0.0 c.args.status
    (streams g.R.Read.remaining g.W.Write.contents c.args.input.now c.args.output.now)
    (streams g.R.Read.remaining g.W.Write.contents c.replay.new.r c.replay.new.w)
    c.in_err-replay.was
    (λ e. let h = c.replay.ensures.read e in
    let went = h.4.passes tt (new_gate c.in_ok-config.config) c.in_ok-gate.ensures in record {
      failed = (c.replay.ensures.reader_failed e).0;
      unfailed = (c.replay.ensures.reader_failed e).1;
      config = c.in_ok-config.config;
      settings = c.in_ok-config.ensures.ok;
      front = h.0;
      read = h.1;
      replies = h.2;
      gate = went.0;
      answered = went.2.0;
      written = h.3;
    })
    (λ e. let h = c.replay.ensures.write e in
    let went = h.5.passes tt (new_gate c.in_ok-config.config) c.in_ok-gate.ensures in (
      (c.replay.ensures.writer_failed e).1,
      record {
        unfailed = (c.replay.ensures.writer_failed e).0;
        config = c.in_ok-config.config;
        settings = c.in_ok-config.ensures.ok;
        lines = h.0;
        replies = h.1;
        gate = went.0;
        answered = went.2.0;
        read = read_for _ _ _ _ _ went.2.1 h.4;
        written = h.2;
      },
    ))
    (λ e. ap₂ (streams g.R.Read.remaining g.W.Write.contents) (c.replay.ensures.memory e).1
    (c.replay.ensures.memory e).2)))

pub returns-in_err-write_status-clause-err : goal.returns-in_err-write_status-clause-err
returns-in_err-write_status-clause-err g c =
    let h = c.in_ok-replay.ensures.ok in
    let went = h.5.passes tt (new_gate c.in_ok-config.config) c.in_ok-gate.ensures in
    let before = streams g.R.Read.remaining g.W.Write.contents c.args.input.now c.args.output.now in
    let after = streams g.R.Read.remaining g.W.Write.contents c.replay.new.r c.write_status.new.output in
    let p = err_from_is_err_and c.from_residual-in_err-write_status.result c.from_residual-in_err-write_status.ensures.1 in
    rw p.1 (made_from p.0 c.in_err-write_status.field-0.0 c.args.status _ _ p.2 (elim (status_breaks g.W.Write.contents c.write_status.result c.in_err-write_status.field-0.0 went.0 c.replay.new.w c.write_status.new.output
    c.in_err-write_status.was (c.write_status.ensures.gate.passes tt went.0 went.1).2.1 c.write_status.ensures.opened c.in_err-write_status.ensures.err) [
      | inl refused ↦ refused_status c.in_err-write_status.field-0.0 c.args.status before after refused.0 (record {
        wanted = c.if-status.true;
        answers = record {
          config = c.in_ok-config.config;
          settings = c.in_ok-config.ensures.ok;
          input = h.0;
          read = h.1;
          ended = h.2;
          replies = h.3;
          gate = went.0;
          answered = went.2.0;
        };
        written = rw refused.1 h.4;
      })
      | inr cut ↦ let front = cut.2 in cut_status c.in_err-write_status.field-0.0 c.args.status before after cut.0 cut.1 (record {
        wanted = c.if-status.true;
        answers = record {
          config = c.in_ok-config.config;
          settings = c.in_ok-config.ensures.ok;
          input = h.0;
          read = h.1;
          ended = h.2;
          replies = h.3;
          gate = went.0;
          answered = went.2.0;
        };
        at = front.0;
        short = front.1;
        written = Appends-trans _ _ _ h.3 _ h.4 front.2;
      })
    ]))
