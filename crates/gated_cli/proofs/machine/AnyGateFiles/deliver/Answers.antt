use Rattle.std.proofs.Common.{ap₂, inr}
use Rattle.std.specs.Prelude.{MatchResult}
use Rattle.sqlite.specs.Held.{state}
use Rattle.std.proofs.lemmas.Result.{on_ok_weaker, IfErr-weaker}
use Rattle.gated_cli.specs.Blame.{BreaksTo}
use Rattle.gated_cli.specs.Doing.{streams}
use Rattle.gated_cli.specs.OfFile.{RepliesTo}
use Rattle.gated_cli.proofs.BlameLemmas.{LeftBy, replied_or_broke, why_closes}
use Rattle.gated_cli.proofs.FileLemmas.{delivery_ends}
use Rattle.gated_cli.proofs.OfFileLemmas.{closed_led, replied_led}
use Rattle.gated_cli.proofs.machine.AnyGateFiles.deliver.Goals as goal

pub returns-clause-err : goal.returns-clause-err
returns-clause-err g c =
    let done = c.deliver-conn.result.1 in
    let said = c.deliver-conn.ensures in
    delivery_ends done c.closed.result
    (streams g.R.Read.remaining g.W.Write.contents c.args.input.now c.args.output.now)
    (streams g.R.Read.remaining g.W.Write.contents c.deliver-conn.new.input c.deliver-conn.new.output)
    c.closed.ensures.fault c.closed.ensures.store
    (on_ok_weaker done (λ h. record { input = h.0; read = h.1; ended = h.2; replies = h.3; written = h.4 }) said.ok)
    (λ e. let h = said.read e in record {
      failed = (said.reader_failed e).0;
      unfailed = (said.reader_failed e).1;
      front = h.0;
      read = h.1;
      replies = h.2;
      written = h.3;
    })
    (λ e. let h = said.write e in record {
      unfailed = (said.writer_failed e).0;
      failed = (said.writer_failed e).1;
      lines = h.0;
      done = h.3;
      read = h.4;
      replies = h.1;
      written = h.2;
    })
    (IfErr-weaker done _ _ (λ f other unread unwritten. let it = other unread unwritten in
    (it.0, ap₂ (streams g.R.Read.remaining g.W.Write.contents) it.1 it.2)) said.fault)

pub returns-clause-made : goal.returns-clause-made
returns-clause-made g c =
    closed_led _ _ c.deliver-conn.result.1 c.close.result c.closed.result _ c.closed.ensures.fault c.closed.ensures.well
    c.closed.ensures.unclosed
    (replied_led _ c.deliver-conn.result.1 c.deliver-conn.ensures.ok)
    c.close.ensures.closed (λ u is shut. (c.in_ok-conn.conn, c.deliver-conn.result.0, c.in_ok-conn.ensures.of, shut, is))

pub returns-clause-why : goal.returns-clause-why
returns-clause-why g c =
    let old = state g.S.Store c.in_ok-conn.conn in
    let new = state g.S.Store c.deliver-conn.result.0 in
    let k = c.args.config in
    let before = streams g.R.Read.remaining g.W.Write.contents c.args.input.now c.args.output.now in
    let after = streams g.R.Read.remaining g.W.Write.contents c.deliver-conn.new.input c.deliver-conn.new.output in
    let said = c.deliver-conn.ensures in
    why_closes (LeftBy g.M.Databases.IsUnopened g.M.Databases.IsOf g.M.Databases.IsGivenBack (state g.S.Store) c.args.file.now)
    k (λ f o n. BreaksTo k f before after o n) old new
    (λ r. MatchResult r (λ u. RepliesTo k before after old new) (λ f. BreaksTo k f before after old new))
    c.deliver-conn.result.1 c.closed.result c.closed.ensures.fault c.closed.ensures.store
    (λ U R so. inr (c.in_ok-conn.conn, c.deliver-conn.result.0, c.in_ok-conn.ensures.of, c.close.ensures.given, so))
    said.judged
    (replied_or_broke k before after old new c.deliver-conn.result.1 said.ok said.read said.write said.memory
    (IfErr-weaker c.deliver-conn.result.1 _ _ (λ f other unread unwritten. (other unread unwritten).0) said.fault))
    (λ f did. did) (λ u did. did)
