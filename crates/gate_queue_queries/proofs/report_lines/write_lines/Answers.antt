use Rattle.std.proofs.Common.{◌≡◌, ◌∙◌, ◌++◌, arith, [], take}
use Rattle.std.proofs.lemmas.Result.{err_from_is_err_and}
use Rattle.sqlite.proofs.StateLemmas.{survives_then}
use Rattle.sqlite.proofs.Callers.{unchanged_then}
use Rattle.sqlite.specs.Held.{state}
use Rattle.sqlite.specs.State.{HasCleanDisk}
use Rattle.gate_book_trait.specs.Text.{first_line}
use Rattle.gate_queue_queries.specs.History.{report_shown}
use Rattle.gate_queue_queries.specs.Streamed.{body, line_from, lines_of_records}
use Rattle.gate_queue_queries.proofs.HistoryLemmas.{cut_within, leaves_head}
use Rattle.gate_queue_queries.proofs.StreamLemmas.{begins_writing, cut_in_line, ends_full, ends_none, front_some}
use Rattle.gate_queue_queries.proofs.StreamLemmas.{some_front, stops_behind, writes_on}
use Rattle.gate_queue_queries.proofs.report_lines.write_lines.Goals as goal

pub loop-step-init : goal.loop-step-init
loop-step-init g c =
    record {
      same_reference = c.next_report.ensures.same_reference;
      unfailed = c.in_ok-write_head.ensures.stops;
      same = λ clean. c.in-Ok.ensures.same clean;
      crash = c.next_report.ensures.crash;
      writing = λ clean sql params gave rs streams.
          begins_writing g.S.Store sql params report_shown (line_from c.args.first) (c.args.front.now ++ first_line c.args.queue.now) g.W.Write.contents c.args.w.now c.write_head.new.w
          c.args.rows.now.conn.now c.next_report.new.rows.conn.now rs c.in-Ok.next streams (c.in-Ok.ensures.same clean) (c.in-Ok.ensures.reads clean sql params [] gave) c.in_ok-write_head.ensures.taken;
    }

pub loop-step-preserved : goal.loop-step-preserved
loop-step-preserved g c =
    let first = state g.S.Store c.args.rows.now.conn.now in
    let old = state g.S.Store c.loop-step.rows.conn.now in
    let new = state g.S.Store c.next_report-in-loop-step.new.rows.conn.now in
    let was = c.loop-step.invariant in
    record {
      same_reference = c.next_report-in-loop-step.ensures.same_reference ∙ was.same_reference;
      unfailed = c.in_ok-write_report.ensures.stops;
      same = λ clean.
          let early : HasCleanDisk old = omega (arith, c.next_report-in-loop-step.ensures.crash.clean) in
          unchanged_then first old new (was.same early) (c.in-Ok-next_report.ensures.same clean);
      crash = survives_then first old new (λ _. ⊥) (λ _. ⊥) (λ _. ⊥) (λ _ _ none. none) (λ _ _ none. none) was.crash c.next_report-in-loop-step.ensures.crash;
      writing = λ clean sql params gave rs streams.
          let early : HasCleanDisk old = omega (arith, c.next_report-in-loop-step.ensures.crash.clean) in
          writes_on g.S.Store sql params report_shown (line_from c.args.first) (c.args.front.now ++ first_line c.args.queue.now) g.W.Write.contents c.args.w.now c.loop-step.w c.write_report.new.w first
          c.loop-step.rows.conn.now c.next_report-in-loop-step.new.rows.conn.now c.loop-step.step c.in-Some.report c.in-Ok-next_report.next rs streams (was.same early) (c.in-Ok-next_report.ensures.same clean)
          (rw c.in-Some.is at (was.writing early sql params gave rs streams)) c.in_ok-write_report.ensures.taken (λ given read. c.in-Ok-next_report.ensures.reads clean sql params given read);
    }

pub returns-in_err-write_head-clause-found : goal.returns-in_err-write_head-clause-found
returns-in_err-write_head-clause-found g c clean sql params gave rs streams =
    let p = err_from_is_err_and c.from_residual.result c.from_residual.ensures.1 in
    rw (p.1, p.2) (leaves_head g.W.Write.contents c.args.w.now c.write_head.new.w (c.args.front.now ++ first_line c.args.queue.now) (lines_of_records (line_from c.args.first) 0 (take c.args.most rs)) _ c.in_err-write_head.ensures.taken)

pub returns-in_default-clause-found : goal.returns-in_default-clause-found
returns-in_default-clause-found g c clean sql params gave rs streams =
    let was = rw c.in_default.is at (c.loop-step.invariant.writing clean sql params gave rs streams) in
    ends_none g.S.Store sql params report_shown (line_from c.args.first) (c.args.front.now ++ first_line c.args.queue.now) g.W.Write.contents c.args.w.now c.args.most c.loop-step.w c.loop-step.rows.conn.now c.loop-step.step rs
    (omega arith) was

pub returns-in_err-write_report-clause-found : goal.returns-in_err-write_report-clause-found
returns-in_err-write_report-clause-found g c clean sql params gave rs streams =
    let p = err_from_is_err_and c.from_residual-in_err-write_report.result c.from_residual-in_err-write_report.ensures.1 in
    let was = rw c.in-Some.is at (c.loop-step.invariant.writing clean sql params gave rs streams) in
    rw (p.1, p.2) (cut_within g.W.Write.contents c.args.w.now c.write_report.new.w (body (c.args.front.now ++ first_line c.args.queue.now) (line_from c.args.first) c.args.most rs) _ c.in_err-write_report.ensures.stops
    (cut_in_line g.S.Store sql params report_shown (line_from c.args.first) (c.args.front.now ++ first_line c.args.queue.now) g.W.Write.contents c.args.w.now c.args.most c.loop-step.w c.write_report.new.w
    c.loop-step.rows.conn.now c.loop-step.step c.in-Some.report rs (omega arith) was (front_some _ _ _ c.in_err-write_report.ensures.taken)))

pub returns-in-Err-next_report-clause-found : goal.returns-in-Err-next_report-clause-found
returns-in-Err-next_report-clause-found g c clean sql params gave rs streams =
    let early : HasCleanDisk (state g.S.Store c.loop-step.rows.conn.now) = omega (arith, c.next_report-in-loop-step.ensures.crash.clean) in
    let was = rw c.in-Some.is at (c.loop-step.invariant.writing early sql params gave rs streams) in
    λ rest some. some_front _ _ (body (c.args.front.now ++ first_line c.args.queue.now) (line_from c.args.first) c.args.most rs) rest some
    (stops_behind g.S.Store sql params report_shown (line_from c.args.first) (c.args.front.now ++ first_line c.args.queue.now) g.W.Write.contents c.args.w.now c.args.most c.loop-step.w c.write_report.new.w
    c.loop-step.rows.conn.now c.loop-step.step c.in-Some.report rs (omega arith) was c.in_ok-write_report.ensures.taken)

pub returns-clause-found : goal.returns-clause-found
returns-clause-found g c clean sql params gave rs streams =
    let was = c.loop-step.invariant.writing clean sql params gave rs streams in
    let full : c.loop-step.step ≡ c.args.most = omega arith in
    ends_full g.S.Store sql params report_shown (line_from c.args.first) (c.args.front.now ++ first_line c.args.queue.now) g.W.Write.contents c.args.w.now c.args.most c.loop-step.w c.loop-step.rows.conn.now c.loop-step.next rs
    (rw full at was)
