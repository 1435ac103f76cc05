use Rattle.std.proofs.Common.{◌≡◌, ◌∙◌, arith, [], take}
use Rattle.std.proofs.lemmas.Result.{err_from_is_err_and}
use Rattle.sqlite.proofs.StateLemmas.{survives_then}
use Rattle.sqlite.proofs.Callers.{unchanged_then}
use Rattle.sqlite.specs.Held.{state}
use Rattle.sqlite.specs.State.{HasCleanDisk}
use Rattle.gate_archive_queries.specs.Deliveries.{accepted_shown, accepted_line}
use Rattle.gate_queue_queries.specs.Streamed.{body, lines_of_records}
use Rattle.gate_archive_queries.proofs.DeliveryLemmas.{cut_so, front_cut}
use Rattle.gate_queue_queries.proofs.StreamLemmas.{begins_writing, cut_in_line, ends_full, ends_none, stops_behind}
use Rattle.gate_queue_queries.proofs.StreamLemmas.{writes_on}
use Rattle.gate_archive_queries.proofs.delivery_reads.write_lines.Goals as goal

pub loop-count-init : goal.loop-count-init
loop-count-init g c =
    record {
      same_reference = c.next_accepted.ensures.same_reference;
      unfailed = c.in_ok-write_text.ensures.1;
      same = λ clean. c.in-Ok.ensures.same clean;
      crash = c.next_accepted.ensures.crash;
      writing = λ clean sql params gave told streams.
          begins_writing g.S.Store sql params accepted_shown accepted_line c.args.front.now g.W.Write.contents c.args.w.now c.write_text.new.w
          c.args.rows.now.conn.now c.next_accepted.new.rows.conn.now told c.in-Ok.next streams (c.in-Ok.ensures.same clean) (c.in-Ok.ensures.reads clean sql params [] gave) c.in_ok-write_text.ensures.0;
    }

pub loop-count-preserved : goal.loop-count-preserved
loop-count-preserved g c =
    let first = state g.S.Store c.args.rows.now.conn.now in
    let old = state g.S.Store c.loop-count.rows.conn.now in
    let new = state g.S.Store c.next_accepted-in-loop-count.new.rows.conn.now in
    let was = c.loop-count.invariant in
    record {
      same_reference = c.next_accepted-in-loop-count.ensures.same_reference ∙ was.same_reference;
      unfailed = c.in_ok-write_line.ensures.1;
      same = λ clean.
          let early : HasCleanDisk old = omega (arith, c.next_accepted-in-loop-count.ensures.crash.clean) in
          unchanged_then first old new (was.same early) (c.in-Ok-next_accepted.ensures.same clean);
      crash = survives_then first old new (λ _. ⊥) (λ _. ⊥) (λ _. ⊥) (λ _ _ none. none) (λ _ _ none. none) was.crash c.next_accepted-in-loop-count.ensures.crash;
      writing = λ clean sql params gave told streams.
          let early : HasCleanDisk old = omega (arith, c.next_accepted-in-loop-count.ensures.crash.clean) in
          writes_on g.S.Store sql params accepted_shown accepted_line c.args.front.now g.W.Write.contents c.args.w.now c.loop-count.w c.write_line.new.w first
          c.loop-count.rows.conn.now c.next_accepted-in-loop-count.new.rows.conn.now c.loop-count.count c.in-Some.told c.in-Ok-next_accepted.next told streams (was.same early) (c.in-Ok-next_accepted.ensures.same clean)
          (rw c.in-Some.is at (was.writing early sql params gave told streams)) c.in_ok-write_line.ensures.0 (λ given read. c.in-Ok-next_accepted.ensures.reads clean sql params given read);
    }

pub returns-in_err-write_text-clause-found : goal.returns-in_err-write_text-clause-found
returns-in_err-write_text-clause-found g c clean sql params gave told streams =
    let p = err_from_is_err_and c.from_residual.result c.from_residual.ensures.1 in
    rw (p.1, p.2) (front_cut g.W.Write.contents c.args.w.now c.write_text.new.w c.args.front.now (lines_of_records accepted_line 0 (take c.args.most told)) _ c.in_err-write_text.ensures)

pub returns-in_default-clause-found : goal.returns-in_default-clause-found
returns-in_default-clause-found g c clean sql params gave told streams =
    let was = rw c.in_default.is at (c.loop-count.invariant.writing clean sql params gave told streams) in
    ends_none g.S.Store sql params accepted_shown accepted_line c.args.front.now g.W.Write.contents c.args.w.now c.args.most c.loop-count.w c.loop-count.rows.conn.now c.loop-count.count told (omega arith) was

pub returns-in_err-write_line-clause-found : goal.returns-in_err-write_line-clause-found
returns-in_err-write_line-clause-found g c clean sql params gave told streams =
    let p = err_from_is_err_and c.from_residual-in_err-write_line.result c.from_residual-in_err-write_line.ensures.1 in
    let was = rw c.in-Some.is at (c.loop-count.invariant.writing clean sql params gave told streams) in
    rw (p.1, p.2) (cut_so g.W.Write.contents c.loop-count.w c.args.w.now c.write_line.new.w (accepted_line c.loop-count.count c.in-Some.told) (body c.args.front.now accepted_line c.args.most told) _
    c.in_err-write_line.ensures
    (λ cut. cut_in_line g.S.Store sql params accepted_shown accepted_line c.args.front.now g.W.Write.contents c.args.w.now c.args.most c.loop-count.w c.write_line.new.w
    c.loop-count.rows.conn.now c.loop-count.count c.in-Some.told told (omega arith) was cut))

pub returns-in-Err-next_accepted-clause-found : goal.returns-in-Err-next_accepted-clause-found
returns-in-Err-next_accepted-clause-found g c clean sql params gave told streams =
    let early : HasCleanDisk (state g.S.Store c.loop-count.rows.conn.now) = omega (arith, c.next_accepted-in-loop-count.ensures.crash.clean) in
    let was = rw c.in-Some.is at (c.loop-count.invariant.writing early sql params gave told streams) in
    stops_behind g.S.Store sql params accepted_shown accepted_line c.args.front.now g.W.Write.contents c.args.w.now c.args.most c.loop-count.w c.write_line.new.w
    c.loop-count.rows.conn.now c.loop-count.count c.in-Some.told told (omega arith) was c.in_ok-write_line.ensures.0

pub returns-clause-found : goal.returns-clause-found
returns-clause-found g c clean sql params gave told streams =
    let was = c.loop-count.invariant.writing clean sql params gave told streams in
    let full : c.loop-count.count ≡ c.args.most = omega arith in
    ends_full g.S.Store sql params accepted_shown accepted_line c.args.front.now g.W.Write.contents c.args.w.now c.args.most c.loop-count.w c.loop-count.rows.conn.now c.loop-count.next told (rw full at was)
