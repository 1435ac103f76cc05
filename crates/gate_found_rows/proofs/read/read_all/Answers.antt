use Rattle.std.proofs.Common.{◌∙◌, ap, not, arith}
use Rattle.std.proofs.lemmas.Result.{IfOk-weaker}
use Rattle.sqlite.specs.State.{HasCleanDisk, IsUnchanged}
use Rattle.sqlite.specs.Held.{state}
use Rattle.sqlite.specs.Values.{bound}
use Rattle.sqlite.proofs.StateLemmas.{survives_then}
use Rattle.gate_found_rows.proofs.StayLemmas.{read_stays, read_survives, shown_finds, stays_then}
use Rattle.gate_found_rows.proofs.read.read_all.Goals as goal

pub returns-clause-finds : goal.returns-clause-finds
returns-clause-finds g c clean =
    let old = state g.S.Store c.args.conn.now in
    let mid = state g.S.Store c.check_open.new.conn in
    let new = state g.S.Store c.query_all.new.self in
    let early : HasCleanDisk mid = omega (arith, c.query_all.ensures.survives.clean) in
    let same : IsUnchanged old mid = c.in_ok-check_open.ensures.ok early in
    IfOk-weaker c.query_all.result _ _ (λ rows shown. (same.0.was_open, shown_finds c.args.sql.now (bound c.args.params.now) old mid new rows.items same.0.now_is shown)) (c.query_all.ensures.ok clean)

pub returns-clause-stays : goal.returns-clause-stays
returns-clause-stays g c clean reads =
    let old = state g.S.Store c.args.conn.now in
    let mid = state g.S.Store c.check_open.new.conn in
    let new = state g.S.Store c.query_all.new.self in
    let early : HasCleanDisk mid = omega (arith, c.query_all.ensures.survives.clean) in
    stays_then old mid new (c.check_open.ensures.stays early)
    (read_stays (λ rows. rows.items) c.query_all.result c.args.sql.now (bound c.args.params.now) mid new (λ up. c.is_autocommit.ensures.settled (c.is_autocommit.ensures.value ∙ ap not c.check_open.ensures.mode) up) reads
    (c.query_all.ensures.ok clean) (c.query_all.ensures.err clean))

pub returns-clause-crash : goal.returns-clause-crash
returns-clause-crash g c clean reads =
    let old = state g.S.Store c.args.conn.now in
    let mid = state g.S.Store c.check_open.new.conn in
    let new = state g.S.Store c.query_all.new.self in
    survives_then old mid new (λ _. ⊥) (λ _. ⊥) (λ _. ⊥) (λ _ _ none. none) (λ _ _ none. none) c.check_open.ensures.crash (read_survives c.args.sql.now (bound c.args.params.now) mid new reads c.query_all.ensures.survives)
