use Rattle.std.proofs.Common.{◌∙◌, ap, arith, refl, rules, subst, sym}
use Rattle.std.specs.Prelude.{OnOk}
use Rattle.std.proofs.lemmas.Result.{on_ok_weaker}
use Rattle.sqlite.specs.Effect.{Database}
use Rattle.sqlite.specs.Held.{state}
use Rattle.sqlite.specs.State.{HasCleanDisk, Survives}
use Rattle.gate_rows.specs.Matches.{StandsFor}
use Rattle.gate_table_laws.specs.Held.{IsShownFor}
use Rattle.gate_file_changes.proofs.ApplyLemmas.{survives_commit}
use Rattle.gate_file_changes.proofs.applying.commit_all.Goals as goal

pub returns-clause-crash : goal.returns-clause-crash
returns-clause-crash g c cs x y has can =
    let old = c.args.conn.now in
    let mid = c.apply_all.new.tx.conn.now in
    let whole : Survives (state g.S.Store old) (state g.S.Store c.commit.new.self.0) (λ db. StandsFor db cs y) =
    survives_commit g.S.Store old mid c.commit.new.self.0 (λ db. StandsFor db cs y) (rw c.transaction-tx.ensures.begun at c.apply_all.ensures.crash) c.commit.ensures.survives
    (λ clean. (c.in_ok-apply_all.ensures.turns clean (rw c.transaction-tx.ensures.begun (record { schema_is = has; inside = refl }))).stands cs x y (rw c.transaction-tx.ensures.begun can)) in
    search (rules, whole)

pub returns-clause-all : goal.returns-clause-all
returns-clause-all g c clean cs x y has can =
    let mid = state g.S.Store c.apply_all.new.tx.conn.now in
    let new = state g.S.Store c.commit.new.self.0 in
    let whole : HasCleanDisk new → OnOk c.commit.result (IsShownFor new cs y) = λ clean.
    let early : HasCleanDisk mid = omega (arith, clean, c.commit.ensures.survives.clean) in
    let turns = c.in_ok-apply_all.ensures.turns early (rw c.transaction-tx.ensures.begun (record { schema_is = has; inside = refl })) in
    let stands : StandsFor mid.now.trees cs y = turns.stands cs x y (rw c.transaction-tx.ensures.begun can) in
    on_ok_weaker c.commit.result (λ ended.
    let is = ended.1.now_is in
    record {
      schema_is = ap (λ (d : Database). d.schema) is ∙ turns.ready.schema_is;
      stands = subst (λ (d : Database). StandsFor d.trees cs y) (sym is) stands;
    }) (c.commit.ensures.ok clean) in
    search (rules, whole)
