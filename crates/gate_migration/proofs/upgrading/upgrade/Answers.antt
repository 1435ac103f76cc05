use Rattle.std.proofs.Common.{true, ◌≡◌, ◌∙◌, ap, arith, not, refl, rules, subst, sym}
use Rattle.std.specs.Prelude.{OnErr, OnOk}
use Rattle.std.proofs.lemmas.Result.{on_ok_weaker}
use Rattle.sqlite.specs.Effect.{Database}
use Rattle.sqlite.specs.Held.{state}
use Rattle.sqlite.specs.State.{HasCleanDisk, KeepsCommit, Survives}
use Rattle.gate_schema.specs.Schema.{gate_schema}
use Rattle.gate_found_rows.specs.Finds.{Stays}
use Rattle.gate_migration.specs.Upgrade.{HasUpgraded, IsFirst}
use Rattle.gate_file_changes.proofs.ApplyLemmas.{survives_commit}
use Rattle.gate_migration.proofs.UpgradeLemmas.{failed_commit}
use Rattle.gate_migration.proofs.upgrading.upgrade.Goals as goal

pub returns-clause-all : goal.returns-clause-all
returns-clause-all g c clean b t can =
    let mid = state g.S.Store c.widen_with.new.tx.conn.now in
    let new = state g.S.Store c.commit.new.self.0 in
    let edits = c.args.edits.now in
    let whole : HasCleanDisk new → OnOk c.commit.result ((new.now.schema ≡ gate_schema) × HasUpgraded new.now.trees b edits t) = λ clean.
    let early : HasCleanDisk mid = omega (arith, clean, c.commit.ensures.survives.clean) in
    let made = c.in_ok-widen_with.ensures.made early b t (rw c.transaction-tx.ensures.begun (record { schema_is = can.schema_is; rows = can.rows; inside = refl })) can.plans in
    on_ok_weaker c.commit.result (λ ended.
    let is = ended.1.now_is in
    (ap (λ (d : Database). d.schema) is ∙ made.0.schema_is, subst (λ (d : Database). HasUpgraded d.trees b edits t) (sym is) made.1))
    (c.commit.ensures.ok clean) in
    search (rules, whole)

pub returns-clause-crash : goal.returns-clause-crash
returns-clause-crash g c b t can =
    let old = c.args.conn.now in
    let mid = c.widen_with.new.tx.conn.now in
    let edits = c.args.edits.now in
    let whole : Survives (state g.S.Store old) (state g.S.Store c.commit.new.self.0) (λ db. HasUpgraded db b edits t) =
    survives_commit g.S.Store old mid c.commit.new.self.0 (λ db. HasUpgraded db b edits t) (rw c.transaction-tx.ensures.begun at c.widen_with.ensures.crash) c.commit.ensures.survives
    (λ clean. (c.in_ok-widen_with.ensures.made clean b t (rw c.transaction-tx.ensures.begun (record { schema_is = can.schema_is; rows = can.rows; inside = refl })) can.plans).1) in
    search (rules, whole)

pub returns-clause-none : goal.returns-clause-none
returns-clause-none g c clean b t can =
    let old = state g.S.Store c.args.conn.now in
    let mid = state g.S.Store c.widen_with.new.tx.conn.now in
    let new = state g.S.Store c.commit.new.self.0 in
    let whole : HasCleanDisk new → OnErr c.commit.result (Stays old new) = λ clean.
    let early : HasCleanDisk mid = omega (arith, clean, c.commit.ensures.survives.clean) in
    let begun = state g.S.Store (record c.args.conn.now { in_transaction = true }) in
    let first : IsFirst b begun = record { schema_is = can.schema_is; rows = can.rows; inside = refl } in
    let kept : KeepsCommit begun mid = rw c.transaction-tx.ensures.begun at (c.widen_with.ensures.kept early b (rw c.transaction-tx.ensures.begun first)) in
    failed_commit old mid new c.commit.result kept.was_open kept.committed
    (λ up. c.is_autocommit.ensures.settled (c.is_autocommit.ensures.value ∙ ap not c.requires) up) (c.in_ok-widen_with.ensures.made early b t (rw c.transaction-tx.ensures.begun first) can.plans).0.inside (c.commit.ensures.err clean) in
    search (rules, whole)
