use Rattle.std.proofs.Common.{◌∙◌, inl, inr, rules}
use Rattle.std.proofs.lemmas.Result.{on_err_weaker}
use Rattle.sqlite.specs.Held.{state}
use Rattle.sqlite.specs.State.{HasCleanDisk}
use Rattle.gate_migration.proofs.UpgradeLemmas.{can_still, leaves_then}
use Rattle.gate_migration.proofs.upgrading.upgrade_if_open.Goals as goal

pub returns-in_err-check_open-clause-none : goal.returns-in_err-check_open-clause-none
returns-in_err-check_open-clause-none g c clean b t can = let stays = c.check_open.ensures.stays clean in search (rules, stays)

pub returns-in_err-check_open-clause-crash : goal.returns-in_err-check_open-clause-crash
returns-in_err-check_open-clause-crash g c clean b t can db may =
    elim (c.check_open.ensures.crash.crash clean db may) [ inl o ↦ inl o | inr none ↦ absurd none ]

pub returns-clause-all : goal.returns-clause-all
returns-clause-all g c clean b t can =
    let old = state g.S.Store c.args.conn.now in
    let mid = state g.S.Store c.check_open.new.conn in
    let early : HasCleanDisk mid = c.upgrade.ensures.clean clean in
    let same = c.in_ok-check_open.ensures.ok early in
    c.upgrade.ensures.all clean b t (can_still old mid b c.args.edits.now t same.0.now_is (can same.0.was_open))

pub returns-clause-none : goal.returns-clause-none
returns-clause-none g c clean b t can =
    let old = state g.S.Store c.args.conn.now in
    let mid = state g.S.Store c.check_open.new.conn in
    let early : HasCleanDisk mid = c.upgrade.ensures.clean clean in
    let same = c.in_ok-check_open.ensures.ok early in
    on_err_weaker c.upgrade.result (λ s. record { was_open = λ up. same.0.was_open; now_is = λ up. s.now_is up ∙ same.0.now_is })
    (c.upgrade.ensures.none clean b t (can_still old mid b c.args.edits.now t same.0.now_is (can same.0.was_open)))

pub returns-clause-crash : goal.returns-clause-crash
returns-clause-crash g c clean b t can =
    let old = state g.S.Store c.args.conn.now in
    let mid = state g.S.Store c.check_open.new.conn in
    let new = state g.S.Store c.upgrade.new.conn in
    let early : HasCleanDisk mid = c.upgrade.ensures.clean clean in
    let same = c.in_ok-check_open.ensures.ok early in
    leaves_then old mid new early clean c.check_open.ensures.crash
    (λ db may. (c.upgrade.ensures.crash b t (can_still old mid b c.args.edits.now t same.0.now_is (can same.0.was_open))).crash clean db may)
