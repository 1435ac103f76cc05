use Rattle.std.proofs.Common.{None, Some, arith, subst, sym}
use Rattle.sqlite.specs.Held.{state}
use Rattle.sqlite.specs.State.{HasCleanDisk}
use Rattle.gate_types.specs.Once.{Content}
use Rattle.gate_rows.specs.Matches.{StandsFor}
use Rattle.gate_file_changes.specs.Adopts.{StandsForLawful}
use Rattle.gate_table_laws.specs.Held.{HoldsFor}
use Rattle.gate_sql.proofs.AgainLemmas.{one_held, one_stands}
use Rattle.gate_sql.proofs.OpenLemmas.{told_of}
use Rattle.gate_sql.proofs.book.SqlBook.open_store.Goals as goal

pub returns-in-Ok-open-clause-opens : goal.returns-in-Ok-open-clause-opens
returns-in-Ok-open-clause-opens g c clean x it =
    let first : HasCleanDisk (state g.S.Store c.in-Ok.conn) = c.in-Ok-open.ensures.clean clean in
    c.in-Ok-open.ensures.opens (c.in-Ok.ensures.opens first).0.is_open x (subst (λ t. StandsFor t c.args.config.now x) (sym (c.in-Ok.ensures.trees first)) it) clean

pub returns-in-Ok-open-clause-one : goal.returns-in-Ok-open-clause-one
returns-in-Ok-open-clause-one g c clean xs it =
    let first : HasCleanDisk (state g.S.Store c.in-Ok.conn) = c.in-Ok-open.ensures.clean clean in
    let opens : (x : Content) → StandsFor (g.S.Store.view c.args.store).trees c.args.config.now x → HoldsFor (state g.S.Store c.in-Ok-open.book.conn) c.in-Ok-open.book.queues.items c.args.config.now x =
    λ x it. c.in-Ok-open.ensures.opens (c.in-Ok.ensures.opens first).0.is_open x (subst (λ t. StandsFor t c.args.config.now x) (sym (c.in-Ok.ensures.trees first)) it) clean in
    one_held _ _ _ _ opens xs it

pub returns-in-Err-open-clause-fault : goal.returns-in-Err-open-clause-fault
returns-in-Err-open-clause-fault g c x it clean =
    let last : HasCleanDisk (state g.S.Store c.in-Err-open.conn) = omega (arith, clean, c.into_store.ensures.quiet.clean) in
    let first : HasCleanDisk (state g.S.Store c.in-Ok.conn) = c.in-Err-open.ensures.clean last in
    c.in-Err-open.ensures.opens (c.in-Ok.ensures.opens first).0.is_open x (subst (λ t. StandsFor t c.args.config.now x) (sym (c.in-Ok.ensures.trees first)) it) last

pub returns-in-Ok-open-clause-settled : goal.returns-in-Ok-open-clause-settled
returns-in-Ok-open-clause-settled g c clean xs it db left =
    let first : HasCleanDisk (state g.S.Store c.in-Ok.conn) = c.in-Ok-open.ensures.clean clean in
    let settled : (x : Content) → StandsFor (g.S.Store.view c.args.store).trees c.args.config.now x → StandsFor db c.args.config.now x =
    λ x it. c.in-Ok-open.ensures.settled (c.in-Ok.ensures.opens first).0.is_open x (subst (λ t. StandsFor t c.args.config.now x) (sym (c.in-Ok.ensures.trees first)) it) clean db left in
    one_stands _ _ _ settled xs it

pub returns-in-Ok-open-clause-adopts : goal.returns-in-Ok-open-clause-adopts
returns-in-Ok-open-clause-adopts g c clean cs x keeps may =
    let first : HasCleanDisk (state g.S.Store c.in-Ok.conn) = c.in-Ok-open.ensures.clean clean in
    c.in-Ok-open.ensures.adopts (c.in-Ok.ensures.opens first).0.is_open cs x (subst (λ t. StandsForLawful t cs x) (sym (c.in-Ok.ensures.trees first)) keeps) may clean

pub returns-in-Ok-open-clause-adopted : goal.returns-in-Ok-open-clause-adopted
returns-in-Ok-open-clause-adopted g c clean cs x keeps may db left =
    let first : HasCleanDisk (state g.S.Store c.in-Ok.conn) = c.in-Ok-open.ensures.clean clean in
    c.in-Ok-open.ensures.adopted (c.in-Ok.ensures.opens first).0.is_open cs x (subst (λ t. StandsForLawful t cs x) (sym (c.in-Ok.ensures.trees first)) keeps) may clean db left

pub returns-in-Ok-open-clause-refuses : goal.returns-in-Ok-open-clause-refuses
returns-in-Ok-open-clause-refuses g c cs x keeps refused clean =
    let first : HasCleanDisk (state g.S.Store c.in-Ok.conn) = c.in-Ok-open.ensures.clean clean in
    c.in-Ok-open.ensures.refuses (c.in-Ok.ensures.opens first).0.is_open cs x (subst (λ t. StandsForLawful t cs x) (sym (c.in-Ok.ensures.trees first)) keeps) refused clean

pub returns-in-Err-open-clause-refuses : goal.returns-in-Err-open-clause-refuses
returns-in-Err-open-clause-refuses g c cs x keeps refused clean =
    let last : HasCleanDisk (state g.S.Store c.in-Err-open.conn) = omega (arith, clean, c.into_store.ensures.quiet.clean) in
    let first : HasCleanDisk (state g.S.Store c.in-Ok.conn) = c.in-Err-open.ensures.clean last in
    c.in-Err-open.ensures.refuses (c.in-Ok.ensures.opens first).0.is_open cs x (subst (λ t. StandsForLawful t cs x) (sym (c.in-Ok.ensures.trees first)) keeps) refused last

pub returns-in-Err-open-clause-may_fault : goal.returns-in-Err-open-clause-may_fault
returns-in-Err-open-clause-may_fault g c cs x keeps may clean =
    let last : HasCleanDisk (state g.S.Store c.in-Err-open.conn) = omega (arith, clean, c.into_store.ensures.quiet.clean) in
    let first : HasCleanDisk (state g.S.Store c.in-Ok.conn) = c.in-Err-open.ensures.clean last in
    c.in-Err-open.ensures.adopts (c.in-Ok.ensures.opens first).0.is_open cs x (subst (λ t. StandsForLawful t cs x) (sym (c.in-Ok.ensures.trees first)) keeps) may last

pub returns-in-Ok-open-clause-told : goal.returns-in-Ok-open-clause-told
returns-in-Ok-open-clause-told g c clean =
    let first : HasCleanDisk (state g.S.Store c.in-Ok.conn) = c.in-Ok-open.ensures.clean clean in
    let opens = c.in-Ok.ensures.opens first in
    told_of (state g.S.Store c.in-Ok.conn).now None _ c.args.config.now (c.in-Ok.ensures.trees first) (opens.1 opens.0.is_open).0.lists (c.in-Ok-open.ensures.told clean)

pub returns-in-Err-open-clause-fault_told : goal.returns-in-Err-open-clause-fault_told
returns-in-Err-open-clause-fault_told g c clean other =
    let last : HasCleanDisk (state g.S.Store c.in-Err-open.conn) = omega (arith, clean, c.into_store.ensures.quiet.clean) in
    let first : HasCleanDisk (state g.S.Store c.in-Ok.conn) = c.in-Err-open.ensures.clean last in
    let opens = c.in-Ok.ensures.opens first in
    told_of (state g.S.Store c.in-Ok.conn).now (Some c.in-Err-open.fault) _ c.args.config.now (c.in-Ok.ensures.trees first) (opens.1 opens.0.is_open).0.lists (c.in-Err-open.ensures.told last)
