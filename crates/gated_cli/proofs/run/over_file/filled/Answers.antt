use Rattle.std.proofs.Common.{subst, sym}
use Rattle.sqlite.specs.Held.{state}
use Rattle.gate_table_laws.specs.Held.{HoldsFor, LeavesFor}
use Rattle.gated_cli.proofs.run.over_file.filled.Goals as goal

pub returns-clause-holds : goal.returns-clause-holds
returns-clause-holds g c clean x held =
    let k = c.args.config.now in
    c.fill-filled.ensures.kept.holds_on clean x record {
      below = subst (λ b. HoldsFor (state g.S.Store b.conn) b.queues.items k x) (sym c.new-live.ensures.book) held;
      agrees = λ lawful. c.new-live.ensures.agrees k x;
    }

pub returns-clause-leaves : goal.returns-clause-leaves
returns-clause-leaves g c clean x held ys left =
    let k = c.args.config.now in
    c.fill-filled.ensures.kept.leaves_on clean x
    (record {
      below = subst (λ b. HoldsFor (state g.S.Store b.conn) b.queues.items k x) (sym c.new-live.ensures.book) held;
      agrees = λ lawful. c.new-live.ensures.agrees k x;
    })
    ys (subst (λ b. LeavesFor (state g.S.Store b.conn) k ys) (sym c.new-live.ensures.book) left)
