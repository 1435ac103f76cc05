use Rattle.std.proofs.Common.{refl}
use Rattle.gate_types.specs.Rows.{with_outcome}
use Rattle.gate_types.specs.Rising.{RisesFrom}
use Rattle.gate_memory.specs.Builds.{Indexes, TellsLive, number_of_build}
use Rattle.gate_memory.proofs.SortedLemmas.{rises-changed}
use Rattle.gate_memory.proofs.BuildLemmas.{tells_changed}
use Rattle.gate_memory.proofs.IndexLemmas.{index_changed}
use Rattle.gate_memory.proofs.builds.BuildTable.set_outcome.Goals as goal

pub returns-clause-kept : goal.returns-clause-kept
returns-clause-kept c =
    let old = c.args.self.now in
    let f = with_outcome c.args.outcome in
    let rise : RisesFrom number_of_build 0 c.set_outcome.new.rows.items =
    rw c.set_outcome.ensures.rows (rises-changed number_of_build c.args.number f 0 old.rows.items (λ b. refl) c.requires.kept.rows_rise) in
    let told : TellsLive old.live.items c.set_outcome.new.rows.items =
    rw c.set_outcome.ensures.rows (tells_changed old.live.items c.args.number f old.rows.items (λ b. refl) (λ b live. live) c.requires.kept.live_told) in
    let all : Indexes old.told.items c.set_outcome.new.rows.items =
    rw c.set_outcome.ensures.rows (index_changed old.told.items c.args.number f old.rows.items (λ b. refl) c.requires.kept.all_told) in
    record { rows_rise = rise; live_rise = c.requires.kept.live_rise; live_fit = c.requires.kept.live_fit; live_told = told; all_told = all }
