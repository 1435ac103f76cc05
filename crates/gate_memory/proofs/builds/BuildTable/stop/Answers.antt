use Rattle.std.proofs.Common.{◌≡◌, false, refl}
use Rattle.std.specs.List.{AllByRecursion}
use Rattle.std.proofs.lemmas.Bool.{false≢true}
use Rattle.gate_types.specs.Rebase.{with_live}
use Rattle.gate_types.specs.Rising.{RisesFrom}
use Rattle.gate_memory.specs.Sorted.{without}
use Rattle.gate_memory.specs.Pairs.{pair_key, IsFit}
use Rattle.gate_memory.specs.Builds.{Indexes, TellsLive, number_of_build}
use Rattle.gate_memory.proofs.SortedLemmas.{rises-changed}
use Rattle.gate_memory.proofs.BuildLemmas.{all_without, tells_changed, tells_stopped}
use Rattle.gate_memory.proofs.IndexLemmas.{index_changed}
use Rattle.gate_memory.proofs.builds.BuildTable.stop.Goals as goal

pub returns-in-Some-clause-kept : goal.returns-in-Some-clause-kept
returns-in-Some-clause-kept c =
    let old = c.args.self.now in
    let p = c.in-Some.pair in
    let rise : RisesFrom number_of_build 0 c.stop.new.rows.items =
    rw c.stop.ensures.rows (rises-changed number_of_build c.args.number (with_live false) 0 old.rows.items (λ b. refl) c.requires.kept.rows_rise) in
    let pairs : c.remove.new.rows.items ≡ without pair_key (pair_key p) old.live.items = rw c.key.ensures at c.remove.ensures.rows in
    let fit : AllByRecursion IsFit c.remove.new.rows.items = rw pairs (all_without IsFit pair_key (pair_key p) old.live.items c.requires.kept.live_fit) in
    let told : TellsLive c.remove.new.rows.items c.stop.new.rows.items =
    rw (pairs, c.stop.ensures.rows) (tells_stopped old.live.items p c.args.number (with_live false) old.rows.items c.requires.kept.live_fit c.in-Some.ensures.pair.1 c.in-Some.ensures.pair.0 (λ b. refl) c.requires.kept.live_told) in
    let all : Indexes old.told.items c.stop.new.rows.items =
    rw c.stop.ensures.rows (index_changed old.told.items c.args.number (with_live false) old.rows.items (λ b. refl) c.requires.kept.all_told) in
    record { rows_rise = rise; live_rise = c.remove.ensures.rising; live_fit = fit; live_told = told; all_told = all }

pub returns-in_default-clause-kept : goal.returns-in_default-clause-kept
returns-in_default-clause-kept c =
    let old = c.args.self.now in
    let rise : RisesFrom number_of_build 0 c.stop.new.rows.items =
    rw c.stop.ensures.rows (rises-changed number_of_build c.args.number (with_live false) 0 old.rows.items (λ b. refl) c.requires.kept.rows_rise) in
    let told : TellsLive old.live.items c.stop.new.rows.items =
    rw c.stop.ensures.rows (tells_changed old.live.items c.args.number (with_live false) old.rows.items (λ b. refl) (λ b live. absurd (false≢true live)) c.requires.kept.live_told) in
    let all : Indexes old.told.items c.stop.new.rows.items =
    rw c.stop.ensures.rows (index_changed old.told.items c.args.number (with_live false) old.rows.items (λ b. refl) c.requires.kept.all_told) in
    record { rows_rise = rise; live_rise = c.requires.kept.live_rise; live_fit = c.requires.kept.live_fit; live_told = told; all_told = all }
