use Rattle.std.proofs.Common.{◌≡◌, Some, None, not}
use Rattle.std.specs.Prelude.{◌==◌, filter, option_map}
use Rattle.std.specs.List.{AllByRecursion}
use Rattle.gate_types.specs.declared.records.Build.{Build}
use Rattle.gate_types.specs.Rising.{RisesFrom}
use Rattle.gate_memory.specs.declared.pairs.Pair.{Pair}
use Rattle.gate_memory.specs.Sorted.{first_of}
use Rattle.gate_memory.specs.Pairs.{pair_key, IsFit}
use Rattle.gate_memory.specs.Builds.{Indexes, TellsLive, number_of_build, is_build_of}
use Rattle.gate_memory.proofs.SortedLemmas.{rises-filter}
use Rattle.gate_memory.proofs.NeedLemmas.{all_filter}
use Rattle.gate_memory.proofs.DropLemmas.{pairs_without, builds_without, index_drops, tells_drops, none_below, none_of}
use Rattle.gate_memory.proofs.builds.BuildTable.drop_of.Goals as goal

pub drop_rows-requires-clause-lowest : goal.drop_rows-requires-clause-lowest
drop_rows-requires-clause-lowest c =
    let old = c.args.self.now in
    let n = c.args.serial in
    let first : Some c.in-Some.first ≡ option_map (λ (p : Pair). p.second) (first_of (filter (λ (p : Pair). p.first == n) old.told.items)) = rw c.deref.ensures.value at c.in-Some.ensures in
    none_below n c.in-Some.first old.told.items old.rows.items c.requires.kept.all_told first

pub returns-in-Some-clause-kept : goal.returns-in-Some-clause-kept
returns-in-Some-clause-kept c =
    let old = c.args.self.now in
    let kept = c.requires.kept in
    let n = c.args.serial in
    let other = λ (p : Pair). not (p.first == n) in
    let told : c.remove_first.new.pairs.items ≡ pairs_without n old.told.items = rw c.get.ensures.value at c.remove_first.ensures.pairs in
    let live : c.remove_first-in-Some.new.pairs.items ≡ pairs_without n old.live.items = rw c.get-in-Some.ensures.value at c.remove_first-in-Some.ensures.pairs in
    let gone : c.drop_rows.new.rows.items ≡ builds_without n old.rows.items = c.drop_rows.ensures.rows in
    let rise : RisesFrom number_of_build 0 c.drop_rows.new.rows.items = rw gone (rises-filter number_of_build (λ (b : Build). not (is_build_of n b)) 0 old.rows.items kept.rows_rise) in
    let live_rise : RisesFrom pair_key 0 c.remove_first-in-Some.new.pairs.items = rw live (rises-filter pair_key other 0 old.live.items kept.live_rise) in
    let fit : AllByRecursion IsFit c.remove_first-in-Some.new.pairs.items = rw live (all_filter IsFit other old.live.items kept.live_fit) in
    let tells : TellsLive c.remove_first-in-Some.new.pairs.items c.drop_rows.new.rows.items = rw (live, gone) (tells_drops n old.live.items old.rows.items kept.live_told) in
    let all : Indexes c.remove_first.new.pairs.items c.drop_rows.new.rows.items = rw (told, gone) (index_drops n old.told.items old.rows.items kept.all_told) in
    record { rows_rise = rise; live_rise = live_rise; live_fit = fit; live_told = tells; all_told = all }

pub returns-in_default-clause-rows : goal.returns-in_default-clause-rows
returns-in_default-clause-rows c =
    let old = c.args.self.now in
    let n = c.args.serial in
    let none : None ≡ option_map (λ (p : Pair). p.second) (first_of (filter (λ (p : Pair). p.first == n) old.told.items)) = rw c.deref.ensures.value at c.in_default.ensures in
    none_of n old.told.items old.rows.items c.requires.kept.all_told none
