use Rattle.std.proofs.Common.{◌≡◌, sym, subst, Some, None}
use Rattle.std.specs.Prelude.{◌==◌, find}
use Rattle.std.specs.List.{AllByRecursion}
use Rattle.gate_book_trait.proofs.Finding.{found_has, found_in}
use Rattle.gate_memory.specs.Sorted.{without}
use Rattle.gate_memory.specs.Pairs.{pair_key, IsFit}
use Rattle.gate_memory.specs.Builds.{Indexes, TellsLive, number_of_build, pair_of}
use Rattle.gate_memory.proofs.BuildLemmas.{all_without}
use Rattle.gate_memory.proofs.IndexLemmas.{index_forgets, without_absent}
use Rattle.gate_memory.proofs.DropLemmas.{tells_dropped}
use Rattle.gate_memory.proofs.builds.BuildTable.remove.Goals as goal

pub returns-in-Some-clause-kept : goal.returns-in-Some-clause-kept
returns-in-Some-clause-kept c =
    let old = c.args.self.now in
    let kept = c.requires.kept in
    let n = c.args.number in
    let b = c.in-Some.build.now in
    let rows = old.rows.items in
    let found : Some b ≡ find (λ x. number_of_build x == n) rows = rw (c.get-key.ensures.value, c.deref.ensures.value) at c.in-Some.ensures in
    let has : number_of_build b ≡ n = found_has number_of_build n b rows found in
    let small : IsFit (pair_of b) = rw c.pair_of.ensures.pair at c.pair_of.ensures.fit in
    let told : c.remove.new.rows.items ≡ without pair_key (pair_key (pair_of b)) old.told.items = rw (c.key-pair.ensures, c.pair_of.ensures.pair) at c.remove.ensures.rows in
    let live : c.remove-in-Some.new.rows.items ≡ without pair_key (pair_key (pair_of b)) old.live.items = rw (c.key-pair.ensures, c.pair_of.ensures.pair) at c.remove-in-Some.ensures.rows in
    let gone : c.remove-in-Some-2.new.rows.items ≡ without number_of_build n rows = rw c.get-key.ensures.value at c.remove-in-Some-2.ensures.rows in
    let all : Indexes c.remove.new.rows.items c.remove-in-Some-2.new.rows.items = rw (told, gone)
    (subst (λ m. Indexes (without pair_key (pair_key (pair_of b)) old.told.items) (without number_of_build m rows)) has
    (index_forgets old.told.items b rows kept.rows_rise (found_in (λ x. number_of_build x == n) rows b (sym found)) kept.all_told)) in
    let fit : AllByRecursion IsFit c.remove-in-Some.new.rows.items = rw live (all_without IsFit pair_key (pair_key (pair_of b)) old.live.items kept.live_fit) in
    let tells : TellsLive c.remove-in-Some.new.rows.items c.remove-in-Some-2.new.rows.items = rw (live, gone)
    (tells_dropped old.live.items (pair_of b) n rows kept.live_fit small has kept.live_told) in
    record { rows_rise = c.remove-in-Some-2.ensures.rising; live_rise = c.remove-in-Some.ensures.rising; live_fit = fit; live_told = tells; all_told = all }

pub returns-in_default-clause-rows : goal.returns-in_default-clause-rows
returns-in_default-clause-rows c =
    let rows = c.args.self.now.rows.items in
    let missing : None ≡ find (λ b. number_of_build b == c.args.number) rows = rw (c.get-key.ensures.value, c.deref.ensures.value) at c.in_default.ensures in
    without_absent number_of_build c.args.number rows (sym missing)
