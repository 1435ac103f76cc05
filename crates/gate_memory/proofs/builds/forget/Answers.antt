use Rattle.std.proofs.Common.{◌≡◌, Some, None, sym, subst}
use Rattle.std.specs.Prelude.{◌==◌, find}
use Rattle.gate_memory.specs.Sorted.{without}
use Rattle.gate_memory.specs.Pairs.{pair_key}
use Rattle.gate_memory.specs.Builds.{Indexes, number_of_build, pair_of}
use Rattle.gate_book_trait.proofs.Finding.{found_has, found_in}
use Rattle.gate_memory.proofs.IndexLemmas.{index_forgets, without_absent}
use Rattle.gate_memory.proofs.builds.forget.Goals as goal

pub returns-in-Some-clause-index : goal.returns-in-Some-clause-index
returns-in-Some-clause-index c =
    let rows = c.args.rows.now in
    let n = c.args.number in
    let b = c.in-Some.build.now in
    let found : Some b ≡ find (λ x. number_of_build x == n) rows = rw c.get.ensures.value at c.in-Some.ensures in
    let pairs : c.remove.new.rows.items ≡ without pair_key (pair_key (pair_of b)) c.args.told.now.items =
    rw (c.key.ensures, c.pair_of.ensures.pair) at c.remove.ensures.rows in
    rw pairs (subst (λ m. Indexes (without pair_key (pair_key (pair_of b)) c.args.told.now.items) (without number_of_build m rows))
    (found_has number_of_build n b rows found)
    (index_forgets c.args.told.now.items b rows c.requires.rising (found_in (λ x. number_of_build x == n) rows b (sym found)) c.requires.index))

pub returns-in_default-clause-index : goal.returns-in_default-clause-index
returns-in_default-clause-index c =
    let rows = c.args.rows.now in
    let missing : None ≡ find (λ x. number_of_build x == c.args.number) rows = rw c.get.ensures.value at c.in_default.ensures in
    subst (λ bs. Indexes c.args.told.now.items bs) (without_absent number_of_build c.args.number rows (sym missing)) c.requires.index
