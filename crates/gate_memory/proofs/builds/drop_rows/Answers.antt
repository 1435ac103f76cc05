use Rattle.std.proofs.Common.{◌≡◌, ◌<◌, ◌≤◌, ◌++◌, ◌∙◌, not, true, [], take, drop, refl, sym, ap, arith, append-nil}
use Rattle.std.specs.Prelude.{filter}
use Rattle.std.specs.List.{AllByRecursion}
use Rattle.std.proofs.lemmas.Bool.{ne_eqb}
use Rattle.gate_types.specs.declared.records.Build.{Build}
use Rattle.gate_book_trait.proofs.Finding.{in_weaker, rest_none}
use Rattle.gate_memory.specs.Sorted.{position_in}
use Rattle.gate_memory.specs.Builds.{number_of_build, is_build_of}
use Rattle.gate_memory.proofs.SortedLemmas.{front_passes}
use Rattle.gate_memory.proofs.builds.drop_rows.Goals as goal

pub loop-position-init : goal.loop-position-init
loop-position-init c =
    let rows = c.args.rows.now.items in
    let n = c.args.serial in
    let keep = λ (b : Build). not (is_build_of n b) in
    let start : c.position_of-start.result ≡ position_in number_of_build c.args.first rows = rw c.deref.ensures.value at c.position_of-start.ensures.position in
    let pass : AllByRecursion (λ (b : Build). b.number < c.args.first → keep b ≡ true) rows =
    in_weaker (λ (b : Build). b.serial ≡ n → c.args.first ≤ b.number) (λ (b : Build). b.number < c.args.first → keep b ≡ true)
    (λ b h l. ap not (ne_eqb b.serial n (λ e. let low : c.args.first ≤ b.number = h e in omega (arith, low, l)))) rows c.requires.lowest in
    record {
      order = omega arith;
      rest = ap (λ i. take i rows ++ filter keep (drop i rows)) start ∙ front_passes number_of_build c.args.first keep rows pass;
      len = refl;
      capacity = refl;
    }

pub returns-clause-rows : goal.returns-clause-rows
returns-clause-rows c =
    let rows = c.loop-position.rows.items in
    let n = c.args.serial in
    let keep = λ (b : Build). not (is_build_of n b) in
    let none : drop c.loop-position.position rows ≡ [] = rest_none rows c.loop-position.position (omega arith) in
    c.truncate.ensures.items ∙ sym (append-nil (take c.loop-position.end rows))
    ∙ ap (λ bs. take c.loop-position.end rows ++ filter keep bs) (sym none) ∙ c.loop-position.invariant.rest
