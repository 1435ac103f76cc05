use Rattle.std.proofs.Common.{◌≡◌, ◌∙◌, ◌<◌, ◌+◌, List, ℕ, suc, false, ap, arith, length, map, set, subst, sym}
use Rattle.std.specs.Prelude.{option_map}
use Rattle.std.specs.List.{AllByRecursion}
use Rattle.std.proofs.lemmas.List.{length-map}
use Rattle.gate_types.specs.Names.{same_name}
use Rattle.gate_memory.specs.Queues as queue
use Rattle.gate_book_trait.specs.RowReads.{rows_named}
use Rattle.gate_book.proofs.AdoptLemmas.{AreLeft, all_set, left_more, map_set, not_before, rows_so_far, so_far_length}
use Rattle.gate_book.proofs.AdoptLemmas.{so_far_none, so_far_one}
use Rattle.gate_book.proofs.adopting.adopt_queues.Goals as goal
use Rattle.gate_book.proofs.adopting.adopt_queues.Goals.{in-Some, in_default}

pub put_at-requires : goal.put_at-requires
put_at-requires c =
    let told = map queue.rows_of_table c.args.queues.now.items in
    let news = c.loop-index.new_queues.items in
    let rs = c.args.settings.now in
    let made = ap length c.loop-index.invariant.rows ∙ so_far_length c.args.held.now told c.loop-index.index rs in
    let many : length news ≡ length rs = sym (length-map news queue.rows_of_table) ∙ made in
    omega (arith, many, c.loop-index.new_queues.ok.0, c.loop-index-test.true)

pub loop-index-preserved : goal.loop-index-preserved
loop-index-preserved c =
    let told = map queue.rows_of_table c.args.queues.now.items in
    let rs = c.args.settings.now in
    let k = c.loop-index.index in
    let r = c.index-settings-index.result in
    let is = c.index-settings-index.is in
    let was = c.loop-index.invariant in
    let within : k < length rs = omega (arith, c.loop-index-test.true) in
    let step : suc k ≡ k + 1 = omega arith in
    let lefts = map queue.rows_of_table c.loop-index.queues.items in
    let nexts = map queue.rows_of_table c.take_named.new.queues.items in
    let found : option_map queue.rows_of_table c.take_named.result ≡ rows_named told r.name =
    c.take_named.ensures.found ∙ ap (rows_named lefts) c.as_str.ensures.value ∙ was.left r.name (not_before k rs r c.requires.differ within is) in
    let others : (name : List ℕ) → same_name r.name name ≡ false → rows_named nexts name ≡ rows_named lefts name =
    λ name apart. c.take_named.ensures.others name (ap (λ n. same_name n name) c.as_str.ensures.value ∙ apart) in
    record {
      rows = elim c.match-take_named.branch [
        | in-Some w ↦ rw w.new_queues-is (
            ap (map queue.rows_of_table) w.put_at.ensures.rows ∙ map_set queue.rows_of_table c.loop-index.new_queues.items k w.resized.result
            ∙ ap (λ l. set l k (queue.rows_of_table w.resized.result)) was.rows
            ∙ so_far_one c.args.held.now told k rs r (queue.rows_of_table w.in-Some.table) (queue.rows_of_table w.resized.result) within is (sym found ∙ ap (option_map queue.rows_of_table) w.in-Some.is) w.resized.ensures.rows
            ∙ ap (λ n. rows_so_far c.args.held.now told n rs) step)
        | in_default w ↦ rw w.new_queues-is (
            was.rows ∙ so_far_none c.args.held.now told k rs r within is (sym found ∙ ap (option_map queue.rows_of_table) w.in_default.is)
            ∙ ap (λ n. rows_so_far c.args.held.now told n rs) step)
      ];
      left = subst (λ n. AreLeft told nexts n rs) step (left_more told lefts nexts k rs r within is others was.left);
      kept = c.take_named.ensures.kept;
      new_kept = elim c.match-take_named.branch [
        | in-Some w ↦ rw w.new_queues-is (subst (λ l. AllByRecursion queue.IsKeptQueueTable l) (sym w.put_at.ensures.rows) (all_set queue.IsKeptQueueTable c.loop-index.new_queues.items k w.resized.result was.new_kept w.resized.ensures.kept))
        | in_default w ↦ rw w.new_queues-is was.new_kept
      ];
    }
