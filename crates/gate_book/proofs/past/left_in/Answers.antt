use Rattle.std.proofs.Common.{◌≡◌, ◌∙◌, ◌+◌, suc, drop, map, None, Some, ap, sym, arith}
use Rattle.std.specs.Prelude.{◌==◌, find, option_map, Option}
use Rattle.std.specs.Option.{option_or}
use Rattle.gate_archive.specs.declared.rows.LeftItem.{LeftItem}
use Rattle.gate_memory.specs.Queues as queue
use Rattle.gate_book.specs.Past.{all_left}
use Rattle.gate_book.proofs.PastLemmas.{left_at, with_report}
use Rattle.gate_book.proofs.past.left_in.Goals as goal

pub returns-in-Some : goal.returns-in-Some
returns-in-Some c =
    let n = c.args.serial in
    let t = c.queue-item.result in
    let k = c.loop-queue.queue-index in
    let queues = c.args.queues.now in
    let rest : Option LeftItem = find (λ i. i.report.serial == n) (all_left (map queue.rows_of_table (drop (suc k) queues))) in
    let found : Some c.in-Some.found ≡ option_map (with_report t) (find (λ r. r.report.serial == n) t.reports.rows.items) = sym c.in-Some.is ∙ c.in_ok-found.ensures in
    sym (c.loop-queue.invariant ∙ left_at n queues k t c.loop-queue-test.true c.queue-item.is ∙ ap (λ o. option_or o rest) (sym found))

pub loop-queue-preserved : goal.loop-queue-preserved
loop-queue-preserved c =
    let n = c.args.serial in
    let t = c.queue-item.result in
    let k = c.loop-queue.queue-index in
    let queues = c.args.queues.now in
    let step : suc k ≡ k + 1 = omega arith in
    let rest : Option LeftItem = find (λ i. i.report.serial == n) (all_left (map queue.rows_of_table (drop (suc k) queues))) in
    let found : None ≡ option_map (with_report t) (find (λ r. r.report.serial == n) t.reports.rows.items) = sym c.in_default.is ∙ c.in_ok-found.ensures in
    c.loop-queue.invariant ∙ left_at n queues k t c.loop-queue-test.true c.queue-item.is ∙ ap (λ o. option_or o rest) (sym found)
    ∙ ap (λ m. find (λ i. i.report.serial == n) (all_left (map queue.rows_of_table (drop m queues)))) step
