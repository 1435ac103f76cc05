use Rattle.std.proofs.Common.{◌≡◌, ◌∙◌, map, ap, sym}
use Rattle.std.proofs.lemmas.Simd.{map-map}
use Rattle.gate_types.specs.Settings.{Settings}
use Rattle.gate_types.specs.State.{empty_queue}
use Rattle.gate_types.specs.Rows.{item_rows}
use Rattle.gate_types.specs.Tables.{queue_rows}
use Rattle.gate_types.specs.AdoptedTables.{empty_rows}
use Rattle.gate_book.specs.Memory.{start_with}
use Rattle.gate_memory.specs.Queues as queue
use Rattle.gate_book.proofs.tables.MemTables.new.Goals as goal

pub returns-clause-rows : goal.returns-clause-rows
returns-clause-rows c =
    let s = c.args.config.now in
    let x = start_with s c.args.counters in
    let settings : c.as_slice.result.now ≡ s.queues = c.as_slice.ensures ∙ ap (λ (v : Settings). v.queues) c.config.view_is in
    let queues : map queue.rows_of_table c.in_ok-empty_queues.field-0.items ≡ map (λ q. queue_rows (item_rows s x.state q) q) (map empty_queue s.queues) =
    c.in_ok-empty_queues.ensures.rows ∙ ap (map empty_rows) settings ∙ sym (map-map (λ q. queue_rows (item_rows s x.state q) q) empty_queue s.queues) in
    λ i. record { changes = c.new.ensures.rows i; queues = queues i; plans = c.new-2.ensures.rows i; builds = c.new-3.ensures.rows i; counters = c.from_counters.ensures i; kept = c.new-4.ensures.rows i }
