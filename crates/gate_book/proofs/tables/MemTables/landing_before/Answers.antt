use Rattle.std.proofs.Common.{◌∙◌, map, ap}
use Rattle.gate_types.specs.Names.{same_name}
use Rattle.std.specs.Option.{option_map_or}
use Rattle.gate_memory.specs.Queues as queue
use Rattle.gate_book_trait.specs.RowReads.{LandingsRise, count_landings_below}
use Rattle.gate_book_trait.proofs.Finding.{all_found}
use Rattle.gate_book.proofs.tables.MemTables.landing_before.Goals as goal

pub returns-in-Some : goal.returns-in-Some
returns-in-Some c rise =
    let rows = map queue.rows_of_table c.args.self.now.queues.items in
    let t = c.in-Some.queue.now in
    let its : LandingsRise (queue.rows_of_table t) = all_found LandingsRise (λ q. same_name q.name c.args.queue.now) rows (queue.rows_of_table t) rise c.in-Some.ensures.found in
    c.landings_before.ensures its ∙ ap (λ o. option_map_or (count_landings_below c.args.serial) o 0) c.in-Some.ensures.found
