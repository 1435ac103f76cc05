use Rattle.std.proofs.Common.{◌≡◌, ◌∙◌, ap, sym}
use Rattle.std.specs.Prelude.{find, option_map}
use Rattle.std.specs.Option.{option_copied}
use Rattle.gate_types.specs.Names.{same_name}
use Rattle.gate_memory.specs.Queues as queue
use Rattle.gate_book_trait.proofs.Finding.{find_map}
use Rattle.gate_book.proofs.tables.MemTables.queue_called.Goals as goal

pub returns-clause-found : goal.returns-clause-found
returns-clause-found c =
    let queues = c.args.self.now.queues.items in
    let found : option_copied c.queue_in.result ≡ find (λ q. same_name q.name c.args.name.now) queues = rw c.deref.ensures.value at c.queue_in.ensures.found in
    ap (option_map queue.rows_of_table) found ∙ sym (find_map queue.rows_of_table (λ r. same_name r.name c.args.name.now) queues)
