use Rattle.std.proofs.Common.{◌≡◌, ◌∙◌, ap, sym}
use Rattle.std.specs.Prelude.{find, option_map}
use Rattle.std.specs.Option.{option_copied}
use Rattle.gate_types.specs.Names.{same_name}
use Rattle.gate_book_trait.proofs.Finding.{find_map}
use Rattle.gate_memory.specs.HeldQueues.{LiveQueue}
use Rattle.gate_live.specs.Held.{queue_of}
use Rattle.gate_live.proofs.held.Held.queue_called.Goals as goal

pub returns-clause-found : goal.returns-clause-found
returns-clause-found c =
    let queues = c.args.self.now.queues.items in
    let name = c.args.name.now in
    let found : option_copied c.queue_in.result ≡ find (λ q. same_name (queue_of q).rows.name name) queues = rw c.deref.ensures.value at c.queue_in.ensures.found in
    ap (option_map queue_of) found ∙ sym (find_map queue_of (λ (l : LiveQueue). same_name l.rows.name name) queues)
