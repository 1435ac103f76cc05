use Rattle.std.proofs.Common.{◌≡◌, ◌∙◌, Some, None, ap, map, refl, sym}
use Rattle.std.specs.List.{position}
use Rattle.gate_types.specs.Names.{same_name}
use Rattle.gate_types.specs.Tables.{QueueRows}
use Rattle.gate_memory.specs.Queues as queue
use Rattle.gate_book_trait.specs.RowReads.{rows_named}
use Rattle.gate_memory.specs.declared.queues.QueueTable.{QueueTable}
use Rattle.gate_book.proofs.AdoptLemmas.{found_first, found_none, named_apart, others_found}
use Rattle.gate_book.proofs.adopting.take_named.Goals as goal

pub returns-in-None-clause-found : goal.returns-in-None-clause-found
returns-in-None-clause-found c =
    let name = c.args.name.now in
    let olds = c.args.queues.now.items in
    let p = λ (q : QueueTable). same_name q.name name in
    let at : position p olds ≡ None = ap (position p) (sym c.deref.ensures.value) ∙ sym c.index_of.ensures ∙ c.in-None.is in
    sym (found_none queue.rows_of_table p (λ (q : QueueRows). same_name q.name name) (λ x. refl) olds at)

pub returns-in-Some-clause-found : goal.returns-in-Some-clause-found
returns-in-Some-clause-found c =
    let name = c.args.name.now in
    let olds = c.args.queues.now.items in
    let p = λ (q : QueueTable). same_name q.name name in
    let at : position p olds ≡ Some c.in-Some.index = ap (position p) (sym c.deref.ensures.value) ∙ sym c.index_of.ensures ∙ c.in-Some.is in
    let first = found_first queue.rows_of_table p (λ (q : QueueRows). same_name q.name name) (λ x. refl) olds c.in-Some.index c.remove.result at in
    ap (λ q. Some (queue.rows_of_table q)) c.remove.ensures.value ∙ first.1

pub returns-in-Some-clause-others : goal.returns-in-Some-clause-others
returns-in-Some-clause-others c other apart =
    let name = c.args.name.now in
    let olds = c.args.queues.now.items in
    let p = λ (q : QueueTable). same_name q.name name in
    let at : position p olds ≡ Some c.in-Some.index = ap (position p) (sym c.deref.ensures.value) ∙ sym c.index_of.ensures ∙ c.in-Some.is in
    let first = found_first queue.rows_of_table p (λ (q : QueueRows). same_name q.name name) (λ x. refl) olds c.in-Some.index c.remove.result at in
    ap (λ qs. rows_named (map queue.rows_of_table qs) other) c.remove.ensures.items
    ∙ others_found queue.rows_of_table (λ (q : QueueRows). same_name q.name other) olds c.in-Some.index c.remove.result first.0 (named_apart _ name other first.2 apart)
