use Rattle.std.proofs.Common.{◌≡◌}
use Rattle.std.specs.Prelude.{◌==◌, filter}
use Rattle.std.specs.List.{AllByRecursion}
use Rattle.std.proofs.lemmas.Bool.{eq-eqb}
use Rattle.gate_types.specs.declared.records.Item.{Item}
use Rattle.gate_types.specs.Rising.{In}
use Rattle.gate_memory.specs.declared.pairs.Pair.{Pair}
use Rattle.gate_memory.specs.Queues.{indexed_item}
use Rattle.gate_book_trait.proofs.Finding.{in_weaker, all_in}
use Rattle.gate_memory.proofs.NeedLemmas.{in_filter}
use Rattle.gate_memory.proofs.queues.QueueTable.add_serials.Goals as goal

pub returns-clause-told : goal.returns-clause-told
returns-clause-told c =
    let n = c.args.change in
    let entries = c.args.self.now.entries.items in
    let serials = c.add_seconds.new.numbers.items in
    let pairs : c.of_first.result.now ≡ filter (λ (p : Pair). p.first == n) entries = rw c.deref.ensures.value at c.of_first.ensures in
    let told : AllByRecursion (λ (p : Pair). In p.second serials) (filter (λ (p : Pair). p.first == n) entries) = rw pairs at c.in_ok-add_seconds.ensures.told in
    in_weaker (λ (i : Item). In (indexed_item i) entries) (λ (i : Item). i.change ≡ n → In i.serial serials)
    (λ i there e. all_in (λ (p : Pair). In p.second serials) (filter (λ (p : Pair). p.first == n) entries) (indexed_item i) told
    (in_filter (λ (p : Pair). p.first == n) (indexed_item i) entries (eq-eqb i.change n e) there))
    c.args.self.now.items.items c.requires.kept.items_told
