use Rattle.std.proofs.Common.{◌≡◌, refl, subst, eqb-true, arith}
use Rattle.std.specs.Prelude.{◌==◌, filter}
use Rattle.std.proofs.lemmas.Bool.{eq-eqb}
use Rattle.gate_types.specs.Rising.{In}
use Rattle.gate_types.specs.Tables.{needs_in}
use Rattle.gate_memory.specs.declared.pairs.Pair.{Pair}
use Rattle.gate_memory.specs.Changes.{changes_of}
use Rattle.gate_memory.specs.Needs.{IsSmall, pair_of_need}
use Rattle.gate_book_trait.proofs.Finding.{all_in}
use Rattle.gate_memory.proofs.NeedLemmas.{all_filter, all_from, from_filter, in_filter, needed_told, small_fit}
use Rattle.gate_memory.proofs.PairLemmas.{seconds_rise}
use Rattle.gate_memory.proofs.changes.ChangeTable.needing.Goals as goal

pub of_first-requires-clause-fit : goal.of_first-requires-clause-fit
of_first-requires-clause-fit c = rw c.deref.ensures.value (small_fit c.args.self.now.needs.items c.requires.needs_order.small)

pairs : (c : goal.After-of_first) → c.of_first.result.now ≡ filter (λ (p : Pair). p.first == c.args.change) c.args.self.now.needs.items
pairs c = rw (c.get.ensures.value, c.deref.ensures.value) at c.of_first.ensures

pub returns-clause-rising : goal.returns-clause-rising
returns-clause-rising c =
    rw (pairs c) (seconds_rise c.args.change 0 0 c.args.self.now.needs.items c.requires.needs_order.rise (λ p h e. omega arith))

pub returns-clause-small : goal.returns-clause-small
returns-clause-small c =
    rw (pairs c) (all_filter IsSmall (λ (p : Pair). p.first == c.args.change) c.args.self.now.needs.items c.requires.needs_order.small)

pub returns-clause-told : goal.returns-clause-told
returns-clause-told c n any =
    let needs = c.args.self.now.needs.items in
    rw (pairs c) (in_filter (λ (p : Pair). p.first == c.args.change) (pair_of_need c.args.change n) needs (eq-eqb c.args.change c.args.change refl)
    (needed_told needs c.args.change n (changes_of c.args.self.now) c.requires.needs_told any))

pub returns-clause-back : goal.returns-clause-back
returns-clause-back c =
    let n = c.args.change in
    let needs = c.args.self.now.needs.items in
    let rows = changes_of c.args.self.now in
    rw (pairs c) (all_from (λ (p : Pair). In n (needs_in rows p.second)) (filter (λ (p : Pair). p.first == n) needs)
    (λ p t. let u = from_filter (λ (q : Pair). q.first == n) p needs t in
    subst (λ k. In k (needs_in rows p.second)) (eqb-true p.first n u.1) (all_in (λ (q : Pair). In q.first (needs_in rows q.second)) needs p c.requires.needs_stand u.0)))
