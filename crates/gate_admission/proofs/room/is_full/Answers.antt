use Rattle.std.proofs.Common.{ℕ, ◌≡◌, ◌∙◌, ◌≤◌, ◌<◌, ap, sym, false, arith, rules}
use Rattle.std.specs.Prelude.{nat_le}
use Rattle.gate_book_trait.specs.Reads.{item_count}
use Rattle.gate_book_trait.proofs.ReadingLemmas.{is_read}
use Rattle.gate_admission.proofs.Spans.{full_is}
use Rattle.gate_admission.proofs.room.is_full.Goals as goal
use Rattle.gate_types.specs.Limits.{most_items}

few : (n m : ℕ) → n ≤ m → m < most_items → nat_le most_items n ≡ false
few n m low h = grind (arith, low, h)

pub returns-then-branch-lt-MOST_ITEMS : goal.returns-then-branch-lt-MOST_ITEMS
returns-then-branch-lt-MOST_ITEMS g c = is_read (λ trusted s x holds lawful.
    sym (full_is s x.state c.args.queue.now
    ∙ few (item_count s x.state c.args.queue.now) c.in_ok-most_items.field-0
    (c.in_ok-most_items.ensures.found trusted s x holds lawful) c.if-branch-lt-MOST_ITEMS.true))
    (search rules) (search rules)

pub returns : goal.returns
returns g c = is_read (λ trusted s x holds lawful.
    let one = c.in_ok-item_count.ensures.kept.trusted_before trusted in
    let next = c.in_ok-most_items.ensures.kept.holds_on one s x holds in
    ap (nat_le most_items) (c.in_ok-item_count.ensures.found trusted s x next lawful)
    ∙ sym (full_is s x.state c.args.queue.now))
    (search rules) (search rules)
