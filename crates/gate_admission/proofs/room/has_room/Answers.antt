use Rattle.std.proofs.Common.{◌+◌, ◌∙◌, ap, sym, arith, rules}
use Rattle.std.specs.Prelude.{nat_lt}
use Rattle.gate_book_trait.proofs.KeptLemmas.{then}
use Rattle.gate_book_trait.proofs.ReadingLemmas.{is_read}
use Rattle.gate_admission.proofs.LedItems.{room_led}
use Rattle.gate_admission.proofs.Spans.{room_by_most}
use Rattle.gate_admission.proofs.room.has_room.Goals as goal
use Rattle.gate_types.specs.Limits.{most_items}

pub returns-then-from-edits : goal.returns-then-from-edits
returns-then-from-edits g c = is_read (λ trusted s x holds lawful v led there.
    sym (room_by_most s x c.args.edits.now v c.args.queue.now c.in_ok-most.most lawful led there
    (c.in_ok-most.ensures.found trusted s x holds lawful) (omega (arith, c.if-from-edits.true, c.from.ensures))))
    (search rules) (search rules)

pub returns : goal.returns
returns g c = is_read (λ trusted s x holds lawful v led there.
    let one = c.in_ok-moves.ensures.reads.kept.trusted_before trusted in
    let zero = c.in_ok-items.ensures.kept.trusted_before one in
    let at_zero = c.in_ok-most.ensures.kept.holds_on zero s x holds in
    let at_one = c.in_ok-items.ensures.kept.holds_on one s x at_zero in
    let moves = c.in_ok-moves.moves in
    ap (λ n. nat_lt (n + moves.added) (most_items + moves.dropped)) c.from-2.ensures
    ∙ room_led s x c.args.edits.now v c.args.queue.now c.in_ok-items.items moves.added moves.dropped led there
    (c.in_ok-items.ensures.found one s x at_zero lawful)
    (c.in_ok-moves.ensures.reads.found trusted s x at_one lawful))
    (then (then c.in_ok-most.ensures.kept c.in_ok-items.ensures.kept) c.in_ok-moves.ensures.reads.kept) (search rules)

pub returns-in_err-items : goal.returns-in_err-items
returns-in_err-items g c =
    is_read (search rules) (then c.in_ok-most.ensures.kept c.in_err-items.ensures.kept) (search rules)

pub returns-in_err-moves : goal.returns-in_err-moves
returns-in_err-moves g c = is_read (search rules)
    (let two = then c.in_ok-most.ensures.kept c.in_ok-items.ensures.kept in
    then two c.in_err-moves.ensures.reads.kept) (search rules)
