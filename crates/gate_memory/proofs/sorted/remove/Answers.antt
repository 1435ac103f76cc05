use Rattle.std.proofs.Common.{arith, ◌≡◌, ◌<◌, length, inl, inr, sym, ap, ◌∙◌}
use Rattle.gate_memory.specs.Sorted.{position_in}
use Rattle.gate_memory.proofs.SortedLemmas.{without_remove, without_none, rises-without}
use Rattle.gate_memory.proofs.sorted.remove.Goals as goal
use Rattle.gate_memory.proofs.sorted.remove.Goals.{else-position-len-via-then-position-len+else-key}
use Rattle.gate_memory.proofs.sorted.remove.Goals.{else-position-len-via-else-position-len}

pub returns-then-key-clause-rows : goal.returns-then-key-clause-rows
returns-then-key-clause-rows g c =
    let key = g.T.Keyed.key in
    let xs = c.args.rows.now.items in
    let within : c.position_of-position.result < length xs = omega (arith, c.if-position-len.true, c.len.ensures, c.deref.ensures.len, ap length c.deref.ensures.value) in
    c.remove-row.ensures.items ∙ sym (without_remove key c.args.key 0 xs c.position_of-position.result c.index.result.now c.requires within (sym (ap key c.index.ensures) ∙ sym c.key.ensures ∙ c.if-key.true))

pub returns-then-key-clause-rising : goal.returns-then-key-clause-rising
returns-then-key-clause-rising g c =
    let e = returns-then-key-clause-rows g c in
    rw e (rises-without g.T.Keyed.key c.args.key 0 c.args.rows.now.items c.requires)

pub returns-else-position-len-clause-rows : goal.returns-else-position-len-clause-rows
returns-else-position-len-clause-rows g c =
    let key = g.T.Keyed.key in
    let xs = c.args.rows.now.items in
    let i = c.position_of-position.result in
    let position : i ≡ position_in key c.args.key xs = rw c.deref.ensures.value at c.position_of-position.ensures.position in
    sym (elim c.else-position-len.branch [
      | else-position-len-via-then-position-len+else-key w ↦
          without_none key c.args.key 0 xs i c.requires position (inr (w.index.result.now, λ e. w.if-key.false (w.key.ensures ∙ ap key w.index.ensures ∙ e)))
      | else-position-len-via-else-position-len w ↦
          without_none key c.args.key 0 xs i c.requires position (inl (omega (arith, w.if-position-len.false, c.len.ensures, c.deref.ensures.len, ap length c.deref.ensures.value)))
    ])
