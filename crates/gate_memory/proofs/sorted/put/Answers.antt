use Rattle.std.proofs.Common.{arith, ◌≡◌, ◌<◌, length, inl, inr, sym, ap, ◌∙◌}
use Rattle.std.specs.Prelude.{insert}
use Rattle.gate_memory.specs.Sorted.{position_in}
use Rattle.gate_memory.proofs.SortedLemmas.{put_set_at, put_insert_at, rises-put}
use Rattle.gate_memory.proofs.sorted.put.Goals as goal
use Rattle.gate_memory.proofs.sorted.put.Goals.{else-position-len-via-then-position-len+else-key}
use Rattle.gate_memory.proofs.sorted.put.Goals.{else-position-len-via-else-position-len}

pub returns-then-key-clause-rows : goal.returns-then-key-clause-rows
returns-then-key-clause-rows g c =
    let key = g.T.Keyed.key in
    let xs = c.args.rows.now.items in
    let x = c.args.row in
    let i = c.position_of-position.result in
    let position : i ≡ position_in key (key x) xs = rw (c.key-key.ensures, c.deref.ensures.value) at c.position_of-position.ensures.position in
    let within : i < length xs = omega (arith, c.if-position-len.true, c.len.ensures, c.deref.ensures.len, ap length c.deref.ensures.value) in
    sym (put_set_at key x xs i c.index.result.now position within (sym (ap key c.index.ensures) ∙ sym c.key.ensures ∙ c.if-key.true ∙ c.key-key.ensures))

pub returns-then-key-clause-rising : goal.returns-then-key-clause-rising
returns-then-key-clause-rising g c =
    let e = returns-then-key-clause-rows g c in
    rw e (rises-put g.T.Keyed.key 0 c.args.row c.args.rows.now.items (omega arith) c.requires.rising)

pub returns-else-position-len-clause-rows : goal.returns-else-position-len-clause-rows
returns-else-position-len-clause-rows g c =
    let key = g.T.Keyed.key in
    let xs = c.args.rows.now.items in
    let x = c.args.row in
    let i = c.position_of-position.result in
    let position : i ≡ position_in key (key x) xs = rw (c.key-key.ensures, c.deref.ensures.value) at c.position_of-position.ensures.position in
    let made : c.insert.new.self.items ≡ insert xs i x = rw c.unwrap.ensures at c.insert.ensures.items in
    made ∙ sym (elim c.else-position-len.branch [
      | else-position-len-via-then-position-len+else-key w ↦
          put_insert_at key x xs i position (inr (w.index.result.now, λ e. w.if-key.false (w.key.ensures ∙ ap key w.index.ensures ∙ e ∙ sym c.key-key.ensures)))
      | else-position-len-via-else-position-len w ↦
          put_insert_at key x xs i position (inl (omega (arith, w.if-position-len.false, c.len.ensures, c.deref.ensures.len, ap length c.deref.ensures.value)))
    ])

pub returns-else-position-len-clause-rising : goal.returns-else-position-len-clause-rising
returns-else-position-len-clause-rising g c =
    let e = returns-else-position-len-clause-rows g c in
    rw e (rises-put g.T.Keyed.key 0 c.args.row c.args.rows.now.items (omega arith) c.requires.rising)
