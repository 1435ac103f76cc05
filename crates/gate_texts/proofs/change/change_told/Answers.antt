use Rattle.gate_texts.proofs.change.change_told.Goals as goal

pub returns : goal.returns
returns c =
    let back = rw (
      c.in_ok-order.ensures,
      c.as_str-project.ensures.value,
      c.get-revision.ensures.value,
      c.word-state.ensures,
    ) at c.in_ok-back.ensures.ok in
    rw (c.in_ok-approval.ensures, c.get-number.ensures.value, c.truth_word-full.ensures, back) at c.in_ok-text.ensures.ok
