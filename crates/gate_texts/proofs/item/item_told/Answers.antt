use Rattle.gate_texts.proofs.item.item_told.Goals as goal

pub returns : goal.returns
returns c =
    let back = rw (
      c.get-order.ensures.value,
      c.as_str-queue.ensures.value,
      c.get-revision.ensures.value,
      c.in_ok-verdict.ensures,
    ) at c.in_ok-back.ensures.ok in
    rw (c.get-change.ensures.value, c.as_str-jobs.ensures.value, back) at c.in_ok-text.ensures.ok
