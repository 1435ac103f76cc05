use Rattle.gate_types.proofs.canonical.revision_text.Goals as goal

pub returns : goal.returns
returns c = rw (c.get-change.ensures.value, c.get-revision.ensures.value, c.in_ok-project.ensures, c.in_ok-message.ensures) at c.format.ensures.ok
