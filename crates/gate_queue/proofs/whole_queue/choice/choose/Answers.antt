use Rattle.std.proofs.Common.{◌∙◌, ap, List}
use Rattle.gate_types.specs.declared.records.Item.{Item as ItemRow}
use Rattle.gate_queue.specs.WholeQueue.Waiting.{choice_by}
use Rattle.gate_queue.proofs.WholeQueue.Choosing.{chooses}
use Rattle.gate_queue.proofs.whole_queue.choice.choose.Goals as goal

pub returns : goal.returns
returns c = record {
  first = λ ps t h.
      c.choose_among.ensures
      ∙ ap (λ (items : List ItemRow). choice_by c.args.builds.now items c.args.jobs.now.items.now) c.open_items.ensures
      ∙ chooses c.args.window c.args.builds.now ps c.args.items.now c.args.jobs.now.items.now t h;
}
