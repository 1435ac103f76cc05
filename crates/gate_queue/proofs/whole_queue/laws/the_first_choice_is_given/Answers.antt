use Rattle.gate_queue.proofs.WholeQueue.ChoiceLaw as law
use Rattle.gate_queue.proofs.whole_queue.laws.the_first_choice_is_given.Goals as goal

pub returns : goal.returns
returns c = law.the_first_choice_is_given
