use Rattle.std.proofs.Common.{◌∙◌, rules}
use Rattle.gate_book_trait.proofs.ReadingLemmas.{is_read_under}
use Rattle.gate_texts.proofs.RunningBuilds.{running_is}
use Rattle.gate_texts.proofs.running.running_text.Goals as goal

pub returns : goal.returns
returns g c = is_read_under (λ trusted x holds lawful.
    running_is x.state c.in_ok-running.running c.new.result (c.in_ok-running.ensures.found trusted x holds lawful)
    (c.new.ensures ∙ c.in_ok-text_of.ensures))
    (search rules) (search rules)
