use Rattle.std.proofs.Common.{◌∙◌, ap, sym, rules}
use Rattle.std.proofs.lemmas.Result.{IfOk-weaker}
use Rattle.gate_book_trait.proofs.ReadingLemmas.{is_read_under}
use Rattle.gate_reads.specs.Raw.{reply_by}
use Rattle.gate_core.proofs.speaking.speak.Goals as goal

pub returns-in-PlaceOf : goal.returns-in-PlaceOf
returns-in-PlaceOf g c = is_read_under (λ trusted x holds lawful u sound leads.
    IfOk-weaker c.place_of.result _ _ (λ r e. e ∙ sym (ap (λ pending. reply_by pending u) c.in-PlaceOf.is))
    (c.place_of.ensures.found trusted x holds lawful u sound leads))
    (search rules) (search rules)
