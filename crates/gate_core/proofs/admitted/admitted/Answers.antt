use Rattle.std.proofs.Common.{◌≡◌, ◌∙◌, true, ap, rules}
use Rattle.gate_types.specs.Settings.{are_sound, are_distinct}
use Rattle.gate_types.proofs.DistinctLemmas.{names_differ}
use Rattle.gate_book_trait.proofs.ReadingLemmas.{is_read_under}
use Rattle.gate_reads.specs.Moves.{swept}
use Rattle.gate_core.proofs.ByEdits.{enters_by_edits}
use Rattle.gate_core.proofs.admitted.admitted.Goals as goal

pub returns : goal.returns
returns g c = is_read_under (λ trusted x holds lawful d r t e sound leads.
    let s = c.args.config.now in
    let good : are_sound s ≡ true = search rules in
    let names = ap are_distinct lawful.lawful.sound.queues_are_set ∙ names_differ s good in
    c.admitting.ensures.found trusted x holds lawful (swept s t) sound leads
    (enters_by_edits s x d r t c.args.edits.items names lawful
    (c.settled_is_at_rest.ensures.at_rest s x.state lawful.lawful.settled) e
    (record { sound = sound; leads = leads })))
    (search rules) (search rules)
