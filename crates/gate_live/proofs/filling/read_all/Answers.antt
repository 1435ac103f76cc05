use Rattle.std.proofs.Common.{◌≡◌, ◌∙◌, map, ap, subst, sym, true, rules}
use Rattle.gate_types.specs.Settings.{Settings, are_distinct, are_sound}
use Rattle.gate_types.specs.Tables.{tables}
use Rattle.gate_types.proofs.DistinctLemmas.{names_differ}
use Rattle.gate_book_trait.proofs.KeptLemmas.{then}
use Rattle.gate_book_trait.proofs.ReadingLemmas.{is_read_under}
use Rattle.gate_live.specs.Live.{live_queue}
use Rattle.gate_live.specs.Held.{queue_of}
use Rattle.gate_live.proofs.FilledLemmas.{filled, names_are}
use Rattle.gate_live.proofs.filling.read_all.Goals as goal

pub returns-clause-reads : goal.returns-clause-reads
returns-clause-reads g c = is_read_under (λ trusted x held lawful.
    let s = c.args.config.now in
    let rs = c.as_slice.result.now in
    let settings : rs ≡ s.queues = c.as_slice.ensures ∙ ap (λ (v : Settings). v.queues) c.config.view_is in
    let sound : are_sound s ≡ true = subst (λ (k : Settings). are_sound k ≡ true) c.config.view_is c.config.invariant in
    let first = c.in_ok-counters.ensures.kept.trusted_before trusted in
    let later = c.in_ok-queues.ensures.reads.kept.holds_on first s x held in
    let told = rw c.in-Some.is at (c.in_ok-queues.ensures.reads.found first s x held lawful) in
    let queues : map queue_of c.in-Some.queues.items ≡ map live_queue (tables s x).queues =
    filled (map queue_of c.in-Some.queues.items) (tables s x).queues rs (names_are s x rs lawful.lawful.sound settings)
    (subst (λ zs. are_distinct (map (λ z. z.name) zs) ≡ true) (sym settings) (names_differ s sound)) told in
    let counters = c.in_ok-counters.ensures.found trusted s x later lawful in
    c.new.ensures.rows ∙ λ i. record { queues = queues i; counters = counters i })
    (then c.in_ok-queues.ensures.reads.kept c.in_ok-counters.ensures.kept) (search rules)
