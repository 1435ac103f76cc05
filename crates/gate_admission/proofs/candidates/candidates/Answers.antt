use Rattle.std.proofs.Common.{◌∙◌, ap, rules}
use Rattle.std.specs.List.{fold}
use Rattle.std.specs.Ordering.{nat_cmp}
use Rattle.std.specs.BTreeMap.{get, is_at}
use Rattle.std.specs.Map.{lookup}
use Rattle.gate_book_trait.proofs.ReadingLemmas.{is_read}
use Rattle.gate_admission.specs.Candidates.{change_under}
use Rattle.gate_admission.proofs.Waiting.{candidates_of}
use Rattle.gate_admission.proofs.candidates.candidates.Goals as goal

pub returns : goal.returns
returns g c = is_read (λ trusted s x holds lawful v led enters.
    let rows = c.in_ok-rows.rows.items in
    let first = c.new-waiting.result in
    candidates_of s v first c.add_all.new.waiting rows led.sound
    (λ a. ap (λ es. lookup (is_at (nat_cmp a)) es) c.new-waiting.ensures.empty)
    (λ a. c.in_ok-add_all.ensures a ∙ ap (fold (change_under a) (get nat_cmp first a)) c.as_slice.ensures.value)
    (c.in_ok-rows.ensures.found trusted s x holds lawful v led enters))
    (search rules) (search rules)
