use Rattle.std.proofs.Common.{◌≡◌, ◌∙◌, ap, rules}
use Rattle.std.specs.List.{fold}
use Rattle.std.specs.Ordering.{nat_cmp}
use Rattle.std.specs.BTreeMap.{get}
use Rattle.gate_book_trait.proofs.ReadingLemmas.{is_read}
use Rattle.gate_admission.specs.Candidates.{put_ready, left_needing, change_under}
use Rattle.gate_admission.proofs.LetIn.{put_are_ready, left_are_ready, needing_is_there}
use Rattle.gate_admission.proofs.Waiting.{others_and}
use Rattle.gate_admission.proofs.candidates.add_needing.Goals as goal

pub returns : goal.returns
returns g c = is_read (λ trusted s x holds lawful v led others.
    let n = c.args.change in
    let edits = c.args.edits.now in
    let put : c.as_slice.result.now ≡ put_ready edits = c.as_slice.ensures.value ∙ c.in_ok-put.ensures in
    let left : c.as_slice-2.result.now ≡ left_needing x.state edits n =
    c.as_slice-2.ensures.value ∙ c.in_ok-left.ensures.found trusted s x holds lawful in
    let old = c.args.waiting.now in
    let mid = c.add_all.new.waiting in
    others_and s v n old mid c.add_all-2.new.waiting (put_ready edits) (left_needing x.state edits n) led.sound others
    (λ a. c.in_ok-add_all.ensures a ∙ ap (fold (change_under a) (get nat_cmp old a)) put)
    (λ a. c.in_ok-add_all-2.ensures a ∙ ap (fold (change_under a) (get nat_cmp mid a)) left)
    (put_are_ready s x edits v lawful.lawful.sound led)
    (left_are_ready s x edits v lawful.lawful.sound led n)
    (needing_is_there s x edits v lawful.lawful.sound led n))
    (search rules) (search rules)
