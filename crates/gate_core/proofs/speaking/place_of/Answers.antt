use Rattle.std.proofs.Common.{rules, ◌≡◌, ◌∙◌, None, Some, List, ℕ, true, refl, ap, sym}
use Rattle.std.specs.Prelude.{◌==◌, find, option_copied}
use Rattle.gate_types.specs.Names.{same_name}
use Rattle.gate_types.specs.Settings.{are_sound}
use Rattle.gate_types.specs.State.{known_change}
use Rattle.gate_book_trait.specs.Reads.{items_in}
use Rattle.gate_admission.specs.Led.{IsLed}
use Rattle.gate_admission.proofs.Admitted.{are_named, project_is, queue_is}
use Rattle.gate_admission.proofs.ProjectQueue.{queue_there}
use Rattle.gate_book_trait.proofs.ReadingLemmas.{is_read_under}
use Rattle.gate_core.proofs.Placed.{told_place, told_nowhere}
use Rattle.gate_core.proofs.speaking.place_of.Goals as goal

pub returns-in_default : goal.returns-in_default
returns-in_default g c = is_read_under (λ trusted x holds lawful u sound leads.
    let s = c.args.config.now in
    let n = c.args.change in
    let set : are_sound s ≡ true = search rules in
    let led : IsLed s x c.args.edits.now u = record { sound = sound; leads = leads } in
    let none = ap (λ (m : List ℕ). find (λ p. same_name p.name m) s.projects)
    (sym (project_is u n (known_change u n) refl))
    ∙ sym (c.in_ok-project.ensures.found trusted x holds lawful u led) ∙ ap option_copied c.in_default.is in
    told_nowhere s u set sound n (are_named s x u set lawful sound) none)
    (search rules) (search rules)

pub returns-in-Some-2 : goal.returns-in-Some-2
returns-in-Some-2 g c = is_read_under (λ trusted x holds lawful u sound leads.
    let s = c.args.config.now in
    let n = c.args.change in
    let p = c.in-Some.project.now in
    let set : are_sound s ≡ true = search rules in
    let led : IsLed s x c.args.edits.now u = record { sound = sound; leads = leads } in
    let before = c.in_ok-item.ensures.kept.trusted_before trusted in
    let there = c.in_ok-project.ensures.kept.holds_on before s x holds in
    let some = ap (λ (m : List ℕ). find (λ p. same_name p.name m) s.projects)
    (sym (project_is u n (known_change u n) refl))
    ∙ sym (c.in_ok-project.ensures.found before x holds lawful u led) ∙ ap option_copied c.in-Some.is in
    let row = c.in_ok-item.ensures.found trusted s x there lawful u led (queue_there s u set sound _ p some) in
    told_place s u set sound n (Some c.in-Some-2.item)
    (sym c.in-Some-2.is ∙ row ∙ ap (λ m. find (λ r. r.change == n) (items_in s u m)) (queue_is s u n p some)))
    (search rules) (search rules)

pub returns-in-None : goal.returns-in-None
returns-in-None g c = is_read_under (λ trusted x holds lawful u sound leads.
    let s = c.args.config.now in
    let n = c.args.change in
    let p = c.in-Some.project.now in
    let set : are_sound s ≡ true = search rules in
    let led : IsLed s x c.args.edits.now u = record { sound = sound; leads = leads } in
    let before = c.in_ok-item.ensures.kept.trusted_before trusted in
    let there = c.in_ok-project.ensures.kept.holds_on before s x holds in
    let some = ap (λ (m : List ℕ). find (λ p. same_name p.name m) s.projects)
    (sym (project_is u n (known_change u n) refl))
    ∙ sym (c.in_ok-project.ensures.found before x holds lawful u led) ∙ ap option_copied c.in-Some.is in
    let row = c.in_ok-item.ensures.found trusted s x there lawful u led (queue_there s u set sound _ p some) in
    told_place s u set sound n None
    (sym c.in-None.is ∙ row ∙ ap (λ m. find (λ r. r.change == n) (items_in s u m)) (queue_is s u n p some)))
    (search rules) (search rules)
