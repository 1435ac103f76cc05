use Rattle.std.proofs.Common.{◌∙◌, Option, Some, List, ℕ, ap, sym, rules}
use Rattle.std.specs.Prelude.{find}
use Rattle.std.specs.Option.{option_or}
use Rattle.gate_types.specs.declared.records.Change.{Change}
use Rattle.gate_types.specs.Names.{same_name}
use Rattle.gate_types.specs.State.{known_change, known_or_closed}
use Rattle.gate_book_trait.proofs.ReadingLemmas.{is_read_under}
use Rattle.gate_admission.specs.Seen.{at_last, last_stage}
use Rattle.gate_admission.proofs.Led.{known_led}
use Rattle.gate_admission.proofs.Rows.{same_project}
use Rattle.gate_admission.proofs.known_changes.project_after.Goals as goal

pub returns-in-Some : goal.returns-in-Some
returns-in-Some g c = is_read_under (λ trusted x holds lawful v led.
    let s = c.args.config.now in
    let n = c.args.number in
    let g = last_stage n c.args.edits.now in
    let known = ap (λ o. at_last g (option_or o (known_change x.state n))) c.in-Some.ensures
    ∙ known_led s x c.args.edits.now v n led in
    c.project.ensures ∙ ap (λ (m : List ℕ). find (λ p. same_name p.name m) s.projects) c.as_str.ensures.value
    ∙ ap (λ (m : List ℕ). find (λ p. same_name p.name m) s.projects) (sym (same_project g (Some c.in-Some.change.now)))
    ∙ ap (λ (o : Option Change). find (λ p. same_name p.name (known_or_closed o).project) s.projects) known)
    (search rules) (search rules)

pub returns-in_ok-known-in-None : goal.returns-in_ok-known-in-None
returns-in_ok-known-in-None g c = is_read_under (λ trusted x holds lawful v led.
    let s = c.args.config.now in
    let n = c.args.number in
    let g = last_stage n c.args.edits.now in
    let known = ap (at_last g) (c.in_ok-known-in-None.ensures.found trusted s x holds lawful
    ∙ ap (λ o. option_or o (known_change x.state n)) c.in-None.ensures)
    ∙ known_led s x c.args.edits.now v n led in
    c.project_of.ensures
    ∙ ap (λ (m : List ℕ). find (λ p. same_name p.name m) s.projects) (sym (same_project g c.in_ok-known-in-None.known))
    ∙ ap (λ (o : Option Change). find (λ p. same_name p.name (known_or_closed o).project) s.projects) known)
    (search rules) (search rules)
