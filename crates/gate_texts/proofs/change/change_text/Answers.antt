use Rattle.std.proofs.Common.{Some, ◌∙◌, ap, sym, rules}
use Rattle.std.specs.Prelude.{find, option_copied, option_map}
use Rattle.gate_types.specs.Names.{same_name}
use Rattle.gate_types.specs.declared.config.Project.{Project}
use Rattle.gate_archive.specs.ChangeText.{change_text}
use Rattle.gate_book_trait.proofs.ReadingLemmas.{is_read_under}
use Rattle.gate_texts.proofs.ChangeTexts.{queue_is, project_there}
use Rattle.gate_texts.proofs.change.change_text.Goals as goal

pub returns-in_default-project : goal.returns-in_default-project
returns-in_default-project g c = is_read_under (λ trusted x holds lawful.
    let s = c.args.config.now in
    let known = sym (c.in_ok-change.ensures.found trusted s x holds lawful) ∙ c.in-Some.is in
    absurd (project_there s x.state lawful.lawful.sound c.args.number c.in-Some.change known
    (ap (λ n. find (λ (p : Project). same_name p.name n) s.projects) (sym c.as_str.ensures.value)
    ∙ sym c.project.ensures ∙ ap option_copied c.in_default-project.is)))
    (search rules) (search rules)

pub returns : goal.returns
returns g c = is_read_under (λ trusted x holds lawful.
    let s = c.args.config.now in
    let before = c.text_in.ensures.kept.trusted_before trusted in
    let held = c.in_ok-change.ensures.kept.holds_on before s x holds in
    let known = sym (c.in_ok-change.ensures.found before s x holds lawful) ∙ c.in-Some.is in
    let set = ap (λ n. find (λ (p : Project). same_name p.name n) s.projects) (sym c.as_str.ensures.value)
    ∙ sym c.project.ensures ∙ ap option_copied c.in-Some-project.is in
    ap Some (c.in_ok-text_in.ensures.found trusted s x held lawful
    ∙ queue_is s x.state c.args.number c.in-Some.change c.in-Some-project.project.now known set)
    ∙ sym (ap (option_map (change_text s x.state)) known))
    (search rules) (search rules)
