use Rattle.std.proofs.Common.{◌≡◌, ◌∙◌, sym, ap, subst, refl, List, ℕ, true, not, map, Some, rules}
use Rattle.std.specs.Prelude.{find, option_copied}
use Rattle.std.specs.List.{list_all}
use Rattle.std.proofs.lemmas.Option.{none-some}
use Rattle.gate_types.specs.Names.{same_name}
use Rattle.gate_types.specs.Settings.{are_sound}
use Rattle.gate_types.specs.State.{change_of, need_of, is_open}
use Rattle.gate_types.specs.Standing.{needs_of}
use Rattle.gate_laws.proofs.Members.{every, contains_in}
use Rattle.gate_book_trait.specs.Reads.{items_in}
use Rattle.gate_book_trait.proofs.KeptLemmas.{then}
use Rattle.gate_book_trait.proofs.ReadingLemmas.{is_read_under}
use Rattle.gate_admission.specs.Known.{has_place}
use Rattle.gate_admission.specs.Enters.{AreMetWithRoom, is_met_by_rows}
use Rattle.gate_admission.proofs.ReadyList.{open_known}
use Rattle.gate_admission.proofs.Admitted.{are_named, no_project, in_project, queue_is, project_is, needs_are}
use Rattle.gate_admission.proofs.ProjectQueue.{queue_there}
use Rattle.gate_admission.proofs.entering.if_may_enter.Goals as goal

pub returns-in_default : goal.returns-in_default
returns-in_default g c = is_read_under (λ trusted x holds lawful v led there.
    let s = c.args.config.now in
    let known = c.in_ok-change.ensures.found trusted s x holds lawful v led in
    let open_one = open_known v c.args.ready.change
    (every (λ r. is_open (change_of v r.change) ≡ true) v.ready led.sound.ready_are_open c.args.ready
    (contains_in v.ready c.args.ready there)) in
    absurd (none-some open_one.0 (sym c.in_default.is ∙ known ∙ open_one.1)))
    (search rules) (search rules)

pub returns-in_default-project : goal.returns-in_default-project
returns-in_default-project g c = is_read_under (λ trusted x holds lawful v led there.
    let s = c.args.config.now in
    let sound : are_sound s ≡ true = search rules in
    let named = are_named s x v sound lawful led.sound in
    let known = sym c.in-Some.is ∙ c.in_ok-change.ensures.found trusted s x holds lawful v led in
    no_project s v c.args.ready named
    (ap (λ (n : List ℕ). find (λ p. same_name p.name n) s.projects)
    (sym (project_is v c.args.ready.change (Some c.in-Some.change) known) ∙ sym c.as_str.ensures.value)
    ∙ sym c.project.ensures ∙ ap option_copied c.in_default-project.is))
    (search rules) (search rules)

pub returns-in_default-2 : goal.returns-in_default-2
returns-in_default-2 g c = is_read_under (λ trusted x holds lawful v led there.
    let s = c.args.config.now in
    let n = c.args.ready.change in
    let sound : are_sound s ≡ true = search rules in
    let named = are_named s x v sound lawful led.sound in
    let one = c.in_ok-fine.ensures.kept.trusted_before trusted in
    let zero = c.in_ok-needs.ensures.kept.trusted_before one in
    let known = sym c.in-Some.is ∙ c.in_ok-change.ensures.found zero s x holds lawful v led in
    let next = c.in_ok-change.ensures.kept.holds_on zero s x holds in
    let then = c.in_ok-needs.ensures.kept.holds_on one s x next in
    let p = c.in-Some-project.project.now in
    let project = ap (λ (m : List ℕ). find (λ p. same_name p.name m) s.projects)
    (sym (project_is v n (Some c.in-Some.change) known) ∙ sym c.as_str.ensures.value) ∙ sym c.in-Some-project.ensures in
    let queue = queue_there s v sound led.sound (change_of v n).project p project in
    let needs = c.as_slice-2.ensures.value ∙ c.in_ok-needs.ensures.found one s x next lawful v led
    ∙ ap (map (need_of v)) c.as_slice.ensures ∙ needs_are v n (Some c.in-Some.change) known in
    let place = subst (AreMetWithRoom s v p.queue c.as_slice-2.result.now) c.in_default-2.is
    (c.in_ok-fine.ensures.found trusted s x then lawful v led queue) in
    in_project s v c.args.ready p named project ∙ ap (has_place v p.queue) (sym needs) ∙ place)
    (let two = then c.in_ok-change.ensures.kept c.in_ok-needs.ensures.kept in
    then two c.in_ok-fine.ensures.kept) (search rules)

pub returns : goal.returns
returns g c = is_read_under (λ trusted x holds lawful v led.
    let s = c.args.config.now in
    let n = c.args.ready.change in
    let sound : are_sound s ≡ true = search rules in
    let named = are_named s x v sound lawful led.sound in
    let one = c.in_ok-fine.ensures.kept.trusted_before trusted in
    let zero = c.in_ok-needs.ensures.kept.trusted_before one in
    let known = sym c.in-Some.is ∙ c.in_ok-change.ensures.found zero s x holds lawful v led in
    let next = c.in_ok-change.ensures.kept.holds_on zero s x holds in
    let then = c.in_ok-needs.ensures.kept.holds_on one s x next in
    let p = c.in-Some-project.project.now in
    let project = ap (λ (m : List ℕ). find (λ p. same_name p.name m) s.projects)
    (sym (project_is v n (Some c.in-Some.change) known) ∙ sym c.as_str.ensures.value) ∙ sym c.in-Some-project.ensures in
    let queue = queue_there s v sound led.sound (change_of v n).project p project in
    let needs = c.as_slice-2.ensures.value ∙ c.in_ok-needs.ensures.found one s x next lawful v led
    ∙ ap (map (need_of v)) c.as_slice.ensures ∙ needs_are v n (Some c.in-Some.change) known in
    let place = subst (AreMetWithRoom s v p.queue c.as_slice-2.result.now) c.in-Some-2.is
    (c.in_ok-fine.ensures.found trusted s x then lawful v led queue) in (
      refl,
      record {
        may = in_project s v c.args.ready p named project ∙ ap (has_place v p.queue) (sym needs) ∙ place.0;
        known = sym known;
        project = project;
        failing = ap not (place.1 ∙ ap (list_all (is_met_by_rows (items_in s v p.queue))) needs
            ∙ ap (λ name. list_all (is_met_by_rows (items_in s v name)) (needs_of v n)) (queue_is s v n p project));
      },
    ))
    (then (then c.in_ok-change.ensures.kept c.in_ok-needs.ensures.kept) c.in_ok-fine.ensures.kept) (search rules)

pub returns-in_err-needs : goal.returns-in_err-needs
returns-in_err-needs g c =
    is_read_under (search rules) (then c.in_ok-change.ensures.kept c.in_err-needs.ensures.kept) (search rules)

pub returns-in_err-fine : goal.returns-in_err-fine
returns-in_err-fine g c = is_read_under (search rules)
    (let two = then c.in_ok-change.ensures.kept c.in_ok-needs.ensures.kept in
    then two c.in_err-fine.ensures.kept) (search rules)
