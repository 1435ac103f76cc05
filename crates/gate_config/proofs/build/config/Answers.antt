use Rattle.std.proofs.Common.{◌≡◌, ◌∙◌, map, refl}
use Rattle.toml.specs.View.{view}
use Rattle.gate_config.specs.Document.{said_queue, said_project, queues_of, projects_of, base_of}
use Rattle.gate_config.specs.Rules.{is_bad_queue, is_bad_project}
use Rattle.gate_config.proofs.DocumentLemmas.{none_of_values, made_of_values}
use Rattle.gate_config.proofs.SoundLemmas.{keeps_rules, queues_are_good, projects_are_good, settings_are_sound}
use Rattle.gate_config.proofs.build.config.Goals as goal

pub queues-requires : goal.queues-requires
queues-requires c =
    let d = view c.args.document.now in
    none_of_values is_bad_queue _ _ c.queues_of.ensures (queues_are_good d (keeps_rules d c.requires))

pub projects-requires : goal.projects-requires
projects-requires c =
    let d = view c.args.document.now in
    none_of_values is_bad_project _ _ c.projects_of.ensures (projects_are_good d (keeps_rules d c.requires))

pub invariant_of-result : goal.invariant_of-result
invariant_of-result c =
    let d = view c.args.document.now in
    let queues : c.from_vec.result ≡ map said_queue (queues_of d) =
    c.from_vec.ensures ∙ c.in_ok-queues.ensures ∙ made_of_values said_queue _ _ c.queues_of.ensures in
    let projects : c.from_vec-2.result ≡ map said_project (projects_of d) =
    c.from_vec-2.ensures ∙ c.in_ok-projects.ensures ∙ made_of_values said_project _ _ c.projects_of.ensures in
    rw (queues, projects) (settings_are_sound d (keeps_rules d c.requires))

pub returns : goal.returns
returns c =
    let d = view c.args.document.now in
    let base : c.in_ok-base.base ≡ base_of d = c.in_ok-base.ensures ∙ c.base_of.ensures in
    let queues : c.from_vec.result ≡ map said_queue (queues_of d) =
    c.from_vec.ensures ∙ c.in_ok-queues.ensures ∙ made_of_values said_queue _ _ c.queues_of.ensures in
    let projects : c.from_vec-2.result ≡ map said_project (projects_of d) =
    c.from_vec-2.ensures ∙ c.in_ok-projects.ensures ∙ made_of_values said_project _ _ c.projects_of.ensures in
    rw (base, queues, projects) refl
