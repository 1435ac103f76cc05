use Rattle.std.proofs.Common.{◌≡◌, ap, ◌∙◌, map, refl}
use Rattle.std.proofs.lemmas.Bool.{or_parts, not-false}
use Rattle.toml.specs.View.{view}
use Rattle.gate_types.specs.Names.{is_name, is_path_name}
use Rattle.gate_config.specs.Document.{said_job, jobs_of, name_of, queue_named_by}
use Rattle.gate_config.specs.Rules.{has_bad_name}
use Rattle.gate_config.proofs.DocumentLemmas.{none_of_values, made_of_values}
use Rattle.gate_config.proofs.build.project.Goals as goal

pub path_name-requires : goal.path_name-requires
path_name-requires c =
    let (names, queue) = or_parts _ _ c.requires in
    let (name, jobs) = or_parts _ _ names in
    ap is_path_name c.name_of.ensures ∙ not-false _ name

pub name-requires : goal.name-requires
name-requires c =
    let (names, queue) = or_parts _ _ c.requires in
    ap is_name c.queue_named_by.ensures ∙ not-false _ queue

pub jobs-requires : goal.jobs-requires
jobs-requires c =
    let (names, queue) = or_parts _ _ c.requires in
    let (name, jobs) = or_parts _ _ names in
    none_of_values has_bad_name _ _ c.jobs_of.ensures jobs

pub returns : goal.returns
returns c =
    let name : c.in_ok-path_name.path_name ≡ name_of (view c.args.value.now) = c.in_ok-path_name.ensures ∙ c.name_of.ensures in
    let queue : c.in_ok-queue.queue ≡ queue_named_by (view c.args.value.now) = c.in_ok-queue.ensures ∙ c.queue_named_by.ensures in
    let jobs : c.from_vec.result ≡ map said_job (jobs_of (view c.args.value.now)) =
    c.from_vec.ensures ∙ c.in_ok-jobs.ensures ∙ made_of_values said_job _ _ c.jobs_of.ensures in
    rw (name, queue, jobs, c.is_fast.ensures) refl
