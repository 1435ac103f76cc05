-- The settings as one text: compact JSON, members in byte order of their names, lists in the order of the file.
-- Defaults are written out, but for those of a queue's rule and of `fail_fast`.
use Rattle.std.specs.Prelude.{ℕ, Bool, ◌==◌, not, if◌then◌else◌, List, [], ◌∷◌, ◌++◌, codes}
use Rattle.gate_types.specs.declared.config.Job.{Job}
use Rattle.gate_types.specs.declared.config.Queue.{Queue}
use Rattle.gate_types.specs.declared.config.Project.{Project}
use Rattle.gate_types.specs.Settings.{Settings, is_linear, pace_word}
use Rattle.gate_types.specs.JsonText.{Piece, number, plain, escaped, boolean, member, object, listed}

-- a job
abbrev pub job_text : Job → List ℕ
job_text j = object (member (codes "name") (plain j.name) ∷ member (codes "voting") (boolean j.voting) ∷ []) []

-- a member, unless it says the default
abbrev pub unless : Bool → Piece → List Piece
unless is_default piece = if is_default then [] else piece ∷ []

-- a project
abbrev pub project_text : Project → List ℕ
project_text p = object (
    unless (not p.fail_fast) (member (codes "fail_fast") (boolean p.fail_fast)) ++
    member (codes "jobs") (listed job_text p.jobs) ∷ member (codes "name") (plain p.name) ∷
    member (codes "queue") (plain p.queue) ∷ []) []

-- a queue
abbrev pub queue_text : Queue → List ℕ
queue_text q = (let r = q.rule in object (
    unless (not (is_linear r.decrease)) (member (codes "decrease") (plain (pace_word r.decrease))) ++ (
    unless (r.decrease_by == 2) (member (codes "decrease_by") (number r.decrease_by)) ++
    member (codes "floor") (number q.floor) ∷ (
    unless (is_linear r.increase) (member (codes "increase") (plain (pace_word r.increase))) ++ (
    unless (r.increase_by == 1) (member (codes "increase_by") (number r.increase_by)) ++
    member (codes "name") (plain q.name) ∷ member (codes "window") (number q.window) ∷ [])))) [])

-- the settings
abbrev pub settings_text : Settings → List ℕ
settings_text c = object (
    member (codes "base") (escaped c.base) ∷ member (codes "projects") (listed project_text c.projects) ∷
    member (codes "queues") (listed queue_text c.queues) ∷ []) []
