-- A build as a worker reads it.
use Rattle.std.specs.Prelude.{ℕ, List, [], ◌∷◌, ◌++◌, codes}
use Rattle.gate_types.specs.declared.records.Build.{Build}
use Rattle.gate_types.specs.declared.records.Outcome.{Outcome}
use Rattle.gate_types.specs.declared.records.Outcome.TheVariants as outcome
use Rattle.gate_types.specs.JsonText.{number, plain, boolean, member, object}
use Rattle.gate_types.specs.ReplyText.{build_members}

-- the word of an outcome
abbrev pub outcome_word : Outcome → List ℕ
outcome_word outcome.Running = codes "running"
outcome_word outcome.Success = codes "success"
outcome_word outcome.Failure = codes "failure"
outcome_word outcome.Lost = codes "lost"

-- the text
abbrev pub build_text : Build → List ℕ
build_text b = object (build_members b ++
    member (codes "live") (boolean b.live) ∷ member (codes "outcome") (plain (outcome_word b.outcome)) ∷
    member (codes "queue") (plain b.queue) ∷ member (codes "revision") (number b.revision) ∷ []) []
