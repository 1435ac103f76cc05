-- What the reads show of a row that isn't a record of its table.
use Rattle.std.specs.Prelude.{ℕ, pos, [], ◌∷◌}
use Rattle.sqlite.specs.Order.{Row}
use Rattle.sqlite.specs.declared.types.Value.TheVariants.{Int, Text as Words}
use Rattle.gate_types.specs.declared.config.Job.{Job}
use Rattle.gate_types.specs.declared.records.Change.{Change}
use Rattle.gate_types.specs.declared.records.Kept.{Kept}
use Rattle.gate_types.specs.declared.records.Ready.{Ready}
use Rattle.gate_types.specs.declared.rows.ChangeRow.{ChangeRow}
use Rattle.gate_schema.specs.Rows.{JobRow, bit, number_or_null}
use Rattle.gate_types.specs.Words.{stage_word}

-- a change that is ready
abbrev pub ready_shown : Ready → Row
ready_shown r = Int (pos r.approval) ∷ Int (pos r.change) ∷ []

-- a number
abbrev pub number_shown : ℕ → Row
number_shown n = Int (pos n) ∷ []

-- a change, without its number and its needs
abbrev pub change_shown : Change → Row
change_shown k = Words k.project ∷ Int (pos k.revision) ∷ Words (stage_word k.stage) ∷ []

-- the number of a change's approval, NULL where there is none
abbrev pub approval_shown : ChangeRow → Row
approval_shown r = number_or_null r.approval ∷ []

-- a job
abbrev pub job_shown : Job → Row
job_shown j = Words j.name ∷ Int (pos (bit j.voting)) ∷ []

-- a job behind the serial of its plan
abbrev pub planned_shown : JobRow → Row
planned_shown x = Int (pos x.serial) ∷ job_shown x.job

-- a kept delivery, without its id
abbrev pub kept_shown : Kept → Row
kept_shown k = Words k.said ∷ Words k.reply ∷ []
