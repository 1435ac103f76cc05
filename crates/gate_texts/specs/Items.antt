-- What is told of an item, by what a book tells.
use Rattle.std.specs.Prelude.{ℕ, ◌≡◌, Bool, ◌&&◌, not, List, [], map, Option, Some, None, option_map, string_bytes}
use Rattle.gate_types.specs.declared.config.Job.{Job}
use Rattle.gate_types.specs.declared.records.Build.{Build}
use Rattle.gate_types.specs.Settings.{Settings}
use Rattle.gate_types.specs.State.{State, plan_of}
use Rattle.gate_types.specs.JsonText.{Piece, joined}
use Rattle.gate_types.specs.History.{verdict_word}
use Rattle.gate_types.specs.declared.records.Verdict.{Verdict}
use Rattle.gate_book_trait.specs.declared.rows.QueuedItem.{QueuedItem}
use Rattle.gate_book_trait.specs.Reads.{live_builds}
use Rattle.gate_archive.specs.OrNull.{or_null}
use Rattle.gate_archive.specs.ItemText.{ItemSummary, told_of, job_object, jobs_piece, place_at, item_object}
use Rattle.gate_texts.specs.Ahead.{is_blocked_by_key}
use Rattle.gate_texts.specs.Lines.{slot_by}
use Rattle.gate_texts.specs.Values.{written, bracketed, name_text}
use Rattle.gate_texts.specs.declared.item.WrittenItem.{WrittenItem}

-- ---- its jobs

-- a job, by the live builds of the item, and whether it is cut
abbrev pub job_told : Bool → List Build → Job → Piece
job_told cut builds j = job_object j (slot_by cut builds j)

-- jobs with commas between
abbrev pub jobs_told : Bool → List Build → List Job → List ℕ
jobs_told cut builds jobs = joined (map (job_told cut builds) jobs) []

-- whether an item is cut
abbrev pub is_cut_by_key : Settings → State → QueuedItem → Bool
is_cut_by_key c s k = (plan_of s k.item.serial).fast && not (is_blocked_by_key c s k) && k.item.failing

-- its jobs
abbrev pub jobs_by_key : Settings → State → QueuedItem → Piece
jobs_by_key c s k =
    bracketed (jobs_told (is_cut_by_key c s k) (live_builds s k.item.serial) (plan_of s k.item.serial).jobs)

-- ---- the item

-- the word of a verdict in quotes, or null
abbrev pub verdict_text : Option Verdict → List ℕ
verdict_text verdict = name_text (option_map verdict_word verdict)

-- what is told of an item, beside its jobs
abbrev pub told_summary : WrittenItem → ItemSummary
told_summary t = record { queue = t.queue; change = t.change; revision = t.revision; verdict = t.verdict }

-- an item, its builds, and how many are kept
abbrev pub item_told : ℕ → WrittenItem → List ℕ → ℕ → Piece
item_told serial t builds kept =
    item_object serial (told_summary t) (bracketed builds) kept (written (string_bytes t.jobs))
    (written (verdict_text t.verdict))

-- the item of a serial, there or gone, and its jobs
pub record IsToldOf (c : Settings) (s : State) (serial : ℕ) (t : WrittenItem) : Type 0 where
  pub told : told_of c s serial ≡ Some (told_summary t)
  pub jobs : string_bytes t.jobs ≡ or_null (jobs_piece s.builds) (place_at c s serial) []

-- there is one just where one was drawn
abbrev pub TellsItem : Settings → State → ℕ → Option WrittenItem → Type 0
TellsItem c s serial (Some t) = IsToldOf c s serial t
TellsItem c s serial None = told_of c s serial ≡ None
