-- An item, there or gone, with its builds, as JSON: which job failed, and what shows a landing.
use Rattle.std.specs.Prelude.{ℕ, ◌==◌, ◌-◌, List, [], ◌∷◌, map, filter, find, length, drop, Option, Some, None}
use Rattle.std.specs.Prelude.{option_map, flat_map, codes}
use Rattle.std.specs.Option.{option_or}
use Rattle.gate_types.specs.declared.config.Job.{Job}
use Rattle.gate_types.specs.declared.records.Build.{Build}
use Rattle.gate_types.specs.declared.records.Slot.{Slot}
use Rattle.gate_types.specs.declared.records.Verdict.{Verdict}
use Rattle.gate_types.specs.Settings.{Settings}
use Rattle.gate_types.specs.State.{State}
use Rattle.gate_types.specs.Line.{Place}
use Rattle.gate_types.specs.Slot.{slot_of}
use Rattle.gate_types.specs.Standing.{all_places}
use Rattle.gate_types.specs.JsonText.{Piece, number, plain, boolean, array, member, object}
use Rattle.gate_types.specs.Status.{slot_word}
use Rattle.gate_types.specs.BuildText.{outcome_word}
use Rattle.gate_types.specs.History.{verdict_word}
use Rattle.gate_book_trait.specs.Reads.{queued_items}
use Rattle.gate_book_trait.specs.declared.rows.QueuedItem.{QueuedItem}
use Rattle.gate_archive.specs.declared.rows.BuildSummary.{BuildSummary}
use Rattle.gate_archive.specs.declared.rows.LeftItem.{LeftItem}
use Rattle.gate_archive.specs.OrNull.{or_null}
use Rattle.gate_types.specs.Limits.{most_listed}

-- ---- what an item was

-- the item of a serial, with its queue's name
abbrev pub queued_at : Settings → State → ℕ → Option QueuedItem
queued_at c s serial = find (λ k. k.item.serial == serial) (queued_items c s)

-- the reports of all queues, each with its queue's name
abbrev pub left_items : State → List LeftItem
left_items s = flat_map (λ q. map (λ r. record { queue = q.name; report = r }) q.reports) s.queues

-- the report of the item of a serial that left, with its queue's name
abbrev pub left_at : State → ℕ → Option LeftItem
left_at s serial = find (λ l. l.report.serial == serial) (left_items s)

-- what is told of an item: its queue, its change at a revision, and why it left
pub record ItemSummary : Type 0 where
  pub queue : List ℕ
  pub change : ℕ
  pub revision : ℕ
  pub verdict : Option Verdict

-- of one that is queued
abbrev pub told_queued : QueuedItem → ItemSummary
told_queued k = record { queue = k.queue; change = k.item.change; revision = k.item.revision; verdict = None }

-- of one that left
abbrev pub told_left : LeftItem → ItemSummary
told_left l =
    record {
      queue = l.queue;
      change = l.report.change;
      revision = l.report.revision;
      verdict = Some l.report.verdict;
    }

-- of a serial
abbrev pub told_of : Settings → State → ℕ → Option ItemSummary
told_of c s serial = option_or (option_map told_queued (queued_at c s serial)) (option_map told_left (left_at s serial))

-- ---- its jobs

-- the place of an item, while it is queued
abbrev pub place_at : Settings → State → ℕ → Option Place
place_at c s serial = find (λ p. p.item.serial == serial) (all_places c s)

-- a job, and what it has come to, as in the status
abbrev pub job_object : Job → Slot → Piece
job_object j slot = object (
    member (codes "job") (plain j.name) ∷ member (codes "slot") (plain (slot_word slot)) ∷
    member (codes "voting") (boolean j.voting) ∷ [])

-- a job of a place
abbrev pub job_piece : List Build → Place → Job → Piece
job_piece builds p j = job_object j (slot_of builds p j)

-- the jobs of a place
abbrev pub jobs_piece : List Build → Place → Piece
jobs_piece builds p = array (map (job_piece builds p) p.jobs)

-- ---- its builds

-- all builds of a serial, live or not, by number
abbrev pub builds_of : State → ℕ → List Build
builds_of s serial = filter (λ b. b.serial == serial) s.builds

-- what is told of a build
abbrev pub summary_of : Build → BuildSummary
summary_of b = record { number = b.number; job = b.job; live = b.live; outcome = b.outcome }

-- the last of a list, no more than this many
abbrev pub last_of : {X : Type 0} → ℕ → List X → List X
last_of most xs = drop (length xs - most) xs

-- the last builds of a serial, by number
abbrev pub last_builds : State → ℕ → ℕ → List BuildSummary
last_builds s serial most = map summary_of (last_of most (builds_of s serial))

-- a build
abbrev pub summary_piece : BuildSummary → Piece
summary_piece b = object (
    member (codes "build") (number b.number) ∷ member (codes "job") (plain b.job) ∷
    member (codes "live") (boolean b.live) ∷ member (codes "outcome") (plain (outcome_word b.outcome)) ∷ [])

-- ---- the text

-- an item of which this is told, with its builds, how many are kept, its jobs, and why it left
abbrev pub item_object : ℕ → ItemSummary → Piece → ℕ → Piece → Piece → Piece
item_object serial t builds kept jobs verdict = object (
    member (codes "builds") builds ∷ member (codes "change") (number t.change) ∷ member (codes "jobs") jobs ∷
    member (codes "kept") (number kept) ∷ member (codes "order") (number serial) ∷
    member (codes "queue") (plain t.queue) ∷ member (codes "revision") (number t.revision) ∷
    member (codes "verdict") verdict ∷ [])

-- its text
abbrev pub item_text_of : Settings → State → ℕ → ItemSummary → List ℕ
item_text_of c s serial t =
    item_object serial t (array (map summary_piece (last_builds s serial most_listed))) (length (builds_of s serial))
    (or_null (jobs_piece s.builds) (place_at c s serial)) (or_null (λ v. plain (verdict_word v)) t.verdict) []

-- the text of the item of a serial, where one was drawn
abbrev pub item_text : Settings → State → ℕ → Option (List ℕ)
item_text c s serial = option_map (item_text_of c s serial) (told_of c s serial)
