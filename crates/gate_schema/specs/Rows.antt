-- What the tables hold, as plain records, and when tables hold it.
use Rattle.std.specs.Prelude.{◌≡◌, ℕ, pos, Bool, if◌then◌else◌, List, [], ◌∷◌, map, drop, filter, Option, IsTrue}
use Rattle.std.specs.Prelude.{codes, length, ◌≤◌}
use Rattle.std.specs.List.{AllByRecursion}
use Rattle.sqlite.specs.Order.{Row}
use Rattle.sqlite.specs.State.{State}
use Rattle.sqlite.specs.Tree.{Trees}
use Rattle.sqlite.specs.Values.{or_null}
use Rattle.sqlite.specs.declared.types.Value.{Value}
use Rattle.sqlite.specs.declared.types.Value.TheVariants.{Null, Int, Text as Words, Blob as Octets}
use Rattle.sqlite_catalog.specs.Listing.{Lists}
use Rattle.sqlite_keyed.specs.Keyed.{IsKeyedBy}
use Rattle.sqlite_trees.specs.Objects.{catalog_tree}
use Rattle.sqlite_trees.specs.Tree.{IsTable, rowid}
use Rattle.sqlite_trees.specs.View.{is_int}
use Rattle.gate_types.specs.Counters.{Drawn}
use Rattle.gate_types.specs.Names.{same_name}
use Rattle.gate_types.specs.declared.config.Job.{Job}
use Rattle.gate_types.specs.declared.records.Build.{Build}
use Rattle.gate_types.specs.declared.records.Item.{Item}
use Rattle.gate_types.specs.declared.records.Kept.{Kept}
use Rattle.gate_types.specs.declared.rows.ChangeRow.{ChangeRow}
use Rattle.gate_types.specs.declared.rows.LandingRow.{LandingRow}
use Rattle.gate_types.specs.declared.rows.ReportRow.{ReportRow}
use Rattle.gate_schema.specs.Schema.{gate_schema}
use Rattle.gate_types.specs.Words.{stage_word}
use Rattle.gate_schema.specs.AheadText.{ahead_text}
use Rattle.gate_types.specs.History.{verdict_word, landing_place}
use Rattle.gate_types.specs.BuildText.{outcome_word}

-- ---- the rows, where a record of the gate isn't one

-- a queue, its place in the settings, from 0, and its window
pub record QueueRow : Type 0 where
  pub name : List ℕ
  pub place : ℕ
  pub window : ℕ

-- a need of a change, and its place among the change's needs, from 0
pub record NeedRow : Type 0 where
  pub change : ℕ
  pub place : ℕ
  pub needed : ℕ

-- an item, and its queue
pub record ItemRow : Type 0 where
  pub queue : List ℕ
  pub item : Item

-- a landing at its place, and its queue
pub record QueueLanding : Type 0 where
  pub queue : List ℕ
  pub row : LandingRow

-- a report at its place, and its queue
pub record QueueReport : Type 0 where
  pub queue : List ℕ
  pub row : ReportRow

-- a job of the plan under a serial, and its place in the plan, from 0
pub record JobRow : Type 0 where
  pub serial : ℕ
  pub place : ℕ
  pub job : Job

-- all that the tables hold: a list a table
pub record Stored : Type 0 where
  pub settings : List ℕ
  pub counters : Drawn
  pub queues : List QueueRow
  pub changes : List ChangeRow
  pub needs : List NeedRow
  pub items : List ItemRow
  pub builds : List Build
  pub landings : List QueueLanding
  pub reports : List QueueReport
  pub kept : List Kept
  pub jobs : List JobRow
  pub fast : List ℕ

-- ---- their keys, where the key is the rowid

abbrev pub change_key : ChangeRow → ℕ
change_key c = c.change.number

abbrev pub item_key : ItemRow → ℕ
item_key i = i.item.serial

abbrev pub build_key : Build → ℕ
build_key b = b.number

-- the serial of an item that fails fast
abbrev pub fast_key : ℕ → ℕ
fast_key n = n

-- ---- their columns; a row with a key has its rowid in front, and NULL in the key's column

abbrev pub bit : Bool → ℕ
bit b = if b then 1 else 0

abbrev pub number_or_null : Option ℕ → Value
number_or_null o = or_null (λ n. Int (pos n)) o

-- a word and a word, as in `meta`
abbrev pub pair_of_words : List ℕ → List ℕ → Row
pair_of_words key value = Words key ∷ Words value ∷ []

-- the version of these tables
abbrev pub schema_version : List ℕ
schema_version = codes "2"

-- the version of the tables before them, which had no plans
abbrev pub first_version : List ℕ
first_version = codes "1"

abbrev pub meta_columns : List ℕ → List Row
meta_columns settings =
    pair_of_words (codes "format") (codes "gate") ∷ pair_of_words (codes "schema") schema_version ∷
    pair_of_words (codes "settings") settings ∷ []

-- a word and a number, as in `counter`
abbrev pub word_and_number : List ℕ → ℕ → Row
word_and_number key value = Words key ∷ Int (pos value) ∷ []

abbrev pub counter_columns : Drawn → List Row
counter_columns d =
    word_and_number (codes "approval") d.approval ∷ word_and_number (codes "build") d.build ∷
    word_and_number (codes "order") d.order ∷ []

abbrev pub queue_columns : QueueRow → Row
queue_columns q = Words q.name ∷ Int (pos q.place) ∷ Int (pos q.window) ∷ []

abbrev pub change_table_row : ChangeRow → Row
change_table_row c =
    Int (pos c.change.number) ∷ Null ∷ Words c.change.project ∷ Int (pos c.change.revision) ∷
    Words (stage_word c.change.stage) ∷ number_or_null c.approval ∷ []

abbrev pub need_columns : NeedRow → Row
need_columns n = Int (pos n.change) ∷ Int (pos n.place) ∷ Int (pos n.needed) ∷ []

abbrev pub item_table_row : ItemRow → Row
item_table_row i =
    Int (pos i.item.serial) ∷ Null ∷ Words i.queue ∷ Int (pos i.item.change) ∷ Int (pos i.item.revision) ∷
    number_or_null i.item.ahead ∷ Int (pos (bit i.item.failing)) ∷ []

abbrev pub build_table_row : Build → Row
build_table_row b =
    Int (pos b.number) ∷ Null ∷ Words b.queue ∷ Int (pos b.serial) ∷ Int (pos b.change) ∷ Int (pos b.revision) ∷
    Words b.job ∷ Int (pos b.after) ∷ Words (ahead_text b.ahead) ∷ Words (outcome_word b.outcome) ∷
    Int (pos (bit b.live)) ∷ []

abbrev pub landing_columns : QueueLanding → Row
landing_columns l =
    Words l.queue ∷ Int (pos l.row.place) ∷ Int (pos l.row.landing.serial) ∷ Int (pos l.row.landing.change) ∷
    Int (pos l.row.landing.revision) ∷ []

abbrev pub report_columns : QueueReport → Row
report_columns r =
    Words r.queue ∷ Int (pos r.row.place) ∷ Int (pos r.row.report.serial) ∷ Int (pos r.row.report.change) ∷
    Int (pos r.row.report.revision) ∷ Words (verdict_word r.row.report.verdict) ∷
    number_or_null (landing_place r.row.report.verdict) ∷ []

abbrev pub kept_columns : Kept → Row
kept_columns k = Octets k.id.0 ∷ Words k.said ∷ Words k.reply ∷ []

abbrev pub job_columns : JobRow → Row
job_columns j = Int (pos j.serial) ∷ Int (pos j.place) ∷ Words j.job.name ∷ Int (pos (bit j.job.voting)) ∷ []

abbrev pub fast_table_row : ℕ → Row
fast_table_row n = Int (pos n) ∷ Null ∷ []

-- ---- tables and lists

-- the rowids are numbers that rise
abbrev pub IsNumbered : List Row → Type 0
IsNumbered rows = IsTable rows × AllByRecursion (λ r. IsTrue (is_int (rowid r))) rows

-- a table whose key is the rowid
pub record IsKeyed {X : Type 0} (key : X → ℕ) (row : X → Row) (rows : List Row) (xs : List X) : Type 0 where
  pub rows_are : rows ≡ map row xs
  pub in_order : IsKeyedBy (λ x. pos (key x)) xs

-- a table whose rowids tell nothing: in the order in which they were written
pub record IsListed {X : Type 0} (columns : X → Row) (rows : List Row) (xs : List X) : Type 0 where
  pub columns_are : map (drop 1) rows ≡ map columns xs
  pub numbered : IsNumbered rows

-- a table whose rows are always these, in the order in which they were made
pub record IsFixed (columns : List Row) (rows : List Row) : Type 0 where
  pub columns_are : map (drop 1) rows ≡ columns
  pub numbered : IsNumbered rows

-- the tables hold this and nothing else
pub record Stands (db : Trees) (b : Stored) : Type 0 where
  pub listed : Lists (db catalog_tree) gate_schema
  pub meta : IsFixed (meta_columns b.settings) (db 0)
  pub counter : IsFixed (counter_columns b.counters) (db 2)
  pub queue : IsListed queue_columns (db 4) b.queues
  pub change : IsKeyed change_key change_table_row (db 7) b.changes
  pub need : IsListed need_columns (db 9) b.needs
  pub item : IsKeyed item_key item_table_row (db 11) b.items
  pub build : IsKeyed build_key build_table_row (db 13) b.builds
  pub landing : IsListed landing_columns (db 14) b.landings
  pub report : IsListed report_columns (db 18) b.reports
  pub delivery : IsListed kept_columns (db 21) b.kept
  pub job : IsListed job_columns (db 26) b.jobs
  pub fast : IsKeyed fast_key fast_table_row (db 28) b.fast

-- ---- within a transaction

-- a transaction is under way, on the gate's schema
pub record IsReady (s : State) : Type 0 where
  pub schema_is : s.now.schema ≡ gate_schema
  pub inside : IsTrue s.in_transaction

-- no two queues have one name
abbrev pub AreNamed : Stored → Type 0
AreNamed b = (name : List ℕ) → length (filter (λ q. same_name q.name name) b.queues) ≤ 1

-- what the tables hold is changed so
pub record Changes (old new : State) (change : Stored → Stored) : Type 0 where
  pub ready : IsReady new
  pub named : (b : Stored) → AreNamed b → AreNamed (change b)
  pub stands : (b : Stored) → AreNamed b → Stands old.now.trees b → Stands new.now.trees (change b)
