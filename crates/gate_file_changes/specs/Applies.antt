-- What edits make of the tables of a connection, all or none.
use Rattle.std.specs.Prelude.{◌≡◌, ◌<◌, ◌⊎◌, ℕ, Bool, true, List, length, map}
use Rattle.std.specs.List.{list_all, list_any}
use Rattle.sqlite.specs.State.{HasCleanDisk, State}
use Rattle.sqlite.specs.Tree.{Trees}
use Rattle.sqlite_catalog.specs.Listing.{IsSound}
use Rattle.gate_types.specs.Forms.{IsLawfulContent}
use Rattle.gate_types.specs.Names.{same_name}
use Rattle.gate_types.specs.Once.{Content}
use Rattle.gate_types.specs.Settings.{Settings}
use Rattle.gate_types.specs.State.{Queue}
use Rattle.gate_types.specs.Tables.{Leads, Tables, fold_all}
use Rattle.gate_types.specs.declared.edits.Edit.{Edit}
use Rattle.gate_types.specs.declared.edits.Edit.TheVariants as edit
use Rattle.gate_schema.specs.Edits.{after_edits}
use Rattle.gate_schema.specs.Rows.{AreNamed, Changes, IsReady, QueueRow, Stands, Stored}
use Rattle.gate_schema.specs.Schema.{gate_schema}
use Rattle.gate_rows.specs.Matches.{HaveJobs, StandsFor, Matches}
use Rattle.gate_table_laws.specs.Held.{ShowsFor, queue_names}

-- ---- the queues that edits name

-- one of these is the name
abbrev pub is_among : List (List ℕ) → List ℕ → Bool
is_among names name = list_any (λ other. same_name other name) names

-- the queue that an edit names, if any, is one of these
abbrev pub is_known : List (List ℕ) → Edit → Bool
is_known names (edit.PutItem name i) = is_among names name
is_known names (edit.PutLanding name n l) = is_among names name
is_known names (edit.PutReport name n r) = is_among names name
is_known names (edit.SetWindow name w) = is_among names name
is_known names _ = true

-- and so it is for each of the edits
abbrev pub are_known : List (List ℕ) → List Edit → Bool
are_known names edits = list_all (is_known names) edits

-- ---- what the edits lead to

-- a content has the queues of the settings, and its plans have jobs; edits of these queues lead to another
pub record IsLedTo (c : Settings) (x : Content) (edits : List Edit) (y : Content) : Type 0 where
  pub queues_are_set : map (λ (q : Queue). q.name) x.state.queues ≡ queue_names c
  pub planned : HaveJobs x.state.plans
  pub known : are_known (queue_names c) edits ≡ true
  pub leads : Leads c x edits y

-- sound tables stand for such a content
pub record CanLead (db : Trees) (c : Settings) (x : Content) (edits : List Edit) (y : Content) : Type 0 where
  pub sound : IsSound gate_schema db
  pub stands : StandsFor db c x
  pub led : IsLedTo c x edits y

-- within a transaction: tables that stand for a content are made to stand for the one that the edits lead to
pub record TurnsInto (old new : State) (edits : List Edit) : Type 0 where
  pub ready : IsReady new
  pub stands : (c : Settings) (x y : Content) → CanLead old.now.trees c x edits y → StandsFor new.now.trees c y

-- the names of the queues that the tables hold
abbrev pub names_in : Stored → List (List ℕ)
names_in b = map (λ (q : QueueRow). q.name) b.queues

-- edits of queues that are there change what the tables hold, and tell what they held, where plans have jobs; they
-- leave no plan without
pub record Steps (old new : State) (edits : List Edit) : Type 0 where
  pub changes : Changes old new (after_edits edits)
  pub planned : (b : Stored) (t : Tables) → AreNamed b → Stands old.now.trees b →
      HaveJobs t.plans → HaveJobs (fold_all t edits).plans
  pub told : (b : Stored) (t : Tables) → AreNamed b → Stands old.now.trees b →
      are_known (names_in b) edits ≡ true → HaveJobs t.plans → Matches b t →
      Matches (after_edits edits b) (fold_all t edits)

-- ---- what a call leaves

-- what is so of the content that edits lead to, from one that a connection showed
abbrev pub OfLed : State → State → List Edit → (Settings → Content → Type 0) → Type 0
OfLed old new edits P =
    HasCleanDisk new → (c : Settings) (x y : Content) → ShowsFor old c x → IsLedTo c x edits y → P c y

-- the same from a lawful content, under the settings of queues of these names
abbrev pub OfLawful : State → State → List (List ℕ) → List Edit → (Settings → Content → Type 0) → Type 0
OfLawful old new names edits P =
    HasCleanDisk new → (c : Settings) (x y : Content) → names ≡ queue_names c → ShowsFor old c x →
    IsLawfulContent c x → Leads c x edits y → P c y

-- where there was an edit, a crash leaves tables that stand for the content
abbrev pub LeavesTurned : List Edit → State → Settings → Content → Type 0
LeavesTurned edits s c y = 0 < length edits → (db : Trees) → s.may_leave db → StandsFor db c y

-- a crash leaves what it could leave before, or tables that stand for the content
abbrev pub LeavesOrStands : State → State → Settings → Content → Type 0
LeavesOrStands old new c y = (db : Trees) → new.may_leave db → old.may_leave db ⊎ StandsFor db c y
