-- When what the file's tables hold answers each read as a content does.
use Rattle.std.specs.Prelude.{◌≡◌, ℕ, List}
use Rattle.gate_types.specs.Once.{Content}
use Rattle.gate_types.specs.Settings.{Settings}
use Rattle.gate_types.specs.State.{known_change}
use Rattle.gate_types.specs.Step.{build_of}
use Rattle.gate_types.specs.Tables.{approval_of}
use Rattle.gate_types.specs.declared.records.Ready.{Ready}
use Rattle.gate_schema.specs.Rows.{Stored}
use Rattle.gate_rows.specs.Matches.{items_of}
use Rattle.gate_book_trait.specs.Reads as content
use Rattle.gate_found_rows.specs.Asked as file

-- each read of the tables is that of the content
pub record IsAnsweredBy (b : Stored) (c : Settings) (x : Content) : Type 0 where
  -- the items of a queue, front to back
  pub items : (name : List ℕ) → items_of name b.items ≡ content.items_in c x.state name
  -- the item of a serial
  pub item : (serial : ℕ) → file.stored_item_at b serial ≡ content.item_at c x.state serial
  -- the item of a change, with its queue's name
  pub queued : (n : ℕ) → file.stored_queued_of b n ≡ content.queued_of c x.state n
  -- the items of a queue above a serial whose changes need another
  pub needing : (name : List ℕ) (n serial : ℕ) → file.stored_items_needing b name n serial ≡
      content.items_needing x.state n serial (content.items_in c x.state name)
  -- what is known of a change
  pub change : (n : ℕ) → file.stored_change b n ≡ known_change x.state n
  -- the number of a change's approval, while it is ready
  pub approval : (n : ℕ) → file.stored_approval_of b n ≡ approval_of x.state.ready n
  -- the changes that are ready, in order of approval
  pub ready : (found : List Ready) → file.AreReadyByApproval b found → found ≡ x.state.ready
  -- those of them that need another
  pub ready_needing : (n : ℕ) (found : List Ready) → file.AreReadyNeeding b n found →
      found ≡ content.ready_needing x.state n
  -- the build of a number
  pub build : (n : ℕ) → file.stored_build_of b n ≡ build_of x.state n
  -- the plan under a serial
  pub plan : (serial : ℕ) → file.stored_plan_at b serial ≡ content.plan_at x.state serial
  -- the live builds of a serial
  pub live_builds : (serial : ℕ) → file.stored_live_builds b serial ≡ content.live_builds x.state serial
  -- the plans of the items of a queue above one serial, up to another
  pub plans_between : (name : List ℕ) (above last : ℕ) → file.plans_between b name above last ≡
      content.plans_of_items x.state (content.items_between above last (content.items_in c x.state name))
  -- their live builds
  pub builds_between : (name : List ℕ) (above last : ℕ) → file.builds_between b name above last ≡
      content.builds_of_items x.state (content.items_between above last (content.items_in c x.state name))
  -- the window of a queue
  pub window : (name : List ℕ) → file.stored_window_of b name ≡ content.window_of x.state name
  -- how many landings it has
  pub landing_count : (name : List ℕ) → file.last_landing b name ≡ content.landing_count x.state name
  -- how many reports a queue has made
  pub reports : (name : List ℕ) → file.last_report b name ≡ content.reports_in x.state name
  -- how many landings of a queue have a lower serial
  pub landing_before : (name : List ℕ) (serial : ℕ) →
      file.landing_before b name serial ≡ content.landings_before x.state name serial
  -- the last number drawn of each kind
  pub counters : b.counters ≡ x.state.counters
  -- what is kept of deliveries
  pub kept : b.kept ≡ x.kept
