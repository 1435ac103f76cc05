-- What a gate last said, and when it is still true.
use Rattle.std.specs.Prelude.{◌≡◌, true, false, None, IfSome}
use Rattle.gate_types.specs.declared.deliveries.Refusal.{Refusal}
use Rattle.gate_types.specs.declared.deliveries.Refusal.TheVariants as refusal
use Rattle.gate_types.specs.Choice.{choose}
use Rattle.gate_types.specs.Once.{Content}
use Rattle.gate_types.specs.OrderList.{order_list_text}
use Rattle.gate_types.specs.Settings.{Settings}
use Rattle.gate_types.specs.Status.{status_text}
use Rattle.gate_book_trait.specs.declared.fault.HistoryFault.{HistoryFault}
use Rattle.gate_book_trait.specs.declared.fault.HistoryFault.TheVariants as fault
use Rattle.gate_archive.specs.declared.fault.FeedFault.{FeedFault}
use Rattle.gate_archive.specs.declared.fault.FeedFault.TheVariants as feed
use Rattle.gate_core.specs.declared.recent.Recent.{Recent}

-- each text that is kept is the content's, and nobody can be given a build where that is kept
pub record IsTrueOf (r : Recent) (c : Settings) (x : Content) : Type 0 where
  pub status : IfSome r.status (λ text. text ≡ status_text c x.state)
  pub orders : IfSome r.orders (λ text. text ≡ order_list_text c x.state)
  pub idle : r.idle ≡ true → choose c x.state ≡ None

-- nothing is kept
pub record KeepsNothing (r : Recent) : Type 0 where
  pub status : r.status ≡ None
  pub orders : r.orders ≡ None
  pub idle : r.idle ≡ false

-- all but the status, which was made anew, is kept as before
abbrev pub KeepsButStatus : Recent → Recent → Type 0
KeepsButStatus old new = (new.orders ≡ old.orders) × (new.idle ≡ old.idle)

-- all but the orders
abbrev pub KeepsButOrders : Recent → Recent → Type 0
KeepsButOrders old new = (new.status ≡ old.status) × (new.idle ≡ old.idle)

-- what a refused read leaves of it: nothing after a fault of the book, else all
abbrev pub AfterRefusal : Recent → Recent → Refusal → Type 0
AfterRefusal old new refusal.Unavailable = KeepsNothing new
AfterRefusal old new _ = new ≡ old

-- what a history that isn't written whole leaves of it: nothing after a fault of the book, else all
abbrev pub AfterFault : Recent → Recent → HistoryFault → Type 0
AfterFault old new fault.NoQueue = new ≡ old
AfterFault old new fault.Write = new ≡ old
AfterFault old new _ = KeepsNothing new

-- what a list of deliveries that isn't written whole leaves of it: nothing after a fault of the book, else all
abbrev pub AfterFeedFault : Recent → Recent → FeedFault → Type 0
AfterFeedFault old new feed.NoDelivery = new ≡ old
AfterFeedFault old new feed.Write = new ≡ old
AfterFeedFault old new _ = KeepsNothing new
