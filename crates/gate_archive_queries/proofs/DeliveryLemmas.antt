-- What is left of lines of deliveries where they are cut off.
use Rattle.std.proofs.Common.{◌≢◌, ℕ, List, ◌++◌, Option, Ok, Err, Result, IsTrue}
use Rattle.std.specs.Prelude.{MatchResult}
use Rattle.sqlite.specs.State.{State}
use Rattle.gate_types.specs.declared.tap.Tap.{Tap}
use Rattle.gate_archive.specs.Writes.{TookSome}
use Rattle.gate_archive.specs.declared.fault.FeedFault.{FeedFault}
use Rattle.gate_archive.specs.declared.fault.FeedFault.TheVariants as fault
use Rattle.gate_found_rows.specs.Finds.{OnlyReads}
use Rattle.gate_found_rows.proofs.SilentLemmas.{plain_only_reads}
use Rattle.gate_schema.specs.Schema.{gate_schema}
use Rattle.gate_archive_queries.specs.Deliveries.{CutsDeliveries, CutsPart}
use Rattle.gate_archive_queries.proofs.DeliveryReads.{all_asks, all_sql, behind_asks, behind_sql}
use Rattle.gate_queue_queries.proofs.StreamLemmas.{sooner_some}

-- the queries only read, whatever the tables are
pub all_reads : OnlyReads all_sql
all_reads = plain_only_reads gate_schema all_sql all_asks.0.1

pub behind_reads : OnlyReads behind_sql
behind_reads = plain_only_reads gate_schema behind_sql behind_asks.0.1

module _ {W : Type 0} (held : W → Option (List ℕ)) where
  -- where a part is cut, so is the whole
  pub cut_so : (mid old new : Tap W) (part text : List ℕ) (f : FeedFault) → CutsPart held mid new part f → (TookSome held mid new part → TookSome held old new text) → CutsDeliveries held old new text f
  cut_so mid old new part text fault.NoDelivery h so = absurd h
  cut_so mid old new part text fault.Unavailable h so = absurd h
  cut_so mid old new part text fault.Broken h so = so h.0
  cut_so mid old new part text fault.Write h so = so h.0

  -- so it is of the front
  pub front_cut : (old new : Tap W) (front rest : List ℕ) (f : FeedFault) → CutsPart held old new front f → CutsDeliveries held old new (front ++ rest) f
  front_cut old new front rest f h = cut_so old old new front (front ++ rest) f h (λ some. sooner_some _ _ front rest some)

-- where the connection was open, it was so whatever is answered
pub opened_so : (s : State) (result : Result ℕ FeedFault) → IsTrue s.is_open → MatchResult result (λ _. IsTrue s.is_open) (λ f. f ≢ fault.Unavailable → IsTrue s.is_open)
opened_so s (Ok x) up = up
opened_so s (Err f) up = λ _. up
