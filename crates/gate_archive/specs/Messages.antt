-- What `{}` prints of a fault.
use Rattle.std.specs.Prelude.{ℕ, List, codes}
use Rattle.gate_archive.specs.declared.fault.FeedFault.{FeedFault}
use Rattle.gate_archive.specs.declared.fault.FeedFault.TheVariants as fault

abbrev pub feed_fault_message : FeedFault → List ℕ
feed_fault_message fault.NoDelivery = codes "no accepted delivery has the id"
feed_fault_message fault.Unavailable = codes "the store failed or memory was refused, and nothing was written"
feed_fault_message fault.Broken = codes "the store failed or memory was refused, and a beginning was written"
feed_fault_message fault.Write = codes "the writer failed, and a beginning was written"
