use Rattle.std.proofs.Common.{◌≡◌, Some, map, take}
use Rattle.std.specs.Prelude.{option_map}
use Rattle.std.specs.List.{AllByRecursion}
use Rattle.gate_types.specs.Tables.{tables}
use Rattle.gate_book_trait.specs.Kept.{OfHeld, IsKept}
use Rattle.gate_book_trait.specs.RowReads.{rows_named}
use Rattle.gate_live.specs.Live.{live_queue}
use Rattle.gate_live.specs.Held.{IsKeptQueue, queue_of}
use Rattle.gate_live.proofs.filling.read_queues.Given as goal

abbrev pub invariant-loop-setting : goal.invariant-loop-setting
invariant-loop-setting g l = record {
  sound : AllByRecursion IsKeptQueue l.queues.items;
  kept : IsKept g.B.Book.IsTrusted g.B.Book.Holds g.B.Book.LeavesOneOf l.fn.book l.book;
  told : OfHeld g.B.Book.IsTrusted g.B.Book.Holds l.fn.book l.book (λ c x. map Some (map queue_of l.queues.items)
      ≡ map (λ r. option_map live_queue (rows_named (tables c x).queues r.name)) (take l.setting-index l.settings));
}
