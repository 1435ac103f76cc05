-- The queues that are held, changed one by one.
use Rattle.std.proofs.Common.{◌≡◌, ℕ, suc, List, refl, arith}
use Rattle.gate_types.specs.declared.records.Landing.{Landing}
use Rattle.gate_types.specs.declared.records.Report.{Report}
use Rattle.gate_types.specs.declared.edits.Edit.{Edit}
use Rattle.gate_types.specs.declared.edits.Edit.TheVariants as edit
use Rattle.gate_types.specs.Tables.{edited_queue}
use Rattle.gate_memory.specs.Queues as queue
use Rattle.gate_memory.specs.declared.queues.QueueTable.{QueueTable}
use Rattle.gate_memory.proofs.RoomLemmas.{queue_fewer}
use Rattle.gate_book_trait.proofs.Finding.{in_weaker}
use Rattle.gate_live.specs.Live.{bare, edited_live_queue, landings_after, reports_after}
use Rattle.gate_live.specs.Held.{HasRoomInEach, HasRoomIn, queue_of}
use Rattle.gate_live.specs.declared.held.Held.{Held}
use Rattle.gate_live.specs.declared.held_queue.HeldQueue.{HeldQueue}

-- where there is room for more, there is room for one
pub queue_one : (n : ℕ) (q : HeldQueue) → HasRoomIn (suc n) q → HasRoomIn 1 q
queue_one n q room = queue_fewer (suc n) 1 q.table (omega arith) room

pub room_one : (n : ℕ) (h : Held) → HasRoomInEach (suc n) h → HasRoomInEach 1 h
room_one n h room = in_weaker (HasRoomIn (suc n)) (HasRoomIn 1) (λ q r. queue_one n q r) h.queues.items room

-- an edit that puts no landing leaves the place of the last
no_landing : (name : List ℕ) (n : ℕ) (e : Edit) → ((q : List ℕ) (place : ℕ) (l : Landing) → e ≡ edit.PutLanding q place l → ⊥) → n ≡ landings_after name n e
no_landing name n (edit.PutLanding q place l) not = absurd (not q place l refl)
no_landing name n _ not = refl

-- and so of a report
no_report : (name : List ℕ) (n : ℕ) (e : Edit) → ((q : List ℕ) (place : ℕ) (r : Report) → e ≡ edit.PutReport q place r → ⊥) → n ≡ reports_after name n e
no_report name n (edit.PutReport q place r) not = absurd (not q place r refl)
no_report name n _ not = refl

-- after any other edit all that changes is in the table
pub table_edited : (e : Edit) (old : HeldQueue) (t : QueueTable) → queue.rows_of_table t ≡ edited_queue e (queue.rows_of_table old.table) →
    ((q : List ℕ) (place : ℕ) (l : Landing) → e ≡ edit.PutLanding q place l → ⊥) →
    ((q : List ℕ) (place : ℕ) (r : Report) → e ≡ edit.PutReport q place r → ⊥) →
    queue_of (record old { table = t }) ≡ edited_live_queue e (queue_of old)
table_edited e old t rows landing report = λ i. record {
  rows = bare (rows i);
  landings = no_landing old.table.name old.landings e landing i;
  reports = no_report old.table.name old.reports e report i;
}
