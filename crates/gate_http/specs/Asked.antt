-- What is asked of the gate, and the status and the text of what is told.
use Rattle.std.specs.Prelude.{ℕ, Bool, false, List}
use Rattle.gate_types.specs.declared.deliveries.Answer.{Answer}
use Rattle.gate_types.specs.declared.deliveries.Answer.TheVariants as answer
use Rattle.gate_types.specs.Once.{answer_text, is_unavailable}
use Rattle.gate_types.specs.Refusals.{refusal_row}
use Rattle.gate_wire.specs.declared.door.Door.{Door}
use Rattle.gate_http.specs.declared.response.Media.{Media}
use Rattle.gate_http.specs.declared.response.Media.TheVariants as media
use Rattle.gate_http.specs.declared.fault.HttpFault.{HttpFault}
use Rattle.gate_http.specs.declared.fault.HttpFault.TheVariants as fault
use Rattle.gate_http.specs.declared.respond.Page.{Page}
use Rattle.gate_http.specs.declared.respond.Page.TheVariants as pages
use Rattle.gate_http.specs.declared.respond.Stream.{Stream}
use Rattle.gate_http.specs.declared.respond.Stream.TheVariants as stream
use Rattle.gate_http.specs.declared.respond.AnswerIfAny.{AnswerIfAny}
use Rattle.gate_http.specs.declared.respond.AnswerIfAny.TheVariants as told
use Rattle.gate_http.specs.Faults.{fault_status, fault_text}

-- a delivery's bytes by a door, a page, or the build, the change or the item that a text names
pub data Asked : Type 0 where
  delivery : Door → List ℕ → Asked
  page : Page → Asked
  build : List ℕ → Asked
  change : List ℕ → Asked
  item : List ℕ → Asked

-- what is written line by line: the history of the queue of a name, whole or from a place on; and the accepted
-- deliveries, all or those behind the one of the id that a text writes
pub data Streamed : Type 0 where
  whole_history : List ℕ → Streamed
  later_history : List ℕ → ℕ → Streamed
  all_deliveries : Streamed
  later_deliveries : List ℕ → Streamed

-- the lines that are asked for
abbrev pub streamed_by : Stream → Streamed
streamed_by (stream.History name) = whole_history name.now
streamed_by (stream.HistoryFrom name place) = later_history name.now place
streamed_by stream.Deliveries = all_deliveries
streamed_by (stream.DeliveriesAfter text) = later_deliveries text.now

-- what is answered where there is nothing of the kind
abbrev pub missing_of : Streamed → HttpFault
missing_of (whole_history name) = fault.NoQueue
missing_of (later_history name place) = fault.NoQueue
missing_of all_deliveries = fault.NoDelivery
missing_of (later_deliveries text) = fault.NoDelivery

-- in which form it is answered: the status text is plain text
abbrev pub media_of : Asked → Media
media_of (page pages.Status) = media.Plain
media_of (page pages.Orders) = media.Json
media_of (page pages.Running) = media.Json
media_of (delivery door bytes) = media.Json
media_of (build number) = media.Json
media_of (change number) = media.Json
media_of (item number) = media.Json

-- each reply and each text has the status 200, a refusal its own
abbrev pub answer_status : Answer → ℕ
answer_status (answer.Said text) = 200
answer_status (answer.Refused r) = (refusal_row r).status

-- the status of what is told
abbrev pub told_status : AnswerIfAny → ℕ
told_status (told.Answer a) = answer_status a
told_status told.NoItem = fault_status fault.NoItem

-- its text
abbrev pub told_text : AnswerIfAny → List ℕ
told_text (told.Answer a) = answer_text a
told_text told.NoItem = fault_text fault.NoItem

-- whether it is `unavailable`
abbrev pub tells_unavailable : AnswerIfAny → Bool
tells_unavailable (told.Answer a) = is_unavailable a
tells_unavailable told.NoItem = false
