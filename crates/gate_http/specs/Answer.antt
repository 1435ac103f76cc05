-- What the plain gate answers to a request, and the gate after it.
use Rattle.std.specs.Prelude.{ℕ, ◌≡◌, Bool, false, ◌==◌, if◌then◌else◌, List, [], Option, Some, None, option_map}
use Rattle.std.specs.Prelude.{option_and_then, Result, Ok, Err}
use Rattle.gate_types.specs.declared.records.Id.{Id}
use Rattle.gate_types.specs.declared.records.Build.{Build}
use Rattle.gate_types.specs.declared.deliveries.Delivery.{Delivery}
use Rattle.gate_types.specs.declared.deliveries.Answer.{Answer}
use Rattle.gate_types.specs.declared.deliveries.Answer.TheVariants.{Said, Refused}
use Rattle.gate_types.specs.declared.deliveries.Refusal.{Refusal}
use Rattle.gate_types.specs.declared.deliveries.Refusal.TheVariants as refusal
use Rattle.gate_types.specs.Once.{Call, Content, once, answer_of}
use Rattle.gate_types.specs.State.{known_change}
use Rattle.gate_types.specs.Step.{build_of}
use Rattle.gate_types.specs.Status.{status_text}
use Rattle.gate_types.specs.OrderList.{order_list_text}
use Rattle.gate_types.specs.BuildText.{build_text}
use Rattle.gate_types.specs.History.{history_text}
use Rattle.gate_wire.specs.Reading.{says}
use Rattle.gate_book_trait.specs.Reads.{queue_named}
use Rattle.gate_archive.specs.ChangeText.{change_text}
use Rattle.gate_archive.specs.ItemText.{item_text}
use Rattle.gate_archive.specs.RunningBuilds.{running_text}
use Rattle.gate_archive.specs.HistoryFrom.{history_from}
use Rattle.gate_archive.specs.Feed.{fed, feed_text, id_named}
use Rattle.gate_core.specs.Replies.{call_read}
use Rattle.gate_http.specs.declared.respond.Page.TheVariants as pages
use Rattle.gate_http.specs.declared.respond.AnswerIfAny.{AnswerIfAny}
use Rattle.gate_http.specs.declared.respond.AnswerIfAny.TheVariants as told
use Rattle.gate_http.specs.declared.response.Form.{Form}
use Rattle.gate_http.specs.declared.served.Served.{Served}
use Rattle.gate_http.specs.declared.served.Served.TheVariants.{Nothing, Answered}
use Rattle.gate_http.specs.Digits.{number_up_to}
use Rattle.gate_http.specs.Faults.{fault_status}
use Rattle.gate_http.specs.Asked.{Asked, delivery, page, build, change, item, media_of, told_status, Streamed}
use Rattle.gate_http.specs.Asked.{whole_history, later_history, all_deliveries, later_deliveries}
use Rattle.gate_http.specs.Way.{Way, silence, refusal as refusing, question, stream}
use Rattle.gate_http.specs.Response.{fault_in, told_in, stream_in, failure_in}
use Rattle.gate_types.specs.Counters.{last_number}
use Rattle.gate_types.specs.Limits.{most_listed}
use Rattle.gate_types.specs.Gated.{Gated}

-- ---- what is told at once

-- the number of a build in a path
abbrev pub build_number : List ℕ → Option ℕ
build_number text = number_up_to last_number text

-- the number of a change in a path
abbrev pub change_number : List ℕ → Option ℕ
change_number text = number_up_to 999999999 text

-- the serial of an item in a path
abbrev pub item_serial : List ℕ → Option ℕ
item_serial text = number_up_to last_number text

-- the answer to what was read of a delivery
abbrev pub answer_read : Gated → Result (Id × Delivery) Refusal → Answer
answer_read g (Ok x) = answer_of g.settings g.content (record { id = x.0; delivery = x.1; unavailable = false })
answer_read g (Err e) = Refused e

-- the answer to a build that was looked for
abbrev pub answer_found : Option Build → Answer
answer_found None = Refused refusal.UnknownBuild
answer_found (Some b) = Said (build_text b)

-- the text of a change that is known
abbrev pub change_said : Gated → ℕ → Option (List ℕ)
change_said g n = option_map (change_text g.settings g.content.state) (known_change g.content.state n)

-- the answer with the text of a change that was looked for
abbrev pub answer_known : Option (List ℕ) → Answer
answer_known None = Refused refusal.UnknownChange
answer_known (Some text) = Said text

-- what is told with the text of an item that was looked for
abbrev pub told_item : Option (List ℕ) → AnswerIfAny
told_item None = told.NoItem
told_item (Some text) = told.Answer (Said text)

-- the answer to what is asked
abbrev pub answer_asked : Gated → Asked → AnswerIfAny
answer_asked g (delivery door body) = told.Answer (answer_read g (says door body))
answer_asked g (page pages.Status) = told.Answer (Said (status_text g.settings g.content.state))
answer_asked g (page pages.Orders) = told.Answer (Said (order_list_text g.settings g.content.state))
answer_asked g (page pages.Running) = told.Answer (Said (running_text g.content.state))
answer_asked g (build text) =
    told.Answer (answer_found (option_and_then (build_of g.content.state) (build_number text)))
answer_asked g (change text) = told.Answer (answer_known (option_and_then (change_said g) (change_number text)))
answer_asked g (item text) = told_item (option_and_then (item_text g.settings g.content.state) (item_serial text))

-- the same, or `unavailable`
abbrev pub answer_to : Bool → Gated → Asked → AnswerIfAny
answer_to unavailable g asked =
    if unavailable then told.Answer (Refused refusal.Unavailable) else answer_asked g asked

-- ---- what is written line by line

-- the accepted deliveries behind that of an id, at most 1,000
abbrev pub fed_behind : Content → Id → Option (List ℕ)
fed_behind x id = option_map feed_text (fed (Some id) most_listed x.kept)

-- the lines that are asked for, if there is such a queue, or such a delivery
abbrev pub stream_of : Content → Streamed → Option (List ℕ)
stream_of x (whole_history name) = option_map history_text (queue_named x.state name)
stream_of x (later_history name place) = option_map (history_from place) (queue_named x.state name)
stream_of x all_deliveries = option_map feed_text (fed None most_listed x.kept)
stream_of x (later_deliveries text) = option_and_then (fed_behind x) (id_named text)

-- the status of the answer with it
abbrev pub stream_status : Option (List ℕ) → ℕ
stream_status None = 404
stream_status (Some text) = 200

-- ---- the gate after it

-- the call that is made by what is asked: none but by a delivery
abbrev pub calls_asked : Bool → Asked → List Call
calls_asked unavailable (delivery door body) = call_read unavailable (says door body)
calls_asked unavailable (page p) = []
calls_asked unavailable (build text) = []
calls_asked unavailable (change text) = []
calls_asked unavailable (item text) = []

-- the gate after calls
abbrev pub gate_after : Gated → List Call → Gated
gate_after g calls = record g { content = once g.settings g.content calls }

-- the call that a request makes
abbrev pub calls_made : Bool → Way → List Call
calls_made unavailable silence = []
calls_made unavailable (refusing f e) = []
calls_made unavailable (question asked) = calls_asked unavailable asked
calls_made unavailable (stream wanted) = []

-- ---- the answer

-- whether a request is answered, and by which status
abbrev pub served_as : Bool → Gated → Way → Served
served_as unavailable g silence = Nothing
served_as unavailable g (refusing f e) = Answered (fault_status f)
served_as unavailable g (question asked) = Answered (told_status (answer_to unavailable g asked))
served_as unavailable g (stream wanted) =
    Answered (if unavailable then 503 else stream_status (stream_of g.content wanted))

-- the answer to a request, as a response or its content alone
abbrev pub answer : Form → Bool → Gated → Way → List ℕ
answer form unavailable g silence = []
answer form unavailable g (refusing f e) = fault_in form f e
answer form unavailable g (question asked) = told_in form (media_of asked) (answer_to unavailable g asked)
answer form unavailable g (stream wanted) =
    if unavailable then failure_in form else stream_in form wanted (stream_of g.content wanted)

-- no other status than 503 is `unavailable`
abbrev pub is_503 : Served → Bool
is_503 Nothing = false
is_503 (Answered status) = status == 503

-- a request may be answered by this text, and the gate is this one then
pub record AnswersBy (form : Form) (g : Gated) (w : Way) (served : Served) (text : List ℕ)
    (after : Gated) : Type 0 where
  pub status : served ≡ served_as (is_503 served) g w
  pub said : text ≡ answer form (is_503 served) g w
  pub stands : after ≡ gate_after g (calls_made (is_503 served) w)
