-- The texts of responses.
use Rattle.std.specs.Prelude.{ℕ, List, [], ◌++◌, length, ◌==◌, if◌then◌else◌, Option, None, Some}
use Rattle.std.specs.Prelude.{codes, decimal}
use Rattle.gate_types.specs.declared.deliveries.Answer.TheVariants.{Refused}
use Rattle.gate_types.specs.declared.deliveries.Refusal.TheVariants as refusal
use Rattle.gate_http.specs.declared.response.Extent.{Extent}
use Rattle.gate_http.specs.declared.response.Extent.TheVariants as extent
use Rattle.gate_http.specs.declared.response.Media.{Media}
use Rattle.gate_http.specs.declared.response.Media.TheVariants as media
use Rattle.gate_http.specs.declared.fault.HttpFault.{HttpFault}
use Rattle.gate_http.specs.declared.fault.HttpFault.TheVariants as fault
use Rattle.gate_http.specs.declared.respond.AnswerIfAny.{AnswerIfAny}
use Rattle.gate_http.specs.declared.respond.AnswerIfAny.TheVariants as told
use Rattle.gate_http.specs.declared.response.Form.{Form}
use Rattle.gate_http.specs.declared.response.Form.TheVariants as form
use Rattle.gate_http.specs.Faults.{fault_status, fault_text}
use Rattle.gate_http.specs.Asked.{Streamed, missing_of, told_status, told_text}

-- the phrase of a status
abbrev pub phrase : ℕ → List ℕ
phrase status =
    if status == 200 then codes "OK" else
    if status == 400 then codes "Bad Request" else
    if status == 404 then codes "Not Found" else
    if status == 405 then codes "Method Not Allowed" else
    if status == 409 then codes "Conflict" else
    if status == 411 then codes "Length Required" else
    if status == 413 then codes "Payload Too Large" else
    if status == 422 then codes "Unprocessable Entity" else
    if status == 431 then codes "Request Header Fields Too Large" else
    if status == 503 then codes "Service Unavailable" else
    if status == 507 then codes "Insufficient Storage" else []

-- the line of the method that a route takes, where it was asked by another
abbrev pub allow_line : HttpFault → List ℕ
allow_line fault.NotPost = codes "Allow: POST\r\n"
allow_line fault.NotGet = codes "Allow: GET\r\n"
allow_line fault.HeadTooLarge = []
allow_line fault.Cut = []
allow_line fault.BadRequest = []
allow_line fault.NoRoute = []
allow_line fault.NoLength = []
allow_line fault.TooLarge = []
allow_line fault.NoQueue = []
allow_line fault.NoItem = []
allow_line fault.NoDelivery = []

-- a line of a head
unfoldable pub head_line : List ℕ → List ℕ → List ℕ
head_line name value = name ++ (value ++ codes "\r\n")

-- its first line
unfoldable pub status_line : ℕ → List ℕ
status_line status = codes "HTTP/1.1 " ++ (decimal status ++ (codes " " ++ (phrase status ++ codes "\r\n")))

-- the head of a response, of this status, type and length of the body, with this line for the method
unfoldable pub head_text : ℕ → List ℕ → ℕ → List ℕ → List ℕ
head_text status kind len allow =
    status_line status
    ++ (head_line (codes "Content-Type: ") kind
    ++ (head_line (codes "Content-Length: ") (decimal len)
    ++ (allow ++ codes "Connection: close\r\n\r\n")))

-- the room that a head needs at most
abbrev pub head_room : ℕ
head_room = 256

-- the type of JSON
abbrev pub json_kind : List ℕ
json_kind = codes "application/json"

-- the type of plain text
abbrev pub plain_kind : List ℕ
plain_kind = codes "text/plain"

-- the content of an answer of HTTP's own
abbrev pub fault_content : HttpFault → Extent → List ℕ
fault_content f extent.Whole = fault_text f
fault_content f extent.Head = []

-- the head of the response with it
abbrev pub fault_head : HttpFault → List ℕ
fault_head f = head_text (fault_status f) json_kind (length (fault_text f)) (allow_line f)

-- the type of what is told; the status text is plain text, all else is JSON
abbrev pub told_kind : Media → AnswerIfAny → List ℕ
told_kind media.Json t = json_kind
told_kind media.Plain t = if told_status t == 200 then plain_kind else json_kind

-- the head of the response with it
abbrev pub told_head : Media → AnswerIfAny → List ℕ
told_head m t = head_text (told_status t) (told_kind m t) (length (told_text t)) []

-- the head of a response that is written line by line, which has no length: its body ends where the connection is
-- closed
unfoldable pub stream_head : List ℕ
stream_head = status_line 200 ++ (head_line (codes "Content-Type: ") plain_kind ++ codes "Connection: close\r\n\r\n")

-- ---- an answer as a response, or its content alone

-- the head that is written
abbrev pub head_in : Form → List ℕ → List ℕ
head_in form.Response head = head
head_in form.Content head = []

-- a head and a content
abbrev pub written_in : Form → List ℕ → List ℕ → List ℕ
written_in a head content = head_in a head ++ content

-- the answer of HTTP's own
abbrev pub fault_in : Form → HttpFault → Extent → List ℕ
fault_in a f e = written_in a (fault_head f) (fault_content f e)

-- the answer with what is told
abbrev pub told_in : Form → Media → AnswerIfAny → List ℕ
told_in a m t = written_in a (told_head m t) (told_text t)

-- what stands before the lines
abbrev pub front_in : Form → List ℕ
front_in a = head_in a stream_head

-- the answer with lines, or where there is nothing of the kind
abbrev pub stream_in : Form → Streamed → Option (List ℕ) → List ℕ
stream_in a wanted None = fault_in a (missing_of wanted) extent.Whole
stream_in a wanted (Some text) = front_in a ++ text

-- the answer where the gate fails
abbrev pub failure_in : Form → List ℕ
failure_in a = told_in a media.Json (told.Answer (Refused refusal.Unavailable))
