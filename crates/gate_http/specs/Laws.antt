-- Laws of the definitions, and examples.
use Rattle.std.specs.Prelude.{ℕ, ◌≡◌, ◌≤◌, ◌==◌, List, [], ◌∷◌, ◌++◌, length, count_by, Option, Some, None}
use Rattle.std.specs.Prelude.{codes}
use Rattle.httparse.specs.Grammar.{RequestHead, ReadsRequest, crlf, lf}
use Rattle.gate_http.specs.declared.response.Extent.TheVariants as extent
use Rattle.gate_http.specs.declared.response.Media.TheVariants as media
use Rattle.gate_http.specs.declared.fault.HttpFault.TheVariants as fault
use Rattle.gate_wire.specs.declared.door.Door.TheVariants as door
use Rattle.gate_http.specs.declared.respond.Page.TheVariants as pages
use Rattle.gate_http.specs.declared.routes.Route.TheVariants as route
use Rattle.gate_http.specs.declared.respond.AnswerIfAny.TheVariants as told
use Rattle.gate_http.specs.declared.response.Form.TheVariants as form
use Rattle.gate_http.specs.Asked.{page, delivery, whole_history, all_deliveries}
use Rattle.gate_http.specs.Head.{Front, front_of, whole}
use Rattle.gate_http.specs.Routes.{route_of, path_of, parameter_of, queue_in, place_in}
use Rattle.gate_http.specs.Way.{FindsIn, FindsHead, way, silence, question, refusal, taken}
use Rattle.gate_http.specs.Response.{fault_in, told_in, stream_in}

-- two request heads that are found are one
abbrev pub FoundOnce : Front → Option RequestHead → Option RequestHead → Type 0
FoundOnce front a b = FindsIn front a → FindsIn front b → a ≡ b

-- of 66 lines, one is the request line and one is empty
abbrev pub FewLinesFit : List ℕ → RequestHead → List ℕ → Type 0
FewLinesFit head h rest = ReadsRequest head h rest → count_by (λ b. b == 10) head ≤ 66 → length h.fields ≤ 64

-- nothing is said to an empty input alone
abbrev pub SilenceIsForNothing : List ℕ → Option RequestHead → Type 0
SilenceIsForNothing input found = way input found ≡ silence → input ≡ []

-- the paths, and some that have no route
abbrev pub PathsHaveRoutes : Type 0
PathsHaveRoutes =
    (route_of (codes "/forge") ≡ Some route.Forge)
    × (route_of (codes "/worker") ≡ Some route.Worker)
    × (route_of (path_of (codes "/status?x")) ≡ Some route.Status)
    × (route_of (codes "/orders") ≡ Some route.Orders)
    × (route_of (codes "/builds/3") ≡ Some route.Builds)
    × (route_of (codes "/builds/") ≡ None)
    × (route_of (codes "/builds/3/") ≡ None)
    × (route_of (codes "/history/core") ≡ Some route.History)
    × (parameter_of (codes "/history/core") ≡ codes "core")
    × (route_of (codes "/history/") ≡ None)
    × (route_of (codes "/history/core/") ≡ None)
    × (route_of (codes "/history/core/7") ≡ Some route.HistoryFrom)
    × (route_of (codes "/history/core/7/") ≡ None)
    × (route_of (codes "/running") ≡ Some route.Running)
    × (route_of (codes "/changes/3") ≡ Some route.Changes)
    × (route_of (codes "/items/3") ≡ Some route.Items)
    × (route_of (codes "/deliveries") ≡ Some route.Deliveries)
    × (route_of (codes "/deliveries/") ≡ None)
    × (route_of (codes "/deliveries/x") ≡ Some route.DeliveriesAfter)
    × (route_of (codes "/nowhere") ≡ None)

-- a place is read of a path without a zero before it, and with at most 16 digits
abbrev pub PlacesAreRead : Type 0
PlacesAreRead =
    (queue_in (codes "/history/core/7") ≡ codes "core")
    × (place_in (codes "/history/core/7") ≡ Some 7)
    × (place_in (codes "/history/core/07") ≡ None)
    × (place_in (codes "/history/core/9999999999999999") ≡ Some 9999999999999999)
    × (place_in (codes "/history/core/10000000000000000") ≡ None)

-- the request of an example
abbrev pub example_head : List ℕ
example_head = codes "GET /status HTTP/1.1\r\n\n"

-- its head
abbrev pub example_request : RequestHead
example_request = record {
  blank = [];
  method = codes "GET";
  target = codes "/status";
  minor = 1;
  line_end = crlf;
  fields = [];
  last = lf;
}

-- the head is found, it asks for the status page, and what follows is left
abbrev pub ExampleIsRead : Type 0
ExampleIsRead =
    (front_of (example_head ++ codes "rest") ≡ whole example_head (codes "rest"))
    × FindsHead example_head (Some example_request)
    × (way (example_head ++ codes "rest") (Some example_request) ≡ question (page pages.Status))
    × (taken (example_head ++ codes "rest") (Some example_request) ≡ example_head)

-- a request with a body
abbrev pub posted_head : List ℕ
posted_head = codes "POST /forge HTTP/1.1\ncontent-length:\t02 \n\n"

-- its head
abbrev pub posted_request : RequestHead
posted_request = record {
  blank = [];
  method = codes "POST";
  target = codes "/forge";
  minor = 1;
  line_end = lf;
  fields = record { name = codes "content-length"; raw = codes "\t02 "; end = lf } ∷ [];
  last = lf;
}

-- the length is read, and what follows the body is left; a body that is too short is cut
abbrev pub PostIsRead : Type 0
PostIsRead =
    FindsHead posted_head (Some posted_request)
    × (way (posted_head ++ codes "{}rest") (Some posted_request) ≡ question (delivery door.Forge (codes "{}")))
    × (taken (posted_head ++ codes "{}rest") (Some posted_request) ≡ posted_head ++ codes "{}")
    × (way (posted_head ++ codes "{") (Some posted_request) ≡ refusal fault.Cut extent.Whole)

-- responses byte for byte
abbrev pub ExampleIsAnswered : Type 0
ExampleIsAnswered =
    (fault_in form.Response fault.Cut extent.Whole ≡ codes "HTTP/1.1 400 Bad Request\r\n"
    ++ codes "Content-Type: application/json\r\nContent-Length: 15\r\nConnection: close\r\n\r\n"
    ++ codes "{\"error\":\"cut\"}")
    × (fault_in form.Response fault.NotGet extent.Head ≡ codes "HTTP/1.1 405 Method Not Allowed\r\n"
    ++ codes "Content-Type: application/json\r\nContent-Length: 18\r\nAllow: GET\r\nConnection: close\r\n\r\n")
    × (stream_in form.Response (whole_history (codes "core")) None ≡ codes "HTTP/1.1 404 Not Found\r\n"
    ++ codes "Content-Type: application/json\r\nContent-Length: 20\r\nConnection: close\r\n\r\n"
    ++ codes "{\"error\":\"no-queue\"}")
    × (stream_in form.Response (whole_history (codes "core")) (Some (codes "history core\nend 0\n"))
    ≡ codes "HTTP/1.1 200 OK\r\n"
    ++ codes "Content-Type: text/plain\r\nConnection: close\r\n\r\nhistory core\nend 0\n")
    × (stream_in form.Response all_deliveries (Some (codes "end 0\n")) ≡ codes "HTTP/1.1 200 OK\r\n"
    ++ codes "Content-Type: text/plain\r\nConnection: close\r\n\r\nend 0\n")
    × (told_in form.Response media.Json told.NoItem ≡ codes "HTTP/1.1 404 Not Found\r\n"
    ++ codes "Content-Type: application/json\r\nContent-Length: 19\r\nConnection: close\r\n\r\n"
    ++ codes "{\"error\":\"no-item\"}")
