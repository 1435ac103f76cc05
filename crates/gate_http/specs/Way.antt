-- What becomes of an input.
use Rattle.std.specs.Prelude.{ℕ, ◌≡◌, ◌≤◌, List, [], ◌++◌, length, map, take, count_by, Option, Some}
use Rattle.std.specs.Prelude.{None, option_map, nat_lt, ◌==◌, if◌then◌else◌, codes}
use Rattle.std.specs.Str.{bytes_eq}
use Rattle.httparse.specs.Grammar.{RequestHead, ReadsRequest}
use Rattle.httparse.specs.Spans.{name_and_value}
use Rattle.gate_http.specs.declared.response.Extent.{Extent}
use Rattle.gate_http.specs.declared.response.Extent.TheVariants as extent
use Rattle.gate_http.specs.declared.fault.HttpFault.{HttpFault}
use Rattle.gate_http.specs.declared.fault.HttpFault.TheVariants as fault
use Rattle.gate_wire.specs.declared.door.Door.{Door}
use Rattle.gate_wire.specs.declared.door.Door.TheVariants as door
use Rattle.gate_http.specs.declared.respond.Page.TheVariants as pages
use Rattle.gate_http.specs.declared.routes.Route.{Route}
use Rattle.gate_http.specs.declared.routes.Route.TheVariants as route
use Rattle.gate_http.specs.declared.fields.BodyLength.{BodyLength}
use Rattle.gate_http.specs.declared.fields.BodyLength.TheVariants as body
use Rattle.gate_http.specs.Asked.{Asked, delivery, page, build, change, item, Streamed, whole_history, later_history}
use Rattle.gate_http.specs.Asked.{all_deliveries, later_deliveries}
use Rattle.gate_http.specs.Head.{Front, empty, cut, too_large, whole, front_of, head_limit}
use Rattle.gate_http.specs.Fields.{length_of}
use Rattle.gate_http.specs.Routes.{route_of, path_of, parameter_of, queue_in, place_in}

-- the bytes are a request head of at most 64 fields
abbrev pub IsRequest : List ℕ → RequestHead → Type 0
IsRequest head h = (rest : List ℕ) × ReadsRequest head h rest × (length h.fields ≤ 64)

-- the request head that the bytes are, if they are one: there is never more than one
abbrev pub FindsHead : List ℕ → Option RequestHead → Type 0
FindsHead head None = (h : RequestHead) → IsRequest head h → ⊥
FindsHead head (Some h) = IsRequest head h

-- what a head asks for: an answer of HTTP's own, maybe without its body; a delivery of so many bytes; what is told at
-- once; what is written line by line
pub data Decided : Type 0 where
  refused : HttpFault → Extent → Decided
  posted : Door → ℕ → Decided
  shown : Asked → Decided
  recalled : Streamed → Decided

-- how much is written of an answer to a method
abbrev pub extent_of : List ℕ → Extent
extent_of method = if bytes_eq method (codes "HEAD") then extent.Head else extent.Whole

-- a delivery, by what its length is
abbrev pub posted_of : Door → BodyLength → Decided
posted_of d body.Missing = refused fault.NoLength extent.Whole
posted_of d body.Bad = refused fault.BadRequest extent.Whole
posted_of d body.Long = refused fault.TooLarge extent.Whole
posted_of d (body.Bytes n) = posted d n

-- a delivery, if the method is POST
abbrev pub by_post : RequestHead → Door → Decided
by_post h d =
    if bytes_eq h.method (codes "POST") then posted_of d (length_of (map name_and_value h.fields))
    else refused fault.NotPost (extent_of h.method)

-- what is read at a path of a route, if there is something to read
abbrev pub read_at : List ℕ → Route → Option Decided
read_at path route.Forge = None
read_at path route.Worker = None
read_at path route.Status = Some (shown (page pages.Status))
read_at path route.Orders = Some (shown (page pages.Orders))
read_at path route.Running = Some (shown (page pages.Running))
read_at path route.Builds = Some (shown (build (parameter_of path)))
read_at path route.Changes = Some (shown (change (parameter_of path)))
read_at path route.Items = Some (shown (item (parameter_of path)))
read_at path route.History = Some (recalled (whole_history (parameter_of path)))
read_at path route.HistoryFrom = option_map (λ n. recalled (later_history (queue_in path) n)) (place_in path)
read_at path route.Deliveries = Some (recalled all_deliveries)
read_at path route.DeliveriesAfter = Some (recalled (later_deliveries (parameter_of path)))

-- this, if there is something and the method is GET
abbrev pub by_get : RequestHead → Option Decided → Decided
by_get h None = refused fault.NoRoute (extent_of h.method)
by_get h (Some d) = if bytes_eq h.method (codes "GET") then d else refused fault.NotGet (extent_of h.method)

-- what is asked for at a path, by its route
abbrev pub on_route : RequestHead → List ℕ → Option Route → Decided
on_route h path None = refused fault.NoRoute (extent_of h.method)
on_route h path (Some route.Forge) = by_post h door.Forge
on_route h path (Some route.Worker) = by_post h door.Worker
on_route h path (Some r) = by_get h (read_at path r)

-- a request
abbrev pub decided_of : Option RequestHead → Decided
decided_of None = refused fault.BadRequest extent.Whole
decided_of (Some h) = on_route h (path_of h.target) (route_of (path_of h.target))

-- a head: it may have 66 lines
abbrev pub decided : List ℕ → Option RequestHead → Decided
decided head found =
    if nat_lt 66 (count_by (λ b. b == 10) head) then refused fault.HeadTooLarge extent.Whole else decided_of found

-- what becomes of an input: nothing, an answer of HTTP's own, a question to the gate, or what is written line by line
pub data Way : Type 0 where
  silence : Way
  refusal : HttpFault → Extent → Way
  question : Asked → Way
  stream : Streamed → Way

-- by what the head asks for, and the bytes behind it
abbrev pub way_on : List ℕ → Decided → Way
way_on rest (refused f e) = refusal f e
way_on rest (posted d n) =
    if nat_lt (length rest) n then refusal fault.Cut extent.Whole else question (delivery d (take n rest))
way_on rest (shown asked) = question asked
way_on rest (recalled wanted) = stream wanted

-- by how the input begins
abbrev pub way_from : Front → Option RequestHead → Way
way_from empty found = silence
way_from cut found = refusal fault.Cut extent.Whole
way_from too_large found = refusal fault.HeadTooLarge extent.Whole
way_from (whole head rest) found = way_on rest (decided head found)

abbrev pub way : List ℕ → Option RequestHead → Way
way input found = way_from (front_of input) found

-- the bytes behind the head that are read
abbrev pub body_on : List ℕ → Decided → List ℕ
body_on rest (refused f e) = []
body_on rest (posted d n) = take n rest
body_on rest (shown asked) = []
body_on rest (recalled wanted) = []

-- the bytes of an input that are read: no others are taken from the reader
abbrev pub taken_from : List ℕ → Front → Option RequestHead → List ℕ
taken_from input empty found = []
taken_from input cut found = input
taken_from input too_large found = take head_limit input
taken_from input (whole head rest) found = head ++ body_on rest (decided head found)

abbrev pub taken : List ℕ → Option RequestHead → List ℕ
taken input found = taken_from input (front_of input) found

-- the request head of an input's head, where it has one
abbrev pub FindsIn : Front → Option RequestHead → Type 0
FindsIn empty found = found ≡ None
FindsIn cut found = found ≡ None
FindsIn too_large found = found ≡ None
FindsIn (whole head rest) found = FindsHead head found

-- an input, and the request head that its head is, if it is one
pub record Request : Type 0 where
  pub input : List ℕ
  pub found : Option RequestHead
  pub finds : FindsIn (front_of input) found

-- what becomes of a request
abbrev pub way_of : Request → Way
way_of r = way r.input r.found

-- the bytes of a request that are read
abbrev pub taken_of : Request → List ℕ
taken_of r = taken r.input r.found
