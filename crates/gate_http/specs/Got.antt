-- What a GET of a path comes to, whatever answers: its content alone.
use Rattle.std.specs.Prelude.{ℕ, Bool, ◌&&◌, List, [], length, Some, nat_lt, if◌then◌else◌, codes}
use Rattle.std.specs.List.{list_all}
use Rattle.httparse.specs.Grammar.{RequestHead, is_uri_byte, crlf}
use Rattle.gate_http.specs.declared.response.Extent.TheVariants as extent
use Rattle.gate_http.specs.declared.fault.HttpFault.TheVariants as fault
use Rattle.gate_http.specs.declared.response.Form.TheVariants as form
use Rattle.gate_http.specs.declared.served.Served.{Served}
use Rattle.gate_http.specs.Exchange.{Responding, Recalling, Comes, Broke}
use Rattle.gate_http.specs.Way.{Decided, refused, decided_of, Way, way_on}

-- a request line can hold the path: it has a byte, and each is visible or past ASCII
abbrev pub is_target : List ℕ → Bool
is_target path = nat_lt 0 (length path) && list_all is_uri_byte path

-- the head `GET `, the path, ` HTTP/1.1` and two line ends
abbrev pub get_head : List ℕ → RequestHead
get_head path =
    record { blank = []; method = codes "GET"; target = path; minor = 1; line_end = crlf; fields = []; last = crlf }

-- the longest path that such a head has in its 8,192 bytes
abbrev pub path_limit : ℕ
path_limit = 8175

-- what it asks for
abbrev pub got : List ℕ → Decided
got path =
    if nat_lt path_limit (length path) then refused fault.HeadTooLarge extent.Whole else
    if is_target path then decided_of (Some (get_head path)) else refused fault.BadRequest extent.Whole

-- what becomes of it
abbrev pub way_got : List ℕ → Way
way_got path = way_on [] (got path)

-- this is so of the content of the answer, and the state after it
abbrev pub Gets : {S : Type 0} → Responding S → Recalling S → List ℕ → S → (List ℕ → Type 0) → S → Served → Type 0
Gets responds recalls path old Takes new served =
    Comes responds recalls form.Content (way_got path) old Takes new served

-- it is written line by line, and this is so of the beginning that was written
abbrev pub GetsPart : {S : Type 0} → Recalling S → List ℕ → S → (List ℕ → Type 0) → S → Type 0
GetsPart recalls path old Takes new = Broke recalls form.Content (way_got path) old Takes new
