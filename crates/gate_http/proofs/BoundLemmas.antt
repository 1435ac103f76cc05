-- A body that is asked for is within the limit.
use Rattle.std.proofs.Common.{◌≡◌, ℕ, ◌≤◌, Bool, true, false, cond, ltb, List, [], ◌∷◌, Option, Some, None}
use Rattle.std.proofs.Common.{option_map, map, subst, sym, refl}
use Rattle.std.specs.Prelude.{⊤, codes}
use Rattle.std.specs.Str.Parse.{digits_value}
use Rattle.std.proofs.lemmas.Bool.{ltb-false}
use Rattle.httparse.specs.Grammar.{RequestHead}
use Rattle.httparse.specs.Spans.{name_and_value}
use Rattle.gate_http.specs.declared.response.Extent.TheVariants as extent
use Rattle.gate_http.specs.declared.fields.BodyLength.{BodyLength}
use Rattle.gate_http.specs.declared.fields.BodyLength.TheVariants as body
use Rattle.gate_http.specs.declared.fault.HttpFault.TheVariants as fault
use Rattle.gate_http.specs.declared.routes.Route.{Route}
use Rattle.gate_http.specs.declared.routes.Route.TheVariants as route
use Rattle.gate_wire.specs.declared.door.Door.{Door}
use Rattle.gate_wire.specs.declared.door.Door.TheVariants as door
use Rattle.gate_http.specs.Digits.{are_digits}
use Rattle.gate_http.specs.Fields.{Pair, length_within, length_in, length_unless, length_of, named as named_of}
use Rattle.gate_types.specs.Limits.{most_bytes}
use Rattle.gate_http.specs.Asked.{later_history}
use Rattle.gate_http.specs.Routes.{route_of, path_of, queue_in, place_in}
use Rattle.gate_http.specs.Way.{Decided, refused, posted, shown, recalled, posted_of, by_post, by_get, read_at}
use Rattle.gate_http.specs.Way.{on_route, decided_of, decided, extent_of}

abbrev pub FitsBody : BodyLength → Type 0
FitsBody body.Missing = ⊤
FitsBody body.Bad = ⊤
FitsBody body.Long = ⊤
FitsBody (body.Bytes n) = n ≤ most_bytes

abbrev pub IsBounded : Decided → Type 0
IsBounded (refused f b) = ⊤
IsBounded (posted d n) = n ≤ most_bytes
IsBounded (shown asked) = ⊤
IsBounded (recalled wanted) = ⊤

abbrev pub IsBoundedIf : Option Decided → Type 0
IsBoundedIf None = ⊤
IsBoundedIf (Some d) = IsBounded d

fits_either : (t : Bool) (n : ℕ) → ltb most_bytes n ≡ t → FitsBody (cond t body.Long (body.Bytes n))
fits_either true n e = tt
fits_either false n e = ltb-false most_bytes n e

fits_within : (n : ℕ) → FitsBody (length_within n)
fits_within n = fits_either (ltb most_bytes n) n refl

fits_cond : (t : Bool) (a b : BodyLength) → FitsBody a → FitsBody b → FitsBody (cond t a b)
fits_cond true a b h k = h
fits_cond false a b h k = k

fits_in : (fields : List Pair) → FitsBody (length_in fields)
fits_in [] = tt
fits_in (f ∷ []) = fits_cond (are_digits f.1) (length_within (digits_value 10 f.1)) body.Bad
    (fits_within (digits_value 10 f.1)) tt
fits_in (f ∷ g ∷ more) = tt

fits_unless : (encodings lengths : List Pair) → FitsBody (length_unless encodings lengths)
fits_unless [] lengths = fits_in lengths
fits_unless (e ∷ es) lengths = tt

bounded_post : (d : Door) (l : BodyLength) → FitsBody l → IsBounded (posted_of d l)
bounded_post d body.Missing h = tt
bounded_post d body.Bad h = tt
bounded_post d body.Long h = tt
bounded_post d (body.Bytes n) h = h

bounded_cond : (t : Bool) (a b : Decided) → IsBounded a → IsBounded b → IsBounded (cond t a b)
bounded_cond true a b h k = h
bounded_cond false a b h k = k

bounded_by_post : (h : RequestHead) (d : Door) → IsBounded (by_post h d)
bounded_by_post h d = bounded_cond _ (posted_of d (length_of (map name_and_value h.fields)))
    (refused fault.NotPost (extent_of h.method))
    (bounded_post d (length_of (map name_and_value h.fields))
    (fits_unless (named_of (codes "transfer-encoding") (map name_and_value h.fields))
    (named_of (codes "content-length") (map name_and_value h.fields)))) tt

bounded_by_get : (h : RequestHead) (d : Option Decided) → IsBoundedIf d → IsBounded (by_get h d)
bounded_by_get h None k = tt
bounded_by_get h (Some d) k = bounded_cond _ d (refused fault.NotGet (extent_of h.method)) k tt

bounded_place : (name : List ℕ) (place : Option ℕ)
    → IsBoundedIf (option_map (λ n. recalled (later_history name n)) place)
bounded_place name None = tt
bounded_place name (Some n) = tt

bounded_read : (path : List ℕ) (r : Route) → IsBoundedIf (read_at path r)
bounded_read path route.HistoryFrom = bounded_place (queue_in path) (place_in path)
bounded_read path r = tt

bounded_route : (h : RequestHead) (path : List ℕ) (r : Option Route) → IsBounded (on_route h path r)
bounded_route h path None = tt
bounded_route h path (Some route.Forge) = bounded_by_post h door.Forge
bounded_route h path (Some route.Worker) = bounded_by_post h door.Worker
bounded_route h path (Some r) = bounded_by_get h (read_at path r) (bounded_read path r)

bounded_of : (found : Option RequestHead) → IsBounded (decided_of found)
bounded_of None = tt
bounded_of (Some h) = bounded_route h (path_of h.target) (route_of (path_of h.target))

pub bounded : (head : List ℕ) (found : Option RequestHead) → IsBounded (decided head found)
bounded head found = bounded_cond _ (refused fault.HeadTooLarge extent.Whole) (decided_of found) tt (bounded_of found)

pub posted_within : (head : List ℕ) (found : Option RequestHead) (d : Door) (n : ℕ) → posted d n ≡ decided head found
    → n ≤ most_bytes
posted_within head found d n e = subst IsBounded (sym e) (bounded head found)
