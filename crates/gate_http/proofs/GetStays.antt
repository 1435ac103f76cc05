-- A GET makes no call, so the gate stays.
use Rattle.std.proofs.Common.{◌≡◌, ℕ, Bool, true, false, List, [], Option, Some, None, refl, ap, subst, ◌∙◌}
use Rattle.std.specs.Prelude.{if◌then◌else◌, length, nat_lt, option_map}
use Rattle.gate_types.specs.Settings.{Settings}
use Rattle.gate_types.specs.Once.{Content}
use Rattle.gate_types.specs.Gated.{Gated}
use Rattle.gate_core.specs.declared.gate.Gate.{Gate}
use Rattle.gate_core.specs.Held.{Goes}
use Rattle.gate_core.specs.Holding.{OfGate}
use Rattle.gate_http.specs.declared.response.Extent.TheVariants as extent
use Rattle.gate_http.specs.declared.fault.HttpFault.TheVariants as fault
use Rattle.gate_http.specs.declared.response.Form.TheVariants as form
use Rattle.gate_http.specs.declared.routes.Route.{Route}
use Rattle.gate_http.specs.declared.routes.Route.TheVariants as route
use Rattle.gate_http.specs.declared.served.Served.{Served}
use Rattle.gate_http.specs.Asked.{later_history}
use Rattle.gate_http.specs.Routes.{route_of, path_of, queue_in, place_in}
use Rattle.gate_http.specs.Way.{Way, silence, refusal, question, stream, refused, recalled, way_on, on_route, by_get}
use Rattle.gate_http.specs.Way.{decided_of}
use Rattle.gate_http.specs.Got.{get_head, is_target, path_limit, way_got}
use Rattle.gate_http.specs.Answer.{AnswersBy, calls_made, gate_after, is_503}
use Rattle.gate_http.specs.Serving.{GateLeaves, Serves, ServesAs, ServesGet}

-- a request that goes so makes no call
abbrev pub Keeps : Way → Type 0
Keeps w = (u : Bool) → calls_made u w ≡ []

-- a history from a place
place_keeps : (path at : List ℕ) (o : Option ℕ)
    → Keeps (way_on [] (by_get (get_head path) (option_map (λ n. recalled (later_history (queue_in at) n)) o)))
place_keeps path at None u = refl
place_keeps path at (Some n) u = refl

-- whatever the route
route_keeps : (path at : List ℕ) (r : Option Route) → Keeps (way_on [] (on_route (get_head path) at r))
route_keeps path at None u = refl
route_keeps path at (Some route.Forge) u = refl
route_keeps path at (Some route.Worker) u = refl
route_keeps path at (Some route.Status) u = refl
route_keeps path at (Some route.Orders) u = refl
route_keeps path at (Some route.Running) u = refl
route_keeps path at (Some route.Builds) u = refl
route_keeps path at (Some route.Changes) u = refl
route_keeps path at (Some route.Items) u = refl
route_keeps path at (Some route.History) u = refl
route_keeps path at (Some route.HistoryFrom) u = place_keeps path at (place_in at) u
route_keeps path at (Some route.Deliveries) u = refl
route_keeps path at (Some route.DeliveriesAfter) u = refl

-- whatever the path
pub got_keeps : (path : List ℕ) → Keeps (way_got path)
got_keeps path = go (nat_lt path_limit (length path)) (is_target path)
  where
    go : (long good : Bool) → Keeps (way_on [] (if long then refused fault.HeadTooLarge extent.Whole else
        (if good then decided_of (Some (get_head path)) else refused fault.BadRequest extent.Whole)))
    go true good u = refl
    go false true u = route_keeps path (path_of path) (route_of (path_of path)) u
    go false false u = refl

-- the gate after an answer of a request that makes no call
stays : (g after : Gated) (w : Way) (served : Served) (text : List ℕ) → Keeps w
    → AnswersBy form.Content g w served text after → after ≡ g
stays g after w served text keeps a = a.stands ∙ ap (gate_after g) (keeps (is_503 served))

module _ {B : Type 0} (trusted : B → Type 0) (holds : B → Settings → Content → Type 0)
    (leaves : B → Settings → List Content → Type 0) where
  -- what a request came to, and that the gate stays, and what a crash leaves too
  abbrev Stays : Gate B → Gate B → Way → Served → (List ℕ → Type 0) → Type 0
  Stays old new w served Takes = Goes trusted holds old new (λ g after.
      (after ≡ g) × (text : List ℕ) × Takes text × AnswersBy form.Content g w served text after)
      × OfGate trusted holds old new (λ x. GateLeaves leaves old new x [])

  -- by one text
  of_one : (old new : Gate B) (w : Way) (served : Served) (Takes : List ℕ → Type 0) → Keeps w → (text : List ℕ)
      → Takes text
      → Serves trusted holds leaves form.Content old new w served text → Stays old new w served Takes
  of_one old new w served Takes keeps text takes it = (
    record {
      settings = it.answers.settings;
      trusted_before = it.answers.trusted_before;
      passes = λ t g over.
          let p = it.answers.passes t g over in (p.0, p.1, (stays g p.0 w served text keeps p.2, text, takes, p.2));
    },
    λ t x held lawful.
        subst (GateLeaves leaves old new x)
        (keeps (is_503 served)) (it.crash t x held lawful),
  )

  -- any request
  pub serves_stays : (old new : Gate B) (w : Way) (served : Served) (Takes : List ℕ → Type 0) → Keeps w
      → ServesAs trusted holds leaves form.Content old new w served Takes → Stays old new w served Takes
  serves_stays old new silence served Takes keeps (text, takes, s) =
      of_one old new silence served Takes keeps text takes s
  serves_stays old new (refusal f x) served Takes keeps (text, takes, s) =
      of_one old new (refusal f x) served Takes keeps text takes s
  serves_stays old new (question asked) served Takes keeps (text, takes, s) =
      of_one old new (question asked) served Takes keeps text takes s
  serves_stays old new (stream wanted) served Takes keeps s = (
    record {
      settings = s.answers.settings;
      trusted_before = s.answers.trusted_before;
      passes = λ t g over.
          let p = s.answers.passes t g over in
          (p.0, p.1, (stays g p.0 (stream wanted) served p.2.0 keeps p.2.2, p.2.0, p.2.1, p.2.2));
    },
    s.crash,
  )

  -- a GET
  pub serves_got : (old new : Gate B) (path : List ℕ) (served : Served) (Takes : List ℕ → Type 0)
      → ServesAs trusted holds leaves form.Content old new (way_got path) served Takes
      → ServesGet trusted holds leaves old new path served Takes
  serves_got old new path served Takes s =
      let (answers, crash) = serves_stays old new (way_got path) served Takes (got_keeps path) s in
      record { answers = answers; crash = crash }
