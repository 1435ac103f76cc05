-- What the parts of a request come to as they are read: for the inside alone.
use Rattle.std.specs.Prelude.{ℕ, ◌≡◌, ◌<◌, Bool, true, false, List, [], ◌∷◌, ◌++◌, length, Option, Some, None, Result}
use Rattle.std.specs.Prelude.{Ok, Err, MatchResult, ⊤}
use Rattle.std.specs.Io.KnownBytes.{Consumes, IsAtEnd}
use Rattle.httparse.specs.Grammar.{RequestHead}
use Rattle.httparse.specs.Spans.{span_bytes, IsWithin}
use Rattle.gate_book_trait.specs.declared.fault.HistoryFault.{HistoryFault}
use Rattle.gate_book_trait.specs.declared.fault.HistoryFault.TheVariants as history
use Rattle.gate_archive.specs.declared.fault.FeedFault.{FeedFault}
use Rattle.gate_archive.specs.declared.fault.FeedFault.TheVariants as feed
use Rattle.gate_http.specs.declared.response.Extent.{Extent}
use Rattle.gate_http.specs.declared.head.Came.{Came}
use Rattle.gate_http.specs.declared.head.Came.TheVariants as came
use Rattle.gate_http.specs.declared.fields.NamedField.{NamedField}
use Rattle.gate_http.specs.declared.fields.NamedField.TheVariants as found
use Rattle.gate_http.specs.declared.request.Decision.{Decision}
use Rattle.gate_http.specs.declared.request.Decision.TheVariants as decision
use Rattle.gate_http.specs.Head.{cut, too_large, whole, front_of, head_limit}
use Rattle.gate_http.specs.Fields.{Pair}
use Rattle.gate_http.specs.declared.request.Question.{Question}
use Rattle.gate_http.specs.declared.request.Question.TheVariants as question
use Rattle.gate_http.specs.declared.request.Wanted.{Wanted}
use Rattle.gate_http.specs.declared.request.Wanted.TheVariants as wanted
use Rattle.gate_http.specs.declared.fault.HttpFault.{HttpFault}
use Rattle.gate_http.specs.declared.fault.HttpFault.TheVariants as fault
use Rattle.gate_http.specs.declared.respond.StreamFault.{StreamFault}
use Rattle.gate_http.specs.declared.respond.StreamFault.TheVariants as stopped
use Rattle.gate_http.specs.declared.response.Form.{Form}
use Rattle.gate_http.specs.declared.routes.Route.{Route}
use Rattle.gate_http.specs.declared.routes.Route.TheVariants as route
use Rattle.gate_http.specs.declared.served.Served.{Served}
use Rattle.gate_http.specs.Asked.{Asked, page, build, change, item, Streamed, streamed_by}
use Rattle.gate_types.specs.Once.{Content}
use Rattle.gate_types.specs.declared.tap.Tap.{Tap}
use Rattle.gate_types.specs.Tap.{Took, TookFront}
use Rattle.gate_http.specs.Answer.{stream_of}
use Rattle.gate_http.specs.Exchange.{Responding, Recalling, Comes, Broke, HasText}
use Rattle.gate_http.specs.Way.{Decided, refused, posted, shown, recalled, extent_of, on_route, way_on}

-- so many bytes were read, and whatever follows, the input begins like this
abbrev pub Begins : Came → List ℕ → Option (List ℕ) → Type 0
Begins came.Nothing bytes left = IsAtEnd left × (bytes ≡ [])
Begins came.Part bytes left = IsAtEnd left × (front_of bytes ≡ cut)
Begins came.TooMuch bytes left =
    (length bytes ≡ head_limit) × ((more : List ℕ) → front_of (bytes ++ more) ≡ too_large)
Begins came.Whole bytes left = (more : List ℕ) → front_of (bytes ++ more) ≡ whole bytes more

-- that came of a head
pub record HeadComes (c : Came) (bytes : List ℕ) (from left : Option (List ℕ)) : Type 0 where
  pub read : Consumes from left bytes
  pub begins : Begins c bytes left

-- a body of n bytes was read, or the input ended before
abbrev pub BodyEnds : Bool → ℕ → List ℕ → Option (List ℕ) → Type 0
BodyEnds true n bytes left = length bytes ≡ n
BodyEnds false n bytes left = (length bytes < n) × IsAtEnd left

-- that came of a body
pub record BodyComes (whole : Bool) (n : ℕ) (bytes : List ℕ) (from left : Option (List ℕ)) : Type 0 where
  pub read : Consumes from left bytes
  pub ends : BodyEnds whole n bytes left

-- two fields or more
abbrev pub HasSeveral : List Pair → Type 0
HasSeveral [] = ⊥
HasSeveral (field ∷ []) = ⊥
HasSeveral (field ∷ another ∷ more) = ⊤

-- the fields of a name that were found
abbrev pub ShowsNamed : List ℕ → NamedField → List Pair → Type 0
ShowsNamed head found.None fields = fields ≡ []
ShowsNamed head (found.One value) fields =
    IsWithin (length head) value × ((name : List ℕ) × (fields ≡ (name, span_bytes head value) ∷ []))
ShowsNamed head found.Several fields = HasSeveral fields

-- the question of what is told at once
abbrev pub asked_by : Question → Asked
asked_by (question.Page p) = page p
asked_by (question.Build text) = build text.now
asked_by (question.Change text) = change text.now
asked_by (question.Item text) = item text.now

-- what is read
abbrev pub read_by : Wanted → Decided
read_by (wanted.Ask q) = shown (asked_by q)
read_by (wanted.Lines s) = recalled (streamed_by s)

-- what is read, or what HTTP itself refuses
abbrev pub read_or : Extent → Result Wanted HttpFault → Decided
read_or e (Ok w) = read_by w
read_or e (Err f) = refused f e

-- what a decision stands for
abbrev pub view : Decision → Decided
view (decision.Refuse f e) = refused f e
view (decision.Post d n) = posted d n
view (decision.Read w) = read_by w

-- what a path has by its route for who delivers nothing
abbrev pub reading : RequestHead → List ℕ → Option Route → Decided
reading h path (Some route.Forge) = refused fault.NotPost (extent_of h.method)
reading h path (Some route.Worker) = refused fault.NotPost (extent_of h.method)
reading h path r = on_route h path r

-- what is read came to this
abbrev pub ReadsTo : {S : Type 0} → Responding S → Recalling S → Form → Wanted → S → (List ℕ → Type 0) → S → Served →
    Type 0
ReadsTo responds recalls f w old Takes new served =
    Comes responds recalls f (way_on [] (read_by w)) old Takes new served

-- lines that are read broke off, and this is so of the beginning that was written
abbrev pub BreaksOff : {S : Type 0} → Recalling S → Form → Wanted → S → (List ℕ → Type 0) → S → Type 0
BreaksOff recalls f w old Takes new = Broke recalls f (way_on [] (read_by w)) old Takes new

-- how lines stop, by how a history stopped
abbrev pub stop_of_history : HistoryFault → StreamFault
stop_of_history history.NoQueue = stopped.Missing
stop_of_history history.Unavailable = stopped.Unavailable
stop_of_history history.Broken = stopped.Broken
stop_of_history history.Write = stopped.Write

-- how they are written, by how a history was
abbrev pub lines_of_history : Result (Unit {0}) HistoryFault → Result (Unit {0}) StreamFault
lines_of_history (Ok u) = Ok u
lines_of_history (Err f) = Err (stop_of_history f)

-- how lines stop, by how deliveries stopped
abbrev pub stop_of_feed : FeedFault → StreamFault
stop_of_feed feed.NoDelivery = stopped.Missing
stop_of_feed feed.Unavailable = stopped.Unavailable
stop_of_feed feed.Broken = stopped.Broken
stop_of_feed feed.Write = stopped.Write

-- how they are written, by how deliveries were
abbrev pub lines_of_feed : Result (Unit {0}) FeedFault → Result (Unit {0}) StreamFault
lines_of_feed (Ok u) = Ok u
lines_of_feed (Err f) = Err (stop_of_feed f)

-- why lines of a content were not written whole: there are none, or a beginning was written
abbrev pub LeavesLines : {W : Type 0} → Content → Streamed → List ℕ → (W → Option (List ℕ)) → Tap W → Tap W →
    StreamFault → Type 0
LeavesLines x wanted front held old new stopped.Missing = stream_of x wanted ≡ None
LeavesLines x wanted front held old new stopped.Unavailable = ⊤
LeavesLines x wanted front held old new _ = HasText (λ t. TookFront held old new (front ++ t)) (stream_of x wanted)

-- the front and the lines of a content that are asked for are written, or why not
abbrev pub WritesLines : {W : Type 0} → Content → Streamed → List ℕ → (W → Option (List ℕ)) → Tap W → Tap W →
    Result (Unit {0}) StreamFault → Type 0
WritesLines x wanted front held old new result =
    MatchResult result (λ _. HasText (λ t. Took held old new (front ++ t)) (stream_of x wanted))
    (LeavesLines x wanted front held old new)
