-- A request and what comes of it, whatever answers.
use Rattle.std.specs.Prelude.{ℕ, ◌≡◌, true, false, List, [], ◌++◌, Option, Some, None, ⊤, Result, MatchResult}
use Rattle.std.specs.Io.KnownBytes.{Consumes}
use Rattle.gate_types.specs.declared.tap.Tap.{Tap}
use Rattle.gate_types.specs.Tap.{inside, has_failed, Took, TookFront}
use Rattle.gate_http.specs.declared.response.Extent.TheVariants as extent
use Rattle.gate_http.specs.declared.fault.HttpFault.TheVariants as fault
use Rattle.gate_http.specs.declared.respond.StreamFault.{StreamFault}
use Rattle.gate_http.specs.declared.respond.StreamFault.TheVariants as stopped
use Rattle.gate_http.specs.declared.respond.AnswerIfAny.{AnswerIfAny}
use Rattle.gate_http.specs.declared.response.Form.{Form}
use Rattle.gate_http.specs.declared.response.Form.TheVariants as form
use Rattle.gate_http.specs.declared.served.Served.{Served}
use Rattle.gate_http.specs.declared.served.Served.TheVariants.{Nothing, Answered}
use Rattle.gate_http.specs.Faults.{fault_status}
use Rattle.gate_http.specs.Asked.{Asked, media_of, Streamed, missing_of, told_status}
use Rattle.gate_http.specs.Way.{Way, silence, refusal, question, stream, Request, way_of, taken_of}
use Rattle.gate_http.specs.Response.{fault_in, told_in, front_in, failure_in}

-- ---- a request

-- the bytes of a reader, if they are known, are these
abbrev pub IsKnown : Option (List ℕ) → List ℕ → Type 0
IsKnown None input = ⊤
IsKnown (Some bytes) input = bytes ≡ input

-- a reader held this request, and of its bytes just those were taken that had to be read
pub record IsRequestRead (from left : Option (List ℕ)) (r : Request) : Type 0 where
  pub known : IsKnown from r.input
  pub taken : Consumes from left (taken_of r)

-- what was read is no whole request yet: by itself it is nothing, or is cut
abbrev pub IsUnfinished : Way → Type 0
IsUnfinished silence = ⊤
IsUnfinished (refusal f e) = f ≡ fault.Cut
IsUnfinished (question asked) = ⊥
IsUnfinished (stream wanted) = ⊥

-- so far a reader was read, and more was needed
pub record Waits (from left : Option (List ℕ)) : Type 0 where
  pub front : Request
  pub read : Consumes from left front.input
  pub unfinished : IsUnfinished (way_of front)

-- ---- what answers

-- what may be told to what is asked of a state, and the state after it
abbrev pub Responding : Type 0 → Type 1
Responding S = S → Asked → AnswerIfAny → S → Type 0

-- what is so of the lines that are asked for in a state, if there are any, and the state after it
abbrev pub Recalling : Type 0 → Type 1
Recalling S = S → Streamed → (Option (List ℕ) → Type 0) → S → Type 0

-- there is a text, and this is so of it
abbrev pub HasText : (List ℕ → Type 0) → Option (List ℕ) → Type 0
HasText P None = ⊥
HasText P (Some text) = P text

-- this is so of the answer with lines, if there are any
abbrev pub OfLines : Form → (List ℕ → Type 0) → Option (List ℕ) → Type 0
OfLines f Takes text = HasText (λ t. Takes (front_in f ++ t)) text

-- what a fault leaves of a writer: it has failed at `Write` alone, and nothing was written before a first byte
abbrev pub StopsStreamBy : {W : Type 0} → Tap W → Tap W → StreamFault → Type 0
StopsStreamBy old new stopped.Missing = new ≡ old
StopsStreamBy old new stopped.Unavailable = new ≡ old
StopsStreamBy old new stopped.Broken = has_failed new ≡ false
StopsStreamBy old new stopped.Write = has_failed new ≡ true

-- a writer has not failed where all lines are written, or is left by a fault so
abbrev pub StopsStream : {W : Type 0} → Tap W → Tap W → Result (Unit {0}) StreamFault → Type 0
StopsStream old new result = MatchResult result (λ _. has_failed new ≡ false) (StopsStreamBy old new)

-- ---- what is written

-- lines were asked for, and this is so of the answer
pub data Recalled {S : Type 0} (recalls : Recalling S) (f : Form) (old : S) (wanted : Streamed)
    (Takes : List ℕ → Type 0) (new : S) (served : Served) : Type 0 where
  recited : served ≡ Answered 200 → recalls old wanted (OfLines f Takes) new →
      Recalled recalls f old wanted Takes new served
  missing : served ≡ Answered 404 → recalls old wanted (λ text. text ≡ None) new →
      Takes (fault_in f (missing_of wanted) extent.Whole) → Recalled recalls f old wanted Takes new served
  failed : served ≡ Answered 503 → recalls old wanted (λ text. ⊤) new → Takes (failure_in f) →
      Recalled recalls f old wanted Takes new served

-- a request that goes this way is answered so: this is so of the answer, and the state after it
abbrev pub Comes : {S : Type 0} → Responding S → Recalling S → Form → Way → S → (List ℕ → Type 0) → S → Served → Type 0
Comes responds recalls f silence old Takes new served = (served ≡ Nothing) × Takes [] × (new ≡ old)
Comes responds recalls f (refusal refused e) old Takes new served =
    (served ≡ Answered (fault_status refused)) × Takes (fault_in f refused e) × (new ≡ old)
Comes responds recalls f (question asked) old Takes new served =
    (t : AnswerIfAny) × responds old asked t new
    × (served ≡ Answered (told_status t)) × Takes (told_in f (media_of asked) t)
Comes responds recalls f (stream wanted) old Takes new served = Recalled recalls f old wanted Takes new served

-- lines were asked for, and this is so of the beginning of the answer that was written
abbrev pub Broke : {S : Type 0} → Recalling S → Form → Way → S → (List ℕ → Type 0) → S → Type 0
Broke recalls f w old Takes new = (wanted : Streamed) × (w ≡ stream wanted) × recalls old wanted (OfLines f Takes) new

-- a reader held a request, and this is so of the way that it goes
abbrev pub OfRead : Option (List ℕ) → Option (List ℕ) → (Way → Type 0) → Type 0
OfRead from left P = (r : Request) × IsRequestRead from left r × P (way_of r)

-- a tap's reader held a request, and a tap's writer took the whole response
abbrev pub AnswersTo : {S R W : Type 0} → Responding S → Recalling S → (R → Option (List ℕ)) → (W → Option (List ℕ)) →
    Tap R → Tap R → S → S → Tap W → Tap W → Served → Type 0
AnswersTo responds recalls left held reader reader_after old new writer writer_after served =
    OfRead (left (inside reader)) (left (inside reader_after)) (λ w.
    Comes responds recalls form.Response w old (Took held writer writer_after) new served)

-- the same, but of the response it took a beginning
abbrev pub AnswersFront : {S R W : Type 0} → Responding S → Recalling S → (R → Option (List ℕ)) →
    (W → Option (List ℕ)) → Tap R → Tap R → S → S → Tap W → Tap W → Type 0
AnswersFront responds recalls left held reader reader_after old new writer writer_after =
    OfRead (left (inside reader)) (left (inside reader_after)) (λ w. (served : Served)
    × Comes responds recalls form.Response w old (TookFront held writer writer_after) new served)

-- a tap's reader held a request for lines, and of the response a tap's writer took a beginning
abbrev pub StopsAt : {S R W : Type 0} → Recalling S → (R → Option (List ℕ)) → (W → Option (List ℕ)) → Tap R → Tap R →
    S → S → Tap W → Tap W → Type 0
StopsAt recalls left held reader reader_after old new writer writer_after =
    OfRead (left (inside reader)) (left (inside reader_after)) (λ w.
    Broke recalls form.Response w old (TookFront held writer writer_after) new)
