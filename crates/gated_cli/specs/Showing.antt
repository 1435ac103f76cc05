-- What printing the texts of a gate writes.
use Rattle.std.specs.Prelude.{◌≡◌, ◌≢◌, ⊤, true, false, ℕ, List, [], Option, Some, None, option_map, Result, Ok, Err}
use Rattle.std.specs.Prelude.{MatchResult}
use Rattle.gate_types.specs.Tap.{has_failed, Took, TookFront}
use Rattle.gate_types.specs.Gated.{Gated}
use Rattle.gate_types.specs.declared.tap.Tap.{Tap}
use Rattle.gate_types.specs.declared.records.Id.{Id}
use Rattle.gate_types.specs.Once.{Content}
use Rattle.gate_types.specs.Settings.{Settings}
use Rattle.gate_archive.specs.Feed.{fed, feed_lines, id_named}
use Rattle.gate_archive.specs.Writes.{TookSome}
use Rattle.gate_book_trait.specs.Reads.{queue_named}
use Rattle.gate_book_trait.specs.Writes.{OfQueue}
use Rattle.gate_core.specs.declared.gate.Gate.{Gate}
use Rattle.gate_core.specs.Holding.{OfGate, book_of, settings_of}
use Rattle.gate_http.specs.declared.response.Form.TheVariants as form
use Rattle.gate_http.specs.declared.served.Served.{Served}
use Rattle.gate_http.specs.declared.served.Served.TheVariants.{Answered}
use Rattle.gate_http.specs.Answer.{AnswersBy}
use Rattle.gate_http.specs.Got.{way_got}
use Rattle.gated_cli.specs.Doing.{status_of}
use Rattle.gated_cli.specs.declared.run.fault.Fault.{Fault}
use Rattle.gated_cli.specs.declared.run.fault.Fault.TheVariants as fault
use Rattle.gated_cli.specs.declared.run.shown.Shown.{Shown}
use Rattle.gated_cli.specs.declared.run.shown.Shown.TheVariants as shown

-- ---- the status

-- what a fault leaves of the status text of a gate: a beginning where the output failed, and else nothing
abbrev pub LeavesStatus : {W : Type 0} → Gated → (W → Option (List ℕ)) → Tap W → Tap W → Fault → Type 0
LeavesStatus g held old new fault.Write = TookFront held old new (status_of g)
LeavesStatus g held old new _ = new ≡ old

-- the status text of a gate is written, or what a fault leaves of it
abbrev pub WritesStatus : {W : Type 0} → Gated → (W → Option (List ℕ)) → Tap W → Tap W → Result (Unit {0}) Fault →
    Type 0
WritesStatus g held old new result =
    MatchResult result (λ _. Took held old new (status_of g)) (LeavesStatus g held old new)

-- what a fault of it leaves of the output, whatever the gate is
abbrev pub StopsStatus : {W : Type 0} → (W → Option (List ℕ)) → Tap W → Tap W → Fault → Type 0
StopsStatus held old new fault.Write = (has_failed new ≡ true) × (text : List ℕ) × TookFront held old new text
StopsStatus held old new fault.Unavailable = new ≡ old
StopsStatus held old new (fault.File f) = new ≡ old
StopsStatus held old new _ = ⊥

-- ---- the history of a queue

-- what a fault leaves of the history of a queue: a beginning of its text; no queue has the name at `NoQueue`
abbrev pub LeavesShownHistory : {W : Type 0} → Gated → List ℕ → (W → Option (List ℕ)) → Tap W → Tap W → Fault → Type 0
LeavesShownHistory g name held old new fault.Write = OfQueue g.content.state name [] (TookFront held old new)
LeavesShownHistory g name held old new fault.Store = OfQueue g.content.state name [] (TookFront held old new)
LeavesShownHistory g name held old new fault.NoQueue = queue_named g.content.state name ≡ None
LeavesShownHistory g name held old new _ = ⊤

-- there is a queue of the name and the text of its history is written, or what a fault leaves of it
abbrev pub WritesShownHistory : {W : Type 0} → Gated → List ℕ → (W → Option (List ℕ)) → Tap W → Tap W →
    Result (Unit {0}) Fault → Type 0
WritesShownHistory g name held old new result = MatchResult result
    (λ _. OfQueue g.content.state name [] (Took held old new)) (LeavesShownHistory g name held old new)

-- what a fault of it leaves of the output, whatever the gate is
abbrev pub StopsHistory : {W : Type 0} → Tap W → Tap W → Fault → Type 0
StopsHistory old new fault.Write = has_failed new ≡ true
StopsHistory old new fault.Store = has_failed new ≡ false
StopsHistory old new fault.Unavailable = new ≡ old
StopsHistory old new fault.NoQueue = new ≡ old
StopsHistory old new (fault.File f) = new ≡ old
StopsHistory old new _ = ⊥

-- ---- accepted deliveries

-- more than any gate accepts
abbrev pub most_told : ℕ
most_told = 18446744073709551615

-- behind what a text that writes this id is asked; a text that writes none names no delivery
abbrev pub behind_named : Option Id → Result (Option Id) Fault
behind_named None = Err fault.NoDelivery
behind_named (Some id) = Ok (Some id)

-- behind what is asked: behind the delivery whose id a text writes, or, without a text, from the first on
abbrev pub cursor : Option (List ℕ) → Result (Option Id) Fault
cursor None = Ok None
cursor (Some text) = behind_named (id_named text)

-- the lines of the deliveries there, if there is such a place
abbrev pub lines_behind : Gated → Result (Option Id) Fault → Option (List ℕ)
lines_behind g (Ok after) = option_map feed_lines (fed after most_told g.content.kept)
lines_behind g (Err f) = None

-- the lines of all accepted deliveries, or of those behind that of the id that a text writes, if there is one
abbrev pub lines_told : Gated → Option (List ℕ) → Option (List ℕ)
lines_told g after = lines_behind g (cursor after)

-- there are these lines, and this is so of them
pub record OfLinesTold (told : Option (List ℕ)) (P : List ℕ → Type 0) : Type 0 where
  pub lines : List ℕ
  pub are : told ≡ Some lines
  pub so : P lines

-- what a fault leaves of the lines of deliveries: some first bytes; no delivery has the id at `NoDelivery`
abbrev pub LeavesShown : {W : Type 0} → Option (List ℕ) → (W → Option (List ℕ)) → Tap W → Tap W → Fault → Type 0
LeavesShown told held old new fault.Write = OfLinesTold told (TookSome held old new)
LeavesShown told held old new fault.Store = OfLinesTold told (TookSome held old new)
LeavesShown told held old new fault.NoDelivery = told ≡ None
LeavesShown told held old new _ = ⊤

-- the lines of deliveries are written, or what a fault leaves of them
abbrev pub WritesShown : {W : Type 0} → Option (List ℕ) → (W → Option (List ℕ)) → Tap W → Tap W →
    Result (Unit {0}) Fault → Type 0
WritesShown told held old new result =
    MatchResult result (λ _. OfLinesTold told (Took held old new)) (LeavesShown told held old new)

-- what a fault of it leaves of the output, whatever the gate is
abbrev pub StopsLines : {W : Type 0} → Tap W → Tap W → Fault → Type 0
StopsLines old new fault.Write = has_failed new ≡ true
StopsLines old new fault.Store = has_failed new ≡ false
StopsLines old new fault.Unavailable = new ≡ old
StopsLines old new fault.NoDelivery = new ≡ old
StopsLines old new (fault.File f) = new ≡ old
StopsLines old new _ = ⊥

-- ---- what is asked as over HTTP

-- asking ends well at the status 200, and else with `Refused`
abbrev pub IsEndedBy : Served → Result (Unit {0}) Fault → Type 0
IsEndedBy served result =
    MatchResult result (λ _. served ≡ Answered 200) (λ f. (f ≡ fault.Refused) × (served ≢ Answered 200))

-- a gate answers a GET of a path so, and this is so of the content
abbrev pub OfContent : Gated → List ℕ → Served → (List ℕ → Type 0) → Type 0
OfContent g path served Takes = (text : List ℕ) × Takes text × AnswersBy form.Content g (way_got path) served text g

-- what a fault leaves of the content: all of it where the answer has another status than 200; else a beginning, or
-- nothing
abbrev pub LeavesContent : {W : Type 0} → Gated → List ℕ → (W → Option (List ℕ)) → Tap W → Tap W → Fault → Type 0
LeavesContent g path held old new fault.Refused =
    (served : Served) × (served ≢ Answered 200) × OfContent g path served (Took held old new)
LeavesContent g path held old new fault.Write = (served : Served) × OfContent g path served (TookFront held old new)
LeavesContent g path held old new fault.Store = OfContent g path (Answered 200) (TookFront held old new)
LeavesContent g path held old new _ = new ≡ old

-- the content of an answer of the status 200 is written, or what a fault leaves of the content
abbrev pub WritesContent : {W : Type 0} → Gated → List ℕ → (W → Option (List ℕ)) → Tap W → Tap W →
    Result (Unit {0}) Fault → Type 0
WritesContent g path held old new result =
    MatchResult result (λ _. OfContent g path (Answered 200) (Took held old new))
    (LeavesContent g path held old new)

-- what a fault of it leaves of the output, whatever the gate is: the content is written where it is one of another
-- status than 200
abbrev pub StopsContent : {W : Type 0} → Tap W → Tap W → Fault → Type 0
StopsContent old new fault.Write = has_failed new ≡ true
StopsContent old new fault.Store = has_failed new ≡ false
StopsContent old new fault.Refused = has_failed new ≡ false
StopsContent old new fault.NoMemory = new ≡ old
StopsContent old new (fault.File f) = new ≡ old
StopsContent old new _ = ⊥

-- ---- any of them

-- what is written of a gate, or what a fault leaves of it
abbrev pub Writes : {W : Type 0} → Shown → Gated → (W → Option (List ℕ)) → Tap W → Tap W → Result (Unit {0}) Fault →
    Type 0
Writes shown.Status g held old new result = WritesStatus g held old new result
Writes (shown.History queue) g held old new result = WritesShownHistory g queue.now held old new result
Writes (shown.Deliveries after) g held old new result =
    WritesShown (lines_told g (option_map (λ s. s.now) after)) held old new result
Writes (shown.Content path) g held old new result = WritesContent g path.now held old new result

-- where it is written the output hasn't failed; of the status alone it is known there that a text was taken
abbrev pub EndsWell : {W : Type 0} → Shown → (W → Option (List ℕ)) → Tap W → Tap W → Type 0
EndsWell shown.Status held old new = (has_failed new ≡ false) × (text : List ℕ) × Took held old new text
EndsWell (shown.History queue) held old new = has_failed new ≡ false
EndsWell (shown.Deliveries after) held old new = has_failed new ≡ false
EndsWell (shown.Content path) held old new = has_failed new ≡ false

-- what a fault of it leaves of the output, whatever the gate is
abbrev pub StopsShown : {W : Type 0} → Shown → (W → Option (List ℕ)) → Tap W → Tap W → Fault → Type 0
StopsShown shown.Status held old new f = StopsStatus held old new f
StopsShown (shown.History queue) held old new f = StopsHistory old new f
StopsShown (shown.Deliveries after) held old new f = StopsLines old new f
StopsShown (shown.Content path) held old new f = StopsContent old new f

-- a crash leaves what it could leave before
abbrev pub LeavesAsBefore : {B : Type 0} → (B → Type 0) → (B → Settings → Content → Type 0) →
    (B → Settings → List Content → Type 0) → Gate B → Gate B → Type 0
LeavesAsBefore trusted holds leaves old new = OfGate trusted holds old new (λ x.
    (ys : List Content) → leaves (book_of old) (settings_of old) ys → leaves (book_of new) (settings_of old) ys)
