-- The delivery that bytes say at a door.
use Rattle.std.specs.Prelude.{◌≡◌, ◌≢◌, ℕ, Bool, ◌&&◌, nat_le, List, codes, if◌then◌else◌, Option, Some, None}
use Rattle.std.specs.Prelude.{Result, Ok, Err, MatchResult}
use Rattle.std.specs.Str.{bytes_eq}
use Rattle.serde_json.specs.Data.{Data}
use Rattle.uuid.specs.Text.{parsed}
use Rattle.gate_types.specs.declared.records.Id.{Id}
use Rattle.gate_types.specs.declared.deliveries.Ending.{Ending}
use Rattle.gate_types.specs.declared.deliveries.Ending.TheVariants as ending
use Rattle.gate_types.specs.declared.deliveries.Delivery.{Delivery}
use Rattle.gate_types.specs.declared.deliveries.Delivery.TheVariants as delivery
use Rattle.gate_types.specs.declared.deliveries.Refusal.{Refusal}
use Rattle.gate_types.specs.declared.deliveries.Refusal.TheVariants as refusal
use Rattle.gate_types.specs.Canonical.{ending_word}
use Rattle.gate_types.specs.Names.{is_path_name, is_message}
use Rattle.gate_wire.specs.declared.door.Door.{Door}
use Rattle.gate_wire.specs.declared.door.Kind.{Kind}
use Rattle.gate_wire.specs.declared.door.Kind.TheVariants as kind
use Rattle.gate_wire.specs.Kinds.{kind_named, opens_to}
use Rattle.gate_types.specs.Counters.{last_number}
use Rattle.gate_types.specs.Reading.{passing, text_at, value_of, whole_at}

-- a value or the first refusal, and then the next one's
infixl 10 ◌>>=◌
abbrev pub ◌>>=◌ : {A B : Type 0} → Result A Refusal → (A → Result B Refusal) → Result B Refusal
(Ok x) >>= f = f x
(Err e) >>= f = Err e

-- a call gives what is said, seen by view, unless it answers `unavailable`
abbrev pub Gives : {X Y : Type 0} → (X → Y) → Result X Refusal → Result Y Refusal → Type 0
Gives view result said = MatchResult result (λ x. said ≡ Ok (view x)) (λ e. e ≢ refusal.Unavailable → said ≡ Err e)

-- what is missing makes a bad delivery
abbrev pub or_bad : {A : Type 0} → Option A → Result A Refusal
or_bad (Some x) = Ok x
or_bad None = Err refusal.BadDelivery

-- a whole number from 1 to the highest
abbrev pub whole_up_to : ℕ → List ℕ → Data → Result ℕ Refusal
whole_up_to highest name d = or_bad (whole_at name d) >>= λ n. or_bad (passing (λ n. nat_le 1 n && nat_le n highest) n)

-- a text that passes a test
abbrev pub text_of_form : (List ℕ → Bool) → List ℕ → Data → Result (List ℕ) Refusal
text_of_form has_form name d = or_bad (text_at name d) >>= λ s. or_bad (passing has_form s)

-- the id: a UUID in any of its forms
unfoldable pub id_at : Data → Result Id Refusal
id_at d = or_bad (text_at (codes "id") d) >>= λ s. or_bad (parsed s) >>= λ bytes. Ok (record { 0 = bytes })

-- the change: 1 to 999,999,999
unfoldable pub change_at : Data → Result ℕ Refusal
change_at d = whole_up_to 999999999 (codes "change") d

-- the revision: 1 to 9,999
unfoldable pub revision_at : Data → Result ℕ Refusal
revision_at d = whole_up_to 9999 (codes "revision") d

-- the order: 1 to 10^15
unfoldable pub order_at : Data → Result ℕ Refusal
order_at d = whole_up_to last_number (codes "order") d

-- the build: 1 to 10^15
unfoldable pub build_at : Data → Result ℕ Refusal
build_at d = whole_up_to last_number (codes "build") d

-- the project, by the form of its name
unfoldable pub project_name_at : Data → Result (List ℕ) Refusal
project_name_at d = text_of_form is_path_name (codes "project") d

-- the worker, by the form of its name
unfoldable pub worker_at : Data → Result (List ℕ) Refusal
worker_at d = text_of_form is_path_name (codes "worker") d

-- the message, within its limit
unfoldable pub message_at : Data → Result (List ℕ) Refusal
message_at d = text_of_form is_message (codes "message") d

-- the ending of a word
abbrev pub ending_named : List ℕ → Option Ending
ending_named word =
    if bytes_eq word (ending_word ending.Success) then Some ending.Success
    else if bytes_eq word (ending_word ending.Failure) then Some ending.Failure
    else if bytes_eq word (ending_word ending.Lost) then Some ending.Lost
    else None

-- the outcome that a worker reports
unfoldable pub ending_at : Data → Result Ending Refusal
ending_at d = or_bad (text_at (codes "outcome") d) >>= λ word. or_bad (ending_named word)

-- what is said of a change at a revision
abbrev pub at_revision : (ℕ → ℕ → Delivery) → Data → Result Delivery Refusal
at_revision made d = change_at d >>= λ change. revision_at d >>= λ revision. Ok (made change revision)

-- a revision
abbrev pub revision_said : Data → Result Delivery Refusal
revision_said d =
    change_at d >>= λ change. project_name_at d >>= λ project. revision_at d >>= λ revision. message_at d >>= λ message.
    Ok (delivery.Revision change project revision message)

-- the delivery of a kind
unfoldable pub delivery_at : Kind → Data → Result Delivery Refusal
delivery_at kind.Revision d = revision_said d
delivery_at kind.Approved d = at_revision delivery.Approved d
delivery_at kind.Withdrawn d = at_revision delivery.Withdrawn d
delivery_at kind.Closed d = at_revision delivery.Closed d
delivery_at kind.Landed d = order_at d >>= λ order. Ok (delivery.Landed order)
delivery_at kind.Refused d = order_at d >>= λ order. Ok (delivery.Refused order)
delivery_at kind.Take d = worker_at d >>= λ worker. Ok (delivery.Take worker)
delivery_at kind.Result d = build_at d >>= λ build. ending_at d >>= λ ending. Ok (delivery.Result build ending)

-- the kind
unfoldable pub kind_at : Data → Result Kind Refusal
kind_at d = or_bad (text_at (codes "kind") d) >>= λ word. or_bad (kind_named word)

-- a kind that the door is open to
abbrev pub through_door : Door → Kind → Result Kind Refusal
through_door door k = if opens_to door k then Ok k else Err refusal.WrongDoor

-- the id and the delivery that a value says: the id and the kind come first, then the door, then the other members
unfoldable pub data_says : Door → Data → Result (Id × Delivery) Refusal
data_says door d =
    id_at d >>= λ id. kind_at d >>= λ said. through_door door said >>= λ k. delivery_at k d >>= λ delivery.
    Ok (id, delivery)

-- what a value says, or that the bytes are no JSON
abbrev pub read_or_bad : Door → Option Data → Result (Id × Delivery) Refusal
read_or_bad door None = Err refusal.BadJson
read_or_bad door (Some d) = data_says door d

-- the id and the delivery that bytes say, or why they are refused
abbrev pub says : Door → List ℕ → Result (Id × Delivery) Refusal
says door bytes = read_or_bad door (value_of bytes)
