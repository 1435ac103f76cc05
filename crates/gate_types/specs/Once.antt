-- Deliveries under their ids: each id acts once.
use Rattle.std.specs.Prelude.{ℕ, Bool, true, false, ◌&&◌, not, nat_eq, if◌then◌else◌, List, [], ◌∷◌, ◌++◌, fold}
use Rattle.std.specs.Prelude.{Option, is_some, find}
use Rattle.std.specs.Option.{option_map_or}
use lib.Pointwise.{pointwise}
use Rattle.gate_types.specs.Settings.{Settings}
use Rattle.gate_types.specs.declared.records.Id.{Id}
use Rattle.gate_types.specs.declared.records.Kept.{Kept}
use Rattle.gate_types.specs.declared.deliveries.Delivery.{Delivery}
use Rattle.gate_types.specs.declared.deliveries.Answer.{Answer}
use Rattle.gate_types.specs.declared.deliveries.Answer.TheVariants as answer
use Rattle.gate_types.specs.declared.deliveries.Refusal.TheVariants as refusal
use Rattle.gate_types.specs.Names.{same_name}
use Rattle.gate_types.specs.State.{State, start}
use Rattle.gate_types.specs.Step.{Stepped, step, accepted, refused}
use Rattle.gate_types.specs.Canonical.{canonical_text}
use Rattle.gate_types.specs.ReplyText.{reply_text}
use Rattle.gate_types.specs.Refusals.{refusal_text}

-- the state, and what is kept of the deliveries that acted
pub record Content : Type 0 where
  pub state : State
  pub kept : List Kept

-- the content before the first delivery
abbrev pub empty : Settings → Content
empty c = record { state = start c; kept = [] }

-- a delivery under its id, marked if it was answered `unavailable`
pub record Call : Type 0 where
  pub id : Id
  pub delivery : Delivery
  pub unavailable : Bool

-- the text of an answer
abbrev pub answer_text : Answer → List ℕ
answer_text (answer.Said text) = text
answer_text (answer.Refused r) = refusal_text r

-- whether an answer is `unavailable`
abbrev pub is_unavailable : Answer → Bool
is_unavailable (answer.Refused refusal.Unavailable) = true
is_unavailable _ = false

-- what an earlier acting call with this id left
abbrev pub kept_for : Id → List Kept → Option Kept
kept_for id kept = find (λ k. pointwise nat_eq k.id.0 id.0) kept

-- the content after an accepted delivery; a refused one changes nothing
abbrev pub content_after : Content → Call → Stepped → Content
content_after x k (accepted r t) =
    record {
      state = t;
      kept = x.kept ++ record { id = k.id; said = canonical_text k.delivery; reply = reply_text r } ∷ [];
    }
content_after x k (refused r) = x

-- a call may act if it has no mark and no earlier acting call has its id
abbrev pub may_act : Content → Call → Bool
may_act x k = not k.unavailable && not (is_some (kept_for k.id x.kept))

-- whether a delivery was accepted
abbrev pub is_accepted : Stepped → Bool
is_accepted (accepted r t) = true
is_accepted (refused r) = false

-- it acts if its delivery is accepted then
abbrev pub acts : Settings → Content → Call → Bool
acts c x k = may_act x k && is_accepted (step c x.state k.delivery)

-- the content after a call
abbrev pub next_content : Settings → Content → Call → Content
next_content c x k = if may_act x k then content_after x k (step c x.state k.delivery) else x

-- the content after calls
abbrev pub once : Settings → Content → List Call → Content
once c x calls = fold (next_content c) x calls

-- the calls that act, in order
abbrev pub acting : Settings → Content → List Call → List Call
acting c x [] = []
acting c x (k ∷ ks) = (if acts c x k then k ∷ [] else []) ++ acting c (next_content c x k) ks

-- the state after a delivery
abbrev pub state_of_step : State → Stepped → State
state_of_step s (accepted r t) = t
state_of_step s (refused r) = s

-- the state after deliveries, one after another: this knows no ids
abbrev pub state_after : Settings → State → List Delivery → State
state_after c s ds = fold (λ t d. state_of_step t (step c t d)) s ds

-- what a new delivery is answered
abbrev pub answer_of_step : Stepped → Answer
answer_of_step (accepted r t) = answer.Said (reply_text r)
answer_of_step (refused r) = answer.Refused r

-- the kept reply to an equal delivery
abbrev pub kept_answer : List ℕ → Kept → Answer
kept_answer text k = if same_name k.said text then answer.Said k.reply else answer.Refused refusal.IdReused

-- the answer to a call
abbrev pub answer_of : Settings → Content → Call → Answer
answer_of c x k =
    if k.unavailable then answer.Refused refusal.Unavailable else
    option_map_or (kept_answer (canonical_text k.delivery)) (kept_for k.id x.kept)
    (answer_of_step (step c x.state k.delivery))

-- the answers to calls
abbrev pub answers : Settings → Content → List Call → List Answer
answers c x [] = []
answers c x (k ∷ ks) = answer_of c x k ∷ answers c (next_content c x k) ks
