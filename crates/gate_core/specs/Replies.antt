-- What lines are answered, and the gate after them.
use Rattle.std.specs.Prelude.{◌≡◌, ℕ, ◌<◌, Bool, false, nat_lt, if◌then◌else◌, List, [], ◌∷◌, ◌++◌, length, map, take}
use Rattle.std.specs.Prelude.{Result, Ok, Err}
use Rattle.std.specs.List.{flat_map}
use Rattle.gate_types.specs.declared.records.Id.{Id}
use Rattle.gate_types.specs.declared.deliveries.Delivery.{Delivery}
use Rattle.gate_types.specs.declared.deliveries.Refusal.{Refusal}
use Rattle.gate_types.specs.declared.deliveries.Refusal.TheVariants as refusal
use Rattle.gate_types.specs.Once.{Call, once, answer_of, answer_text, answers}
use Rattle.gate_types.specs.Refusals.{refusal_text}
use Rattle.gate_types.specs.Gated.{Gated}
use Rattle.gate_types.specs.Limits.{most_bytes}
use Rattle.gate_core.specs.Limit.{too_large}
use Rattle.gate_wire.specs.declared.door.Door.TheVariants as door
use Rattle.gate_wire.specs.Reading.{says}

-- a line of an input, marked if it was answered `unavailable`
pub record Marked : Type 0 where
  pub line : List ℕ
  pub unavailable : Bool

-- a line over the limit is skipped
abbrev pub is_too_long : List ℕ → Bool
is_too_long line = nat_lt most_bytes (length line)

-- the call that was read, if any
abbrev pub call_read : Bool → Result (Id × Delivery) Refusal → List Call
call_read unavailable (Ok x) = record { id = x.0; delivery = x.1; unavailable = unavailable } ∷ []
call_read unavailable (Err e) = []

-- the call of a line: none where it is too long or says no delivery
abbrev pub call_of : Marked → List Call
call_of m = if is_too_long m.line then [] else call_read m.unavailable (says door.Any m.line)

-- the calls of lines, in order
abbrev pub calls_of_lines : List Marked → List Call
calls_of_lines ms = flat_map call_of ms

-- the gate after lines: each id acts once
abbrev pub gate_after_lines : Gated → List Marked → Gated
gate_after_lines g ms = record g { content = once g.settings g.content (calls_of_lines ms) }

-- the text for what was read: the answer to a delivery, or why there is none
abbrev pub text_read : Gated → Result (Id × Delivery) Refusal → List ℕ
text_read g (Ok x) =
    answer_text (answer_of g.settings g.content (record { id = x.0; delivery = x.1; unavailable = false }))
text_read g (Err e) = refusal_text e

-- the reply to a line
abbrev pub reply_to : Gated → Marked → List ℕ
reply_to g m =
    if is_too_long m.line then too_large else
    if m.unavailable then refusal_text refusal.Unavailable else
    text_read g (says door.Any m.line)

-- the replies to lines, one after another, each with an LF
abbrev pub replies : Gated → List Marked → List ℕ
replies g [] = []
replies g (m ∷ ms) = (reply_to g m ++ 10 ∷ []) ++ replies (gate_after_lines g (m ∷ [])) ms

-- a line may be answered by this text, and the gate is this one then
pub record RepliedTo (g : Gated) (line text : List ℕ) (after : Gated) : Type 0 where
  pub unavailable : Bool
  pub said : text ≡ reply_to g (record { line = line; unavailable = unavailable })
  pub stands : after ≡ gate_after_lines g (record { line = line; unavailable = unavailable } ∷ [])

-- the lines, some of them marked, are replied to by this text, and each of their calls acts once
pub record Replayed (g : Gated) (lines : List (List ℕ)) (text : List ℕ) (after : Gated) : Type 0 where
  pub marked : List Marked
  pub every_line : map (λ m. m.line) marked ≡ lines
  pub said : text ≡ replies g marked
  pub stands : after ≡ gate_after_lines g marked

-- the first of the lines are replied to, the last of these replies is cut, and its call stands
pub record Cut (g : Gated) (lines : List (List ℕ)) (text : List ℕ) (after : Gated) : Type 0 where
  pub done : List Marked
  pub last : Marked
  pub unanswered : List (List ℕ)
  pub every_line : map (λ m. m.line) done ++ last.line ∷ unanswered ≡ lines
  pub at : ℕ
  pub short : at < length (reply_to (gate_after_lines g done) last ++ 10 ∷ [])
  pub said : text ≡ replies g done ++ take at (reply_to (gate_after_lines g done) last ++ 10 ∷ [])
  pub stands : after ≡ gate_after_lines g (done ++ last ∷ [])

-- the replies to those of the lines that are calls
abbrev pub call_replies : Gated → List Marked → List (List ℕ)
call_replies g [] = []
call_replies g (m ∷ ms) = map (λ k. reply_to g m) (call_of m) ++ call_replies (gate_after_lines g (m ∷ [])) ms

-- they are the answers to these calls, each id acting once
abbrev pub CallsAreAnswered : Gated → List Marked → Type 0
CallsAreAnswered g ms = call_replies g ms ≡ map answer_text (answers g.settings g.content (calls_of_lines ms))
