-- What becomes of a delivery under a new id.
use Rattle.std.specs.Prelude.{◌≡◌, ℕ, false, List, [], ◌∷◌, ◌++◌}
use Rattle.gate_types.specs.declared.records.Id.{Id}
use Rattle.gate_types.specs.declared.edits.Edit.{Edit}
use Rattle.gate_types.specs.declared.deliveries.Reply.{Reply}
use Rattle.gate_types.specs.declared.deliveries.Delivery.{Delivery}
use Rattle.gate_types.specs.declared.deliveries.Answer.{Answer}
use Rattle.gate_types.specs.declared.deliveries.Answer.TheVariants as answer
use Rattle.gate_types.specs.ReplyText.{reply_text}
use Rattle.gate_types.specs.Settings.{Settings}
use Rattle.gate_types.specs.State.{State}
use Rattle.gate_types.specs.Step.{step, accepted, refused}
use Rattle.gate_types.specs.Once.{Content, is_unavailable}
use Rattle.gate_types.specs.Tables.{Leads}
use Rattle.gate_reads.specs.Moves.{in_state}
use Rattle.gate_core.specs.declared.ruled.Ruled.{Ruled}
use Rattle.gate_core.specs.declared.ruled.Ruled.TheVariants as ruled

-- the content in another state, with one reply more
abbrev pub kept_on : Content → State → Id → List ℕ → Reply → Content
kept_on x u id said r =
    record { state = u; kept = x.kept ++ record { id = id; said = said; reply = reply_text r } ∷ [] }

-- the delivery is accepted, and the edits lead to its state
pub record Accepts (c : Settings) (x : Content) (d : Delivery) (reply : Reply) (edits : List Edit) : Type 0 where
  pub after : State
  pub steps : step c x.state d ≡ accepted reply after
  pub leads : Leads c x edits (in_state x after)

-- it is refused, or it is accepted
abbrev pub IsRuled : Settings → Content → Delivery → Ruled → Type 0
IsRuled c x d (ruled.Refused r) = (step c x.state d ≡ refused r) × (is_unavailable (answer.Refused r) ≡ false)
IsRuled c x d (ruled.Accepted reply edits) = Accepts c x d reply edits.items

-- the reply is given, the book holds the next content, and a crash leaves that alone
pub record IsAccepted (y : Content) (reply : Reply) (a : Answer) (holds : Content → Type 0)
    (leaves : List Content → Type 0) : Type 0 where
  pub said : a ≡ answer.Said (reply_text reply)
  pub content : holds y
  pub crash : leaves (y ∷ [])

-- the book holds what it held, and a crash leaves what it could leave before, or the next content
pub record IsSpared (x y : Content) (holds : Content → Type 0) (left leaves : List Content → Type 0) : Type 0 where
  pub content : holds x
  pub crash : (ys : List Content) → left ys → leaves (ys ++ y ∷ [])
