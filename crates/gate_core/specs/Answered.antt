-- What a call is answered by a gate over a book, and what it leaves.
use Rattle.std.specs.Prelude.{◌≡◌, Bool, true, false, List, [], ◌∷◌, ◌++◌}
use Rattle.gate_types.specs.declared.records.Id.{Id}
use Rattle.gate_types.specs.declared.deliveries.Delivery.{Delivery}
use Rattle.gate_types.specs.declared.deliveries.Answer.{Answer}
use Rattle.gate_types.specs.Settings.{Settings}
use Rattle.gate_types.specs.Once.{Content, Call, answer_of, next_content, acts}
use Rattle.gate_types.specs.Forms.{IsLawfulContent}

-- a delivery under an id, with its mark
abbrev pub call : Id → Delivery → Bool → Call
call id d unavailable = record { id = id; delivery = d; unavailable = unavailable }

-- the content that a call would have given, had it not been answered `unavailable`
abbrev pub spared : Settings → Content → Call → Content
spared c x k = next_content c x (record k { unavailable = false })

-- what a crash leaves after a call: the next content alone after a first reply, what it could leave before after a kept
-- reply or a refusal, and after `unavailable` one content more: what the delivery would have given
pub record CallLeaves (c : Settings) (x : Content) (k : Call) (left leaves : List Content → Type 0) : Type 0 where
  pub acted : acts c x k ≡ true → leaves (next_content c x k ∷ [])
  pub stood : k.unavailable ≡ false → acts c x k ≡ false → (ys : List Content) → left ys → leaves ys
  pub failed : k.unavailable ≡ true → (ys : List Content) → left ys → leaves (ys ++ spared c x k ∷ [])

-- a call is answered as by the plain gate, the book holds the next content, which is lawful, and a crash leaves as much
pub record Answered (c : Settings) (x : Content) (k : Call) (a : Answer) (holds : Content → Type 0)
    (left leaves : List Content → Type 0) : Type 0 where
  pub answer : a ≡ answer_of c x k
  pub content : holds (next_content c x k)
  pub lawful : IsLawfulContent c (next_content c x k)
  pub crash : CallLeaves c x k left leaves
