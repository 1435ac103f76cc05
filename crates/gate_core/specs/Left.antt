-- What a crash leaves after calls.
use Rattle.std.specs.Prelude.{if◌then◌else◌, List, [], ◌∷◌, ◌++◌}
use Rattle.gate_types.specs.Settings.{Settings}
use Rattle.gate_types.specs.Once.{Content, Call, acts, next_content}
use Rattle.gate_types.specs.Gated.{Gated}
use Rattle.gate_core.specs.Answered.{spared}
use Rattle.gate_core.specs.declared.gate.Gate.{Gate}
use Rattle.gate_core.specs.Holding.{book_of}

-- a crash leaves one of these contents after a call, if it left one of `ys` before: only the next content if the call
-- acts, one content more after `unavailable`, and the same otherwise
abbrev pub left_by : Settings → Content → Call → List Content → List Content
left_by c x k ys =
    if acts c x k then next_content c x k ∷ [] else
    if k.unavailable then ys ++ spared c x k ∷ [] else ys

-- and so after calls in turn
abbrev pub left_after : Settings → Content → List Call → List Content → List Content
left_after c x [] ys = ys
left_after c x (k ∷ ks) ys = left_after c (next_content c x k) ks (left_by c x k ys)

-- these calls of a gate change what a crash leaves of its book as stated
abbrev pub LeavesBy : {B : Type 0} → (B → Settings → List Content → Type 0) → Gate B → Gate B → Gated → List Call →
    Type 0
LeavesBy leaves old new g ks = (ys : List Content) → leaves (book_of old) g.settings ys →
    leaves (book_of new) g.settings (left_after g.settings g.content ks ys)
