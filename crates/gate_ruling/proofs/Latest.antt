-- What the lines on a change and its revision come to.
use Rattle.std.proofs.Common.{◌≡◌, ℕ, ◌<◌, ◌≤◌, Some, None, refl, arith}
use Rattle.std.proofs.lemmas.Bool.{lt-ltb, le-ltb}
use Rattle.gate_types.specs.declared.records.Change.{Change}
use Rattle.gate_types.specs.declared.deliveries.Reply.TheVariants as reply
use Rattle.gate_types.specs.declared.deliveries.Refusal.TheVariants as refusal
use Rattle.gate_types.specs.State.{State, known_change}
use Rattle.gate_types.specs.Step.{Stepped, accepted, refused, on_known}
use Rattle.gate_ruling.specs.Guards.{unless_past, OthersDecide}

pub unknown : (s : State) (n r : ℕ) (f : Change → Stepped) → known_change s n ≡ None →
    on_known s n r f ≡ refused refusal.UnknownChange
unknown s n r f none = rw none refl

pub ahead : (s : State) (n r : ℕ) (f : Change → Stepped) (k : Change) → known_change s n ≡ Some k → k.revision < r →
    on_known s n r f ≡ refused refusal.UnknownRevision
ahead s n r f k known less = rw (known, lt-ltb k.revision r less) refl

pub past : (s : State) (n r : ℕ) (f : Change → Stepped) (k : Change) → known_change s n ≡ Some k → r < k.revision →
    on_known s n r (unless_past s r f) ≡ accepted reply.Stale s
past s n r f k known less = rw (known, le-ltb k.revision r (omega arith), lt-ltb r k.revision less) refl

pub at_latest : (s : State) (n r : ℕ) (k : Change) → known_change s n ≡ Some k → r ≤ k.revision → k.revision ≤ r →
    OthersDecide s n r k
at_latest s n r k known up down = λ f. rw (known, le-ltb k.revision r up, le-ltb r k.revision down) refl
