-- Calls that keep what a book holds, one after another.
use Rattle.gate_book_trait.specs.Kept.{IsKept}

pub then : {B : Type 0} → {trusted : B → Type 0} → {holds : _} → {leaves : _} → {a b d : B} →
    IsKept trusted holds leaves a b → IsKept trusted holds leaves b d → IsKept trusted holds leaves a d
then h k = record {
  trusted_before = λ t. h.trusted_before (k.trusted_before t);
  holds_on = λ t c x held. k.holds_on t c x (h.holds_on (k.trusted_before t) c x held);
  leaves_on = λ t c x held ys l.
      k.leaves_on t c x (h.holds_on (k.trusted_before t) c x held) ys (h.leaves_on (k.trusted_before t) c x held ys l);
}
