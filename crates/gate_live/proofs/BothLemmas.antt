-- What reads leave of a book that holds what is live, and of the book below.
use Rattle.std.proofs.Common.{List, Result}
use Rattle.std.specs.Prelude.{IfErr}
use Rattle.gate_types.specs.Once.{Content}
use Rattle.gate_types.specs.Settings.{Settings}
use Rattle.gate_book_trait.specs.declared.fault.BookFault.{BookFault}
use Rattle.gate_book_trait.specs.Faults.{MayAnswer}
use Rattle.gate_book_trait.specs.Kept.{IsKept, OfHeld}
use Rattle.gate_book_trait.specs.Reads.{Answers}
use Rattle.gate_live.specs.Parts.{Agrees}
use Rattle.gate_live.specs.Both.{HoldsBoth, IsReadOfBoth}
use Rattle.gate_live.specs.declared.live_book.LiveBook.{LiveBook}

-- calls that only read the book below, and leave what agrees with it
pub both_kept : {B : Type 0} {trusted : B → Type 0} {holds : B → Settings → Content → Type 0} {leaves : B → Settings → List Content → Type 0} (old new : LiveBook B) →
    IsKept trusted holds leaves old.book new.book → OfHeld trusted holds old.book new.book (λ c x. Agrees old.live c x → Agrees new.live c x) →
    IsKept (λ r. trusted r.book) (λ r c x. HoldsBoth holds r c x) (λ r c ys. leaves r.book c ys) old new
both_kept old new kept agrees = record {
  trusted_before = kept.trusted_before;
  holds_on = λ trusted c x held. record {
    below = kept.holds_on trusted c x held.below;
    agrees = λ lawful. agrees trusted c x held.below lawful (held.agrees lawful);
  };
  leaves_on = λ trusted c x held ys. kept.leaves_on trusted c x held.below ys;
}

-- a read over the book below, whose answer is right if what is held in memory agrees with the content
pub both_read : {B T : Type 0} {trusted : B → Type 0} {holds : B → Settings → Content → Type 0} {leaves : B → Settings → List Content → Type 0} {may : BookFault → Type 0}
    (old new : LiveBook B) (told : Settings → Content → T) (result : Result T BookFault) →
    IsKept trusted holds leaves old.book new.book → OfHeld trusted holds old.book new.book (λ c x. Agrees old.live c x → Agrees new.live c x) →
    IfErr result (MayAnswer may) → OfHeld trusted holds old.book new.book (λ c x. Agrees old.live c x → Answers (told c x) result) →
    IsReadOfBoth trusted holds leaves may old new told result
both_read old new told result kept agrees fault found = record {
  found = λ trusted c x held lawful. found trusted c x held.below lawful (held.agrees lawful);
  kept = both_kept old new kept agrees;
  fault = fault;
}
