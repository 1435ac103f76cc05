use Rattle.std.proofs.Common.{◌≡◌, ℕ, Bool, true, false, if◌then◌else◌, [], ◌++◌, List, Option, sym, subst, append-nil}
use Rattle.std.specs.Io.KnownBytes.{Appends}
use Rattle.std.specs.Prelude.{Result, Ok, Err, OnOk, OnErr}
use Rattle.std.proofs.Common.{inl, inr}
use Rattle.gate_types.specs.declared.tap.Tap.{Tap}
use Rattle.gate_types.specs.declared.tap.Failed.{Failed}
use Rattle.gate_types.specs.Tap.{has_failed, Took, TookFront}
use Rattle.gated_cli.specs.Ending.{TellsText}

-- a line that was written whole or in part is told
pub told_either : {E : Type 0} (held : E → Option (List ℕ)) (old new : Tap E) (text : List ℕ)
    (done : Result (Unit {0}) Failed) → OnOk done (Took held old new text) → OnErr done (TookFront held old new text)
    → OnErr done (has_failed new ≡ true) → TellsText held old new text
told_either held old new text (Ok u) whole part failed = inl whole
told_either held old new text (Err e) whole part failed = inr (part, failed)

-- what is asked for is written behind the replies
pub with_status : (a b : Option (List ℕ)) (asked : Bool) (r s : List ℕ) → asked ≡ true → Appends a b (r ++ s) → Appends a b (r ++ (if asked then s else []))
with_status a b asked r s e h = subst (λ x. Appends a b (r ++ (if x then s else []))) (sym e) h

-- nothing is written behind the replies where nothing is asked for
pub without_status : (a b : Option (List ℕ)) (asked : Bool) (r s : List ℕ) → asked ≡ false → Appends a b r → Appends a b (r ++ (if asked then s else []))
without_status a b asked r s e h = subst (λ x. Appends a b (r ++ (if x then s else []))) (sym e) (subst (Appends a b) (sym (append-nil r)) h)
