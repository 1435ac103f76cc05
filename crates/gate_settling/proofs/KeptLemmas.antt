-- Calls that only read, one after another, and what is known of their results.
use Rattle.std.proofs.Common.{◌≡◌, Option, Some, None, subst}
use Rattle.std.specs.Prelude.{Result, Ok, Err, IfOk, MatchOption}

-- what a result is, made weaker
pub if_ok_so : {T E : Type 0} {P Q : T → Type 0} (r : Result T E) → ((a : T) → P a → Q a) → IfOk r P → IfOk r Q
if_ok_so (Ok x) f p = f x p
if_ok_so (Err e) f p = tt

-- what is known of an option, once it is
pub at_some : {V : Type 0} (P : Type 0) (Q : V → Type 0) (o : Option V) (a : V) → o ≡ Some a → MatchOption o P Q → Q a
at_some P Q o a e h = subst (λ w. MatchOption w P Q) e h

pub at_none : {V : Type 0} (P : Type 0) (Q : V → Type 0) (o : Option V) → o ≡ None → MatchOption o P Q → P
at_none P Q o e h = subst (λ w. MatchOption w P Q) e h
