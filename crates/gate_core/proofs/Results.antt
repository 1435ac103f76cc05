-- What is known of a result or an option.
use Rattle.std.proofs.Common.{◌≡◌, subst}
use Rattle.std.specs.Prelude.{Result, Ok, Err, OnErr, Option, Some, MatchOption}

-- a fact stands where there is an error
pub on_err : {T E P : Type 0} (r : Result T E) → P → OnErr r P
on_err (Ok x) p = tt
on_err (Err e) p = p

-- what is known of an option, once it is known which it is
pub at_some : {V : Type 0} (P : Type 0) (Q : V → Type 0) (o : Option V) (a : V) → o ≡ Some a →
    MatchOption o P Q → Q a
at_some P Q o a e h = subst (λ w. MatchOption w P Q) e h
