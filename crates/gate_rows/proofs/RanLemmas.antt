-- From a statement that ran to what it makes.
use Rattle.std.specs.Prelude.{OnOk, Result, Ok, Err}

-- what follows from how a statement ran is so where it did
pub ran_so : {T E : Type 0} {P Q : Type 0} (r : Result T E) → (P → Q) → OnOk r P → OnOk r Q
ran_so (Ok x) f p = f p
ran_so (Err e) f p = tt
