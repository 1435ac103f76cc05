-- What reading rests on.
use Rattle.std.proofs.Common.{◌≡◌, ℕ, ◌<◌, List, map, length, drop, get_or, Option, Some}
use Rattle.std.proofs.Common.{Result, Ok, Err, ap, ◌∙◌}
use Rattle.std.specs.Result.{IsErrAnd}
use Rattle.gate_kept_settings.specs.declared.fault.TextFault.{TextFault}
use Rattle.gate_kept_settings.specs.declared.fault.TextFault.TheVariants as fault
use Rattle.gate_kept_settings.specs.Reading.{GivesKept, ◌>>=◌, each}
use Rattle.gate_kept_settings.proofs.ListLemmas.{more, reads_none}

ends : {Y A B : Type 0} (v : A → B) (e : TextFault) (o : Option Y) (f : Y → Option B) → GivesKept {X = Y} (λ y. y) (Err e) o → GivesKept v (Err e) (o >>= f)
ends v fault.NotSettings o f h = ap (λ p. p >>= f) h
ends v fault.NoMemory o f h = tt

-- what isn't read ends all that goes on from it
pub stops : {Y A B : Type 0} (v : A → B) (r : Result A TextFault) (e : TextFault) (o : Option Y) (f : Y → Option B) → IsErrAnd r (λ d. d ≡ e) → GivesKept {X = Y} (λ y. y) (Err e) o → GivesKept v r (o >>= f)
stops v (Ok x) e o f is h = absurd is
stops v (Err d) e o f is h = rw is (ends v e o f h)

-- what is read lets the rest go on
pub goes_on : {Y A B : Type 0} (v : A → B) (r : Result A TextFault) (o : Option Y) (y : Y) (f : Y → Option B) → o ≡ Some y → GivesKept v r (f y) → GivesKept v r (o >>= f)
goes_on v r o y f is h = rw is h

pub then : {Y B : Type 0} (o : Option Y) (y : Y) (f : Y → Option B) (b : Option B) → o ≡ Some y → f y ≡ b → o >>= f ≡ b
then o y f b is h = ap (λ p. p >>= f) is ∙ h

-- a value that isn't read ends what is read from all
pub list_stops : {V A X C : Type 0} (w : C → List X) (r : Result C TextFault) (e : TextFault) (f : A → Option X) (g : V → A) (vs : List V) (k : ℕ) (v : V) (done : List X)
    → each f (map g vs) ≡ more done (each f (map g (drop k vs))) → k < length vs → v ≡ get_or vs k v
    → IsErrAnd r (λ d. d ≡ e) → GivesKept {X = X} (λ x. x) (Err e) (f (g v)) → GivesKept w r (each f (map g vs))
list_stops w (Ok c) e f g vs k v done so_far l is fails h = absurd fails
list_stops w (Err d) fault.NotSettings f g vs k v done so_far l is fails h = rw fails (reads_none f g vs k v done so_far l is h)
list_stops w (Err d) fault.NoMemory f g vs k v done so_far l is fails h = rw fails tt
