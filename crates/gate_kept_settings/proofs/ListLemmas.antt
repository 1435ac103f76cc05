-- Lists, value by value.
use Rattle.std.proofs.Common.{◌≡◌, ℕ, suc, ◌+◌, ◌<◌, List, [], ◌∷◌, ◌++◌, map, length, drop, get_or, Option, Some}
use Rattle.std.proofs.Common.{None, refl, sym, ap, ◌∙◌, append_assoc, add-one}
use Rattle.std.proofs.Math.Seq.{drop-cons}
use Rattle.std.specs.Prelude.{option_map}
use Rattle.gate_kept_settings.specs.Reading.{◌>>=◌, each}

-- some values behind those that were read before
abbrev pub more : {X : Type 0} → List X → Option (List X) → Option (List X)
more done o = option_map (λ xs. done ++ xs) o

-- what the values from one on say: what it says, and then the others
each_from : {V A X : Type 0} (f : A → Option X) (g : V → A) (vs : List V) (k : ℕ) (v : V) → k < length vs → v ≡ get_or vs k v
    → each f (map g (drop k vs)) ≡ (f (g v) >>= λ x. option_map (λ xs. x ∷ xs) (each f (map g (drop (k + 1) vs))))
each_from f g vs k v l is =
    ap (λ ws. each f (map g ws)) (drop-cons vs k v l ∙ ap (λ w. w ∷ drop (suc k) vs) (sym is) ∙ ap (λ n. v ∷ drop n vs) (sym (add-one k)))

more_one : {X : Type 0} (done : List X) (x : X) (o : Option (List X)) → more done (option_map (λ xs. x ∷ xs) o) ≡ more (done ++ x ∷ []) o
more_one done x None = refl
more_one done x (Some xs) = ap Some (sym (append_assoc done (x ∷ []) xs))

-- a value that says something
pub reads_one : {V A X : Type 0} (f : A → Option X) (g : V → A) (vs : List V) (k : ℕ) (v : V) (done now : List X) (x : X)
    → each f (map g vs) ≡ more done (each f (map g (drop k vs))) → k < length vs → v ≡ get_or vs k v → f (g v) ≡ Some x → now ≡ done ++ x ∷ []
    → each f (map g vs) ≡ more now (each f (map g (drop (k + 1) vs)))
reads_one f g vs k v done now x so_far l is said added =
    so_far ∙ ap (more done) (each_from f g vs k v l is ∙ ap (λ o. o >>= λ y. option_map (λ ys. y ∷ ys) (each f (map g (drop (k + 1) vs)))) said)
    ∙ more_one done x (each f (map g (drop (k + 1) vs))) ∙ ap (λ ys. more ys (each f (map g (drop (k + 1) vs)))) (sym added)

-- one that says nothing
pub reads_none : {V A X : Type 0} (f : A → Option X) (g : V → A) (vs : List V) (k : ℕ) (v : V) (done : List X)
    → each f (map g vs) ≡ more done (each f (map g (drop k vs))) → k < length vs → v ≡ get_or vs k v → f (g v) ≡ None → each f (map g vs) ≡ None
reads_none f g vs k v done so_far l is said =
    so_far ∙ ap (more done) (each_from f g vs k v l is ∙ ap (λ o. o >>= λ y. option_map (λ ys. y ∷ ys) (each f (map g (drop (k + 1) vs)))) said)
