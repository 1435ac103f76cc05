-- Lists of pieces, one after another, with commas between.
use Rattle.std.proofs.Common.{◌≡◌, ℕ, ◌+◌, ◌<◌, Option, Some, None, List, [], ◌∷◌, ◌++◌, map, take, length, get_or}
use Rattle.std.proofs.Common.{refl, sym, ap, ◌∙◌, append_assoc, arith}
use Rattle.std.proofs.lemmas.List.{take_more}
use Rattle.gate_types.specs.JsonText.{Piece, joined, array, number, plain}
use Rattle.gate_archive.specs.OrNull.{or_null}
use Rattle.gate_texts.specs.Listed.{comma_behind, with_entry}
use Rattle.gate_texts.specs.Values.{written, bracketed, number_text, name_text}

-- each piece begins with a byte, and its text is the same whatever is behind it
pub record AreEntries {X : Type 0} (f : X → Piece) : Type 0 where
  pub begins : (x : X) → comma_behind (f x []) ≡ 44 ∷ []
  pub behind : (x : X) (rest : List ℕ) → f x rest ≡ f x [] ++ rest

comma_front : (a b : List ℕ) → comma_behind a ≡ 44 ∷ [] → comma_behind (a ++ b) ≡ 44 ∷ []
comma_front [] b e = let none : 0 ≡ 1 = ap (λ (l : List ℕ). length l) e in absurd (omega (arith, none))
comma_front (x ∷ a) b e = refl

pub joined_behind : {X : Type 0} {f : X → Piece} → AreEntries f → (xs : List X) (rest : List ℕ) →
    joined (map f xs) rest ≡ joined (map f xs) [] ++ rest
joined_behind h [] rest = refl
joined_behind h (x ∷ []) rest = h.behind x rest
joined_behind {f = f} h (x ∷ y ∷ ys) rest =
    let more = joined (map f (y ∷ ys)) [] in
    ap (λ l. f x (44 ∷ l)) (joined_behind h (y ∷ ys) rest)
    ∙ h.behind x (44 ∷ (more ++ rest))
    ∙ sym (ap (λ l. l ++ rest) (h.behind x (44 ∷ more)) ∙ append_assoc (f x []) (44 ∷ more) rest)

comma_some : {X : Type 0} {f : X → Piece} → AreEntries f → (y : X) (ys : List X) →
    comma_behind (joined (map f (y ∷ ys)) []) ≡ 44 ∷ []
comma_some h y [] = h.begins y
comma_some {f = f} h y (z ∷ zs) =
    ap comma_behind (h.behind y (44 ∷ joined (map f (z ∷ zs)) []))
    ∙ comma_front (f y []) (44 ∷ joined (map f (z ∷ zs)) []) (h.begins y)

pub joined_more : {X : Type 0} {f : X → Piece} → AreEntries f → (xs : List X) (x : X) →
    joined (map f (xs ++ x ∷ [])) [] ≡ with_entry (joined (map f xs) []) (f x [])
joined_more h [] x = refl
joined_more {f = f} h (y ∷ []) x =
    h.behind y (44 ∷ f x []) ∙ ap (λ b. f y [] ++ (b ++ f x [])) (sym (h.begins y))
joined_more {f = f} h (y ∷ z ∷ zs) x =
    let more = joined (map f (z ∷ zs)) [] in
    let last = 44 ∷ f x [] in
    ap (λ l. f y (44 ∷ l)) (joined_more h (z ∷ zs) x ∙ ap (λ b. more ++ (b ++ f x [])) (comma_some h z zs))
    ∙ h.behind y (44 ∷ (more ++ last))
    ∙ sym (ap (λ l. l ++ last) (h.behind y (44 ∷ more)) ∙ append_assoc (f y []) (44 ∷ more) last)
    ∙ ap (λ b. joined (map f (y ∷ z ∷ zs)) [] ++ (b ++ f x [])) (sym (comma_some h y (z ∷ zs)))

-- the list with the next of some elements
pub entries_next : {X : Type 0} {f : X → Piece} → AreEntries f → (xs : List X) (k : ℕ) (x : X) → k < length xs →
    x ≡ get_or xs k x → (list new entry : List ℕ) → list ≡ joined (map f (take k xs)) [] → entry ≡ f x [] →
    new ≡ with_entry list entry → new ≡ joined (map f (take (k + 1) xs)) []
entries_next {f = f} h xs k x less at list new entry l e n =
    n ∙ (λ i. with_entry (l i) (e i)) ∙ sym (joined_more h (take k xs) x)
    ∙ ap (λ ys. joined (map f ys) []) (ap (λ y. take k xs ++ y ∷ []) at ∙ sym (take_more xs k x less))

-- the array of them
pub array_is : {X : Type 0} {f : X → Piece} → AreEntries f → (xs : List X) (list rest : List ℕ) →
    list ≡ joined (map f xs) [] → bracketed list rest ≡ array (map f xs) rest
array_is {f = f} h xs list rest e =
    ap (λ l. 91 ∷ (l ++ 93 ∷ rest)) e ∙ ap (λ l. 91 ∷ l) (sym (joined_behind h xs (93 ∷ rest)))

-- ---- values

pub number_is : (n : Option ℕ) (rest : List ℕ) → written (number_text n) rest ≡ or_null number n rest
number_is None rest = refl
number_is (Some n) rest = refl

pub name_is : (name : Option (List ℕ)) (rest : List ℕ) → written (name_text name) rest ≡ or_null plain name rest
name_is None rest = refl
name_is (Some name) rest = ap (λ l. 34 ∷ l) (append_assoc name (34 ∷ []) rest)
