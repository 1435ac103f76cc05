-- What reading footers rests on.
use Rattle.std.proofs.Common.{◌≡◌, ℕ, ◌<◌, ◌≤◌, ◌+◌, Bool, true, false, cond, nat_eq, List, [], ◌∷◌, ◌++◌, map}
use Rattle.std.proofs.Common.{length, take, drop, get_or, fold, arith, refl, sym, ap, ◌∙◌, subst, length-append}
use Rattle.std.proofs.Common.{take-append-drop, Option, Some, None}
use Rattle.std.specs.Prelude.{codes, ◌==◌, filter_map}
use Rattle.std.specs.List.{starts_with, list_any, cons_option, slice_split}
use Rattle.std.specs.Str.{str_to_ascii_lowercase}
use Rattle.std.specs.Char.{to_ascii_lowercase}
use Rattle.std.proofs.lemmas.List.{take-map, take_more, take_all}
use Rattle.std.proofs.lemmas.List.Elements.{filter_map-append}
use Rattle.std.proofs.lemmas.List.Sums.{fold-append}
use Rattle.std.proofs.lemmas.Slice.Eq.{bytes_eq-Decides}
use Rattle.gate_types.specs.Needs.{named_change, with_number, needs}
use Rattle.gate_types.specs.Limits.{most_needs}

false_unless : (b : Bool) → (b ≡ true → ⊥) → b ≡ false
false_unless true h = absurd (h refl)
false_unless false h = refl

-- a line whose first bytes aren't the footer's begins with none
pub no_footer : (front line : List ℕ) → front ≡ take 11 line → (map to_ascii_lowercase front ≡ codes "depends-on:" → ⊥)
    → starts_with nat_eq (str_to_ascii_lowercase line) (codes "depends-on:") ≡ false
no_footer front line e h = false_unless _ (λ t. h (ap (map to_ascii_lowercase) e ∙ sym (take-map to_ascii_lowercase 11 line)
    ∙ sym ((bytes_eq-Decides (codes "depends-on:") (take 11 (map to_ascii_lowercase line))).0 t)))

-- the changes that lines name
abbrev pub needs_in : List ℕ → List (List ℕ) → List ℕ
needs_in base lines = fold with_number [] (filter_map (named_change base) lines)

-- with the change that one more line names
abbrev pub with_named : List ℕ → Option ℕ → List ℕ
with_named found None = found
with_named found (Some n) = with_number found n

one_line : (found : List ℕ) (o : Option ℕ) → fold with_number found (cons_option o []) ≡ with_named found o
one_line found None = refl
one_line found (Some n) = refl

-- one line more
needs_step : (base : List ℕ) (lines : List (List ℕ)) (i : ℕ) (d : List ℕ) → i < length lines
    → with_named (needs_in base (take i lines)) (named_change base (get_or lines i d)) ≡ needs_in base (take (i + 1) lines)
needs_step base lines i d h =
    sym (ap (needs_in base) (take_more lines i d h)
    ∙ ap (fold with_number []) (filter_map-append (named_change base) (take i lines) (get_or lines i d ∷ []))
    ∙ fold-append with_number [] (filter_map (named_change base) (take i lines)) (filter_map (named_change base) (get_or lines i d ∷ []))
    ∙ one_line (needs_in base (take i lines)) (named_change base (get_or lines i d)))

-- the same of a line and what it names
pub needs_turn : (base : List ℕ) (lines : List (List ℕ)) (n m : ℕ) (found line : List ℕ) (o : Option ℕ) → found ≡ needs_in base (take n lines)
    → (n < length lines) × (line ≡ get_or lines n line) → named_change base line ≡ o → m ≡ n + 1 → with_named found o ≡ needs_in base (take m lines)
needs_turn base lines n m found line o so_far (inside, at) names next =
    ap (λ f. with_named f o) so_far
    ∙ ap (with_named (needs_in base (take n lines))) (sym names ∙ ap (named_change base) at)
    ∙ needs_step base lines n line inside
    ∙ ap (λ k. needs_in base (take k lines)) (sym next)

longer : (t : Bool) (found : List ℕ) (n : ℕ) → length found ≤ length (cond t found (found ++ n ∷ []))
longer true found n = omega arith
longer false found n = omega (arith, length-append found (n ∷ []))

fold_longer : (ns found : List ℕ) → length found ≤ length (fold with_number found ns)
fold_longer [] found = omega arith
fold_longer (n ∷ ns) found = omega (arith, fold_longer ns (with_number found n), longer (list_any (λ m. m == n) found) found n)

needs_grow : (base : List ℕ) (xs ys : List (List ℕ)) → length (needs_in base xs) ≤ length (needs_in base (xs ++ ys))
needs_grow base xs ys = subst (λ l. length (needs_in base xs) ≤ length l)
    (sym (ap (fold with_number []) (filter_map-append (named_change base) xs ys)
    ∙ fold-append with_number [] (filter_map (named_change base) xs) (filter_map (named_change base) ys)))
    (fold_longer (filter_map (named_change base) ys) (needs_in base xs))

-- the first lines name no more than all
needs_most : (base : List ℕ) (lines : List (List ℕ)) (i : ℕ) → length (needs_in base (take i lines)) ≤ length (needs_in base lines)
needs_most base lines i = subst (λ l. length (needs_in base (take i lines)) ≤ length (needs_in base l)) (take-append-drop i lines) (needs_grow base (take i lines) (drop i lines))

-- and all lines name the needs of the message
pub needs_all : (base message : List ℕ) (n : ℕ) → n ≡ length (slice_split (λ b. b == 10) message) → needs_in base (take n (slice_split (λ b. b == 10) message)) ≡ needs base message
needs_all base message n e = ap (needs_in base) (take_all n (slice_split (λ b. b == 10) message) (omega (arith, e)))

-- where some lines name too many, so does the message
pub needs_beyond : (base message : List ℕ) (n : ℕ) (found : List ℕ) → found ≡ needs_in base (take n (slice_split (λ b. b == 10) message))
    → most_needs < length found → most_needs < length (needs base message)
needs_beyond base message n found so_far many = omega (arith, many, ap length so_far, needs_most base (slice_split (λ b. b == 10) message) n)
