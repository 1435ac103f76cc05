-- What a commit message needs are numbers of changes.
use Rattle.std.proofs.Common.{◌≡◌, ℕ, Bool, true, false, ◌&&◌, List, [], ◌∷◌, ◌++◌, length, fold, Option, Some, None}
use Rattle.std.proofs.Common.{arith, refl, subst, cond, inl, inr}
use Rattle.std.specs.Prelude.{nat_lt, nat_le, slice_index, filter_map, ◌==◌}
use Rattle.std.specs.List.{list_all, list_any, slice_split}
use Rattle.std.specs.Bool.{then_some}
use Rattle.std.specs.Option.{option_map, option_and_then}
use Rattle.std.specs.Char.{is_ascii_digit}
use Rattle.std.specs.Str.Parse.{digits_value}
use Rattle.std.proofs.lemmas.Bool.{and_parts, leb-true}
use Rattle.std.proofs.lemmas.Option.{none-some}
use Rattle.gate_types.specs.Needs.{needs, named_change, number_of, after_base, without_blanks, after_footer}
use Rattle.gate_types.specs.Needs.{without_end, with_number}
use Rattle.gate_types.specs.Forms.{is_change_number}
use Rattle.gate_types.specs.Rising.{In}
use Rattle.gate_types.proofs.DigitLemmas.{value_small, value_positive}
use Rattle.gate_laws.proofs.Members.{all_to, from_append, from_filter_map}
use Rattle.gate_laws.proofs.Shapes.{up_to}

-- ---- digits

number_in_form : (ds : List ℕ) (n : ℕ) → number_of ds ≡ Some n → is_change_number n ≡ true
number_in_form ds n h =
    by_test (list_all is_ascii_digit ds && nat_le (length ds) 9 && nat_lt 48 (slice_index ds 0)) refl h
  where
    by_test : (b : Bool) → list_all is_ascii_digit ds && nat_le (length ds) 9 && nat_lt 48 (slice_index ds 0) ≡ b →
        then_some b (digits_value 10 ds) ≡ Some n → is_change_number n ≡ true
    by_test false e k = absurd (none-some n k)
    by_test true e k =
        let last = and_parts (list_all is_ascii_digit ds && nat_le (length ds) 9) (nat_lt 48 (slice_index ds 0)) e in
        let first = and_parts (list_all is_ascii_digit ds) (nat_le (length ds) 9) last.0 in
        let same : digits_value 10 ds ≡ n = cc in
        let small = value_small ds first.0 (leb-true (length ds) 9 first.1) in
        let big = value_positive ds first.0 last.1 in
        subst (λ m. is_change_number m ≡ true) same (up_to 999999999 (digits_value 10 ds) big (omega (arith, small)))

-- ---- needs

named_in_form : (base line : List ℕ) (n : ℕ) → named_change base line ≡ Some n → is_change_number n ≡ true
named_in_form base line n h =
    by_digits (option_and_then (after_base base) (option_map without_blanks (after_footer (without_end line)))) h
  where
    by_digits : (o : Option (List ℕ)) → option_and_then number_of o ≡ Some n → is_change_number n ≡ true
    by_digits None k = absurd (none-some n k)
    by_digits (Some ds) k = number_in_form ds n k

-- what was found is found, or is among the rest
from_numbers : (ns found : List ℕ) (n : ℕ) → In n (fold with_number found ns) →
    (In n found → is_change_number n ≡ true) → (In n ns → is_change_number n ≡ true) → is_change_number n ≡ true
from_numbers [] found n m f g = f m
from_numbers (x ∷ xs) found n m f g =
    from_numbers xs (with_number found x) n m (by_found (list_any (λ k. k == x) found)) (λ k. g (inr k))
  where
    by_found : (b : Bool) → In n (cond b found (found ++ x ∷ [])) → is_change_number n ≡ true
    by_found true k = f k
    by_found false k = elim (from_append found (x ∷ []) n k)
        [ inl o ↦ f o | inr w ↦ (elim w [ inl e ↦ g (inl e) | inr z ↦ absurd z ]) ]

pub needs_in_form : (base message : List ℕ) → list_all is_change_number (needs base message) ≡ true
needs_in_form base message =
    let lines = slice_split (λ b. b == 10) message in
    all_to is_change_number (needs base message) (λ n m.
    from_numbers (filter_map (named_change base) lines) [] n m (λ k. absurd k) (λ k.
    let x = from_filter_map (named_change base) lines n k in
    named_in_form base x.0 n x.2))
