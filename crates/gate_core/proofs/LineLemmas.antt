-- The lines that are gathered byte by byte are those of the split.
use Rattle.std.proofs.Common.{◌≡◌, ℕ, ◌-◌, Bool, true, false, List, [], ◌∷◌, ◌++◌, length, take, drop, cond, nat_eq}
use Rattle.std.proofs.Common.{nat_lt, arith, rules, refl, sym, ap, ◌∙◌, append_assoc, append-nil, length-append}
use Rattle.std.specs.List.{All, filter}
use Rattle.std.proofs.Math.Seq.{take-append_seam, drop-append_seam}
use Rattle.std.proofs.lemmas.List.Elements.{All-nil, All-cons, All-append}
use Rattle.std.proofs.lemmas.List.Splits.{slice_split_none, slice_split_at}
use Rattle.gate_core.specs.Gathered.{whole_from, rest_from}
use Rattle.gate_core.specs.Lines.{pieces, whole_lines, last_line, lines_of}

abbrev is_end : ℕ → Bool
is_end b = nat_eq b 10

abbrev HasNoEnd : List ℕ → Type 0
HasNoEnd bytes = All (λ b. is_end b ≡ false) bytes

-- the lines that ended, and what stands behind, are the pieces
gathered : (begun bytes : List ℕ) → HasNoEnd begun → whole_from begun bytes ++ rest_from begun bytes ∷ [] ≡ pieces (begun ++ bytes)
gathered begun [] none = sym (ap pieces (append-nil begun) ∙ slice_split_none is_end begun none)
gathered begun (b ∷ bs) none =
    let at_end : is_end b ≡ true → begun ∷ (whole_from [] bs ++ rest_from [] bs ∷ []) ≡ pieces (begun ++ b ∷ bs) =
    λ e. ap (λ l. begun ∷ l) (gathered [] bs (All-nil _)) ∙ sym (slice_split_at is_end begun b bs none e) in
    let within : is_end b ≡ false → whole_from (begun ++ b ∷ []) bs ++ rest_from (begun ++ b ∷ []) bs ∷ [] ≡ pieces (begun ++ b ∷ bs) =
    λ e. gathered (begun ++ b ∷ []) bs (All-append (λ x. is_end x ≡ false) begun (b ∷ []) none (All-cons (λ x. is_end x ≡ false) b [] e (All-nil (λ x. is_end x ≡ false)))) ∙ ap pieces (append_assoc begun (b ∷ []) bs) in
    (elim (is_end b) as (λ t. is_end b ≡ t → cond t (begun ∷ whole_from [] bs) (whole_from (begun ++ b ∷ []) bs)
    ++ cond t (rest_from [] bs) (rest_from (begun ++ b ∷ []) bs) ∷ [] ≡ pieces (begun ++ b ∷ bs)) [
      | true ↦ at_end
      | false ↦ within
    ]) refl

-- all but the last of some lists and one more
but_last : (lines : List (List ℕ)) (rest : List ℕ) → take (length (lines ++ rest ∷ []) - 1) (lines ++ rest ∷ []) ≡ lines
but_last lines rest =
    let count : length (lines ++ rest ∷ []) - 1 ≡ length lines = omega (arith, length-append lines (rest ∷ [])) in
    ap (λ n. take n (lines ++ rest ∷ [])) count ∙ take-append_seam lines (rest ∷ [])

-- and the last
the_last : (lines : List (List ℕ)) (rest : List ℕ) → drop (length (lines ++ rest ∷ []) - 1) (lines ++ rest ∷ []) ≡ rest ∷ []
the_last lines rest =
    let count : length (lines ++ rest ∷ []) - 1 ≡ length lines = omega (arith, length-append lines (rest ∷ [])) in
    ap (λ n. drop n (lines ++ rest ∷ [])) count ∙ drop-append_seam lines (rest ∷ [])

pub whole_gathered : (bytes : List ℕ) → whole_from [] bytes ≡ whole_lines bytes
whole_gathered bytes =
    sym (but_last (whole_from [] bytes) (rest_from [] bytes)) ∙ ap (λ ps. take (length ps - 1) ps) (gathered [] bytes (All-nil _))

-- what stands behind the last LF, as a line if it isn't empty
abbrev pub if_some : List ℕ → List (List ℕ)
if_some rest = filter (λ piece. nat_lt 0 (length piece)) (rest ∷ [])

rest_gathered : (bytes : List ℕ) → if_some (rest_from [] bytes) ≡ last_line bytes
rest_gathered bytes =
    ap (filter (λ piece. nat_lt 0 (length piece)))
    (sym (the_last (whole_from [] bytes) (rest_from [] bytes)) ∙ ap (λ ps. drop (length ps - 1) ps) (gathered [] bytes (All-nil _)))

pub lines_gathered : (bytes : List ℕ) → whole_from [] bytes ++ if_some (rest_from [] bytes) ≡ lines_of bytes
lines_gathered bytes =
    ap (λ l. l ++ if_some (rest_from [] bytes)) (whole_gathered bytes) ∙ ap (λ l. whole_lines bytes ++ l) (rest_gathered bytes)

pub if_some_some : (rest : List ℕ) → (rest ≡ [] → ⊥) → if_some rest ≡ rest ∷ []
if_some_some [] some = absurd (some refl)
if_some_some (b ∷ bs) some = let n : nat_lt 0 (length (b ∷ bs)) ≡ true = search rules in ap (λ t. cond t ((b ∷ bs) ∷ []) []) n
