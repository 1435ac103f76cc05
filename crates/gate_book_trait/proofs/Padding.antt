-- A number that is written right in some places.
use Rattle.std.proofs.Common.{false, ◌≡◌, ℕ, ◌-◌, List, [], ◌∷◌, ◌++◌, length, zero, suc, refl, sym, ap, ◌∙◌, arith}
use Rattle.std.proofs.Common.{append-nil}
use Rattle.std.specs.Prelude.{replicate}
use Rattle.std.specs.List.{repeat}
use Rattle.std.specs.Fmt.{padded_integral, format_spec, char_count}
use lib.Utf8.{encode}
use Rattle.gate_types.specs.Columns.{right}

spaces : (k : ℕ) → repeat k (encode 32) ≡ replicate k 32
unfolding encode
spaces zero = refl
spaces (suc k) = ap (λ l. 32 ∷ l) (spaces k)

-- the padding before and after a number of some digits
padded : (d : List ℕ) (k m : ℕ) → m ≡ 0 →
    repeat k (encode 32) ++ [] ++ [] ++ [] ++ (d ++ repeat m (encode 32)) ≡ replicate k 32 ++ d
padded d k m e =
    (λ j. front j ++ (d ++ repeat (e j) (encode 32))) ∙ ap (λ l. replicate k 32 ++ l) (append-nil d)
  where
    front : repeat k (encode 32) ++ [] ++ [] ++ [] ≡ replicate k 32
    front = append-nil (repeat k (encode 32) ++ [] ++ []) ∙ append-nil (repeat k (encode 32) ++ [])
        ∙ append-nil (repeat k (encode 32)) ∙ spaces k

pub right_in : (n : ℕ) (d : List ℕ) →
    right n d ≡ padded_integral (format_spec 32 3 0 n 18446744073709551615) false [] d
unfolding padded_integral char_count
right_in n d =
    let before = n - length d - 0 - 0 in
    sym (padded d before (before - before) (omega arith) ∙ ap (λ k. replicate k 32 ++ d) (omega arith))
