-- The rows of the queues, one by one.
use Rattle.std.proofs.Common.{◌≡◌, ℕ, ◌+◌, ◌<◌, zero, suc, List, [], ◌∷◌, ◌++◌, take, length, get_or, sym, ap, ◌∙◌}
use Rattle.std.proofs.Common.{arith}
use Rattle.gate_types.specs.declared.config.Queue.{Queue}
use Rattle.gate_file_changes.specs.Making.{queue_row_at, first_queue_rows}

-- one queue more, from a place on
next_row : (n i : ℕ) (qs : List Queue) (q : Queue) → i < length qs → q ≡ get_or qs i q → first_queue_rows n (take (suc i) qs) ≡ first_queue_rows n (take i qs) ++ queue_row_at (n + i) q ∷ []
next_row n i [] q within is = absurd (omega arith)
next_row n zero (x ∷ xs) q within is =
    let e : n ≡ n + 0 = omega arith in
    ap (λ y. queue_row_at n y ∷ []) (sym is) ∙ ap (λ m. queue_row_at m q ∷ []) e
next_row n (suc i) (x ∷ xs) q within is =
    let e : suc n + i ≡ n + suc i = omega arith in
    ap (λ l. queue_row_at n x ∷ l) (next_row (suc n) i xs q (omega arith) is ∙ ap (λ m. first_queue_rows (suc n) (take i xs) ++ queue_row_at m q ∷ []) e)

-- the same from the first place
pub rows_more : (i : ℕ) (qs : List Queue) (q : Queue) → i < length qs → q ≡ get_or qs i q → first_queue_rows 0 (take i qs) ++ queue_row_at i q ∷ [] ≡ first_queue_rows 0 (take (i + 1) qs)
rows_more i qs q within is =
    let e : suc i ≡ i + 1 = omega arith in
    let z : 0 + i ≡ i = omega arith in
    ap (λ m. first_queue_rows 0 (take i qs) ++ queue_row_at m q ∷ []) (sym z) ∙ sym (next_row 0 i qs q within is) ∙ ap (λ m. first_queue_rows 0 (take m qs)) e
