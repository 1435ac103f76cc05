-- Puts into a list that is sorted by a key.
use Rattle.std.proofs.Common.{◌≡◌, ◌≢◌, ℕ, List, [], ◌∷◌, arith}
use Rattle.gate_types.specs.State.{put_by}

-- of two puts at one key the later stands
pub put_over : {X : Type 0} (key : X → ℕ) (x c : X) (ys : List X) → key x ≡ key c →
    put_by key c (put_by key x ys) ≡ put_by key c ys
put_over key x c [] e = grind (arith, e)
put_over key x c (y ∷ ys) e = grind (arith, e, put_over key x c ys e)

-- puts at two keys, in either order
pub put_swap : {X : Type 0} (key : X → ℕ) (x c : X) (ys : List X) → key x ≢ key c →
    put_by key c (put_by key x ys) ≡ put_by key x (put_by key c ys)
put_swap key x c [] e = grind (arith, e)
put_swap key x c (y ∷ ys) e = grind (arith, e, put_swap key x c ys e)
