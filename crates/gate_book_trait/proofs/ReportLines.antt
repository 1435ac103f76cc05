-- The line of a report.
use Rattle.std.proofs.Common.{◌≡◌, ℕ, List, [], ◌∷◌, ◌++◌, append_assoc}

-- the line of a report, of its six columns
pub report_joined : (a b c d e f : List ℕ) →
    (a ++ 32 ∷ (b ++ 32 ∷ (c ++ 32 ∷ (d ++ 32 ∷ (e ++ 32 ∷ f))))) ++ 10 ∷ []
    ≡ (a ++ (32 ∷ (b ++ (32 ∷ (c ++ (32 ∷ d)))))) ++ (32 ∷ (e ++ (32 ∷ (f ++ 10 ∷ []))))
report_joined a b c d e f = simp append_assoc
