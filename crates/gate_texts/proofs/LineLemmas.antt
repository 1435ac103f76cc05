-- Lines of the status text, piece by piece.
use Rattle.std.proofs.Common.{◌≡◌, ℕ, List, [], ◌∷◌, ◌++◌, map, sym, ap, ◌∙◌, append-nil, append_assoc}
use Rattle.std.specs.Prelude.{codes, flat_map}
use Rattle.std.specs.List.{join_with_byte}
use Rattle.gate_types.specs.declared.config.Job.{Job}

-- columns behind a first one
columns : (x : List ℕ) (f : Job → List ℕ) (js : List Job) →
    join_with_byte 32 (x ∷ map f js) ≡ x ++ flat_map (λ j. 32 ∷ f j) js
columns x f [] = sym (append-nil x)
columns x f (j ∷ js) = ap (λ l. x ++ 32 ∷ l) (columns (f j) f js)

regrouped : (a b c d e j z : List ℕ) → (a ++ 32 ∷ (b ++ 32 ∷ (c ++ 32 ∷ (d ++ 32 ∷ (e ++ j))))) ++ z
    ≡ (a ++ (32 ∷ (b ++ (32 ∷ c)))) ++ (32 ∷ (d ++ (32 ∷ (e ++ (j ++ z)))))
regrouped a b c d e j z = simp append_assoc

-- the line of an item
pub item_joined : (a b c d e : List ℕ) (f : Job → List ℕ) (js : List Job) →
    join_with_byte 32 (a ∷ b ∷ c ∷ d ∷ e ∷ map f js) ++ 10 ∷ []
    ≡ (a ++ (32 ∷ (b ++ (32 ∷ c)))) ++ (32 ∷ (d ++ (32 ∷ (e ++ (flat_map (λ j. 32 ∷ f j) js ++ 10 ∷ [])))))
item_joined a b c d e f js =
    ap (λ l. (a ++ 32 ∷ (b ++ 32 ∷ (c ++ 32 ∷ (d ++ 32 ∷ l)))) ++ 10 ∷ []) (columns e f js)
    ∙ regrouped a b c d e (flat_map (λ j. 32 ∷ f j) js) (10 ∷ [])

-- the line of a queue
pub queue_joined : (name window landed : List ℕ) →
    (codes "queue" ++ 32 ∷ (name ++ 32 ∷ (codes "window" ++ 32 ∷ (window ++ 32 ∷ (codes "landed" ++ 32 ∷ landed)))))
    ++ 10 ∷ []
    ≡ codes "queue " ++ (name ++ (codes " window " ++ (window ++ (codes " landed " ++ (landed ++ 10 ∷ [])))))
queue_joined name window landed = simp append_assoc

-- the line of a ready change
pub waiting_joined : (change revision : List ℕ) → (codes "waiting" ++ 32 ∷ (change ++ 32 ∷ revision)) ++ 10 ∷ []
    ≡ codes "waiting " ++ (change ++ (32 ∷ (revision ++ 10 ∷ [])))
waiting_joined change revision = simp append_assoc
