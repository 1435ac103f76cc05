-- The positions of kept deliveries.
use Rattle.std.proofs.Common.{arith, ◌<◌, drop, ◌≡◌, ℕ, suc, Bool, true, false, cond, Option, Some, None, List, []}
use Rattle.std.proofs.Common.{◌∷◌, ◌++◌, length, refl, sym, ap, ◌∙◌}
use Rattle.std.specs.Prelude.{slice_get, find, unwrap_or}
use Rattle.std.specs.Option.{option_or, option_map}
use Rattle.std.specs.HashMap.{get, HashMap}
use Rattle.std.specs.declared.hash.FoldHasher.{FoldHasher}
use Rattle.std.specs.declared.hash.BuildHasherDefault.{BuildHasherDefault}
use Rattle.std.proofs.lemmas.Option.{none-some}
use Rattle.gate_types.specs.declared.records.Id.{Id}
use Rattle.gate_archive.specs.Feed.{behind_id}
use Rattle.gate_types.specs.declared.records.Kept.{Kept}
use Rattle.gate_memory.specs.Replies.{same_id, has_id, position_by}

push_step : (n : ℕ) (o : Option ℕ) (c b : Bool) (r : Option ℕ) → r ≡ option_or o (cond c (Some n) None) → cond b (Some 0) (option_map (λ i. suc i) r) ≡ option_or (cond b (Some 0) (option_map (λ i. suc i) o)) (cond c (Some (suc n)) None)
push_step n o c true r e = refl
push_step n o c false r e = ap (λ p. option_map (λ i. suc i) p) e ∙ by_last o c
  where
    by_last : (o : Option ℕ) (b : Bool) → option_map (λ i. suc i) (option_or o (cond b (Some n) None)) ≡ option_or (option_map (λ i. suc i) o) (cond b (Some (suc n)) None)
    by_last None true = refl
    by_last None false = refl
    by_last (Some i) b = refl

position_push : (p : Kept → Bool) (ks : List Kept) (k : Kept) → position_by p (ks ++ k ∷ []) ≡ option_or (position_by p ks) (cond (p k) (Some (length ks)) None)
position_push p [] k = refl
position_push p (x ∷ xs) k = push_step (length xs) (position_by p xs) (p k) (p x) (position_by p (xs ++ k ∷ [])) (position_push p xs k)

-- the positions of ids
abbrev pub Positions : Type 0
Positions = HashMap (List ℕ) ℕ (BuildHasherDefault FoldHasher)

-- the positions are those of these deliveries
abbrev pub Finds : Positions → List Kept → Type 0
Finds positions ks = (id : List ℕ) → get same_id positions id ≡ position_by (has_id id) ks

pub finds_same : (m n : Positions) (ks : List Kept) → ((q : List ℕ) → get same_id n q ≡ get same_id m q) → Finds m ks → Finds n ks
finds_same m n ks e f id = e id ∙ f id

-- a kept delivery more
pub finds_push : (m n : Positions) (ks : List Kept) (k : Kept) (position : ℕ) → position ≡ length ks → ((q : List ℕ) → get same_id n q ≡ option_or (get same_id m q) (cond (same_id k.id.0 q) (Some position) None)) → Finds m ks → Finds n (ks ++ k ∷ [])
finds_push m n ks k position here e f id =
    e id ∙ (λ j. option_or (f id j) (cond (same_id k.id.0 id) (Some (here j)) None)) ∙ sym (position_push (has_id id) ks k)

abbrev pub at_position : List Kept → Option ℕ → Option Kept
at_position ks None = None
at_position ks (Some i) = slice_get ks i

at_step : (x : Kept) (xs : List Kept) (o : Option ℕ) (b : Bool) (r : Option Kept) → at_position xs o ≡ r → at_position (x ∷ xs) (cond b (Some 0) (option_map (λ i. suc i) o)) ≡ cond b (Some x) r
at_step x xs o true r e = refl
at_step x xs None false r e = e
at_step x xs (Some i) false r e = e

pub kept_at : (p : Kept → Bool) (ks : List Kept) → at_position ks (position_by p ks) ≡ find p ks
kept_at p [] = refl
kept_at p (x ∷ xs) = at_step x xs (position_by p xs) (p x) (find p xs) (kept_at p xs)

-- ---- behind an id

pub position_within : (p : Kept → Bool) (ks : List Kept) (i : ℕ) → Some i ≡ position_by p ks → i < length ks
position_within p [] i e = absurd (none-some i (sym e))
position_within p (k ∷ ks) i e = by_test (p k) (position_by p ks) (λ j f. position_within p ks j f) e
  where
    by_test : (t : Bool) (o : Option ℕ) → ((j : ℕ) → Some j ≡ o → j < length ks) →
        Some i ≡ cond t (Some 0) (option_map (λ j. suc j) o) → i < suc (length ks)
    by_test true o rest f = let z : i ≡ 0 = ap (λ q. unwrap_or q 0) f in omega (arith, z)
    by_test false None rest f = absurd (none-some i (sym f))
    by_test false (Some j) rest f = let l : j < length ks = rest j refl in let z : i ≡ suc j = ap (λ q. unwrap_or q 0) f in omega (arith, l, z)

pub behind_is : (id : Id) (ks : List Kept) → behind_id id ks ≡ option_map (λ i. drop (suc i) ks) (position_by (has_id id.0) ks)
behind_is id [] = refl
behind_is id (k ∷ ks) = by_test (has_id id.0 k) (position_by (has_id id.0) ks) (behind_is id ks)
  where
    by_test : (t : Bool) (o : Option ℕ) → behind_id id ks ≡ option_map (λ i. drop (suc i) ks) o →
        cond t (Some ks) (behind_id id ks) ≡ option_map (λ i. drop (suc i) (k ∷ ks)) (cond t (Some 0) (option_map (λ i. suc i) o))
    by_test true o e = refl
    by_test false None e = e
    by_test false (Some i) e = e
