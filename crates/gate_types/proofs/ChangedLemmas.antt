-- Rows of which the one of a key is changed.
use Rattle.std.proofs.Common.{◌≡◌, ◌<◌, ◌≤◌, ℕ, suc, Bool, true, false, cond, eqb, ltb, List, [], ◌∷◌, map, Option}
use Rattle.std.proofs.Common.{Some, None, refl, sym, ap, ◌∙◌, arith}
use Rattle.std.specs.Prelude.{find, option_map}
use Rattle.std.specs.Option.{option_map_or}
use Rattle.std.proofs.lemmas.Bool.{eqb-true, eq-eqb, ne_eqb, le-ltb}
use Rattle.gate_types.specs.declared.records.Change.{Change}
use Rattle.gate_types.specs.declared.records.Stage.{Stage}
use Rattle.gate_types.specs.declared.rows.ChangeRow.{ChangeRow}
use Rattle.gate_types.specs.Keys.{number_of_change}
use Rattle.gate_types.specs.State.{put_by}
use Rattle.gate_types.specs.Rising.{RisesFrom}
use Rattle.gate_types.specs.Tables.{at_stage, change_known, change_row_in, needs_in}

module _ {X : Type 0} (key : X → ℕ) (n : ℕ) where
  -- what is found of a key has it
  pub found_key : (xs : List X) (x : X) → find (λ y. eqb (key y) n) xs ≡ Some x → key x ≡ n
  found_key [] x e = absurd cc
  found_key (y ∷ ys) x e = go (eqb (key y) n) refl e (λ e2. found_key ys x e2)
    where
      go : (b : Bool) → eqb (key y) n ≡ b → cond b (Some y) (find (λ z. eqb (key z) n) ys) ≡ Some x →
          (find (λ z. eqb (key z) n) ys ≡ Some x → key x ≡ n) → key x ≡ n
      go true is e2 more =
          let same : y ≡ x = cc in
          let its : key y ≡ n = eqb-true (key y) n is in
          ap key (sym same) ∙ its
      go false is e2 more = more e2

  -- and where keys rise it isn't below the first
  pub found_above : (low : ℕ) (xs : List X) (x : X) → RisesFrom key low xs → find (λ y. eqb (key y) n) xs ≡ Some x →
      low ≤ n
  found_above low [] x rise e = absurd cc
  found_above low (y ∷ ys) x rise e =
      go (eqb (key y) n) refl e (λ e2. found_above (suc (key y)) ys x rise.1 e2)
    where
      go : (b : Bool) → eqb (key y) n ≡ b → cond b (Some y) (find (λ z. eqb (key z) n) ys) ≡ Some x →
          (find (λ z. eqb (key z) n) ys ≡ Some x → suc (key y) ≤ n) → low ≤ n
      go true is e2 more = let its : key y ≡ n = eqb-true (key y) n is in omega (arith, rise.0)
      go false is e2 more = let high : suc (key y) ≤ n = more e2 in omega (arith, rise.0)

module _ {X : Type 0} (key : X → ℕ) (n : ℕ) (f : X → X) where
  -- the row of the key changed
  abbrev pub changed_at : List X → List X
  changed_at xs = map (λ x. cond (eqb (key x) n) (f x) x) xs

  -- rows above the key stay
  pub changed_above : (low : ℕ) (xs : List X) → n < low → RisesFrom key low xs → changed_at xs ≡ xs
  changed_above low [] less rise = refl
  changed_above low (y ∷ ys) less rise =
      ap (λ z. z ∷ changed_at ys) (go (eqb (key y) n) refl)
      ∙ ap (λ l. y ∷ l) (changed_above (suc (key y)) ys (omega (arith, rise.0)) rise.1)
    where
      go : (b : Bool) → eqb (key y) n ≡ b → cond b (f y) y ≡ y
      go true is = let its : key y ≡ n = eqb-true (key y) n is in absurd (omega (arith, rise.0))
      go false is = refl

  -- where there is none of the key, all stay
  pub changed_none : (xs : List X) → find (λ y. eqb (key y) n) xs ≡ None → changed_at xs ≡ xs
  changed_none [] e = refl
  changed_none (y ∷ ys) e = go (eqb (key y) n) e (λ e2. changed_none ys e2)
    where
      go : (b : Bool) → cond b (Some y) (find (λ z. eqb (key z) n) ys) ≡ None →
          (find (λ z. eqb (key z) n) ys ≡ None → changed_at ys ≡ ys) → cond b (f y) y ∷ changed_at ys ≡ y ∷ ys
      go true e2 more = absurd cc
      go false e2 more = ap (λ l. y ∷ l) (more e2)

  module _ (kept : (x : X) → key (f x) ≡ key x) where
    still : (x : X) (b : Bool) → key (cond b (f x) x) ≡ key x
    still x true = kept x
    still x false = refl

    -- what is found then
    pub found_changed : (m : ℕ) (xs : List X) →
        find (λ y. eqb (key y) m) (changed_at xs)
        ≡ option_map (λ y. cond (eqb (key y) n) (f y) y) (find (λ y. eqb (key y) m) xs)
    found_changed m [] = refl
    found_changed m (y ∷ ys) =
        let new = cond (eqb (key y) n) (f y) y in
        let rest = find (λ z. eqb (key z) m) (changed_at ys) in
        ap (λ k. cond (eqb k m) (Some new) rest) (still y (eqb (key y) n))
        ∙ elim (eqb (key y) m)
        as (λ b. cond b (Some new) rest ≡ option_map (λ z. cond (eqb (key z) n) (f z) z) (cond b (Some y) (find (λ z. eqb (key z) m) ys)))
        [ true ↦ refl | false ↦ found_changed m ys ]

    -- the row put anew is the row changed
    pub put_changes : (low : ℕ) (xs : List X) (x : X) → RisesFrom key low xs → find (λ y. eqb (key y) n) xs ≡ Some x →
        put_by key (f x) xs ≡ changed_at xs
    put_changes low [] x rise e = absurd cc
    put_changes low (y ∷ ys) x rise e =
        go (eqb (key y) n) refl e (λ e2. put_changes (suc (key y)) ys x rise.1 e2)
      where
        its : key (f x) ≡ n
        its = kept x ∙ found_key key n (y ∷ ys) x e

        tests : (a b : Bool) → eqb (key (f x)) (key y) ≡ a → ltb (key (f x)) (key y) ≡ b →
            put_by key (f x) (y ∷ ys) ≡ cond a (f x ∷ ys) (cond b (f x ∷ y ∷ ys) (y ∷ put_by key (f x) ys))
        tests a b p q =
            ap (λ t. cond t (f x ∷ ys) (cond (ltb (key (f x)) (key y)) (f x ∷ y ∷ ys) (y ∷ put_by key (f x) ys))) p
            ∙ ap (λ t. cond a (f x ∷ ys) (cond t (f x ∷ y ∷ ys) (y ∷ put_by key (f x) ys))) q

        go : (b : Bool) → eqb (key y) n ≡ b → cond b (Some y) (find (λ z. eqb (key z) n) ys) ≡ Some x →
            (find (λ z. eqb (key z) n) ys ≡ Some x → put_by key (f x) ys ≡ changed_at ys) →
            put_by key (f x) (y ∷ ys) ≡ cond b (f y) y ∷ changed_at ys
        go true is e2 more =
            let same : y ≡ x = cc in
            let first : key y ≡ n = eqb-true (key y) n is in
            tests true (ltb (key (f x)) (key y)) (eq-eqb (key (f x)) (key y) (its ∙ sym first)) refl
            ∙ ap (λ z. f z ∷ ys) (sym same)
            ∙ ap (λ l. f y ∷ l) (sym (changed_above (suc (key y)) ys (omega arith) rise.1))
        go false is e2 more =
            let high : suc (key y) ≤ n = found_above key n (suc (key y)) ys x rise.1 e2 in
            let at : key (f x) ≡ n = its in
            let other : eqb (key (f x)) (key y) ≡ false = ne_eqb (key (f x)) (key y) (λ same. omega (arith, same, at)) in
            let behind : ltb (key (f x)) (key y) ≡ false = le-ltb (key (f x)) (key y) (omega arith) in
            tests false false other behind ∙ ap (λ l. y ∷ l) (more e2)

-- ---- the needs of a change at another stage

-- the needs that a row tells
abbrev pub needs_of_row : Option ChangeRow → List ℕ
needs_of_row o = option_map_or (λ (k : Change). k.needs) (option_map (λ (r : ChangeRow). r.change) o) []

needs_same : (n : ℕ) (g : Stage) (o : Option ChangeRow) →
    needs_of_row (option_map (λ (r : ChangeRow). cond (eqb (number_of_change r) n) (at_stage g r) r) o) ≡ needs_of_row o
needs_same n g None = refl
needs_same n g (Some r) =
    elim (eqb (number_of_change r) n) as (λ c. (cond c (at_stage g r) r).change.needs ≡ r.change.needs)
    [ true ↦ refl | false ↦ refl ]

-- a change at another stage needs what it did
pub needs_at_stage : (n : ℕ) (g : Stage) (rows : List ChangeRow) (m : ℕ) →
    needs_in (change_known n (at_stage g) rows) m ≡ needs_in rows m
needs_at_stage n g rows m =
    ap needs_of_row (found_changed number_of_change n (at_stage g) (λ r. refl) m rows)
    ∙ needs_same n g (change_row_in rows m)
