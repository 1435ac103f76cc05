-- Landings with low serials.
use Rattle.std.proofs.Common.{◌≡◌, ℕ, ◌<◌, ◌≤◌, true, List, [], ◌∷◌, arith, lt-ltb, refl}
use Rattle.std.specs.Prelude.{nat_lt}
use Rattle.std.specs.List.{list_all}
use Rattle.std.proofs.lemmas.Bool.{and_parts, and_from, ltb-true}
use Rattle.gate_types.specs.declared.records.Landing.{Landing}

pub below_higher : (m n : ℕ) (ls : List Landing) → m ≤ n → list_all (λ l. nat_lt l.serial m) ls ≡ true → list_all (λ l. nat_lt l.serial n) ls ≡ true
below_higher m n [] le h = refl
below_higher m n (l ∷ ls) le h =
    let both = and_parts (nat_lt l.serial m) (list_all (λ x. nat_lt x.serial m) ls) h in
    let low : l.serial < m = ltb-true l.serial m both.0 in
    and_from (nat_lt l.serial n) (list_all (λ x. nat_lt x.serial n) ls) (lt-ltb l.serial n (omega arith)) (below_higher m n ls le both.1)
