-- Rows that show records, and the records that a loop reads from them.
use Rattle.std.proofs.Common.{◌≡◌, ℕ, zero, suc, ◌<◌, Bool, true, List, [], ◌∷◌, ◌++◌, map, take, get_or, length}
use Rattle.std.proofs.Common.{refl, ap, ◌∙◌, arith}
use Rattle.std.specs.List.{AllByRecursion, AllPass}
use Rattle.std.proofs.lemmas.List.Elements.{recursion_from_All}
use Rattle.sqlite.specs.Order.{Row}

-- a record that a row shows, in form, and the records up to it
pub record RowShows {X : Type 0} (shown : X → Row) (form : X → Bool) (row : Row) (k : ℕ) (xs : List X) : Type 0 where
  pub one : X
  pub is : row ≡ shown one
  pub in_form : form one ≡ true
  pub next : take (suc k) xs ≡ take k xs ++ one ∷ []

-- the row at a place shows the record there
reach : {X : Type 0} (shown : X → Row) (form : X → Bool) (row : Row) (k : ℕ) (xs : List X) → k < length (map shown xs) → row ≡ get_or (map shown xs) k row →
    AllByRecursion (λ x. form x ≡ true) xs → RowShows shown form row k xs
reach shown form row k [] within at all = absurd (omega arith)
reach shown form row zero (x ∷ xs) within at all = record { one = x; is = at; in_form = all.0; next = refl }
reach shown form row (suc k) (x ∷ xs) within at all =
    let more = reach shown form row k xs (omega (arith, within)) at all.1 in
    record { one = more.one; is = more.is; in_form = more.in_form; next = ap (λ l. x ∷ l) more.next }

-- each row of those that show records in form does so
pub row_shows : {X : Type 0} (shown : X → Row) (form : X → Bool) (rows : List Row) (row : Row) (k : ℕ) (xs : List X) → k < length rows → row ≡ get_or rows k row → rows ≡ map shown xs →
    AllPass form xs → RowShows shown form row k xs
row_shows shown form rows row k xs within at are all =
    reach shown form row k xs (rw (ap length are) at within) (at ∙ ap (λ rs. get_or rs k row) are) (recursion_from_All (λ x. form x ≡ true) xs all)
