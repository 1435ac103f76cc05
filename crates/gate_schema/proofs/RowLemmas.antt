-- One row: how its values are kept, and what becomes of it.
use Rattle.std.proofs.Common.{◌≡◌, ◌≤◌, ℕ, ℤ, pos, suc, List, [], ◌∷◌, map, drop, filter, length, Bool, true, false}
use Rattle.std.proofs.Common.{cond, IsTrue, Some, None, Option, refl, ap, sym, ◌∙◌, arith}
use Rattle.sqlite.specs.Cast.{cast, cast_row}
use Rattle.sqlite.specs.Edit.{edit_of, edited, put_all, without_all, id_in}
use Rattle.sqlite.specs.Kind.TheVariants.{Integer}
use Rattle.sqlite.specs.Ops.{unary}
use Rattle.sqlite.specs.Order.{Row}
use Rattle.sqlite.specs.Rowids.TheVariants.{Given}
use Rattle.sqlite.specs.Table.{Table}
use Rattle.sqlite.specs.Term.{Term, col, eval_all}
use Rattle.sqlite.specs.Tree.{Trees}
use Rattle.sqlite.specs.Values.{bound_value}
use Rattle.sqlite.specs.declared.types.Value.{Value}
use Rattle.sqlite.specs.declared.types.Value.TheVariants.{Null, Int}
use Rattle.sqlite_rules.specs.Calls.{ids_of}
use Rattle.sqlite_trees.specs.Tree.{rowid}
use Rattle.sqlite_trees.specs.View.{is_int}
use Rattle.gate_schema.specs.Rows.{number_or_null}
use Rattle.gate_schema.proofs.DeleteLemmas.{is_its}

either : (b : Bool) (x : Value) → cond b x x ≡ x
either true x = refl
either false x = refl

-- a number is kept as it is
pub cast_int : (n : ℤ) → cast Integer (Int n) ≡ Int n
unfolding unary
cast_int n = either _ (Int n)

pub cast_null : cast Integer Null ≡ Null
unfolding unary
cast_null = either _ Null

pub cast_or_null : (o : Option ℕ) → cast Integer (number_or_null o) ≡ number_or_null o
cast_or_null None = cast_null
cast_or_null (Some n) = cast_int (pos n)

pub int_cast : (v : Value) → IsTrue (is_int v) → cast Integer v ≡ v
int_cast v its = ap (cast Integer) (is_its v its) ∙ cast_int _ ∙ sym (is_its v its)

-- and so is one that may be missing, as a parameter
pub bound_or_null : (o : Option ℕ) → bound_value (number_or_null o) ≡ number_or_null o
bound_or_null None = refl
bound_or_null (Some n) = refl

-- what columns tell, of a row whose rowid tells nothing
pub told_behind : {Y : Type 0} (f : Row → Y) (v : Row) (c : Value) (cs : Row) (y : Y) → ((w : Value) → f (w ∷ c ∷ cs) ≡ y) → drop 1 v ≡ c ∷ cs → f v ≡ y
told_behind f [] c cs y told h = absurd cc
told_behind f (w ∷ rest) c cs y told h = ap (λ l. f (w ∷ l)) h ∙ told w

-- as many rows as records pass
pub few_found : {X : Type 0} (columns : X → Row) (test : Row → Bool) (p : X → Bool) → ((v : Row) (x : X) → drop 1 v ≡ columns x → test v ≡ p x) → (rs : List Row) (xs : List X) → map (drop 1) rs ≡ map columns xs
    → length (filter test rs) ≡ length (filter p xs)
few_found columns test p same [] [] h = refl
few_found columns test p same [] (x ∷ xs) h = absurd cc
few_found columns test p same (r ∷ rs) [] h = absurd cc
few_found columns test p same (r ∷ rs) (x ∷ xs) h =
    let first : drop 1 r ≡ columns x = cc in
    let rest : map (drop 1) rs ≡ map columns xs = cc in
    let more = few_found columns test p same rs xs rest in
    ap (λ b. length (cond b (r ∷ filter test rs) (filter test rs))) (same r x first)
    ∙ elim (p x) as (λ b. length (cond b (r ∷ filter test rs) (filter test rs)) ≡ length (cond b (x ∷ filter p xs) (filter p xs))) [ true ↦ ap suc more | false ↦ more ]

-- ---- an UPDATE of one row

module _ (table : Table) (more : List Term) (params : Row) (db : Trees) where
  -- what it is told of a row
  abbrev pub out : Row → Row
  out r = eval_all (col 1 0 ∷ more) (params ∷ r ∷ [])

  -- what it makes of the row
  abbrev pub renewed : Row → Row
  renewed r = cast_row table (drop 1 (out r))

  pub written_update : (rows found : List Row) → rows ≡ map out found → length found ≤ 1
      → edited db (edit_of db table (ids_of rows) Given 1 rows) ≡ put_all (without_all (db table.tree) (map (λ r. id_in (rowid r)) found)) (map renewed found)
  written_update rows [] is short = ap (λ rs. edited db (edit_of db table (ids_of rs) Given 1 rs)) is
  written_update rows (r ∷ []) is short = ap (λ rs. edited db (edit_of db table (ids_of rs) Given 1 rs)) is
  written_update rows (r ∷ s ∷ rest) is short = absurd (omega arith)
