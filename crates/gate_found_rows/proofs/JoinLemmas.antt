-- What a query of two tables shows, where their rows tell records.
use Rattle.std.proofs.Common.{◌≡◌, ℕ, List, [], ◌∷◌, ◌++◌, map, filter, flat_map, drop, Bool, true, false, cond, ◌&&◌}
use Rattle.std.proofs.Common.{pos, None, refl, sym, ap, ap₂, subst, ◌∙◌, IsPermutation, Less}
use Rattle.std.specs.List.{AllByRecursion, AllZip, list_all}
use Rattle.std.proofs.lemmas.List.{map-append}
use Rattle.sqlite.specs.Ops.{binary}
use Rattle.sqlite.specs.Order.{Row}
use Rattle.sqlite.specs.Query.{Query, Output, inner, end, IsAnswer, output, output_cmp}
use Rattle.sqlite.specs.Term.{Term, Env, lit, holds}
use Rattle.sqlite.specs.Tree.{Trees}
use Rattle.sqlite.specs.declared.types.Value.TheVariants.{Int, Null, Text as Words}
use Rattle.sqlite_keyed.proofs.ListLemmas.{ascending-append}
use Rattle.sqlite_keyed.proofs.SortLemmas.{sorted_unique}
use Rattle.sqlite_sql.proofs.QueryLemmas.{output_cmp_total}
use Rattle.sqlite_sql.specs.declared.ops.BinaryOp.TheVariants.{Coalesce}
use Rattle.sqlite_trees.specs.Tree.{IsAscending}
use Rattle.sqlite_value.specs.declared.keys.Key.{Key}
use Rattle.gate_schema.specs.Rows.{IsKeyed}
use Rattle.gate_schema.proofs.Statements.{no_limit}

-- the rows of two tables that pass a test together, as columns, in an order
abbrev pub over_tables : ℕ → ℕ → List Term → List Term → List (Term × Key) → Query
over_tables first second test project order = record {
  from = inner first (inner second end);
  filter = test;
  group = None;
  project = project;
  distinct = false;
  collations = [];
  order = order;
  limit = no_limit;
  offset = lit (Int (pos 0));
}

-- ---- a column with `+` before it, which SQL doesn't seek by, is what it is without

pub plus_number : (n : ℕ) → binary Coalesce (Int (pos n)) Null ≡ Int (pos n)
unfolding binary
plus_number n = refl

pub plus_text : (t : List ℕ) → binary Coalesce (Words t) Null ≡ Words t
unfolding binary
plus_text t = refl

-- ---- rows that tell records

-- rows with a key are records' rows
pub keyed_told : {X : Type 0} (key : X → ℕ) (row : X → Row) (rows : List Row) (xs : List X) → IsKeyed key row rows xs → AllZip (λ r x. r ≡ row x) rows xs
keyed_told {X} key row rows xs is = subst (λ rs. AllZip (λ r x. r ≡ row x) rs xs) (sym is.rows_are) (own xs)
  where
    own : (ys : List X) → AllZip (λ r x. r ≡ row x) (map row ys) ys
    own [] = tt
    own (y ∷ ys) = (refl, own ys)

-- rows whose rowids tell nothing have records' columns
pub listed_told : {X : Type 0} (columns : X → Row) (rows : List Row) (xs : List X) → map (drop 1) rows ≡ map columns xs → AllZip (λ r x. drop 1 r ≡ columns x) rows xs
listed_told columns [] [] h = tt
listed_told columns [] (x ∷ xs) h = absurd cc
listed_told columns (r ∷ rs) [] h = absurd cc
listed_told columns (r ∷ rs) (x ∷ xs) h =
    let first : drop 1 r ≡ columns x = cc in
    let rest : map (drop 1) rs ≡ map columns xs = cc in
    (first, listed_told columns rs xs rest)

-- ---- the pairs that pass

module _ {X Y : Type 0} (R : Row → X → Type 0) (S : Row → Y → Type 0) (first second : ℕ) (test project : List Term) (order : List (Term × Key)) (params : Row)
    (p : X → Y → Bool) (out : X → Y → Output)
    (same : (r s : Row) (x : X) (y : Y) → R r x → S s y → list_all (holds (params ∷ r ∷ s ∷ [])) test ≡ p x y)
    (shows : (r s : Row) (x : X) (y : Y) → R r x → S s y → output (over_tables first second test project order) (params ∷ r ∷ s ∷ []) ≡ out x y) where
  -- the query
  abbrev q : Query
  q = over_tables first second test project order

  -- the ways to fill both slots, where the first is filled
  abbrev ways : Row → List Row → List Env
  ways r ss = flat_map (λ s. cond (list_all (holds (params ∷ r ∷ s ∷ [])) test) ((params ∷ r ∷ s ∷ []) ∷ []) []) ss

  -- they are those of the second record
  beside : (r : Row) (x : X) → R r x → (ss : List Row) (ys : List Y) → AllZip S ss ys → map (output q) (ways r ss) ≡ map (out x) (filter (p x) ys)
  beside r x tells [] [] told = refl
  beside r x tells [] (y ∷ ys) told = absurd told
  beside r x tells (s ∷ ss) [] told = absurd told
  beside r x tells (s ∷ ss) (y ∷ ys) told =
      let more = beside r x tells ss ys told.1 in
      let here = shows r s x y tells told.0 in
      ap (λ b. map (output q) (cond b ((params ∷ r ∷ s ∷ []) ∷ []) [] ++ ways r ss)) (same r s x y tells told.0)
      ∙ elim (p x y) as (λ b. map (output q) (cond b ((params ∷ r ∷ s ∷ []) ∷ []) [] ++ ways r ss) ≡ map (out x) (cond b (y ∷ filter (p x) ys) (filter (p x) ys)))
      [ true ↦ ap₂ (λ o os. o ∷ os) here more | false ↦ more ]

  -- and of both
  pub pairs : (rs : List Row) (xs : List X) → AllZip R rs xs → (ss : List Row) (ys : List Y) → AllZip S ss ys
      → map (output q) (flat_map (λ r. ways r ss) rs) ≡ flat_map (λ x. map (out x) (filter (p x) ys)) xs
  pairs [] [] told ss ys tells = refl
  pairs [] (x ∷ xs) told ss ys tells = absurd told
  pairs (r ∷ rs) [] told ss ys tells = absurd told
  pairs (r ∷ rs) (x ∷ xs) told ss ys tells =
      map-append (output q) (ways r ss) (flat_map (λ r. ways r ss) rs) ∙ ap₂ ◌++◌ (beside r x told.0 ss ys tells) (pairs rs xs told.1 ss ys tells)

  -- so, in an order that leaves no ties, these are shown
  pub shows_pairs : (db : Trees) (rows : List Row) (xs : List X) (ys : List Y) → AllZip R (db first) xs → AllZip S (db second) ys
      → IsAscending (λ a b. output_cmp q a b ≡ Less) (flat_map (λ x. map (out x) (filter (p x) ys)) xs) → IsAnswer q db params rows
      → rows ≡ map (λ (o : Output). o.1) (flat_map (λ x. map (out x) (filter (p x) ys)) xs)
  shows_pairs db rows xs ys told tells up a =
      let kept : a.kept ≡ flat_map (λ x. map (out x) (filter (p x) ys)) xs = a.distinct ∙ ap (map (output q)) a.grouped ∙ pairs (db first) xs told (db second) ys tells in
      a.shown ∙ ap (map (λ (o : Output). o.1)) (sorted_unique (output_cmp q) (output_cmp_total q) _ _ up (subst (λ k. IsPermutation k a.ordered) kept a.same) a.sorted)

-- ---- lists of lists

-- what rises within each, and from one to the next, rises in all
pub ascending-flat : {X O : Type 0} (L : X → X → Type 0) (R : O → O → Type 0) (f : X → List O) → ((x y : X) → L x y → AllByRecursion (λ a. AllByRecursion (R a) (f y)) (f x))
    → ((x : X) → IsAscending R (f x)) → (xs : List X) → IsAscending L xs → IsAscending R (flat_map f xs)
ascending-flat L R f cross each [] up = tt
ascending-flat {X} {O} L R f cross each (x ∷ xs) up = ascending-append R (f x) (flat_map f xs) (each x) (ascending-flat L R f cross each xs up.1) (above (f x) (λ y less. cross x y less) xs up.0)
  where
    below : (a : O) (bs cs : List O) → AllByRecursion (R a) bs → AllByRecursion (R a) cs → AllByRecursion (R a) (bs ++ cs)
    below a [] cs h k = k
    below a (b ∷ bs) cs h k = (h.0, below a bs cs h.1 k)

    joined : (zs bs cs : List O) → AllByRecursion (λ a. AllByRecursion (R a) bs) zs → AllByRecursion (λ a. AllByRecursion (R a) cs) zs → AllByRecursion (λ a. AllByRecursion (R a) (bs ++ cs)) zs
    joined [] bs cs h k = tt
    joined (a ∷ zs) bs cs h k = (below a bs cs h.0 k.0, joined zs bs cs h.1 k.1)

    none : (zs : List O) → AllByRecursion (λ a. AllByRecursion (R a) []) zs
    none [] = tt
    none (a ∷ zs) = (tt, none zs)

    above : (zs : List O) → ((y : X) → L x y → AllByRecursion (λ a. AllByRecursion (R a) (f y)) zs) → (ys : List X) → AllByRecursion (L x) ys → AllByRecursion (λ a. AllByRecursion (R a) (flat_map f ys)) zs
    above zs h [] less = none zs
    above zs h (y ∷ ys) less = joined zs (f y) (flat_map f ys) (h y less.0) (above zs h ys less.1)

-- a test of the first alone leaves out some of the first
pub pairs_of : {X Y O : Type 0} (g : X → Bool) (h : X → Y → Bool) (out : X → Y → O) (xs : List X) (ys : List Y)
    → flat_map (λ x. map (out x) (filter (λ y. g x && h x y) ys)) xs ≡ flat_map (λ x. map (out x) (filter (h x) ys)) (filter g xs)
pairs_of g h out [] ys = refl
pairs_of {X} {Y} {O} g h out (x ∷ xs) ys = go (g x) (pairs_of g h out xs ys)
  where
    none : (zs : List Y) → filter (λ y. false) zs ≡ []
    none [] = refl
    none (z ∷ zs) = none zs

    go : (b : Bool) → flat_map (λ x. map (out x) (filter (λ y. g x && h x y) ys)) xs ≡ flat_map (λ x. map (out x) (filter (h x) ys)) (filter g xs)
        → map (out x) (filter (λ y. b && h x y) ys) ++ flat_map (λ x. map (out x) (filter (λ y. g x && h x y) ys)) xs ≡ flat_map (λ x. map (out x) (filter (h x) ys)) (cond b (x ∷ filter g xs) (filter g xs))
    go true more = ap (λ l. map (out x) (filter (h x) ys) ++ l) more
    go false more = ap (λ l. map (out x) l ++ flat_map (λ x. map (out x) (filter (λ y. g x && h x y) ys)) xs) (none ys) ∙ more
