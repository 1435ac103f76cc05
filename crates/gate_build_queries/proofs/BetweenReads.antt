-- What a query of the items of a queue between two serials, and of what another table has of each, shows.
use Rattle.std.proofs.Common.{◌≡◌, ◌<◌, ◌<ℤ◌, ℕ, pos, List, [], ◌∷◌, map, filter, flat_map, Bool, ◌&&◌, leb, ltb}
use Rattle.std.proofs.Common.{is_le, int_cmp, sym, ap, subst, ◌∙◌, arith, Less, Equal}
use Rattle.std.specs.List.{AllByRecursion, AllZip, list_all}
use Rattle.std.proofs.lemmas.Bool.Decides.{nat_tests}
use Rattle.std.proofs.lemmas.Int.{ints}
use Rattle.sqlite.specs.Collation.TheVariants.{Binary}
use Rattle.sqlite.specs.Ops.{binary, is_true}
use Rattle.sqlite.specs.Order.{Row}
use Rattle.sqlite.specs.Query.{Query, Output, IsAnswer, key_cmp, output, output_cmp}
use Rattle.sqlite.specs.Term.{Term, col, eval, eval_all, holds, lit, op2}
use Rattle.sqlite.specs.Tree.{Trees}
use Rattle.sqlite.specs.declared.types.Value.TheVariants.{Int, Null, Text as Words}
use Rattle.sqlite_keyed.proofs.KeyedLemmas.{Less-from_lt}
use Rattle.sqlite_keyed.proofs.ListLemmas.{ascending-filter, ascending-map, ascending_weaker, flat_map-map}
use Rattle.sqlite_keyed.proofs.ListLemmas.{flat_map_same_on, map-flat_map, map-map}
use Rattle.sqlite_sql.specs.declared.ops.BinaryOp.TheVariants.{Coalesce, Compare}
use Rattle.sqlite_sql.specs.declared.ops.CompareOp.TheVariants.{Gt, Le}
use Rattle.sqlite_tied.proofs.RuleLemmas.{and_assoc}
use Rattle.sqlite_trees.specs.Tree.{IsAscending}
use Rattle.sqlite_value.proofs.OrderLemmas.{value_cmp-Int}
use Rattle.sqlite_value.specs.Keys.{ascending}
use Rattle.sqlite_value.specs.declared.keys.Key.{Key}
use Rattle.gate_book_trait.specs.Reads.{items_between}
use Rattle.gate_rows.specs.Matches.{items_of}
use Rattle.gate_types.specs.Names.{same_name}
use Rattle.gate_types.specs.declared.records.Item.{Item}
use Rattle.gate_schema.specs.Rows.{IsKeyed, ItemRow, Stored, item_key, item_table_row}
use Rattle.gate_schema.proofs.Statements.{key_is}
use Rattle.gate_schema.proofs.ValueLemmas.{above_number, equal_texts, value_cmp-pos}
use Rattle.gate_schema.proofs.DeleteLemmas.{filter_same_on}
use Rattle.gate_found_rows.specs.Whole.{IsWhole}
use Rattle.gate_item_queries.proofs.ItemReads.{InForm}
use Rattle.gate_found_rows.proofs.JoinLemmas.{ascending-flat, keyed_told, over_tables, pairs_of, plus_number}
use Rattle.gate_found_rows.proofs.JoinLemmas.{shows_pairs}
use Rattle.gate_found_rows.proofs.ListFacts.{all_so, filter_in}
use Rattle.gate_found_rows.proofs.KeyedReads.{truth_of}
use Rattle.gate_item_queries.proofs.NextReads.{above_capped, capped, low}

-- ---- what is asked

-- the items of a queue above one serial, up to another, and what goes with each
abbrev pub between_test : List Term → List Term
between_test with = key_is 2 ∷ op2 (Compare Gt Binary) (op2 Coalesce (col 1 0) (lit Null)) (col 0 1) ∷ op2 (Compare Le Binary) (col 1 0) (col 0 2) ∷ with

-- item by item, each one's by a number
abbrev pub by_item : Term → List (Term × Key)
by_item number = (col 1 0, ascending Binary) ∷ (number, ascending Binary) ∷ []

-- of a table beside that of the items
abbrev pub between_query : ℕ → List Term → List Term → Term → Query
between_query second with project number = over_tables 11 second (between_test with) project (by_item number)

-- the parameters
abbrev pub between_params : List ℕ → ℕ → ℕ → Row
between_params name above last = Words name ∷ Int (pos above) ∷ Int (pos last) ∷ []

-- an item of a queue above one serial, up to another
abbrev pub is_between : List ℕ → ℕ → ℕ → ItemRow → Bool
is_between name above last i = same_name i.queue name && (ltb above i.item.serial && leb i.item.serial last)

-- ---- numbers, as SQL compares them

-- `<=` of numbers
up_to_number : (a b : ℕ) → is_true (binary (Compare Le Binary) (Int (pos a)) (Int (pos b))) ≡ leb a b
unfolding binary
up_to_number a b = truth_of _ ∙ ap is_le (value_cmp-pos a b) ∙ grind (arith, nat_tests)

-- a number ties with itself
ties : (n : ℕ) → int_cmp (pos n) (pos n) ≡ Equal
ties n = grind (arith, nat_tests, ints)

-- a lesser first number comes first
lesser_first : (a b m n : ℕ) → pos a <ℤ pos b → key_cmp 0 (ascending Binary ∷ ascending Binary ∷ []) (Int (pos a) ∷ Int (pos m) ∷ []) (Int (pos b) ∷ Int (pos n) ∷ []) ≡ Less
lesser_first a b m n less = rw (value_cmp-Int (pos a) (pos b), Less-from_lt _ _ less)

-- of one first number, a lesser second one does
lesser_second : (a m n : ℕ) → pos m <ℤ pos n → key_cmp 0 (ascending Binary ∷ ascending Binary ∷ []) (Int (pos a) ∷ Int (pos m) ∷ []) (Int (pos a) ∷ Int (pos n) ∷ []) ≡ Less
lesser_second a m n less = rw (value_cmp-Int (pos a) (pos a), ties a, value_cmp-Int (pos m) (pos n), Less-from_lt _ _ less)

-- ---- what is shown

-- the items between two serials, of all rows and of those of the queue
items_are_between : {Y : Type 0} (f : Item → List Y) (b : Stored) (name : List ℕ) (above last : ℕ)
    → flat_map (λ (i : ItemRow). f i.item) (filter (is_between name above last) b.items) ≡ flat_map f (items_between above last (items_of name b.items))
items_are_between f b name above last =
    sym (flat_map-map f (λ (i : ItemRow). i.item) _)
    ∙ ap (flat_map f) (sym (filter_in (λ (i : ItemRow). same_name i.queue name) (λ (i : Item). ltb above i.serial && leb i.serial last) (λ (i : ItemRow). i.item) b.items))

module _ {Y : Type 0} (S : Row → Y → Type 0) (second : ℕ) (with project : List Term) (order : Term) (name : List ℕ) (above last : ℕ)
    (is_of : Y → ℕ → Bool) (number : Y → ℕ) (shown : Item → Y → Row)
    (same : (s : Row) (i : ItemRow) (y : Y) → S s y → list_all (holds (between_params name (capped above) last ∷ item_table_row i ∷ s ∷ [])) with ≡ is_of y i.item.serial)
    (value : (s : Row) (i : ItemRow) (y : Y) → S s y → eval order (between_params name (capped above) last ∷ item_table_row i ∷ s ∷ []) ≡ Int (pos (number y)))
    (shows : (s : Row) (i : ItemRow) (y : Y) → S s y → eval_all project (between_params name (capped above) last ∷ item_table_row i ∷ s ∷ []) ≡ shown i.item y) where
  -- the query
  abbrev q : Query
  q = between_query second with project order

  -- what is made of an item and what goes with it
  abbrev out : ItemRow → Y → Output
  out i y = (Int (pos i.item.serial) ∷ Int (pos (number y)) ∷ [], shown i.item y)

  -- what goes with each of these items
  abbrev outs : List Y → List ItemRow → List Output
  outs ys is = flat_map (λ i. map (out i) (filter (λ y. is_of y i.item.serial) ys)) is

  -- both pass where the item is between the serials, and the other goes with it
  passes_both : (r s : Row) (i : ItemRow) (y : Y) → r ≡ item_table_row i → S s y
      → list_all (holds (between_params name (capped above) last ∷ r ∷ s ∷ [])) (between_test with) ≡ (is_between name (capped above) last i && is_of y i.item.serial)
  passes_both r s i y is tells =
      subst (λ v. list_all (holds (between_params name (capped above) last ∷ v ∷ s ∷ [])) (between_test with) ≡ (is_between name (capped above) last i && is_of y i.item.serial)) (sym is)
      (rw (plus_number i.item.serial, equal_texts i.queue name, above_number i.item.serial (capped above), up_to_number i.item.serial last, same s i y tells)
      (grouped (same_name i.queue name) (ltb (capped above) i.item.serial) (leb i.item.serial last) (is_of y i.item.serial)))
    where
      grouped : (a b c d : Bool) → (a && (b && (c && d))) ≡ ((a && (b && c)) && d)
      grouped a b c d = sym (and_assoc a (b && c) d ∙ ap (λ t. a && t) (and_assoc b c d))

  -- so they are shown
  shows_both : (r s : Row) (i : ItemRow) (y : Y) → r ≡ item_table_row i → S s y → output q (between_params name (capped above) last ∷ r ∷ s ∷ []) ≡ out i y
  shows_both r s i y is tells =
      subst (λ v. output q (between_params name (capped above) last ∷ v ∷ s ∷ []) ≡ out i y) (sym is) (rw (value s i y tells, shows s i y tells))

  -- item by item they rise
  outs_rise : (ys : List Y) (is : List ItemRow) → IsAscending (λ i j. pos (item_key i) <ℤ pos (item_key j)) is
      → ((n : ℕ) → IsAscending (λ x y. number x < number y) (filter (λ y. is_of y n) ys)) → IsAscending (λ a b. output_cmp q a b ≡ Less) (outs ys is)
  outs_rise ys is up rise =
      ascending-flat (λ i j. pos (item_key i) <ℤ pos (item_key j)) (λ a b. output_cmp q a b ≡ Less) (λ i. map (out i) (filter (λ y. is_of y i.item.serial) ys))
      (λ i j less. before i j less (filter (λ y. is_of y i.item.serial) ys) (filter (λ y. is_of y j.item.serial) ys))
      (λ i. ascending-map _ (out i) _ (ascending_weaker (λ x y. number x < number y) (λ x y. output_cmp q (out i x) (out i y) ≡ Less)
      (λ x y less. lesser_second i.item.serial (number x) (number y) (omega (arith, ints))) _ (rise i.item.serial))) is up
    where
      after : (i j : ItemRow) → pos (item_key i) <ℤ pos (item_key j) → (x : Y) (zs : List Y) → AllByRecursion (λ b. output_cmp q (out i x) b ≡ Less) (map (out j) zs)
      after i j less x [] = tt
      after i j less x (z ∷ zs) = (lesser_first i.item.serial j.item.serial (number x) (number z) less, after i j less x zs)

      before : (i j : ItemRow) → pos (item_key i) <ℤ pos (item_key j) → (xs zs : List Y) → AllByRecursion (λ a. AllByRecursion (λ b. output_cmp q a b ≡ Less) (map (out j) zs)) (map (out i) xs)
      before i j less [] zs = tt
      before i j less (x ∷ xs) zs = (after i j less x zs, before i j less xs zs)

  -- what is shown of them
  all_shown : (ys : List Y) (is : List ItemRow) → map (λ (o : Output). o.1) (outs ys is) ≡ flat_map (λ (i : ItemRow). map (shown i.item) (filter (λ y. is_of y i.item.serial) ys)) is
  all_shown ys is =
      map-flat_map (λ (o : Output). o.1) (λ (i : ItemRow). map (out i) (filter (λ y. is_of y i.item.serial) ys)) is
      ∙ flat_map_same_on (λ (i : ItemRow). map (λ (o : Output). o.1) (map (out i) (filter (λ y. is_of y i.item.serial) ys))) (λ (i : ItemRow). map (shown i.item) (filter (λ y. is_of y i.item.serial) ys))
      (λ i. map-map (λ (o : Output). o.1) (out i) (filter (λ y. is_of y i.item.serial) ys)) is

  -- what goes with each item between the serials, item by item
  pub finds_between : (db : Trees) (b : Stored) (ys : List Y) (rows : List Row) → IsWhole b → IsKeyed item_key item_table_row (db 11) b.items → AllZip S (db second) ys
      → ((n : ℕ) → IsAscending (λ x y. number x < number y) (filter (λ y. is_of y n) ys)) → IsAnswer q db (between_params name (capped above) last) rows
      → rows ≡ flat_map (λ i. map (shown i) (filter (λ y. is_of y i.serial) ys)) (items_between above last (items_of name b.items))
  finds_between db b ys rows whole holds tells rise a =
      let paired = pairs_of (is_between name (capped above) last) (λ i y. is_of y i.item.serial) out b.items ys in
      let up = outs_rise ys (filter (is_between name (capped above) last) b.items) (ascending-filter _ (is_between name (capped above) last) b.items holds.in_order) rise in
      let alike : filter (is_between name (capped above) last) b.items ≡ filter (is_between name above last) b.items =
      filter_same_on _ _ b.items (all_so InForm _ (λ i form. ap (λ t. same_name i.queue name && (t && leb i.item.serial last)) (above_capped above i.item.serial (low i form))) b.items whole.items) in
      shows_pairs (λ r i. r ≡ item_table_row i) S 11 second (between_test with) project (by_item order) (between_params name (capped above) last)
      (λ i y. is_between name (capped above) last i && is_of y i.item.serial) out passes_both shows_both db rows b.items ys (keyed_told item_key item_table_row (db 11) b.items holds) tells
      (subst (λ os. IsAscending (λ a b. output_cmp q a b ≡ Less) os) (sym paired) up) a
      ∙ ap (map (λ (o : Output). o.1)) (paired ∙ ap (outs ys) alike)
      ∙ all_shown ys (filter (is_between name above last) b.items)
      ∙ items_are_between (λ i. map (shown i) (filter (λ y. is_of y i.serial) ys)) b name above last
