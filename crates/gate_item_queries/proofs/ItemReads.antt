-- What the reads of items find, as records.
use Rattle.std.proofs.Common.{◌≡◌, ◌≢◌, ◌≤◌, ℕ, pos, List, [], ◌∷◌, map, filter, find, length, slice_get, Bool, true}
use Rattle.std.proofs.Common.{option_map, eqb, refl, ap, arith}
use Rattle.std.specs.Prelude.{AllPairs}
use Rattle.std.specs.List.{AllPass}
use Rattle.std.proofs.lemmas.Bool.Decides.{nat_tests}
use Rattle.std.proofs.lemmas.List.Elements.{All-filter}
use Rattle.sqlite.specs.Order.{Row}
use Rattle.sqlite.specs.Program.{overlay}
use Rattle.sqlite.specs.State.{State}
use Rattle.sqlite.specs.declared.types.Value.TheVariants.{Int, Text as Words}
use Rattle.sqlite_keyed.proofs.ListLemmas.{slice_get-filter}
use Rattle.sqlite_tied.proofs.RuleLemmas.{and_true}
use Rattle.gate_types.specs.Names.{same_name}
use Rattle.gate_schema.specs.Rows.{ItemRow, Stored, item_key, item_table_row}
use Rattle.gate_schema.specs.Shown.{item_shown}
use Rattle.gate_schema.proofs.Statements.{key_is, no_limit}
use Rattle.gate_schema.proofs.ValueLemmas.{equal_numbers, equal_texts}
use Rattle.gate_found_rows.specs.Finds.{Finds}
use Rattle.gate_found_rows.specs.Reads.{IsStoredIn}
use Rattle.gate_found_rows.specs.Whole.{IsWhole, is_item_row_in_form}
use Rattle.gate_item_queries.proofs.ItemTexts.{item_is, item_names, item_query, item_sql, item_terms, items_is}
use Rattle.gate_item_queries.proofs.ItemTexts.{items_query, items_sql, queued_is, queued_query, queued_sql}
use Rattle.gate_found_rows.proofs.KeyedReads.{finds_few, finds_rising, one_at, one_passes}
use Rattle.gate_found_rows.proofs.ReadLemmas.{answers}

-- the rows show these items, all in form
pub record ShowsItems (rows : List Row) (is : List ItemRow) : Type 0 where
  pub shown : rows ≡ map item_shown is
  pub in_form : AllPass is_item_row_in_form is

-- an item is in form
abbrev pub InForm : ItemRow → Type 0
InForm i = is_item_row_in_form i ≡ true

-- ---- all items of a queue

-- the read of the items of a queue finds those
pub items_found : (s : State) (b : Stored) (name : List ℕ) (rows : List Row) → IsStoredIn s b → IsWhole b → Finds items_sql (Words name ∷ []) s.now rows →
    ShowsItems rows (filter (λ i. same_name i.queue name) b.items)
items_found s b name rows shown whole finds =
    let params = Words name ∷ [] in
    let a = answers s items_sql items_query item_names params rows items_is shown.schema_is finds in
    record {
      shown = finds_rising item_key item_table_row item_shown 11 (key_is 2 ∷ []) item_terms no_limit params (λ i. same_name i.queue name)
          (λ i. rw (equal_texts i.queue name, and_true (same_name i.queue name))) (λ i. refl) (λ i. refl) (overlay s.now.trees []) b.items rows shown.stands.item a;
      in_form = All-filter (λ i. same_name i.queue name) InForm b.items whole.items;
    }

-- ---- the item of a serial

-- the read of the item of a serial finds it
pub item_found : (s : State) (b : Stored) (n : ℕ) (rows : List Row) → IsStoredIn s b → IsWhole b → Finds item_sql (Int (pos n) ∷ []) s.now rows →
    ShowsItems rows (filter (λ i. eqb (item_key i) n) b.items)
item_found s b n rows shown whole finds =
    let params = Int (pos n) ∷ [] in
    let a = answers s item_sql item_query item_names params rows item_is shown.schema_is finds in
    record {
      shown = finds_few item_key item_table_row item_shown 11 (key_is 0 ∷ []) item_terms no_limit params (λ i. eqb (item_key i) n)
          (λ i. rw (equal_numbers (item_key i) n, and_true (eqb (item_key i) n))) (λ i. refl) (overlay s.now.trees []) b.items rows shown.stands.item
          (one_at item_key n b.items shown.stands.item.in_order) a;
      in_form = All-filter (λ i. eqb (item_key i) n) InForm b.items whole.items;
    }

-- ---- the item of a change

-- one item at most is of a change
pub one_of : (n : ℕ) (is : List ItemRow) → AllPairs (λ (i j : ItemRow). i.item.change ≢ j.item.change) is → length (filter (λ (i : ItemRow). eqb i.item.change n) is) ≤ 1
one_of n is differ = one_passes (λ (i : ItemRow). eqb i.item.change n) is (λ k m d less within p q. differ k m d less within (both _ _ p q))
  where
    both : (a b : ℕ) → eqb a n ≡ true → eqb b n ≡ true → a ≡ b
    both a b p q = grind (arith, nat_tests)

-- the read of the item of a change finds it
pub queued_found : (s : State) (b : Stored) (n : ℕ) (rows : List Row) → IsStoredIn s b → IsWhole b → Finds queued_sql (Int (pos n) ∷ []) s.now rows →
    ShowsItems rows (filter (λ (i : ItemRow). eqb i.item.change n) b.items)
queued_found s b n rows shown whole finds =
    let params = Int (pos n) ∷ [] in
    let a = answers s queued_sql queued_query item_names params rows queued_is shown.schema_is finds in
    record {
      shown = finds_few item_key item_table_row item_shown 11 (key_is 3 ∷ []) item_terms no_limit params (λ i. eqb i.item.change n)
          (λ i. rw (equal_numbers i.item.change n, and_true (eqb i.item.change n))) (λ i. refl) (overlay s.now.trees []) b.items rows shown.stands.item
          (one_of n b.items whole.changes_differ) a;
      in_form = All-filter (λ i. eqb i.item.change n) InForm b.items whole.items;
    }

-- the first of those that pass is the one that is found
pub first_is : {T : Type 0} (f : ItemRow → T) (p : ItemRow → Bool) (is : List ItemRow) → option_map f (slice_get (filter p is) 0) ≡ option_map f (find p is)
first_is f p is = ap (option_map f) (slice_get-filter p is)
