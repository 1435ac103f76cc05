-- What the reads of the next item of a queue find, of the next few, and of the last.
use Rattle.std.proofs.Common.{◌≡◌, ◌≤◌, ◌<◌, ℕ, pos, min, List, [], ◌∷◌, map, filter, take, reverse, slice_get, Bool}
use Rattle.std.proofs.Common.{true, ◌&&◌, Option, option_map, ltb, refl, sym, ap, subst, ◌∙◌, arith}
use Rattle.std.specs.Prelude.{IfSome, Result}
use Rattle.std.specs.List.{AllByRecursion, AllPass}
use Rattle.std.proofs.lemmas.Bool.{and_parts}
use Rattle.std.proofs.lemmas.Bool.Decides.{nat_tests}
use Rattle.std.proofs.lemmas.List.{take-map}
use Rattle.std.proofs.lemmas.List.Elements.{All-filter, All-from_recursion, All-take, recursion_from_All}
use Rattle.std.proofs.lemmas.List.Sorted.{All-permutation, IsPermutation-reverse}
use Rattle.sqlite.specs.Order.{Row}
use Rattle.sqlite.specs.Program.{overlay}
use Rattle.sqlite.specs.State.{State}
use Rattle.sqlite.specs.declared.types.Value.TheVariants.{Int, Text as Words}
use Rattle.sqlite_keyed.proofs.ListLemmas.{all_weaker, first_taken}
use Rattle.sqlite_tied.proofs.RuleLemmas.{and_true}
use Rattle.gate_types.specs.Forms.{is_change_number, is_drawn_number, is_revision_number}
use Rattle.gate_types.specs.Names.{is_name, same_name}
use Rattle.gate_types.specs.declared.records.Item.{Item}
use Rattle.gate_book_trait.specs.Reads.{Answers}
use Rattle.gate_book_trait.specs.declared.fault.BookFault.{BookFault}
use Rattle.gate_schema.specs.Rows.{ItemRow, Stored, item_key, item_table_row}
use Rattle.gate_schema.specs.Shown.{item_shown}
use Rattle.gate_schema.proofs.ValueLemmas.{above_number, equal_texts}
use Rattle.gate_schema.proofs.DeleteLemmas.{filter_same_on}
use Rattle.gate_schema.proofs.Statements.{one_row}
use Rattle.gate_found_rows.specs.Finds.{Finds}
use Rattle.gate_found_rows.specs.Reads.{IsStoredIn}
use Rattle.gate_found_rows.specs.Whole.{IsWhole, is_item_row_in_form}
use Rattle.gate_item_queries.proofs.ItemReads.{InForm, ShowsItems}
use Rattle.gate_item_queries.proofs.ItemTexts.{item_names, item_terms, last_is, last_query, last_sql, last_test}
use Rattle.gate_item_queries.proofs.ItemTexts.{next_is, next_query, next_sql, next_test, several_is}
use Rattle.gate_item_queries.proofs.ItemTexts.{several_query, several_sql, third}
use Rattle.gate_found_rows.proofs.KeyedReads.{below_number, finds_falling, finds_rising}
use Rattle.gate_found_rows.proofs.ListFacts.{all_so, first_so, passing}
use Rattle.gate_found_rows.proofs.ReadLemmas.{answers}
use Rattle.gate_types.specs.Counters.{last_number}

-- the rows begin with this item, where there is one
pub record Leads (rows : List Row) (first : Option ItemRow) : Type 0 where
  pub is : List ItemRow
  pub shows : ShowsItems rows is
  pub first_is : slice_get is 0 ≡ first

-- so what is read of the first row is what is asked for
pub first_answers : (rows : List Row) (first : Option ItemRow) (P : ItemRow → Type 0) (value : Option Item) (r : Result (Option Item) BookFault) → Leads rows first →
    option_map (λ (i : ItemRow). i.item) first ≡ value → IfSome first P →
    ((is : List ItemRow) → rows ≡ map item_shown is → AllPass is_item_row_in_form is → IfSome (slice_get is 0) P → Answers (option_map (λ (i : ItemRow). i.item) (slice_get is 0)) r) →
    Answers value r
first_answers rows first P value r leads is some read =
    subst (λ v. Answers v r) (ap (option_map (λ (i : ItemRow). i.item)) leads.first_is ∙ is)
    (read leads.is leads.shows.shown leads.shows.in_form (subst (λ o. IfSome o P) (sym leads.first_is) some))

-- ---- a bound that no column holds is as good as the greatest that one does

-- the bound as a parameter
abbrev pub capped : ℕ → ℕ
capped n = min n 9223372036854775807

-- a serial in form is far below that
pub low : (i : ItemRow) → is_item_row_in_form i ≡ true → i.item.serial ≤ last_number
low i form =
    let numbers = (and_parts (is_name i.queue) _ (and_parts _ _ form).0).1 in
    let drawn : is_drawn_number i.item.serial ≡ true = (and_parts _ _ (and_parts (is_drawn_number i.item.serial && is_change_number i.item.change) (is_revision_number i.item.revision) numbers).0).0 in
    up_to i.item.serial drawn
  where
    up_to : (n : ℕ) → is_drawn_number n ≡ true → n ≤ last_number
    up_to n drawn = grind (arith, nat_tests)

-- it leaves the same serials above
pub above_capped : (n s : ℕ) → s ≤ last_number → ltb (min n 9223372036854775807) s ≡ ltb n s
above_capped n s h = grind (arith, nat_tests)

-- and the same below
below_capped : (n s : ℕ) → s ≤ last_number → ltb s (min n 9223372036854775807) ≡ ltb s n
below_capped n s h = grind (arith, nat_tests)

-- ---- the next above a serial, and the last below

-- the items of a queue above a serial
abbrev pub is_next : List ℕ → ℕ → ItemRow → Bool
is_next name above i = same_name i.queue name && ltb above i.item.serial

-- the items of a queue below a serial
abbrev pub is_before : List ℕ → ℕ → ItemRow → Bool
is_before name below i = same_name i.queue name && ltb i.item.serial below

-- the read of the next item begins with it
pub next_found : (s : State) (b : Stored) (name : List ℕ) (above : ℕ) (rows : List Row) → IsStoredIn s b → IsWhole b →
    Finds next_sql (Words name ∷ Int (pos (capped above)) ∷ []) s.now rows → Leads rows (slice_get (filter (is_next name above) b.items) 0)
next_found s b name above rows shown whole finds =
    let to = capped above in
    let params = Words name ∷ Int (pos to) ∷ [] in
    let a = answers s next_sql next_query item_names params rows next_is shown.schema_is finds in
    let alike : filter (is_next name to) b.items ≡ filter (is_next name above) b.items =
    filter_same_on _ _ b.items (all_so InForm _ (λ i form. ap (λ t. same_name i.queue name && t) (above_capped above i.item.serial (low i form))) b.items whole.items) in
    record {
      is = take 1 (filter (is_next name above) b.items);
      shows = record {
        shown = finds_rising item_key item_table_row item_shown 11 next_test item_terms one_row params (is_next name to)
            (λ i. rw (equal_texts i.queue name, above_number i.item.serial to, and_true (ltb to i.item.serial))) (λ i. refl) (λ i. refl) (overlay s.now.trees []) b.items rows shown.stands.item a
            ∙ ap (λ is. take 1 (map item_shown is)) alike ∙ take-map item_shown 1 _;
        in_form = All-take InForm 1 _ (All-filter (is_next name above) InForm b.items whole.items);
      };
      first_is = first_taken _;
    }

-- the read of the next few items finds those
pub several_found : (s : State) (b : Stored) (name : List ℕ) (above most : ℕ) (rows : List Row) → IsStoredIn s b → IsWhole b →
    Finds several_sql (Words name ∷ Int (pos (capped above)) ∷ Int (pos most) ∷ []) s.now rows → ShowsItems rows (take most (filter (is_next name above) b.items))
several_found s b name above most rows shown whole finds =
    let to = capped above in
    let params = Words name ∷ Int (pos to) ∷ Int (pos most) ∷ [] in
    let a = answers s several_sql several_query item_names params rows several_is shown.schema_is finds in
    let alike : filter (is_next name to) b.items ≡ filter (is_next name above) b.items =
    filter_same_on _ _ b.items (all_so InForm _ (λ i form. ap (λ t. same_name i.queue name && t) (above_capped above i.item.serial (low i form))) b.items whole.items) in
    record {
      shown = finds_rising item_key item_table_row item_shown 11 next_test item_terms third params (is_next name to)
          (λ i. rw (equal_texts i.queue name, above_number i.item.serial to, and_true (ltb to i.item.serial))) (λ i. refl) (λ i. refl) (overlay s.now.trees []) b.items rows shown.stands.item a
          ∙ ap (λ is. take most (map item_shown is)) alike ∙ take-map item_shown most _;
      in_form = All-take InForm most _ (All-filter (is_next name above) InForm b.items whole.items);
    }

-- the read of the last item begins with it
pub last_found : (s : State) (b : Stored) (name : List ℕ) (below : ℕ) (rows : List Row) → IsStoredIn s b → IsWhole b →
    Finds last_sql (Words name ∷ Int (pos (capped below)) ∷ []) s.now rows → Leads rows (slice_get (reverse (filter (is_before name below) b.items)) 0)
last_found s b name below rows shown whole finds =
    let to = capped below in
    let params = Words name ∷ Int (pos to) ∷ [] in
    let a = answers s last_sql last_query item_names params rows last_is shown.schema_is finds in
    let alike : filter (is_before name to) b.items ≡ filter (is_before name below) b.items =
    filter_same_on _ _ b.items (all_so InForm _ (λ i form. ap (λ t. same_name i.queue name && t) (below_capped below i.item.serial (low i form))) b.items whole.items) in
    let before = filter (is_before name below) b.items in
    record {
      is = take 1 (reverse before);
      shows = record {
        shown = finds_falling item_key item_table_row item_shown 11 last_test item_terms one_row params (is_before name to)
            (λ i. rw (equal_texts i.queue name, below_number i.item.serial to, and_true (ltb i.item.serial to))) (λ i. refl) (λ i. refl) (overlay s.now.trees []) b.items rows shown.stands.item a
            ∙ ap (λ is. take 1 (map item_shown (reverse is))) alike ∙ take-map item_shown 1 _;
        in_form = All-take InForm 1 _ (All-permutation InForm before (reverse before) (IsPermutation-reverse before) (All-filter (is_before name below) InForm b.items whole.items));
      };
      first_is = first_taken _;
    }

-- the first of those above a serial is above it
pub next_is_above : (name : List ℕ) (above : ℕ) (is : List ItemRow) → IfSome (slice_get (filter (is_next name above) is) 0) (λ (i : ItemRow). above < i.item.serial)
next_is_above name above is =
    first_so (λ (i : ItemRow). above < i.item.serial) _ (all_weaker (λ i. is_next name above i ≡ true) _ (λ i pass. less above i.item.serial (and_parts _ _ pass).1) _ (passing (is_next name above) is))
  where
    less : (m n : ℕ) → ltb m n ≡ true → m < n
    less m n h = grind (arith, nat_tests)

-- the last of those below a serial is below it
pub last_is_below : (name : List ℕ) (below : ℕ) (is : List ItemRow) → IfSome (slice_get (reverse (filter (is_before name below) is)) 0) (λ (i : ItemRow). i.item.serial < below)
last_is_below name below is =
    let found = filter (is_before name below) is in
    let each : AllByRecursion (λ (i : ItemRow). i.item.serial < below) found =
    all_weaker (λ i. is_before name below i ≡ true) _ (λ i pass. less i.item.serial below (and_parts _ _ pass).1) _ (passing (is_before name below) is) in
    first_so (λ (i : ItemRow). i.item.serial < below) _
    (recursion_from_All _ _ (All-permutation (λ (i : ItemRow). i.item.serial < below) found (reverse found) (IsPermutation-reverse found) (All-from_recursion (λ (i : ItemRow). i.item.serial < below) found each)))
  where
    less : (m n : ℕ) → ltb m n ≡ true → m < n
    less m n h = grind (arith, nat_tests)
