-- What the read of the items of a queue whose changes need another finds.
use Rattle.std.proofs.Common.{◌≡◌, ◌<ℤ◌, ℕ, pos, List, [], ◌∷◌, map, filter, drop, Bool, true, ◌&&◌, eqb, ltb, refl}
use Rattle.std.proofs.Common.{sym, ap, subst, ◌∙◌}
use Rattle.std.specs.List.{list_all}
use Rattle.std.proofs.lemmas.Bool.{and_from, and_parts}
use Rattle.std.proofs.lemmas.List.Elements.{All-filter}
use Rattle.sqlite.specs.Collation.TheVariants.{Binary}
use Rattle.sqlite.specs.Order.{Row}
use Rattle.sqlite.specs.Program.{overlay}
use Rattle.sqlite.specs.Query.{Output, output}
use Rattle.sqlite.specs.State.{State}
use Rattle.sqlite.specs.Term.{col, holds}
use Rattle.sqlite.specs.declared.types.Value.TheVariants.{Int, Text as Words}
use Rattle.sqlite_keyed.proofs.ListLemmas.{ascending-filter}
use Rattle.sqlite_rules.specs.Lists.{Has}
use Rattle.sqlite_rules.proofs.ListLemmas.{has_filtered, has_kept}
use Rattle.sqlite_tied.proofs.RuleLemmas.{and_true}
use Rattle.sqlite_value.specs.declared.keys.Collation.{Collation}
use Rattle.gate_types.specs.Names.{same_name}
use Rattle.gate_schema.specs.Rows.{ItemRow, NeedRow, Stored, item_key, item_table_row, need_columns}
use Rattle.gate_schema.specs.Shown.{item_shown, needs_among}
use Rattle.gate_schema.proofs.ValueLemmas.{above_number, equal_numbers, equal_texts}
use Rattle.gate_schema.proofs.DeleteLemmas.{filter_same_on}
use Rattle.gate_found_rows.specs.Finds.{Finds}
use Rattle.gate_found_rows.specs.Reads.{IsStoredIn}
use Rattle.gate_found_rows.specs.Shown.{number_shown}
use Rattle.gate_found_rows.specs.Whole.{IsWhole}
use Rattle.gate_found_rows.proofs.DistinctLemmas.{shows_once}
use Rattle.gate_item_queries.proofs.ItemReads.{InForm, ShowsItems}
use Rattle.gate_item_queries.proofs.ItemTexts.{item_names, needing_is, needing_order, needing_query, needing_sql}
use Rattle.gate_item_queries.proofs.ItemTexts.{needing_terms, needing_test}
use Rattle.gate_found_rows.proofs.JoinLemmas.{keyed_told, listed_told, over_tables, plus_text}
use Rattle.gate_found_rows.proofs.ListFacts.{all_so}
use Rattle.gate_schema.proofs.RowLemmas.{told_behind}
use Rattle.gate_item_queries.proofs.NextReads.{above_capped, capped, low}
use Rattle.gate_found_rows.proofs.NeedLemmas.{need_of, needs_by}
use Rattle.gate_found_rows.proofs.ReadLemmas.{answers}

-- ---- what is asked

-- an item of a queue above a serial whose change needs another
abbrev pub is_needing : Stored → List ℕ → ℕ → ℕ → ItemRow → Bool
is_needing b name needed above i = same_name i.queue name && (ltb above i.item.serial && needs_among b.needs needed i.item.change)

-- a need of the other by the change of an item of a queue above a serial
abbrev is_need_of : List ℕ → ℕ → ℕ → NeedRow → ItemRow → Bool
is_need_of name needed above n i = eqb n.needed needed && (eqb i.item.change n.change && (same_name i.queue name && ltb above i.item.serial))

-- what is shown of an item behind its serial
abbrev behind_serial : ItemRow → Row
behind_serial i = drop 1 (item_shown i)

-- the serial, and what is shown of the item
abbrev made_of : ItemRow → Output
made_of i = (number_shown i.item.serial, item_shown i)

-- how what is shown behind the serial compares
abbrev others : List Collation
others = Binary ∷ Binary ∷ Binary ∷ Binary ∷ Binary ∷ []

-- the parameters
abbrev pub params_of : List ℕ → ℕ → ℕ → Row
params_of name above needed = Words name ∷ Int (pos above) ∷ Int (pos needed) ∷ []

-- ---- what is found

module _ (b : Stored) (name : List ℕ) (needed above : ℕ) where
  -- an item that a need leads to needs the other
  needing_by : (n : NeedRow) (i : ItemRow) → Has b.needs n → is_need_of name needed above n i ≡ true → is_needing b name needed above i ≡ true
  needing_by n i h passes =
      let first = and_parts _ _ passes in
      let second = and_parts _ _ first.1 in
      let third = and_parts _ _ second.1 in
      and_from _ _ third.0 (and_from _ _ third.1 (needs_by b.needs n needed i.item.change h first.0 second.0))

  -- a need leads to an item that needs the other
  leading_to : (i : ItemRow) → is_needing b name needed above i ≡ true → (n : NeedRow) × Has b.needs n × (is_need_of name needed above n i ≡ true)
  leading_to i passes =
      let first = and_parts _ _ passes in
      let second = and_parts _ _ first.1 in
      let need = need_of b.needs needed i.item.change second.1 in
      (need.0, need.1, and_from _ _ need.2 (and_from _ _ need.3 (and_from _ _ first.0 second.0)))

  -- a need's row and an item's pass where the need leads to the item
  passes_both : (r v : Row) (n : NeedRow) (i : ItemRow) → drop 1 r ≡ need_columns n → v ≡ item_table_row i
      → list_all (holds (params_of name above needed ∷ r ∷ v ∷ [])) needing_test ≡ is_need_of name needed above n i
  passes_both r v n i tells is =
      subst (λ w. list_all (holds (params_of name above needed ∷ r ∷ w ∷ [])) needing_test ≡ is_need_of name needed above n i) (sym is)
      (told_behind (λ w. list_all (holds (params_of name above needed ∷ w ∷ item_table_row i ∷ [])) needing_test) r _ _ (is_need_of name needed above n i)
      (λ w. rw (equal_numbers n.needed needed, equal_numbers i.item.change n.change, plus_text i.queue, equal_texts i.queue name, above_number i.item.serial above, and_true (ltb above i.item.serial))) tells)

  -- the item is shown
  shows_item : (r v : Row) (n : NeedRow) (i : ItemRow) → drop 1 r ≡ need_columns n → v ≡ item_table_row i
      → output (over_tables 9 11 needing_test needing_terms needing_order) (params_of name above needed ∷ r ∷ v ∷ []) ≡ made_of i
  shows_item r v n i tells is = subst (λ w. output (over_tables 9 11 needing_test needing_terms needing_order) (params_of name above needed ∷ r ∷ w ∷ []) ≡ made_of i) (sym is) refl

  -- the items that need the other, by rising serial
  needing_shown : (s : State) (rows : List Row) → IsStoredIn s b → Finds needing_sql (params_of name above needed) s.now rows
      → rows ≡ map item_shown (filter (is_needing b name needed above) b.items)
  needing_shown s rows shown finds =
      shows_once (λ r n. drop 1 r ≡ need_columns n) (λ v i. v ≡ item_table_row i) 9 11 needing_test needing_terms (col 2 0) others (params_of name above needed)
      (is_need_of name needed above) (λ n i. made_of i) passes_both shows_item item_key behind_serial b.needs b.items (filter (is_needing b name needed above) b.items)
      (λ n i h k passes. (i, has_kept (is_needing b name needed above) b.items i k (needing_by n i h passes), refl))
      (λ i h.
      let passed = has_filtered (is_needing b name needed above) b.items i h in
      let need = leading_to i passed.1 in
      (need.0, i, need.1, passed.0, need.2, refl))
      (overlay s.now.trees []) rows (listed_told need_columns (s.now.trees 9) b.needs shown.stands.need.columns_are) (keyed_told item_key item_table_row (s.now.trees 11) b.items shown.stands.item)
      (ascending-filter (λ (i j : ItemRow). pos (item_key i) <ℤ pos (item_key j)) (is_needing b name needed above) b.items shown.stands.item.in_order)
      (answers s needing_sql needing_query item_names (params_of name above needed) rows needing_is shown.schema_is finds)

-- the read of the items whose changes need another finds those
pub needing_found : (s : State) (b : Stored) (name : List ℕ) (needed above : ℕ) (rows : List Row) → IsStoredIn s b → IsWhole b →
    Finds needing_sql (params_of name (capped above) needed) s.now rows → ShowsItems rows (filter (is_needing b name needed above) b.items)
needing_found s b name needed above rows shown whole finds =
    let alike : filter (is_needing b name needed (capped above)) b.items ≡ filter (is_needing b name needed above) b.items =
    filter_same_on _ _ b.items (all_so InForm _ (λ i form. ap (λ t. same_name i.queue name && (t && needs_among b.needs needed i.item.change)) (above_capped above i.item.serial (low i form))) b.items whole.items) in
    record {
      shown = needing_shown b name needed (capped above) s rows shown finds ∙ ap (map item_shown) alike;
      in_form = All-filter (is_needing b name needed above) InForm b.items whole.items;
    }
