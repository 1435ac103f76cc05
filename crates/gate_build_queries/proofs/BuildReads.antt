-- What the reads of builds find.
use Rattle.std.proofs.Common.{◌≡◌, ◌<◌, ◌∙◌, ℕ, pos, Bool, true, false, ◌&&◌, List, [], ◌∷◌, filter, map, refl, sym}
use Rattle.std.proofs.Common.{subst, eqb, arith}
use Rattle.std.specs.List.{AllPass, list_all}
use Rattle.std.proofs.lemmas.Int.{ints}
use Rattle.sqlite.specs.Order.{Row}
use Rattle.sqlite.specs.Program.{overlay}
use Rattle.sqlite.specs.State.{State}
use Rattle.sqlite.specs.Term.{col, eval, eval_all, holds}
use Rattle.sqlite.specs.declared.types.Value.TheVariants.{Int}
use Rattle.sqlite_keyed.proofs.ListLemmas.{ascending-filter, ascending_weaker, map-flat_map}
use Rattle.sqlite_tied.proofs.RuleLemmas.{and_true}
use Rattle.gate_types.specs.declared.records.Item.{Item}
use Rattle.gate_book_trait.specs.Reads.{items_between}
use Rattle.gate_rows.specs.Matches.{items_of}
use Rattle.gate_schema.specs.Rows.{Stored, bit, build_key, build_table_row, item_table_row}
use Rattle.gate_schema.specs.Shown.{build_shown}
use Rattle.gate_schema.proofs.Statements.{key_is, no_limit}
use Rattle.gate_schema.proofs.ValueLemmas.{equal_numbers}
use Rattle.gate_found_rows.specs.Asked.{builds_between, stored_live_builds}
use Rattle.gate_found_rows.specs.Finds.{Finds}
use Rattle.gate_found_rows.specs.Reads.{IsStoredIn}
use Rattle.gate_found_rows.specs.Whole.{IsWhole, is_build_row_in_form}
use Rattle.gate_build_queries.proofs.BetweenReads.{between_params, between_query, finds_between}
use Rattle.gate_build_queries.proofs.BuildTexts.{between_asks, between_live, between_sql, between_terms, build_asks}
use Rattle.gate_build_queries.proofs.BuildTexts.{build_names, build_query, build_sql, build_terms, live_asks}
use Rattle.gate_build_queries.proofs.BuildTexts.{live_query, live_sql, live_test}
use Rattle.gate_found_rows.proofs.JoinLemmas.{keyed_told}
use Rattle.gate_found_rows.proofs.KeyedReads.{finds_few, finds_rising, one_at}
use Rattle.gate_item_queries.proofs.NextReads.{capped}
use Rattle.gate_found_rows.proofs.ReadLemmas.{answers}
use Rattle.gate_found_rows.proofs.ShownLemmas.{pass_filter, pass_flat}

-- the build of a number
pub build_found : (s : State) (b : Stored) (n : ℕ) (rows : List Row) → IsStoredIn s b → Finds build_sql (Int (pos n) ∷ []) s.now rows
    → rows ≡ map build_shown (filter (λ y. eqb (build_key y) n) b.builds)
build_found s b n rows shows finds =
    let params = Int (pos n) ∷ [] in
    let is = shows.stands.build in
    finds_few build_key build_table_row build_shown 13 (key_is 0 ∷ []) build_terms no_limit params (λ y. eqb (build_key y) n)
    (λ y. rw equal_numbers (and_true (eqb (build_key y) n))) (λ y. refl) (overlay s.now.trees []) b.builds rows is (one_at build_key n b.builds is.in_order)
    (answers s build_sql build_query build_names params rows build_asks shows.schema_is finds)

-- a flag is 1 where it is set
flagged : (b : Bool) → eqb (bit b) 1 ≡ b
flagged true = refl
flagged false = refl

-- two tests, in either order
swapped : (a b : Bool) → (a && b) ≡ (b && a)
swapped true true = refl
swapped true false = refl
swapped false true = refl
swapped false false = refl

-- the live builds of a serial
pub live_found : (s : State) (b : Stored) (n : ℕ) (rows : List Row) → IsStoredIn s b → Finds live_sql (Int (pos n) ∷ []) s.now rows
    → rows ≡ map build_shown (filter (λ y. y.live && eqb y.serial n) b.builds)
live_found s b n rows shows finds =
    let params = Int (pos n) ∷ [] in
    finds_rising build_key build_table_row build_shown 13 live_test build_terms no_limit params (λ y. y.live && eqb y.serial n)
    (λ y. rw (equal_numbers y.serial n, equal_numbers (bit y.live) 1, flagged y.live, and_true y.live) (swapped (eqb y.serial n) y.live))
    (λ y. refl) (λ y. refl) (overlay s.now.trees []) b.builds rows shows.stands.build
    (answers s live_sql live_query build_names params rows live_asks shows.schema_is finds)

-- the live builds of the items of a queue between two serials
pub between_found : (s : State) (b : Stored) (name : List ℕ) (above last : ℕ) (rows : List Row) → IsStoredIn s b → IsWhole b
    → Finds between_sql (between_params name (capped above) last) s.now rows → rows ≡ map build_shown (builds_between b name above last)
between_found s b name above last rows shows whole finds =
    let params = between_params name (capped above) last in
    finds_between (λ r y. r ≡ build_table_row y) 13 between_live between_terms (col 2 0) name above last (λ y n. y.live && eqb y.serial n) build_key (λ i y. build_shown y)
    (λ r i y is. subst (λ v. list_all (holds (params ∷ item_table_row i ∷ v ∷ [])) between_live ≡ (y.live && eqb y.serial i.item.serial)) (sym is)
    (rw (equal_numbers y.serial i.item.serial, equal_numbers (bit y.live) 1, flagged y.live, and_true y.live) (swapped (eqb y.serial i.item.serial) y.live)))
    (λ r i y is. subst (λ v. eval (col 2 0) (params ∷ item_table_row i ∷ v ∷ []) ≡ Int (pos y.number)) (sym is) refl)
    (λ r i y is. subst (λ v. eval_all between_terms (params ∷ item_table_row i ∷ v ∷ []) ≡ build_shown y) (sym is) refl)
    (overlay s.now.trees []) b b.builds rows whole shows.stands.item (keyed_told build_key build_table_row (s.now.trees 13) b.builds shows.stands.build)
    (λ n. ascending_weaker _ (λ x y. x.number < y.number) (λ x y less. omega (arith, ints)) _ (ascending-filter _ (λ y. y.live && eqb y.serial n) b.builds shows.stands.build.in_order))
    (answers s between_sql (between_query 13 between_live between_terms (col 2 0)) build_names params rows between_asks shows.schema_is finds)
    ∙ sym (map-flat_map build_shown (λ i. stored_live_builds b i.serial) (items_between above last (items_of name b.items)))

-- they are in form
pub between_in_form : (b : Stored) (name : List ℕ) (above last : ℕ) → IsWhole b → AllPass is_build_row_in_form (builds_between b name above last)
between_in_form b name above last whole =
    pass_flat is_build_row_in_form (λ (i : Item). stored_live_builds b i.serial) (λ i. pass_filter is_build_row_in_form _ b.builds whole.builds) (items_between above last (items_of name b.items))
