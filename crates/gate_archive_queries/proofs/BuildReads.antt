-- What the texts of the reads of a serial's builds ask, and what they find.
use Rattle.std.proofs.Common.{◌≡◌, ◌≤◌, ◌<◌, ◌<ℤ◌, ◌+◌, ◌-◌, ◌∙◌, ℕ, pos, Bool, true, false, List, [], ◌∷◌, ◌++◌}
use Rattle.std.proofs.Common.{codes, drop, filter, length, map, reverse, take, refl, sym, ap, eqb, nat_le, arith}
use Rattle.std.specs.List.{AllByRecursion, AllPass}
use Rattle.std.proofs.lemmas.Bool.Decides.{nat_tests}
use Rattle.std.proofs.lemmas.Int.{ints}
use Rattle.std.proofs.lemmas.List.{length-drop, length-map, length-reverse, map-append, reverse-append}
use Rattle.std.proofs.lemmas.List.{reverse-reverse, take-append-drop, take-map, take_all}
use Rattle.std.proofs.lemmas.List.Elements.{All-take, recursion_from_All}
use Rattle.std.proofs.lemmas.List.Sorted.{All-permutation, IsPermutation-reverse}
use Rattle.std.proofs.Math.Seq.{take-append_seam}
use Rattle.sqlite.specs.Listing.{understood}
use Rattle.sqlite.specs.Order.{Row}
use Rattle.sqlite.specs.Program.{overlay}
use Rattle.sqlite.specs.Query.{Query}
use Rattle.sqlite.specs.State.{State}
use Rattle.sqlite.specs.Term.{Term, col}
use Rattle.sqlite.specs.declared.types.Value.TheVariants.{Int}
use Rattle.sqlite_keyed.specs.Keyed.{IsKeyedBy}
use Rattle.sqlite_keyed.proofs.ListLemmas.{ascending-filter, filter-map, filter_same}
use Rattle.sqlite_keyed.proofs.RuleLemmas.{first_of_both, second_of_both}
use Rattle.sqlite_tied.proofs.RuleLemmas.{and_true}
use Rattle.sqlite_tied.specs.Compute.{everything}
use Rattle.gate_types.specs.Forms.{is_drawn_number}
use Rattle.gate_types.specs.Names.{is_name}
use Rattle.gate_types.specs.declared.records.Build.{Build}
use Rattle.gate_schema.specs.Rows.{Stored, build_key, build_table_row}
use Rattle.gate_schema.proofs.QueryLemmas.{over_table, passes}
use Rattle.gate_schema.proofs.Statements.{Asks, key_is}
use Rattle.gate_schema.proofs.ValueLemmas.{equal_numbers}
use Rattle.gate_found_rows.specs.Finds.{Finds}
use Rattle.gate_found_rows.specs.Reads.{IsStoredIn}
use Rattle.gate_found_rows.specs.Shown.{number_shown}
use Rattle.gate_found_rows.specs.Whole.{IsWhole, is_build_row_in_form}
use Rattle.gate_found_rows.proofs.KeyedReads.{falling, finds_falling}
use Rattle.gate_found_rows.proofs.ReadLemmas.{answers}
use Rattle.gate_found_rows.proofs.ShownLemmas.{pass_filter}
use Rattle.gate_archive.specs.ItemText.{last_of}
use Rattle.gate_archive_queries.specs.Asked.{stored_builds_of, summary_shown}
use Rattle.gate_archive_queries.proofs.CountReads.{counted_is}
use Rattle.gate_queue_queries.proofs.CountReads.{counting, counted, counts}
use Rattle.gate_types.specs.Counters.{last_number}

-- ---- the texts

abbrev pub count_sql : List ℕ
count_sql = codes "SELECT count(*) FROM build WHERE serial = ?1"

abbrev pub count_query : Query
count_query = counting 13 (key_is 3 ∷ [])

pub count_asks : Asks count_sql count_query (codes "count(*)" ∷ [])
unfolding understood everything
count_asks = ((refl, (refl, refl)), refl)

abbrev pub last_sql : List ℕ
last_sql = codes "SELECT num, job, outcome, live FROM build WHERE serial = ?1 ORDER BY num DESC LIMIT ?2"

abbrev last_terms : List Term
last_terms = col 1 0 ∷ col 1 6 ∷ col 1 9 ∷ col 1 10 ∷ []

abbrev pub last_query : Query
last_query = over_table 13 (key_is 3 ∷ []) last_terms falling (col 0 1)

abbrev last_names : List (List ℕ)
last_names = codes "num" ∷ codes "job" ∷ codes "outcome" ∷ codes "live" ∷ []

pub last_asks : Asks last_sql last_query last_names
unfolding understood everything
last_asks = ((refl, (refl, refl)), refl)

-- ---- how many there are

-- numbers that rise above one, and are none above a top, are no more than lie between
between : {X : Type 0} (key : X → ℕ) (top low : ℕ) (xs : List X) → low ≤ top → AllByRecursion (λ x. pos low <ℤ pos (key x)) xs → IsKeyedBy (λ x. pos (key x)) xs
    → AllByRecursion (λ x. key x ≤ top) xs → low + length xs ≤ top
between key top low [] below above up few = omega arith
between key top low (x ∷ xs) below above up few =
    let more = between key top (key x) xs few.0 up.0 up.1 few.1 in
    let here : pos low <ℤ pos (key x) = above.0 in
    omega (arith, ints, more, here)

-- so numbers that rise and are none above a top are no more than one more than it
few_rise : {X : Type 0} (key : X → ℕ) (top : ℕ) (xs : List X) → IsKeyedBy (λ x. pos (key x)) xs → AllByRecursion (λ x. (1 ≤ key x) × (key x ≤ top)) xs → length xs ≤ top
few_rise key top [] up form = omega arith
few_rise {X} key top (x ∷ xs) up form =
    let more = between key top (key x) xs form.0.1 up.0 up.1 (lows xs form.1) in
    omega (arith, more, form.0.0)
  where
    lows : (ys : List X) → AllByRecursion (λ y. (1 ≤ key y) × (key y ≤ top)) ys → AllByRecursion (λ y. key y ≤ top) ys
    lows [] all = tt
    lows (y ∷ ys) all = (all.0.1, lows ys all.1)

-- a build's number in form
pub number_form : (x : Build) → is_build_row_in_form x ≡ true → is_drawn_number x.number ≡ true
number_form x form =
    first_of_both _ _ (first_of_both _ _ (first_of_both _ _ (first_of_both _ _ (first_of_both _ _ (first_of_both _ _ form)))))

-- and its job's name
pub job_form : (x : Build) → is_build_row_in_form x ≡ true → is_name x.job ≡ true
job_form x form = second_of_both _ _ (first_of_both _ _ (first_of_both _ _ (first_of_both _ _ (first_of_both _ _ form))))

-- a number that may be drawn lies between 1 and the last
drawn : (n : ℕ) → is_drawn_number n ≡ true → (1 ≤ n) × (n ≤ last_number)
drawn n form = grind (arith, nat_tests)

-- the builds of a serial are no more than numbers may be drawn
builds_few : (b : Stored) (serial : ℕ) → IsWhole b → IsKeyedBy (λ x. pos (build_key x)) b.builds → length (stored_builds_of b serial) ≤ last_number
builds_few b serial whole up =
    few_rise build_key last_number (stored_builds_of b serial) (ascending-filter _ (λ (x : Build). eqb x.serial serial) b.builds up)
    (forms (stored_builds_of b serial) (recursion_from_All (λ x. is_build_row_in_form x ≡ true) _ (pass_filter is_build_row_in_form (λ (x : Build). eqb x.serial serial) b.builds whole.builds)))
  where
    forms : (xs : List Build) → AllByRecursion (λ x. is_build_row_in_form x ≡ true) xs → AllByRecursion (λ x. (1 ≤ build_key x) × (build_key x ≤ last_number)) xs
    forms [] all = tt
    forms (x ∷ xs) all = (drawn x.number (number_form x all.0), forms xs all.1)

-- how many builds of a serial there are
pub count_found : (s : State) (b : Stored) (serial : ℕ) (rows : List Row) → IsStoredIn s b → IsWhole b → Finds count_sql (Int (pos serial) ∷ []) s.now rows
    → rows ≡ number_shown (length (stored_builds_of b serial)) ∷ []
count_found s b serial rows shows whole finds =
    let params = Int (pos serial) ∷ [] in
    let found : filter (passes (key_is 3 ∷ []) (Int (pos serial) ∷ [])) (overlay s.now.trees [] 13) ≡ map build_table_row (filter (λ (x : Build). eqb x.serial serial) b.builds) =
    ap (filter (passes (key_is 3 ∷ []) (Int (pos serial) ∷ []))) shows.stands.build.rows_are ∙ filter-map _ build_table_row b.builds
    ∙ ap (map build_table_row) (filter_same _ _ (λ x. rw equal_numbers (and_true (eqb x.serial serial))) b.builds) in
    let many : length (filter (passes (key_is 3 ∷ []) (Int (pos serial) ∷ [])) (overlay s.now.trees [] 13)) ≡ length (stored_builds_of b serial) =
    ap length found ∙ simp length-map in
    counts 13 (key_is 3 ∷ []) (overlay s.now.trees []) params rows (answers s count_sql count_query (codes "count(*)" ∷ []) params rows count_asks shows.schema_is finds)
    ∙ ap (λ n. counted n ∷ []) many
    ∙ ap (λ r. r ∷ []) (counted_is _ (builds_few b serial whole shows.stands.build.in_order))

-- ---- the last of them

-- the last builds of a serial, the last first
pub last_found : (s : State) (b : Stored) (serial most : ℕ) (rows : List Row) → IsStoredIn s b → Finds last_sql (Int (pos serial) ∷ Int (pos most) ∷ []) s.now rows
    → rows ≡ map summary_shown (take most (reverse (stored_builds_of b serial)))
last_found s b serial most rows shows finds =
    let params = Int (pos serial) ∷ Int (pos most) ∷ [] in
    finds_falling build_key build_table_row summary_shown 13 (key_is 3 ∷ []) last_terms (col 0 1) params (λ (x : Build). eqb x.serial serial)
    (λ x. rw equal_numbers (and_true (eqb x.serial serial))) (λ x. refl) (λ x. refl) (overlay s.now.trees []) b.builds rows shows.stands.build
    (answers s last_sql last_query last_names params rows last_asks shows.schema_is finds)
    ∙ take-map summary_shown most (reverse (stored_builds_of b serial))

-- the end of a list stands first when it is turned round
end_first : {X : Type 0} (n : ℕ) (front end : List X) → length end ≡ n → take n (reverse (front ++ end)) ≡ reverse end
end_first n front end long =
    let turned : n ≡ length (reverse end) = sym long ∙ sym (length-reverse end) in
    ap (take n) (reverse-append front end) ∙ ap (λ m. take m (reverse end ++ reverse front)) turned ∙ take-append_seam (reverse end) (reverse front)

-- the first of a list turned round are its last turned round
take-reverse : {X : Type 0} (most : ℕ) (xs : List X) → take most (reverse xs) ≡ reverse (last_of most xs)
take-reverse {X} most xs = by_size (nat_le most (length xs)) refl
  where
    by_size : (t : Bool) → nat_le most (length xs) ≡ t → take most (reverse xs) ≡ reverse (last_of most xs)
    by_size true e =
        let within : most ≤ length xs = grind (arith, nat_tests) in
        let k = length xs - most in
        let long : length (drop (length xs - most) xs) ≡ most = length-drop (length xs - most) xs ∙ omega (arith, within) in
        ap (λ l. take most (reverse l)) (sym (take-append-drop (length xs - most) xs)) ∙ end_first most (take (length xs - most) xs) (drop (length xs - most) xs) long
    by_size false e =
        let over : length xs < most = grind (arith, nat_tests) in
        let none : length xs - most ≡ 0 = omega (arith, over) in
        let long : length (reverse xs) ≤ most = omega (arith, over, length-reverse xs) in
        take_all most (reverse xs) long ∙ ap (λ k. reverse (drop k xs)) (sym none)

-- a list is turned round record by record
map-reverse : {X Y : Type 0} (f : X → Y) (xs : List X) → map f (reverse xs) ≡ reverse (map f xs)
map-reverse f [] = refl
map-reverse f (x ∷ xs) =
    ap (map f) (reverse-append (x ∷ []) xs) ∙ map-append f (reverse xs) (x ∷ [])
    ∙ ap (λ l. l ++ f x ∷ []) (map-reverse f xs) ∙ sym (reverse-append (f x ∷ []) (map f xs))

-- the last of a list, the last first, turned round
pub last_turned : {X Y : Type 0} (f : X → Y) (most : ℕ) (xs : List X) → reverse (map f (take most (reverse xs))) ≡ map f (last_of most xs)
last_turned f most xs =
    sym (map-reverse f (take most (reverse xs))) ∙ ap (λ l. map f (reverse l)) (take-reverse most xs) ∙ ap (map f) (reverse-reverse (last_of most xs))

-- they are in form
pub last_in_form : (b : Stored) (serial most : ℕ) → IsWhole b → AllPass is_build_row_in_form (take most (reverse (stored_builds_of b serial)))
last_in_form b serial most whole =
    All-take (λ x. is_build_row_in_form x ≡ true) most _ (All-permutation (λ x. is_build_row_in_form x ≡ true) (stored_builds_of b serial) (reverse (stored_builds_of b serial)) (IsPermutation-reverse (stored_builds_of b serial))
    (pass_filter is_build_row_in_form (λ (x : Build). eqb x.serial serial) b.builds whole.builds))
