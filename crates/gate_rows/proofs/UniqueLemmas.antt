-- What the unique keys of the tables say of what they hold.
use Rattle.std.proofs.Common.{◌≡◌, ◌≤◌, ℕ, ℤ, pos, List, [], ◌∷◌, ◌++◌, map, drop, filter, length, Bool, true, false}
use Rattle.std.proofs.Common.{cond, ◌&&◌, eqb, IsTrue, Some, refl, sym, ap, ap₂, ◌∙◌, arith, Less}
use Rattle.std.specs.List.{AllByRecursion}
use Rattle.std.specs.Ordering.{is_ne}
use Rattle.std.proofs.lemmas.Bool.{and_parts, not-true, or_parts}
use Rattle.std.proofs.lemmas.Bool.Decides.{nat_tests}
use Rattle.std.proofs.lemmas.Cmp.{nat_list_eq_equiv}
use Rattle.sqlite.specs.Edit.{id_in}
use Rattle.sqlite.specs.Order.{Row, value_cmp}
use Rattle.sqlite.specs.Tree.{Trees}
use Rattle.sqlite.specs.declared.types.Value.{Value}
use Rattle.sqlite.specs.declared.types.Value.TheVariants.{Int, Text as Words}
use Rattle.sqlite_catalog.specs.Listing.{IsSound}
use Rattle.sqlite_keyed.proofs.ListLemmas.{all_weaker}
use Rattle.sqlite_rules.proofs.KeyLemmas.{differ_back}
use Rattle.sqlite_schema.specs.Rules.{agree, clashes, differ, passes}
use Rattle.sqlite_schema.specs.declared.schema.Constraint.TheVariants.{Unique}
use Rattle.sqlite_sql.specs.Ops.{binary, from_truth, is_true}
use Rattle.sqlite_tied.proofs.RuleLemmas.{and_true}
use Rattle.sqlite_trees.specs.Tree.{IsAscending, rowid}
use Rattle.sqlite_trees.specs.View.{is_int}
use Rattle.sqlite_value.specs.Keys.{first_key, plain}
use Rattle.gate_types.specs.Names.{same_name}
use Rattle.gate_schema.specs.Rows.{AreNamed, IsListed, IsNumbered, JobRow, QueueLanding, QueueReport, QueueRow}
use Rattle.gate_schema.specs.Rows.{Stands, Stored, job_columns, landing_columns, queue_columns, report_columns}
use Rattle.gate_schema.specs.Schema.{gate_schema, item_job_table_at, landing_table_at, queue_table_at, report_table_at}
use Rattle.gate_schema.proofs.DeleteLemmas.{is_its}
use Rattle.gate_schema.proofs.RowLemmas.{told_behind}
use Rattle.gate_schema.proofs.ValueLemmas.{equal_numbers, equal_texts}
use Rattle.gate_rows.proofs.ItemMatches.{like}

-- ---- rows of which no two clash

-- a truth value tells its test
truth_of : (b : Bool) → is_true (from_truth (Some b)) ≡ b
truth_of true = refl
truth_of false = refl

-- numbers of which one is lower differ
lower_differs : (m n : ℤ) → value_cmp (Int m) (Int n) ≡ Less → differ (Int m) (Int n) ≡ true
unfolding binary
lower_differs m n less = truth_of _ ∙ ap is_ne less

-- rowids that rise differ
rise_differ : (a b : Value) → IsTrue (is_int a) → IsTrue (is_int b) → value_cmp a b ≡ Less → differ b a ≡ true
rise_differ a b p q less =
    differ_back a b (ap₂ differ (is_its a p) (is_its b q) ∙ lower_differs (id_in a) (id_in b) (sym (ap₂ value_cmp (is_its a p) (is_its b q)) ∙ less))

module _ {X : Type 0} (columns : X → Row) (places : List ℕ) (same : X → X → Bool)
    (agrees : (u v : Row) (x y : X) → drop 1 u ≡ columns x → drop 1 v ≡ columns y → agree plain places u places v ≡ same x y) where
  -- no later row is like the first
  later_apart : (r : Row) (x : X) → drop 1 r ≡ columns x → IsTrue (is_int (rowid r)) → (rs : List Row) (ys : List X) → map (drop 1) rs ≡ map columns ys
      → AllByRecursion (λ s. value_cmp (rowid r) (rowid s) ≡ Less) rs → AllByRecursion (λ s. IsTrue (is_int (rowid s))) rs
      → clashes plain places rs r ≡ false → AllByRecursion (λ y. same y x ≡ false) ys
  later_apart r x is its [] [] h low ints clear = tt
  later_apart r x is its [] (y ∷ ys) h low ints clear = absurd cc
  later_apart r x is its (s ∷ rs) [] h low ints clear = absurd cc
  later_apart r x is its (s ∷ rs) (y ∷ ys) h low ints clear =
      let first : drop 1 s ≡ columns y = cc in
      let rest : map (drop 1) rs ≡ map columns ys = cc in
      let parts = or_parts _ _ clear in
      let other : differ (rowid s) (rowid r) ≡ true = rise_differ (rowid r) (rowid s) its ints.0 low.0 in
      let apart : same y x ≡ false =
      sym (agrees s r y x first is) ∙ sym (ap (λ d. agree plain places s places r && d) other ∙ and_true _) ∙ parts.0 in
      (apart, later_apart r x is its rs ys rest low.1 ints.1 parts.1)

  -- no record is like an earlier one
  pub listed_apart : (rs : List Row) (xs : List X) → map (drop 1) rs ≡ map columns xs → IsNumbered rs → AllByRecursion (λ r. clashes plain places rs r ≡ false) rs
      → IsAscending (λ x y. same y x ≡ false) xs
  listed_apart [] [] h numbered clear = tt
  listed_apart [] (x ∷ xs) h numbered clear = absurd cc
  listed_apart (r ∷ rs) [] h numbered clear = absurd cc
  listed_apart (r ∷ rs) (x ∷ xs) h numbered clear =
      let first : drop 1 r ≡ columns x = cc in
      let rest : map (drop 1) rs ≡ map columns xs = cc in (
        later_apart r x first numbered.1.0 rs xs rest numbered.0.0 numbered.1.1 (or_parts _ _ clear.0).1,
        listed_apart rs xs rest (numbered.0.1, numbered.1.1) (all_weaker _ _ (λ s c. (or_parts _ _ c).1) rs clear.1),
      )

-- ---- queues

abbrev same_queue : QueueRow → QueueRow → Bool
same_queue p q = same_name p.name q.name

-- SQL's equality of queues' keys is that of their names
queues_agree : (u v : Row) (p q : QueueRow) → drop 1 u ≡ queue_columns p → drop 1 v ≡ queue_columns q → agree plain (1 ∷ []) u (1 ∷ []) v ≡ same_queue p q
unfolding first_key
queues_agree u v p q is its =
    told_behind (λ u. agree plain (1 ∷ []) u (1 ∷ []) v) u _ _ _
    (λ w. told_behind (λ v. agree plain (1 ∷ []) (w ∷ queue_columns p) (1 ∷ []) v) v _ _ _ (λ z. and_true _ ∙ equal_texts p.name q.name) its) is

-- no two rows of queues have one key
queues_clear : (db : Trees) → IsSound gate_schema db → AllByRecursion (λ r. clashes plain (1 ∷ []) (db 4) r ≡ false) (db 4)
queues_clear db sound =
    all_weaker _ _ (λ (r : Row) (h : passes Unique gate_schema db (queue_table_at 4) r ≡ true). not-true _ (and_parts _ _ h).0) (db 4) (sound.obeys.rules Unique).1.1.0

-- where no queue is like one of a name, none has the name
none_like : (name : List ℕ) (q : QueueRow) (qs : List QueueRow) → same_name q.name name ≡ true → AllByRecursion (λ p. same_queue p q ≡ false) qs
    → filter (λ (p : QueueRow). same_name p.name name) qs ≡ []
none_like name q [] e apart = refl
none_like name q (p ∷ ps) e apart =
    ap (λ c. cond c (p ∷ filter (λ (p : QueueRow). same_name p.name name) ps) (filter (λ (p : QueueRow). same_name p.name name) ps)) (sym (like q.name name p.name e) ∙ apart.0)
    ∙ none_like name q ps e apart.1

-- where no queue is like an earlier one, at most one has a name
one_named : (name : List ℕ) (qs : List QueueRow) → IsAscending (λ p q. same_queue q p ≡ false) qs → length (filter (λ (q : QueueRow). same_name q.name name) qs) ≤ 1
one_named name [] apart = omega arith
one_named name (q ∷ qs) apart = go (same_name q.name name) refl (one_named name qs apart.1)
  where
    go : (m : Bool) → same_name q.name name ≡ m → length (filter (λ (q : QueueRow). same_name q.name name) qs) ≤ 1
        → length (cond m (q ∷ filter (λ (q : QueueRow). same_name q.name name) qs) (filter (λ (q : QueueRow). same_name q.name name) qs)) ≤ 1
    go true e less = omega (arith, ap length (none_like name q qs e apart.0))
    go false e less = less

-- the tables never hold two queues of one name
pub are_named : (db : Trees) (b : Stored) → IsSound gate_schema db → Stands db b → AreNamed b
are_named db b sound stands name =
    one_named name b.queues (listed_apart queue_columns (1 ∷ []) same_queue queues_agree (db 4) b.queues stands.queue.columns_are stands.queue.numbered (queues_clear db sound))

-- ---- landings and reports

-- each record before the last is unlike it
unlike_last : {X : Type 0} (same : X → X → Bool) (x : X) (xs : List X) → ((a b : X) → same a b ≡ same b a) → IsAscending (λ a b. same b a ≡ false) (xs ++ x ∷ []) → AllByRecursion (λ y. same y x ≡ false) xs
unlike_last same x [] turned apart = tt
unlike_last {X} same x (y ∷ ys) turned apart = (turned y x ∙ last ys apart.0, unlike_last same x ys turned apart.1)
  where
    last : (zs : List X) → AllByRecursion (λ z. same z y ≡ false) (zs ++ x ∷ []) → same x y ≡ false
    last [] h = h.0
    last (z ∷ zs) h = last zs h.1

-- equal numbers, turned
equal_turned : (a b : ℕ) → eqb a b ≡ eqb b a
equal_turned a b = grind (arith, nat_tests)

module _ {X : Type 0} (name : X → List ℕ) (place : X → ℕ) (rest : X → Row) where
  abbrev placed_columns : X → Row
  placed_columns x = Words (name x) ∷ Int (pos (place x)) ∷ rest x

  abbrev same_place : X → X → Bool
  same_place x y = same_name (name x) (name y) && eqb (place x) (place y)

  -- SQL's equality of keys of a queue and a place is that of both
  places_agree : (u v : Row) (x y : X) → drop 1 u ≡ placed_columns x → drop 1 v ≡ placed_columns y → agree plain (1 ∷ 2 ∷ []) u (1 ∷ 2 ∷ []) v ≡ same_place x y
  unfolding first_key
  places_agree u v x y is its =
      told_behind (λ u. agree plain (1 ∷ 2 ∷ []) u (1 ∷ 2 ∷ []) v) u _ _ _
      (λ w. told_behind (λ v. agree plain (1 ∷ 2 ∷ []) (w ∷ placed_columns x) (1 ∷ 2 ∷ []) v) v _ _ _
      (λ z. ap₂ ◌&&◌ (equal_texts (name x) (name y)) (and_true _ ∙ equal_numbers (place x) (place y))) its) is

  -- the place of a record that was added was free
  place_free : (rs : List Row) (xs : List X) (x : X) → IsListed placed_columns rs (xs ++ x ∷ []) → AllByRecursion (λ r. clashes plain (1 ∷ 2 ∷ []) rs r ≡ false) rs
      → AllByRecursion (λ y. same_place y x ≡ false) xs
  place_free rs xs x listed clear =
      unlike_last same_place x xs (λ a b. ap₂ ◌&&◌ (nat_list_eq_equiv.symm (name a) (name b)) (equal_turned (place a) (place b)))
      (listed_apart placed_columns (1 ∷ 2 ∷ []) same_place places_agree rs (xs ++ x ∷ []) listed.columns_are listed.numbered clear)

-- no two rows of landings have one key
landings_clear : (db : Trees) → IsSound gate_schema db → AllByRecursion (λ r. clashes plain (1 ∷ 2 ∷ []) (db 14) r ≡ false) (db 14)
landings_clear db sound =
    all_weaker _ _ (λ (r : Row) (h : passes Unique gate_schema db (landing_table_at 14) r ≡ true). not-true _ (and_parts _ _ (and_parts _ _ (and_parts _ _ h).1).1).0) (db 14)
    (sound.obeys.rules Unique).1.1.1.1.1.1.1.0

-- no two rows of reports have one key
reports_clear : (db : Trees) → IsSound gate_schema db → AllByRecursion (λ r. clashes plain (1 ∷ 2 ∷ []) (db 18) r ≡ false) (db 18)
reports_clear db sound =
    all_weaker _ _ (λ (r : Row) (h : passes Unique gate_schema db (report_table_at 18) r ≡ true). not-true _ (and_parts _ _ (and_parts _ _ h).1).0) (db 18)
    (sound.obeys.rules Unique).1.1.1.1.1.1.1.1.0

-- no landing stood at the place of one that was added
pub landing_place_free : (db : Trees) (ls : List QueueLanding) (x : QueueLanding) → IsSound gate_schema db → IsListed landing_columns (db 14) (ls ++ x ∷ [])
    → AllByRecursion (λ (y : QueueLanding). (same_name y.queue x.queue && eqb y.row.place x.row.place) ≡ false) ls
landing_place_free db ls x sound listed =
    place_free (λ (l : QueueLanding). l.queue) (λ (l : QueueLanding). l.row.place) (λ (l : QueueLanding). drop 2 (landing_columns l)) (db 14) ls x listed (landings_clear db sound)

-- nor a report at the place of one
pub report_place_free : (db : Trees) (rs : List QueueReport) (x : QueueReport) → IsSound gate_schema db → IsListed report_columns (db 18) (rs ++ x ∷ [])
    → AllByRecursion (λ (y : QueueReport). (same_name y.queue x.queue && eqb y.row.place x.row.place) ≡ false) rs
report_place_free db rs x sound listed =
    place_free (λ (r : QueueReport). r.queue) (λ (r : QueueReport). r.row.place) (λ (r : QueueReport). drop 2 (report_columns r)) (db 18) rs x listed (reports_clear db sound)

-- ---- jobs

abbrev same_job : JobRow → JobRow → Bool
same_job x y = eqb x.serial y.serial && eqb x.place y.place

-- SQL's equality of keys of a serial and a place is that of both
jobs_agree : (u v : Row) (x y : JobRow) → drop 1 u ≡ job_columns x → drop 1 v ≡ job_columns y → agree plain (1 ∷ 2 ∷ []) u (1 ∷ 2 ∷ []) v ≡ same_job x y
unfolding first_key
jobs_agree u v x y is its =
    told_behind (λ u. agree plain (1 ∷ 2 ∷ []) u (1 ∷ 2 ∷ []) v) u _ _ _
    (λ w. told_behind (λ v. agree plain (1 ∷ 2 ∷ []) (w ∷ job_columns x) (1 ∷ 2 ∷ []) v) v _ _ _
    (λ z. ap₂ ◌&&◌ (equal_numbers x.serial y.serial) (and_true _ ∙ equal_numbers x.place y.place)) its) is

-- no two rows of jobs have one key
jobs_clear : (db : Trees) → IsSound gate_schema db → AllByRecursion (λ r. clashes plain (1 ∷ 2 ∷ []) (db 26) r ≡ false) (db 26)
jobs_clear db sound =
    all_weaker _ _ (λ (r : Row) (h : passes Unique gate_schema db (item_job_table_at 26) r ≡ true). not-true _ (and_parts _ _ h).0) (db 26)
    (sound.obeys.rules Unique).1.1.1.1.1.1.1.1.1.1.0

-- no job stood at the place of one that was added
pub job_place_free : (db : Trees) (js : List JobRow) (x : JobRow) → IsSound gate_schema db → IsListed job_columns (db 26) (js ++ x ∷ [])
    → AllByRecursion (λ (y : JobRow). (eqb y.serial x.serial && eqb y.place x.place) ≡ false) js
job_place_free db js x sound listed =
    unlike_last same_job x js (λ a b. ap₂ ◌&&◌ (equal_turned a.serial b.serial) (equal_turned a.place b.place))
    (listed_apart job_columns (1 ∷ 2 ∷ []) same_job jobs_agree (db 26) (js ++ x ∷ []) listed.columns_are listed.numbered (jobs_clear db sound))
