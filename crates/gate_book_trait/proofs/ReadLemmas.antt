-- What is read of the tables of a content is what is asked of the content.
use Rattle.std.proofs.Common.{⊎_elim, ◌≡◌, ◌≢◌, ℕ, suc, ◌+◌, ◌<◌, ◌≤◌, Bool, true, false, cond, Option, Some, None}
use Rattle.std.proofs.Common.{List, [], ◌∷◌, ◌++◌, length, map, refl, sym, ap, subst, ◌∙◌, arith}
use Rattle.std.specs.Prelude.{◌==◌, ◌&&◌, nat_lt, filter, find, fold, option_and_then, option_map, unwrap_or}
use Rattle.std.specs.Prelude.{slice_index, slice_index_or, nat_le, flat_map, IsSome, IfSome, All, AllPairs}
use Rattle.std.specs.List.{list_any, AllByRecursion}
use Rattle.std.specs.List.Sorted.{IsStrictlyIncreasing}
use Rattle.std.specs.Option.{option_map_or}
use Rattle.std.proofs.lemmas.List.Folds.{flat_map-map}
use Rattle.std.proofs.lemmas.Bool.{false≢true}
use borrow.Author.Tests.{leb-true}
use Rattle.std.proofs.lemmas.Bool.Decides.{eqb_tells}
use Rattle.gate_book_trait.proofs.Finding.{all_in, found_has, found_in, in_weaker}
use Rattle.gate_types.specs.declared.records.Change.{Change}
use Rattle.gate_types.specs.declared.records.Item.{Item}
use Rattle.gate_types.specs.declared.records.Landing.{Landing}
use Rattle.gate_types.specs.declared.records.Ready.{Ready}
use Rattle.gate_types.specs.declared.records.Report.{Report}
use Rattle.gate_types.specs.declared.records.Stage.TheVariants as stage
use Rattle.gate_types.specs.declared.rows.ChangeRow.{ChangeRow}
use Rattle.gate_types.specs.Settings.{Settings}
use Rattle.gate_types.specs.Names.{same_name}
use Rattle.gate_types.specs.State.{Queue, State, known_change, change_of, is_open}
use Rattle.gate_types.specs.Rows.{item_rows, numbered_reports}
use Rattle.gate_types.specs.Once.{Content}
use Rattle.gate_types.specs.Tables.{QueueRows, approval_of, change_row, queue_rows, numbered_landings, tables}
use Rattle.gate_types.specs.Tables.{change_in, needs_in}
use Rattle.gate_types.specs.Forms.{IsLawfulContent, is_ready_in_form, is_drawn_number}
use Rattle.gate_types.specs.Rising.{RisesFrom}
use Rattle.gate_book_trait.specs.RowReads.{AreReady, Differ, approval_in, rows_named}
use Rattle.gate_book_trait.specs.RowReads.{items_named, count_landings_below, needing_in, ready_needing_in, all_queued}
use Rattle.gate_book_trait.specs.RowReads.{LandingsRise, landing_serial}
use Rattle.gate_book_trait.specs.Reads as read
use Rattle.gate_book_trait.proofs.Finding.{find_map}

-- ---- changes

pub change_is : (c : Settings) (x : Content) (n : ℕ) → change_in (tables c x).changes n ≡ known_change x.state n
change_is c x n = ap (option_map (λ r. r.change)) (find_map (change_row x.state.ready) (λ r. r.change.number == n) x.state.changes) ∙ by_found (known_change x.state n)
  where
    by_found : (o : Option Change) → option_map (λ r. r.change) (option_map (change_row x.state.ready) o) ≡ o
    by_found None = refl
    by_found (Some k) = refl

pub needs_are : (c : Settings) (x : Content) (n : ℕ) → needs_in (tables c x).changes n ≡ (change_of x.state n).needs
needs_are c x n = ap (λ o. option_map_or (λ (k : Change). k.needs) o []) (change_is c x n) ∙ by_found (known_change x.state n)
  where
    by_found : (o : Option Change) → option_map_or (λ k. k.needs) o [] ≡ (unwrap_or o (change_of (record x.state { changes = [] }) n)).needs
    by_found None = refl
    by_found (Some k) = refl

pub needing_are : (c : Settings) (x : Content) (n above : ℕ) (items : List Item) → needing_in (tables c x).changes n above items ≡ read.items_needing x.state n above items
needing_are c x n above items = λ k. filter (λ (i : Item). nat_lt above i.serial && list_any (λ m. m == n) (needs_are c x i.change k)) items

pub ready_needing_are : (c : Settings) (x : Content) (n : ℕ) (ready : List Ready) → ready_needing_in (tables c x).changes n ready ≡ filter (λ r. list_any (λ m. m == n) (change_of x.state r.change).needs) ready
ready_needing_are c x n ready = λ k. filter (λ (r : Ready). list_any (λ m. m == n) (needs_are c x r.change k)) ready

-- ---- queues

-- what stands of a queue
abbrev pub rows_of_queue : Settings → State → Queue → QueueRows
rows_of_queue c s q = queue_rows (item_rows c s q) q

pub named_is : (c : Settings) (x : Content) (name : List ℕ) → rows_named (tables c x).queues name ≡ option_map (rows_of_queue c x.state) (read.queue_named x.state name)
named_is c x name = find_map (rows_of_queue c x.state) (λ r. same_name r.name name) x.state.queues

pub items_are : (c : Settings) (x : Content) (name : List ℕ) → items_named (tables c x).queues name ≡ read.items_in c x.state name
items_are c x name = ap (λ o. option_map_or (λ (r : QueueRows). r.items) o []) (named_is c x name) ∙ by_found (read.queue_named x.state name)
  where
    by_found : (o : Option Queue) → option_map_or (λ (r : QueueRows). r.items) (option_map (rows_of_queue c x.state) o) [] ≡ option_map_or (item_rows c x.state) o []
    by_found None = refl
    by_found (Some q) = refl

-- numbering keeps the length
length_landings : (n : ℕ) (ls : List Landing) → length (numbered_landings n ls) ≡ length ls
length_landings n [] = refl
length_landings n (l ∷ ls) = ap (λ m. suc m) (length_landings (suc n) ls)

pub length_reports : (n : ℕ) (rs : List Report) → length (numbered_reports n rs) ≡ length rs
length_reports n [] = refl
length_reports n (r ∷ rs) = ap (λ m. suc m) (length_reports (suc n) rs)

pub window_is : (c : Settings) (x : Content) (name : List ℕ) → option_map (λ r. r.window) (rows_named (tables c x).queues name) ≡ read.window_of x.state name
window_is c x name = ap (option_map (λ (r : QueueRows). r.window)) (named_is c x name) ∙ by_found (read.queue_named x.state name)
  where
    by_found : (o : Option Queue) → option_map (λ (r : QueueRows). r.window) (option_map (rows_of_queue c x.state) o) ≡ option_map (λ q. q.window) o
    by_found None = refl
    by_found (Some q) = refl

pub landing_count_is : (c : Settings) (x : Content) (name : List ℕ) → option_map_or (λ r. length r.landings) (rows_named (tables c x).queues name) 0 ≡ read.landing_count x.state name
landing_count_is c x name = ap (λ o. option_map_or (λ (r : QueueRows). length r.landings) o 0) (named_is c x name) ∙ by_found (read.queue_named x.state name)
  where
    by_found : (o : Option Queue) → option_map_or (λ (r : QueueRows). length r.landings) (option_map (rows_of_queue c x.state) o) 0 ≡ length (option_map_or (λ q. q.landings) o [])
    by_found None = refl
    by_found (Some q) = length_landings 0 q.landings

pub reports_are : (c : Settings) (x : Content) (name : List ℕ) → option_map_or (λ r. length r.reports) (rows_named (tables c x).queues name) 0 ≡ read.reports_in x.state name
reports_are c x name = ap (λ o. option_map_or (λ (r : QueueRows). length r.reports) o 0) (named_is c x name) ∙ by_found (read.queue_named x.state name)
  where
    by_found : (o : Option Queue) → option_map_or (λ (r : QueueRows). length r.reports) (option_map (rows_of_queue c x.state) o) 0 ≡ option_map_or (λ q. length q.reports) o 0
    by_found None = refl
    by_found (Some q) = length_reports 0 q.reports

below_is : (serial n : ℕ) (ls : List Landing) → length (filter (λ r. nat_lt r.landing.serial serial) (numbered_landings n ls)) ≡ length (filter (λ l. nat_lt l.serial serial) ls)
below_is serial n [] = refl
below_is serial n (l ∷ ls) = by_serial (nat_lt l.serial serial) (below_is serial (suc n) ls)
  where
    by_serial : (t : Bool) → length (filter (λ r. nat_lt r.landing.serial serial) (numbered_landings (suc n) ls)) ≡ length (filter (λ m. nat_lt m.serial serial) ls) → length (cond t (record { place = suc n; landing = l } ∷ filter (λ r. nat_lt r.landing.serial serial) (numbered_landings (suc n) ls)) (filter (λ r. nat_lt r.landing.serial serial) (numbered_landings (suc n) ls))) ≡ length (cond t (l ∷ filter (λ m. nat_lt m.serial serial) ls) (filter (λ m. nat_lt m.serial serial) ls))
    by_serial true rest = ap (λ m. suc m) rest
    by_serial false rest = rest

pub landings_are : (c : Settings) (x : Content) (name : List ℕ) (serial : ℕ) → option_map_or (count_landings_below serial) (rows_named (tables c x).queues name) 0 ≡ read.landings_before x.state name serial
landings_are c x name serial = ap (λ o. option_map_or (count_landings_below serial) o 0) (named_is c x name) ∙ by_found (read.queue_named x.state name)
  where
    by_found : (o : Option Queue) → option_map_or (count_landings_below serial) (option_map (rows_of_queue c x.state) o) 0 ≡ length (filter (λ l. nat_lt l.serial serial) (option_map_or (λ q. q.landings) o []))
    by_found None = refl
    by_found (Some q) = below_is serial 0 q.landings

-- all items with their queues' names
pub queued_are : (c : Settings) (x : Content) → all_queued (tables c x).queues ≡ read.queued_items c x.state
queued_are c x = flat_map-map (λ r. map (λ i. record { queue = r.name; item = i }) r.items) (rows_of_queue c x.state) x.state.queues

-- ---- what is found

-- it passes
pub found_passes : {X : Type 0} (test : X → Bool) (xs : List X) → IfSome (find test xs) (λ x. test x ≡ true)
found_passes test [] = tt
found_passes test (x ∷ xs) = by_test (test x) refl (found_passes test xs)
  where
    by_test : (t : Bool) → test x ≡ t → IfSome (find test xs) (λ y. test y ≡ true) → IfSome (cond t (Some x) (find test xs)) (λ y. test y ≡ true)
    by_test true e rest = e
    by_test false e rest = rest

-- and so does the last of those that pass
pub last_passes : {X : Type 0} (test : X → Bool) (before : Option X) (xs : List X) → IfSome before (λ x. test x ≡ true) → IfSome (fold (λ last x. Some x) before (filter test xs)) (λ x. test x ≡ true)
last_passes test before [] so = so
last_passes test before (x ∷ xs) so = by_test (test x) refl (λ e. last_passes test (Some x) xs e) (last_passes test before xs so)
  where
    by_test : (t : Bool) → test x ≡ t → (test x ≡ true → IfSome (fold (λ last y. Some y) (Some x) (filter test xs)) (λ y. test y ≡ true)) → IfSome (fold (λ last y. Some y) before (filter test xs)) (λ y. test y ≡ true) → IfSome (fold (λ last y. Some y) before (cond t (x ∷ filter test xs) (filter test xs))) (λ y. test y ≡ true)
    by_test true e taken rest = taken e
    by_test false e taken rest = rest

-- what passes has more
pub weaker_if : {X : Type 0} (P Q : X → Type 0) → ((x : X) → P x → Q x) → (o : Option X) → IfSome o P → IfSome o Q
weaker_if P Q h None so = tt
weaker_if P Q h (Some x) so = h x so

pub and_first : (a b : Bool) → a && b ≡ true → a ≡ true
and_first true b e = refl
and_first false b e = e

-- ---- rows that rise

tail_up : (n : ℕ) (ns : List ℕ) → IsStrictlyIncreasing (n ∷ ns) → IsStrictlyIncreasing ns
tail_up n ns up k h =
    let e : suc k + 1 ≡ suc (k + 1) = omega arith in
    let l : suc k + 1 < length (n ∷ ns) = omega arith in
    subst (λ j. slice_index ns k < slice_index (n ∷ ns) j) e (up (suc k) l)

-- numbers of which each is below the next
pub numbers_rise : (m : ℕ) (ns : List ℕ) → (0 < length ns → m ≤ slice_index ns 0) → IsStrictlyIncreasing ns → RisesFrom (λ (n : ℕ). n) m ns
numbers_rise m [] low up = tt
numbers_rise m (n ∷ ns) low up = (low (omega arith), numbers_rise (suc n) ns (next ns (up 0)) (tail_up n ns up))
  where
    next : (ms : List ℕ) → (1 < length (n ∷ ms) → n < slice_index (n ∷ ms) 1) → 0 < length ms → suc n ≤ slice_index ms 0
    next [] h more = absurd (omega arith)
    next (j ∷ js) h more = h (omega arith)

rows_rise : {X : Type 0} (key : X → ℕ) (m : ℕ) (xs : List X) → RisesFrom (λ (n : ℕ). n) m (map key xs) → RisesFrom key m xs
rows_rise key m [] up = tt
rows_rise key m (x ∷ xs) up = (up.0, rows_rise key (suc (key x)) xs up.1)

landings_rise : (n m : ℕ) (ls : List Landing) → RisesFrom (λ (k : ℕ). k) m (map (λ l. l.serial) ls) → RisesFrom landing_serial m (numbered_landings n ls)
landings_rise n m [] up = tt
landings_rise n m (l ∷ ls) up = (up.0, landings_rise (suc n) (suc l.serial) ls up.1)

-- what is so at each place is so of each row
pub all_rows : {X : Type 0} (P : X → Type 0) (xs : List X) → All P xs → AllByRecursion P xs
all_rows P [] all = tt
all_rows P (x ∷ xs) all = (all 0 x (omega arith), all_rows P xs (λ k d l. all (suc k) d (omega arith)))

all_of : (P : Queue → Type 0) (Q : QueueRows → Type 0) (f : Queue → QueueRows) → ((q : Queue) → P q → Q (f q)) → (qs : List Queue) → AllByRecursion P qs → AllByRecursion Q (map f qs)
all_of P Q f h [] all = tt
all_of P Q f h (q ∷ qs) all = (h q all.0, all_of P Q f h qs all.1)

-- the landings of each queue rise
abbrev RiseIn : Queue → Type 0
RiseIn q = IsStrictlyIncreasing (map (λ l. l.serial) q.landings)

pub landings_all_rise : (c : Settings) (x : Content) → All RiseIn x.state.queues → AllByRecursion LandingsRise (tables c x).queues
landings_all_rise c x all = all_of RiseIn LandingsRise (rows_of_queue c x.state) (λ q up. landings_rise 0 0 q.landings (numbers_rise 0 (map (λ l. l.serial) q.landings) (λ h. omega arith) up)) x.state.queues (all_rows RiseIn x.state.queues all)

-- ---- the ready list

distinct_tail : (n : ℕ) (ns : List ℕ) → AllPairs (λ i j. i ≢ j) (n ∷ ns) → AllPairs (λ i j. i ≢ j) ns
distinct_tail n ns differ i j d l m = differ (suc i) (suc j) d (omega arith) (omega arith)

distinct_rest : (ms ns : List ℕ) → AllPairs (λ i j. i ≢ j) (ms ++ ns) → AllPairs (λ i j. i ≢ j) ns
distinct_rest [] ns differ = differ
distinct_rest (m ∷ ms) ns differ = distinct_rest ms ns (distinct_tail m (ms ++ ns) differ)

-- the first is no later one's
first_apart : (n : ℕ) (rs : List Ready) → ((k : ℕ) → k < length (map (λ (r : Ready). r.change) rs) → n ≢ slice_index_or (map (λ (r : Ready). r.change) rs) k 0) → AllByRecursion (λ (r : Ready). n ≢ r.change) rs
first_apart n [] apart = tt
first_apart n (r ∷ rs) apart = (apart 0 (omega arith), first_apart n rs (λ k l. apart (suc k) (omega arith)))

changes_differ : (rs : List Ready) → AllPairs (λ i j. i ≢ j) (map (λ (r : Ready). r.change) rs) → Differ rs
changes_differ [] differ = tt
changes_differ (r ∷ rs) differ = (first_apart r.change rs (λ k l. differ 0 (suc k) 0 (omega arith) (omega arith)), changes_differ rs (distinct_tail r.change (map (λ (s : Ready). s.change) rs) differ))

rows_tell : (ready : List Ready) (ks : List Change) → AllByRecursion (λ (r : ChangeRow). r.approval ≡ approval_of ready r.change.number) (map (change_row ready) ks)
rows_tell ready [] = tt
rows_tell ready (k ∷ ks) = (refl, rows_tell ready ks)

-- an open change is known
open_is_known : (s : State) (n : ℕ) → is_open (change_of s n) ≡ true → IsSome (find (λ (r : ChangeRow). r.change.number == n) (map (change_row s.ready) s.changes))
open_is_known s n is = subst (λ o. IsSome o) (sym (find_map (change_row s.ready) (λ (r : ChangeRow). r.change.number == n) s.changes)) (by_known (known_change s n) is)
  where
    by_known : (o : Option Change) → is_open (unwrap_or o (record { number = n; project = []; revision = 0; stage = stage.Closed; needs = [] })) ≡ true → IsSome (option_map (change_row s.ready) o)
    by_known None e = absurd (false≢true e)
    by_known (Some k) e = refl

pub and_second : (a b : Bool) → a && b ≡ true → b ≡ true
and_second true b e = e
and_second false b e = absurd (false≢true e)

small_change : (r : Ready) → is_ready_in_form r ≡ true → r.change < 18446744073709551616
small_change r e =
    let h : r.change ≤ 999999999 = leb-true r.change 999999999 (and_second (nat_le 1 r.change) _ (and_second (is_drawn_number r.approval) _ e)) in omega arith

-- the rows of a lawful content tell its ready list
pub ready_are : (c : Settings) (x : Content) → IsLawfulContent c x → AreReady (tables c x).changes x.state.ready
ready_are c x lawful =
    let s = x.state in
    let sound = lawful.lawful.sound in
    record {
      rise = rows_rise (λ (r : Ready). r.approval) 0 s.ready (numbers_rise 0 (map (λ (r : Ready). r.approval) s.ready) (λ h. omega arith) sound.ready_rises);
      differ = changes_differ s.ready (distinct_rest (map (λ i. i.change) (flat_map (λ q. q.items) s.queues)) (map (λ (r : Ready). r.change) s.ready) sound.waiting_differ);
      fit = in_weaker (λ (r : Ready). is_ready_in_form r ≡ true) (λ (r : Ready). r.change < 18446744073709551616) small_change s.ready (all_rows (λ (r : Ready). is_ready_in_form r ≡ true) s.ready lawful.in_form.state.ready);
      told = rows_tell s.ready s.changes;
      known = in_weaker (λ (r : Ready). is_open (change_of s r.change) ≡ true) (λ (r : Ready). IsSome (find (λ (k : ChangeRow). k.change.number == r.change) (map (change_row s.ready) s.changes))) (λ r e. open_is_known s r.change e) s.ready (all_rows (λ (r : Ready). is_open (change_of s r.change) ≡ true) s.ready sound.ready_are_open);
    }

-- where there is no row, no ready change has its number
pub no_row : (n : ℕ) (rows : List ChangeRow) (rs : List Ready) → AllByRecursion (λ (r : Ready). IsSome (find (λ (k : ChangeRow). k.change.number == r.change) rows)) rs → find (λ (k : ChangeRow). k.change.number == n) rows ≡ None → find (λ (r : Ready). r.change == n) rs ≡ None
no_row n rows [] known none = refl
no_row n rows (r ∷ rs) known none = ⊎_elim
    (λ t. absurd (false≢true (subst (λ o. IsSome o) (ap (λ m. find (λ (k : ChangeRow). k.change.number == m) rows) t.1 ∙ none) known.0)))
    (λ t. ap (λ b. cond b (Some r) (find (λ (s : Ready). s.change == n) rs)) t.0 ∙ no_row n rows rs known.1 none)
    (eqb_tells r.change n)

-- the approval that the rows tell of a change is that of the list
pub approval_told : (rows : List ChangeRow) (rs : List Ready) (n : ℕ) → AreReady rows rs → approval_in rows n ≡ approval_of rs n
approval_told rows rs n ready = by_row (find (λ (k : ChangeRow). k.change.number == n) rows) refl
  where
    by_row : (o : Option ChangeRow) → find (λ (k : ChangeRow). k.change.number == n) rows ≡ o → option_and_then (λ (k : ChangeRow). k.approval) o ≡ approval_of rs n
    by_row None e = sym (ap (option_map (λ (r : Ready). r.approval)) (no_row n rows rs ready.known e))
    by_row (Some k) e =
        all_in (λ (j : ChangeRow). j.approval ≡ approval_of rs j.change.number) rows k ready.told (found_in (λ (j : ChangeRow). j.change.number == n) rows k e)
        ∙ ap (approval_of rs) (found_has (λ (j : ChangeRow). j.change.number) n k rows (sym e))

-- so they tell each change's approval
pub approval_is : (c : Settings) (x : Content) (n : ℕ) → IsLawfulContent c x → approval_in (tables c x).changes n ≡ approval_of x.state.ready n
approval_is c x n lawful = approval_told (tables c x).changes x.state.ready n (ready_are c x lawful)
