-- The builds that are held: what edits make of them, and what is read of them.
use Rattle.std.proofs.Common.{◌≡◌, ℕ, Bool, true, false, not, cond, Some, None, List, [], ◌∷◌, ◌++◌, refl, sym, ap}
use Rattle.std.proofs.Common.{◌∙◌, eqb-true, arith}
use Rattle.std.specs.Prelude.{◌==◌, ◌&&◌, ◌||◌, filter, find, is_some}
use Rattle.std.specs.List.{AllByRecursion}
use Rattle.std.proofs.lemmas.Bool.{eq-eqb, ne_eqb, false≢true}
use Rattle.gate_types.specs.declared.edits.Edit.{Edit}
use Rattle.gate_types.specs.declared.edits.Edit.TheVariants as edit
use Rattle.gate_types.specs.declared.records.Build.{Build}
use Rattle.gate_types.specs.declared.records.Item.{Item}
use Rattle.gate_types.specs.State.{put_by}
use Rattle.gate_types.specs.Rebase.{with_live}
use Rattle.gate_types.specs.Rows.{with_outcome, change_build}
use Rattle.gate_types.specs.Tables.{edited_build_rows}
use Rattle.gate_types.specs.Rising.{RisesFrom}
use Rattle.gate_types.proofs.PlainLemmas.{filter_twice}
use Rattle.gate_memory.specs.Sorted.{without}
use Rattle.gate_memory.specs.Builds.{number_of_build, is_live_of, is_build_of}
use Rattle.gate_memory.specs.TableReads.{builds_of_rows}
use Rattle.gate_memory.proofs.SortedLemmas.{rises-put, rises-changed}
use Rattle.gate_memory.proofs.TableLemmas.{find_put}
use Rattle.gate_live.specs.HeldBuilds.{KnownBuilds, AreBuildsOf, edited_held, forgotten, is_live_known, knows, put_in_turn}
use Rattle.gate_live.specs.HeldBuilds.{serial_of}
use Rattle.gate_live.specs.declared.held_builds.Known.{Known}
use Rattle.gate_live.proofs.CommuteLemmas.{filter_same, filter_put, filter_changed, filter_stopped, find_without}
use Rattle.gate_live.proofs.CommuteLemmas.{puts_passing}

-- ---- which items are known

turned : (m n : ℕ) → m == n ≡ n == m
turned m n = by_test (m == n) refl
  where
    by_test : (t : Bool) → m == n ≡ t → m == n ≡ n == m
    by_test true e = e ∙ sym (eq-eqb n m (sym (eqb-true m n e)))
    by_test false e = e ∙ sym (ne_eqb n m (λ same. false≢true (sym e ∙ eq-eqb m n (sym same))))

-- once one more is
knows_put : (known : List Known) (k : Known) (n : ℕ) → knows (put_by serial_of k known) n ≡ (n == k.serial || knows known n)
knows_put known k n = ap is_some (find_put serial_of n k known) ∙ by_test (k.serial == n) ∙ ap (λ t. t || knows known n) (turned k.serial n)
  where
    by_test : (t : Bool) → is_some (cond t (Some k) (find (λ j. j.serial == n) known)) ≡ (t || knows known n)
    by_test true = refl
    by_test false = refl

-- and once one isn't
knows_without : (known : List Known) (m n : ℕ) → knows (without serial_of m known) n ≡ (not (n == m) && knows known n)
knows_without known m n = ap is_some (find_without serial_of m n known) ∙ by_test (m == n) ∙ ap (λ t. not t && knows known n) (turned m n)
  where
    by_test : (t : Bool) → is_some (cond t None (find (λ j. j.serial == n) known)) ≡ (not t && knows known n)
    by_test true = refl
    by_test false = refl

-- no build is held where no item is known
pub none_held : (all : List Build) → [] ≡ filter (is_live_known []) all
none_held [] = refl
none_held (b ∷ bs) = by_live b.live (none_held bs)
  where
    by_live : (t : Bool) → [] ≡ filter (is_live_known []) bs → [] ≡ cond (t && false) (b ∷ filter (is_live_known []) bs) (filter (is_live_known []) bs)
    by_live true none = none
    by_live false none = none

-- ---- edits

-- the builds of an item that is known no longer
dropped : (known : List Known) (s : ℕ) (b : Build) → (is_live_known known b && not (is_build_of s b)) ≡ is_live_known (without serial_of s known) b
dropped known s b = by_tests b.live (knows known b.serial) (b.serial == s) ∙ sym (ap (λ t. b.live && t) (knows_without known s b.serial))
  where
    by_tests : (l k t : Bool) → ((l && k) && not t) ≡ (l && (not t && k))
    by_tests false k t = refl
    by_tests true true true = refl
    by_tests true true false = refl
    by_tests true false true = refl
    by_tests true false false = refl

-- what is held without them
builds_forgotten : (h : KnownBuilds) (all : List Build) (s : ℕ) → AreBuildsOf h all → AreBuildsOf (forgotten h s) all
builds_forgotten h all s held =
    ap (filter (λ (b : Build). not (is_build_of s b))) held ∙ filter_twice (is_live_known h.known) (λ (b : Build). not (is_build_of s b)) all
    ∙ filter_same (λ (b : Build). is_live_known h.known b && not (is_build_of s b)) (is_live_known (without serial_of s h.known)) all (dropped h.known s)

-- what is held after an edit is what is to be held of all builds then
pub builds_edited : (h : KnownBuilds) (all : List Build) (e : Edit) → RisesFrom number_of_build 0 all → AreBuildsOf h all → AreBuildsOf (edited_held h e) (edited_build_rows all e)
builds_edited h all (edit.PutBuild b) rise held =
    ap (λ rows. cond (is_live_known h.known b) (put_by number_of_build b rows) (without number_of_build b.number rows)) held ∙ sym (filter_put number_of_build (is_live_known h.known) b 0 all rise)
builds_edited h all (edit.SetOutcome n o) rise held =
    ap (change_build n (with_outcome o)) held ∙ sym (filter_changed number_of_build (is_live_known h.known) n (with_outcome o) all (λ b. refl))
builds_edited h all (edit.StopBuild n) rise held =
    ap (without number_of_build n) held ∙ sym (filter_stopped number_of_build (is_live_known h.known) n (with_live false) all (λ b. refl))
builds_edited h all (edit.DropItem s) rise held = builds_forgotten h all s held
builds_edited h all (edit.LandItem s) rise held = builds_forgotten h all s held
builds_edited h all _ rise held = held

-- and all still rise by number
pub builds_still_rise : (all : List Build) (e : Edit) → RisesFrom number_of_build 0 all → RisesFrom number_of_build 0 (edited_build_rows all e)
builds_still_rise all (edit.PutBuild b) rise = rises-put number_of_build 0 b all (omega arith) rise
builds_still_rise all (edit.SetOutcome n o) rise = rises-changed number_of_build n (with_outcome o) 0 all (λ b. refl) rise
builds_still_rise all (edit.StopBuild n) rise = rises-changed number_of_build n (with_live false) 0 all (λ b. refl) rise
builds_still_rise all _ rise = rise

-- ---- what was read

-- the live builds of an item, put among those that are held
pub builds_more : (h : KnownBuilds) (all : List Build) (k : Known) → RisesFrom number_of_build 0 all → AreBuildsOf h all →
    put_in_turn (filter (is_live_of k.serial) all) h.rows ≡ filter (is_live_known (put_by serial_of k h.known)) all
builds_more h all k rise held =
    ap (put_in_turn (filter (is_live_of k.serial) all)) held
    ∙ puts_passing number_of_build (is_live_of k.serial) (is_live_known h.known) 0 all rise
    ∙ filter_same (λ (b : Build). is_live_of k.serial b || is_live_known h.known b) (is_live_known (put_by serial_of k h.known)) all one
  where
    by_tests : (l t s : Bool) → ((l && t) || (l && s)) ≡ (l && (t || s))
    by_tests false t s = refl
    by_tests true true s = refl
    by_tests true false s = refl

    one : (b : Build) → (is_live_of k.serial b || is_live_known h.known b) ≡ is_live_known (put_by serial_of k h.known) b
    one b = by_tests b.live (b.serial == k.serial) (knows h.known b.serial) ∙ sym (ap (λ t. b.live && t) (knows_put h.known k b.serial))

-- the live builds of an item that is known
pub builds_read : (h : KnownBuilds) (all : List Build) (n : ℕ) → AreBuildsOf h all → knows h.known n ≡ true → filter (is_live_of n) h.rows ≡ filter (is_live_of n) all
builds_read h all n held known =
    ap (filter (is_live_of n)) held ∙ filter_twice (is_live_known h.known) (is_live_of n) all
    ∙ filter_same (λ (b : Build). is_live_known h.known b && is_live_of n b) (is_live_of n) all (λ b. one b (b.serial == n) refl)
  where
    by_tests : (l k : Bool) → k ≡ true → ((l && k) && (l && true)) ≡ (l && true)
    by_tests false k e = refl
    by_tests true k e = ap (λ t. t && true) e

    none : (l k : Bool) → ((l && k) && (l && false)) ≡ (l && false)
    none false k = refl
    none true true = refl
    none true false = refl

    one : (b : Build) (t : Bool) → b.serial == n ≡ t → (is_live_known h.known b && is_live_of n b) ≡ is_live_of n b
    one b true e =
        ap (λ t. is_live_known h.known b && (b.live && t)) e
        ∙ by_tests b.live (knows h.known b.serial) (ap (knows h.known) (eqb-true b.serial n e) ∙ known) ∙ sym (ap (λ t. b.live && t) e)
    one b false e = ap (λ t. is_live_known h.known b && (b.live && t)) e ∙ none b.live (knows h.known b.serial) ∙ sym (ap (λ t. b.live && t) e)

-- and those of some items
pub builds_read_each : (h : KnownBuilds) (all : List Build) (items : List Item) → AreBuildsOf h all → AllByRecursion (λ (i : Item). knows h.known i.serial ≡ true) items →
    builds_of_rows h.rows items ≡ builds_of_rows all items
builds_read_each h all [] held known = refl
builds_read_each h all (i ∷ items) held known = λ k. builds_read h all i.serial held known.0 k ++ builds_read_each h all items held known.1 k
