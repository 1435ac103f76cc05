-- The index of a queue's items.
use Rattle.std.proofs.Common.{◌≡◌, ◌<◌, ℕ, zero, suc, Bool, true, false, not, cond, Option, Some, None, List, [], ◌∷◌}
use Rattle.std.proofs.Common.{length, take, get_or, refl, sym, ap, eqb-true, ◌∙◌, arith}
use Rattle.std.specs.Prelude.{◌==◌, filter, find}
use Rattle.std.specs.List.{AllByRecursion, filter_map, cons_option}
use Rattle.std.proofs.lemmas.Bool.{eq-eqb, false≢true}
use Rattle.std.proofs.lemmas.Option.{none-some}
use Rattle.gate_types.specs.declared.records.Item.{Item}
use Rattle.gate_types.specs.State.{put_by}
use Rattle.gate_types.specs.Keys.{serial_of_item}
use Rattle.gate_types.specs.Rising.{In}
use Rattle.gate_memory.specs.declared.pairs.Pair.{Pair}
use Rattle.gate_memory.specs.Sorted.{first_of, without}
use Rattle.gate_memory.specs.Pairs.{pair_key, IsFit}
use Rattle.gate_memory.specs.Queues.{TellsItems, is_item_of, indexed_item}
use Rattle.gate_memory.proofs.PairLemmas.{same_pair, seconds_of, second_in}
use Rattle.gate_memory.proofs.CollectLemmas.{AreTold}
use Rattle.gate_book_trait.proofs.Finding.{in_weaker, all_in}
use Rattle.gate_memory.proofs.BuildLemmas.{all_put, in_put, still_in, in_without}

-- an item put, and its entry
pub tells_item_put : (entries : List Pair) (i : Item) (items : List Item) → AllByRecursion IsFit entries → IsFit (indexed_item i) → TellsItems entries items → TellsItems (put_by pair_key (indexed_item i) entries) (put_by serial_of_item i items)
tells_item_put entries i items fit small told =
    all_put (λ x. In (indexed_item x) (put_by pair_key (indexed_item i) entries)) serial_of_item i items (in_put pair_key (indexed_item i) entries)
    (in_weaker (λ x. In (indexed_item x) entries) (λ x. In (indexed_item x) (put_by pair_key (indexed_item i) entries))
    (λ x h. still_in pair_key (indexed_item i) (indexed_item x) entries (λ e. same_pair (indexed_item x) (indexed_item i) (all_in IsFit entries (indexed_item x) fit h) small e) h)
    items told)

-- an item dropped, and its entry
pub tells_item_dropped : (entries : List Pair) (p : Pair) (n : ℕ) (items : List Item) → AllByRecursion IsFit entries → IsFit p → p.second ≡ n → TellsItems entries items → TellsItems (without pair_key (pair_key p) entries) (without serial_of_item n items)
tells_item_dropped entries p n [] fit small second told = tt
tells_item_dropped entries p n (i ∷ is) fit small second told = by_serial (i.serial == n) refl (tells_item_dropped entries p n is fit small second told.1)
  where
    by_serial : (t : Bool) → i.serial == n ≡ t → TellsItems (without pair_key (pair_key p) entries) (without serial_of_item n is) → TellsItems (without pair_key (pair_key p) entries) (cond (not t) (i ∷ without serial_of_item n is) (without serial_of_item n is))
    by_serial true e rest = rest
    by_serial false e rest = (
      in_without pair_key (pair_key p) (indexed_item i) entries
          (λ k. absurd (false≢true (sym e ∙ eq-eqb i.serial n (ap (λ (q : Pair). q.second) (same_pair (indexed_item i) p (all_in IsFit entries (indexed_item i) fit told.0) small k) ∙ second)))) told.0,
      rest,
    )

-- nothing is dropped where nothing is found
pub without_missing : (n : ℕ) (items : List Item) → find (λ i. i.serial == n) items ≡ None → items ≡ without serial_of_item n items
without_missing n [] e = refl
without_missing n (i ∷ is) e = by_serial (i.serial == n) e (without_missing n is)
  where
    by_serial : (t : Bool) → cond t (Some i) (find (λ j. j.serial == n) is) ≡ None → (find (λ j. j.serial == n) is ≡ None → is ≡ without serial_of_item n is) → i ∷ is ≡ cond (not t) (i ∷ without serial_of_item n is) (without serial_of_item n is)
    by_serial true e rest = absurd (none-some i (sym e))
    by_serial false e rest = ap (λ js. i ∷ js) (rest e)

-- each item of a change has its serial in the index
pub items_are_told : (n : ℕ) (entries : List Pair) (items : List Item) → TellsItems entries items → AreTold serial_of_item (is_item_of n) items (seconds_of n entries)
items_are_told n entries [] told = tt
items_are_told n entries (i ∷ is) told = ((λ e. second_in n (indexed_item i) entries (eqb-true i.change n e) told.0), items_are_told n entries is told.1)

-- what is found is the first that passes
pub find_first : {X : Type 0} (test : X → Bool) (xs : List X) → first_of (filter test xs) ≡ find test xs
find_first test [] = refl
find_first test (x ∷ xs) = by_test (test x) (find_first test xs)
  where
    by_test : (t : Bool) → first_of (filter test xs) ≡ find test xs → first_of (cond t (x ∷ filter test xs) (filter test xs)) ≡ cond t (Some x) (find test xs)
    by_test true rest = refl
    by_test false rest = rest

-- where nothing was found before, the next that is found is the first
pub first_found : {X Y : Type 0} (h : X → Option Y) (xs : List X) (k : ℕ) (d : X) (y : Y) → k < length xs → filter_map h (take k xs) ≡ [] → h (get_or xs k d) ≡ Some y → first_of (filter_map h xs) ≡ Some y
first_found h [] k d y l none e = absurd (omega arith)
first_found h (x ∷ xs) zero d y l none e = ap (λ o. first_of (cons_option o (filter_map h xs))) e
first_found h (x ∷ xs) (suc k) d y l none e = by_found (h x) none (λ n. first_found h xs k d y (omega arith) n e)
  where
    by_found : (o : Option _) → cons_option o (filter_map h (take k xs)) ≡ [] → (filter_map h (take k xs) ≡ [] → first_of (filter_map h xs) ≡ Some y) → first_of (cons_option o (filter_map h xs)) ≡ Some y
    by_found None none rest = rest none
    by_found (Some z) none rest = absurd (let e = ap length none in omega (arith, e))
