-- Where a change stands: in its project's queue, if it is queued at all.
use Rattle.std.proofs.Common.{◌≡◌, ℕ, ◌≤◌, inl, inr, Bool, true, false, cond, Option, Some, None, List, [], ◌∷◌, map}
use Rattle.std.proofs.Common.{refl, sym, ap, ◌∙◌, subst, arith, true≢false}
use Rattle.std.specs.Prelude.{◌==◌, ◌&&◌, ◌||◌, All, find, flat_map, option_map, unwrap_or}
use Rattle.std.specs.List.{list_any}
use Rattle.std.specs.Option.{option_map_or}
use Rattle.std.proofs.lemmas.Bool.{and_parts, eqb-true}
use Rattle.std.proofs.lemmas.Option.{none-some, same_Some}
use Rattle.gate_types.specs.declared.deliveries.Reply.{Reply}
use Rattle.gate_types.specs.declared.deliveries.Reply.TheVariants as reply
use Rattle.gate_types.specs.declared.records.Item.{Item as ItemRow}
use Rattle.gate_types.specs.Names.{same_name}
use Rattle.gate_types.specs.declared.config.Project.{Project}
use Rattle.gate_types.specs.Settings.{Settings, are_sound}
use Rattle.gate_types.specs.State.{Item, Queue, State, project_of, change_of, is_open}
use Rattle.gate_types.specs.Standing.{place_of, places_after, next_ahead, with_ahead}
use Rattle.gate_types.specs.Rows.{row_of, item_rows}
use Rattle.gate_types.specs.Step.{approval_reply}
use Rattle.gate_types.specs.Lawful.{IsSound, is_sound_item}
use Rattle.gate_types.specs.Rising.{In}
use Rattle.gate_types.proofs.NameLemmas.{same_name_is}
use Rattle.gate_book_trait.specs.Reads.{queue_named, items_in}
use Rattle.gate_laws.proofs.Alone.{changes_once, map-flat}
use Rattle.gate_laws.proofs.Counts.{times}
use Rattle.gate_laws.proofs.Members.{every, found, not_found, from_flat, to_flat}
use Rattle.gate_reads.proofs.Found.{found_itself}
use Rattle.gate_admission.proofs.Admitted.{AreNamed}
use Rattle.gate_reads.proofs.Queues.{named_itself}

pub or_first : (a b : Bool) → a || b ≡ false → a ≡ false
or_first false b e = refl
or_first true b e = e

pub or_rest : (a b : Bool) → a || b ≡ false → b ≡ false
or_rest false b e = e
or_rest true b e = absurd (true≢false e)

swapped : (name : List ℕ) → same_name [] name ≡ false → same_name name [] ≡ false
swapped [] e = e
swapped (b ∷ bs) e = refl

-- the items of all queues
abbrev all_items : State → List Item
all_items s = flat_map (λ q. q.items) s.queues

-- the item of a change
abbrev item_of_change : ℕ → List Item → Option Item
item_of_change n items = find (λ i. i.change == n) items

-- an item stands in the queue of its change's project
its_queue : (c : Settings) (s : State) → are_sound c ≡ true → IsSound c s → (i : Item) → In i (all_items s) →
    (q : Queue) × In i q.items × (queue_named s (project_of c s i.change).queue ≡ Some q)
its_queue c s a h i m =
    let x = from_flat (λ (q : Queue). q.items) s.queues i m in
    let sound = every (λ j. is_sound_item c s x.0 j ≡ true) x.0.items
    (every (λ (q : Queue). All (λ j. is_sound_item c s q j ≡ true) q.items) s.queues h.items_are_sound x.0 x.1) i x.2 in
    let named = (and_parts (is_open (change_of s i.change) && (change_of s i.change).revision == i.revision) _ sound).1 in
    (x.0, x.2, ap (queue_named s) (same_name_is _ _ named) ∙ named_itself c s a h x.0 x.1)

-- a change stands where it stands in its project's queue
placed_there : (c : Settings) (s : State) → are_sound c ≡ true → IsSound c s → (n : ℕ) (q : Queue) →
    queue_named s (project_of c s n).queue ≡ Some q → item_of_change n (all_items s) ≡ item_of_change n q.items
placed_there c s a h n q e = by_queue (item_of_change n q.items) refl
  where
    among : (i : Item) → In i (all_items s) → i.change ≡ n → In i q.items
    among i m same =
        let at = its_queue c s a h i m in
        subst (λ (r : Queue). In i r.items)
        (same_Some at.0 q (sym at.2 ∙ ap (λ k. queue_named s (project_of c s k).queue) same ∙ e)) at.1

    nowhere : item_of_change n q.items ≡ None → (o : Option Item) → item_of_change n (all_items s) ≡ o → o ≡ None
    nowhere none None f = refl
    nowhere none (Some i) f =
        let there = found (λ j. j.change == n) (all_items s) i f in
        absurd (true≢false (sym there.1 ∙ not_found (λ j. j.change == n) q.items none i (among i there.0 (eqb-true i.change n there.1))))

    by_queue : (o : Option Item) → item_of_change n q.items ≡ o → item_of_change n (all_items s) ≡ item_of_change n q.items
    by_queue None f = nowhere f (item_of_change n (all_items s)) refl ∙ sym f
    by_queue (Some j) f =
        let there = found (λ i. i.change == n) q.items j f in
        let same = eqb-true j.change n there.1 in
        let there_too = to_flat (λ (r : Queue). r.items) s.queues q j (found (λ r. same_name r.name (project_of c s n).queue) s.queues q e).0 there.0 in
        subst (λ k. item_of_change k (all_items s) ≡ Some j) same
        (found_itself (λ i. i.change) (all_items s) j there_too (most j.change)) ∙ sym f
      where
        most : (k : ℕ) → times k (map (λ i. i.change) (all_items s)) ≤ 1
        most k =
            let once = changes_once c s h k in
            let same = ap (times k) (map-flat (λ (i : Item). i.change) (λ (r : Queue). r.items) s.queues) in
            omega (arith, once, same)

-- and nowhere if there is no such queue
placed_nowhere : (c : Settings) (s : State) → are_sound c ≡ true → IsSound c s → (n : ℕ) →
    queue_named s (project_of c s n).queue ≡ None → item_of_change n (all_items s) ≡ None
placed_nowhere c s a h n e = by_found (item_of_change n (all_items s)) refl
  where
    by_found : (o : Option Item) → item_of_change n (all_items s) ≡ o → o ≡ None
    by_found None f = refl
    by_found (Some i) f =
        let there = found (λ j. j.change == n) (all_items s) i f in
        let at = its_queue c s a h i there.0 in
        absurd (none-some at.0 (sym e ∙ ap (λ k. queue_named s (project_of c s k).queue) (sym (eqb-true i.change n there.1)) ∙ at.2))

-- the serial of a row that is found is that of the item
serials_along : (c : Settings) (s : State) (q : Queue) (n : ℕ) (ahead is : List Item) →
    option_map (λ r. r.serial) (find (λ r. r.change == n) (map (row_of s.builds) (places_after s.builds ahead (map (place_of c s q) is))))
    ≡ option_map (λ i. i.serial) (item_of_change n is)
serials_along c s q n ahead [] = refl
serials_along c s q n ahead (i ∷ is) =
    by_test (i.change == n) (serials_along c s q n (next_ahead s.builds (with_ahead ahead (place_of c s q i))) is)
  where
    rest : Option ItemRow
    rest = find (λ r. r.change == n) (map (row_of s.builds) (places_after s.builds (next_ahead s.builds (with_ahead ahead (place_of c s q i))) (map (place_of c s q) is)))

    by_test : (b : Bool) → option_map (λ r. r.serial) rest ≡ option_map (λ i. i.serial) (item_of_change n is) →
        option_map (λ r. r.serial) (cond b (Some (row_of s.builds (with_ahead ahead (place_of c s q i)))) rest)
        ≡ option_map (λ i. i.serial) (cond b (Some i) (item_of_change n is))
    by_test true h = refl
    by_test false h = h

-- the reply to an approval, by the serial of the change's item
abbrev reply_by_serial : Option ℕ → Reply
reply_by_serial o = option_map_or (λ serial. reply.Queued serial) o reply.Waiting

-- the reply to an approval, by the row that was found in the project's queue
pub told_place : (c : Settings) (s : State) → are_sound c ≡ true → IsSound c s → (n : ℕ) (row : Option ItemRow) →
    row ≡ find (λ r. r.change == n) (items_in c s (project_of c s n).queue) →
    option_map_or (λ r. reply.Queued r.serial) row reply.Waiting ≡ approval_reply n s
told_place c s a h n row e = by_row row ∙ ap reply_by_serial (ap (option_map (λ r. r.serial)) e ∙ serials (queue_named s (project_of c s n).queue) refl) ∙ by_item (item_of_change n (all_items s))
  where
    by_row : (r : Option ItemRow) → option_map_or (λ r. reply.Queued r.serial) r reply.Waiting ≡ reply_by_serial (option_map (λ r. r.serial) r)
    by_row None = refl
    by_row (Some r) = refl

    by_item : (o : Option Item) → reply_by_serial (option_map (λ i. i.serial) o) ≡ option_map_or (λ i. reply.Queued i.serial) o reply.Waiting
    by_item None = refl
    by_item (Some i) = refl

    serials : (o : Option Queue) → queue_named s (project_of c s n).queue ≡ o →
        option_map (λ r. r.serial) (find (λ r. r.change == n) (items_in c s (project_of c s n).queue))
        ≡ option_map (λ i. i.serial) (item_of_change n (all_items s))
    serials None f =
        ap (λ p. option_map (λ r. r.serial) (find (λ r. r.change == n) (option_map_or (item_rows c s) p []))) f
        ∙ sym (ap (option_map (λ i. i.serial)) (placed_nowhere c s a h n f))
    serials (Some q) f =
        ap (λ p. option_map (λ r. r.serial) (find (λ r. r.change == n) (option_map_or (item_rows c s) p []))) f
        ∙ serials_along c s q n [] q.items ∙ sym (ap (option_map (λ i. i.serial)) (placed_there c s a h n q f))

-- the reply where the change is of no project
pub told_nowhere : (c : Settings) (s : State) → are_sound c ≡ true → IsSound c s → (n : ℕ) → AreNamed s →
    find (λ p. same_name p.name (change_of s n).project) c.projects ≡ None → reply.Waiting ≡ approval_reply n s
told_nowhere c s a h n named e =
    let none : (project_of c s n).queue ≡ [] = ap (λ (o : Option Project). (unwrap_or o (record { name = []; queue = []; jobs = []; fail_fast = false })).queue) e in
    sym (ap (λ o. option_map_or (λ (i : Item). reply.Queued i.serial) o reply.Waiting)
    (placed_nowhere c s a h n (ap (queue_named s) none ∙ by_queue (queue_named s []) refl)))
  where
    empty : (qs : List Queue) → list_any (same_name []) (map (λ q. q.name) qs) ≡ false → (q : Queue) → In q qs →
        same_name q.name [] ≡ false
    empty [] f q m = absurd m
    empty (r ∷ rs) f q (inl same) = subst (λ (z : Queue). same_name z.name [] ≡ false) same (swapped r.name (or_first _ _ f))
    empty (r ∷ rs) f q (inr m) = empty rs (or_rest _ _ f) q m

    by_queue : (o : Option Queue) → queue_named s [] ≡ o → o ≡ None
    by_queue None f = refl
    by_queue (Some q) f =
        let there = found (λ (r : Queue). same_name r.name []) s.queues q f in
        absurd (true≢false (sym there.1 ∙ empty s.queues named.not_empty q there.0))
