-- What is told of the items, where one is put.
use Rattle.std.proofs.Common.{◌≡◌, ◌≤◌, ◌<◌, ◌<ℤ◌, ◌⊎◌, inl, inr, ℕ, suc, pos, List, [], ◌∷◌, map, filter, Bool, true}
use Rattle.std.proofs.Common.{false, not, cond, ◌&&◌, ◌||◌, eqb, Some, None, refl, sym, ap, subst, ◌∙◌, arith}
use Rattle.std.proofs.Common.{IsPermutation}
use Rattle.std.specs.List.{AllByRecursion, list_any}
use Rattle.std.specs.Prelude.{find}
use Rattle.std.proofs.lemmas.Bool.Decides.{nat_tests}
use Rattle.std.proofs.lemmas.Cmp.{nat_list_eq_equiv}
use Rattle.std.proofs.lemmas.Int.{ints}
use Rattle.sqlite_keyed.specs.Keyed.{IsKeyedBy, insert_by}
use Rattle.sqlite_keyed.proofs.ListLemmas.{all_weaker}
use Rattle.gate_types.specs.Names.{same_name}
use Rattle.gate_types.specs.State.{put_by}
use Rattle.gate_types.specs.Tables.{QueueRows, Tables, edited_queue, edited_tables}
use Rattle.gate_types.specs.declared.edits.Edit.TheVariants as edit
use Rattle.gate_types.specs.declared.records.Item.{Item}
use Rattle.gate_types.proofs.PlainLemmas.{below_or}
use Rattle.gate_schema.specs.Edits.{after_edit, item_in}
use Rattle.gate_schema.specs.Rows.{ItemRow, QueueRow, Stored, item_key}
use Rattle.gate_rows.specs.Matches.{Fits, IsInOrder, IsStoredQueue, Matches, items_of, landings_of, placed, reports_of}
use Rattle.gate_rows.proofs.PutLemmas.{put_after, put_before, put_first, put_is}
use Rattle.gate_rows.proofs.MatchLemmas.{of_queue_changed, of_queue_same, placed_same}

-- ---- names

-- of names that are the same, each is like the other
pub like : (a b c : List ℕ) → same_name a b ≡ true → same_name c a ≡ same_name c b
like a b c e = nat_list_eq_equiv.symm c a ∙ nat_list_eq_equiv.congr a b c e ∙ nat_list_eq_equiv.symm b c

-- where no queue has a name, none is found by it
none_named : (name other : List ℕ) → same_name name other ≡ true → (n : ℕ) (qs : List QueueRows) → find (λ (q : QueueRows). same_name q.name other) qs ≡ None
    → list_any (λ (q : QueueRow). same_name q.name name) (placed n qs) ≡ false
none_named name other same n [] none = refl
none_named name other same n (q ∷ qs) none = go (same_name q.name other) refl none (none_named name other same (suc n) qs)
  where
    go : (m : Bool) → same_name q.name other ≡ m → cond m (Some q) (find (λ (q : QueueRows). same_name q.name other) qs) ≡ None
        → (find (λ (q : QueueRows). same_name q.name other) qs ≡ None → list_any (λ (q : QueueRow). same_name q.name name) (placed (suc n) qs) ≡ false)
        → (same_name q.name name || list_any (λ (q : QueueRow). same_name q.name name) (placed (suc n) qs)) ≡ false
    go true e none more = absurd cc
    go false e none more = ap (λ c. c || list_any (λ (q : QueueRow). same_name q.name name) (placed (suc n) qs)) (like name other q.name same ∙ e) ∙ more none

-- a list that is added to only where the queue is there
pub nothing_added : {X : Type 0} (name other : List ℕ) (b : Stored) (t : Tables) (added : List X) → IsStoredQueue name b → b.queues ≡ placed 0 t.queues
    → find (λ (q : QueueRows). same_name q.name other) t.queues ≡ None → cond (same_name name other) added [] ≡ []
nothing_added name other b t added there places none = go (same_name name other) refl
  where
    go : (m : Bool) → same_name name other ≡ m → cond m added [] ≡ []
    go true e =
        let no : list_any (λ (q : QueueRow). same_name q.name name) b.queues ≡ false = ap (list_any (λ (q : QueueRow). same_name q.name name)) places ∙ none_named name other e 0 t.queues none in
        absurd (Rattle.std.proofs.Common.true≢false (sym there ∙ no))
    go false e = refl

-- ---- one item put among rows

lower : (a b c : ℕ) → a < b → pos b <ℤ pos c → a < c
lower a b c p q = omega (arith, ints)

-- an item goes in front of items that are above it
first_of : (name : List ℕ) (i : Item) (rows : List ItemRow) → AllByRecursion (λ (y : ItemRow). i.serial < y.item.serial) rows
    → put_by (λ (j : Item). j.serial) i (items_of name rows) ≡ i ∷ items_of name rows
first_of name i [] above = refl
first_of name i (y ∷ ys) above = go (same_name y.queue name) (first_of name i ys above.1)
  where
    go : (m : Bool) → put_by (λ (j : Item). j.serial) i (items_of name ys) ≡ i ∷ items_of name ys
        → put_by (λ (j : Item). j.serial) i (map (λ (r : ItemRow). r.item) (cond m (y ∷ filter (λ (r : ItemRow). same_name r.queue name) ys) (filter (λ (r : ItemRow). same_name r.queue name) ys)))
        ≡ i ∷ map (λ (r : ItemRow). r.item) (cond m (y ∷ filter (λ (r : ItemRow). same_name r.queue name) ys) (filter (λ (r : ItemRow). same_name r.queue name) ys))
    go true more = put_before (λ (j : Item). j.serial) i y.item (items_of name ys) above.0
    go false more = more

-- rows of its serial are of its queue
abbrev AreAlone : ItemRow → List ItemRow → Type 0
AreAlone x rows = AllByRecursion (λ (y : ItemRow). eqb y.item.serial x.item.serial ≡ true → same_name y.queue x.queue ≡ true) rows

-- an item put among the rows of all queues is put among those of its own
items_put : (name : List ℕ) (x : ItemRow) (rows : List ItemRow) → IsKeyedBy (λ (y : ItemRow). pos (item_key y)) rows → AreAlone x rows
    → items_of name (put_by item_key x rows) ≡ cond (same_name x.queue name) (put_by (λ (j : Item). j.serial) x.item (items_of name rows)) (items_of name rows)
items_put name x [] up alone =
    elim (same_name x.queue name) as (λ m. map (λ (r : ItemRow). r.item) (cond m (x ∷ []) []) ≡ cond m (x.item ∷ []) []) [ true ↦ refl | false ↦ refl ]
items_put name x (y ∷ ys) up alone = by_order (below_or (item_key x) (item_key y)) (below_or (item_key y) (item_key x)) (items_put name x ys up.1 alone.1)
  where
    by_order : ((item_key x < item_key y) ⊎ (item_key y ≤ item_key x)) → ((item_key y < item_key x) ⊎ (item_key x ≤ item_key y))
        → items_of name (put_by item_key x ys) ≡ cond (same_name x.queue name) (put_by (λ (j : Item). j.serial) x.item (items_of name ys)) (items_of name ys)
        → items_of name (put_by item_key x (y ∷ ys)) ≡ cond (same_name x.queue name) (put_by (λ (j : Item). j.serial) x.item (items_of name (y ∷ ys))) (items_of name (y ∷ ys))
    by_order (inl less) other more =
        let all : List ItemRow = filter (λ (r : ItemRow). same_name r.queue name) (y ∷ ys) in
        let above : AllByRecursion (λ (z : ItemRow). x.item.serial < z.item.serial) (y ∷ ys) =
        (less, all_weaker (λ (z : ItemRow). pos (item_key y) <ℤ pos (item_key z)) (λ (z : ItemRow). x.item.serial < z.item.serial) (λ z h. lower (item_key x) (item_key y) (item_key z) less h) ys up.0) in
        ap (items_of name) (put_before item_key x y ys less)
        ∙ elim (same_name x.queue name) as (λ m. map (λ (r : ItemRow). r.item) (cond m (x ∷ all) all) ≡ cond m (put_by (λ (j : Item). j.serial) x.item (map (λ (r : ItemRow). r.item) all)) (map (λ (r : ItemRow). r.item) all))
        [ true ↦ sym (first_of name x.item (y ∷ ys) above) | false ↦ refl ]
    by_order (inr low) (inl less) more =
        let left : List ItemRow = filter (λ (r : ItemRow). same_name r.queue name) ys in
        let put : List ItemRow = filter (λ (r : ItemRow). same_name r.queue name) (put_by item_key x ys) in
        let mine = same_name x.queue name in
        ap (items_of name) (put_after item_key x y ys less)
        ∙ elim (same_name y.queue name) as (λ m. map (λ (r : ItemRow). r.item) (cond m (y ∷ put) put)
        ≡ cond mine (put_by (λ (j : Item). j.serial) x.item (map (λ (r : ItemRow). r.item) (cond m (y ∷ left) left))) (map (λ (r : ItemRow). r.item) (cond m (y ∷ left) left))) [
          | true ↦ ap (λ l. y.item ∷ l) more
              ∙ elim mine as (λ m. y.item ∷ cond m (put_by (λ (j : Item). j.serial) x.item (items_of name ys)) (items_of name ys) ≡ cond m (put_by (λ (j : Item). j.serial) x.item (y.item ∷ items_of name ys)) (y.item ∷ items_of name ys))
              [ true ↦ sym (put_after (λ (j : Item). j.serial) x.item y.item (items_of name ys) less) | false ↦ refl ]
          | false ↦ more
        ]
    by_order (inr low) (inr high) more =
        let left : List ItemRow = filter (λ (r : ItemRow). same_name r.queue name) ys in
        let same : item_key x ≡ item_key y = omega arith in
        let told : eqb y.item.serial x.item.serial ≡ true = grind (arith, nat_tests) in
        let alike : same_name y.queue name ≡ same_name x.queue name = nat_list_eq_equiv.congr y.queue x.queue name (alone.0 told) in
        let mine = same_name x.queue name in
        ap (items_of name) (put_first item_key x y ys same)
        ∙ elim mine as (λ m. map (λ (r : ItemRow). r.item) (cond m (x ∷ left) left)
        ≡ cond m (put_by (λ (j : Item). j.serial) x.item (map (λ (r : ItemRow). r.item) (cond m (y ∷ left) left))) (map (λ (r : ItemRow). r.item) (cond m (y ∷ left) left)))
        [ true ↦ sym (put_first (λ (j : Item). j.serial) x.item y.item (items_of name ys) same) | false ↦ refl ]
        ∙ ap (λ m. cond mine (put_by (λ (j : Item). j.serial) x.item (map (λ (r : ItemRow). r.item) (cond m (y ∷ left) left))) (map (λ (r : ItemRow). r.item) (cond m (y ∷ left) left))) (sym alike)

both : (a c : Bool) → (a ≡ true → c ≡ true) → (a && c) ≡ a
both true c h = h refl
both false c h = refl

-- then taking it out of its queue takes it out
alone_filter : (x : ItemRow) (rows : List ItemRow) → AreAlone x rows
    → filter (λ (y : ItemRow). not (eqb (item_key y) (item_key x) && same_name y.queue x.queue)) rows ≡ filter (λ (y : ItemRow). not (eqb (item_key y) (item_key x))) rows
alone_filter x [] alone = refl
alone_filter x (y ∷ ys) alone =
    let rest = filter (λ (y : ItemRow). not (eqb (item_key y) (item_key x) && same_name y.queue x.queue)) ys in
    ap (λ c. cond (not c) (y ∷ rest) rest) (both (eqb (item_key y) (item_key x)) (same_name y.queue x.queue) alone.0)
    ∙ ap (λ l. cond (not (eqb (item_key y) (item_key x))) (y ∷ l) l) (alone_filter x ys alone.1)

pub matches_item : (name : List ℕ) (i : Item) (b : Stored) (t : Tables) → IsInOrder b → Fits (edit.PutItem name i) b → Matches b t
    → Matches (after_edit (edit.PutItem name i) b) (edited_tables t (edit.PutItem name i))
matches_item name i b t order fits h =
    let f = edited_queue (edit.PutItem name i) in
    let x : ItemRow = item_in name i in
    record {
      queues_are = record {
        places = h.queues_are.places ∙ sym (placed_same f (λ q. refl) (λ q. refl) 0 t.queues);
        items_are = λ other.
            ap (items_of other) (ap (λ l. insert_by (λ (y : ItemRow). pos (item_key y)) l x) (alone_filter x b.items fits.1) ∙ put_is item_key x b.items order.items)
            ∙ items_put other x b.items order.items fits.1
            ∙ ap (λ l. cond (same_name name other) (put_by (λ (j : Item). j.serial) i l) l) (h.queues_are.items_are other)
            ∙ sym (of_queue_changed (λ q. q.items) f (λ q. refl) other (λ l. cond (same_name name other) (put_by (λ (j : Item). j.serial) i l) l)
            (λ q e. ap (λ c. cond c (put_by (λ (j : Item). j.serial) i q.items) q.items) (like q.name other name e)) t.queues
            (nothing_added name other b t (i ∷ []) fits.0 h.queues_are.places));
        landings_are = λ other. subst (λ l. IsPermutation (landings_of other b.landings) l) (sym (of_queue_same (λ q. q.landings) f (λ q. refl) (λ q. refl) other t.queues)) (h.queues_are.landings_are other);
        reports_are = λ other. subst (λ l. IsPermutation (reports_of other b.reports) l) (sym (of_queue_same (λ q. q.reports) f (λ q. refl) (λ q. refl) other t.queues)) (h.queues_are.reports_are other);
      };
      counters_are = h.counters_are;
      changes_are = h.changes_are;
      needs_are = h.needs_are;
      builds_are = h.builds_are;
      kept_are = h.kept_are;
      plans_are = h.plans_are;
    }
