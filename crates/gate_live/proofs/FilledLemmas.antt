-- What was read queue by queue is all that is live.
use Rattle.std.proofs.Common.{◌≡◌, ℕ, zero, suc, ◌+◌, ◌<◌, ◌≤◌, true, false, not, cond, Option, Some, None}
use Rattle.std.proofs.Common.{List, [], ◌∷◌, ◌++◌, length, map, take, get_or, refl, sym, ap, subst, ◌∙◌, arith}
use Rattle.std.specs.Prelude.{option_map, IfSome}
use Rattle.std.specs.List.{list_any}
use Rattle.std.specs.Option.{option_map_or}
use Rattle.std.proofs.lemmas.Option.{none-some}
use Rattle.std.proofs.lemmas.Bool.{and_parts, not-true, or_parts}
use Rattle.std.proofs.lemmas.List.{map-append}
use Rattle.std.proofs.Math.Seq.{take-suc}
use Rattle.std.proofs.lemmas.Simd.{map-map}
use lib.Pointwise.{bytes_decides}
use Rattle.gate_types.proofs.PlainLemmas.{some_is}
use Rattle.gate_types.specs.declared.records.Item.{Item}
use Rattle.gate_types.specs.declared.config.Queue.{Queue as QueueSetting}
use Rattle.gate_types.specs.Names.{same_name}
use Rattle.gate_types.specs.Settings.{Settings, are_distinct}
use Rattle.gate_types.specs.State.{Queue, put_by}
use Rattle.gate_types.specs.Rows.{item_rows}
use Rattle.gate_types.specs.Once.{Content}
use Rattle.gate_types.specs.Forms.{IsLawfulContent}
use Rattle.gate_types.specs.Lawful.{IsSound}
use Rattle.gate_types.specs.Tables.{QueueRows, tables}
use Rattle.gate_types.specs.Keys.{serial_of_item}
use Rattle.gate_types.specs.Rising.{RisesFrom}
use Rattle.gate_types.specs.declared.edits.Edit.TheVariants as edit
use Rattle.gate_memory.proofs.SortedLemmas.{put_after, rises-at}
use Rattle.gate_book_trait.specs.Reads as read
use Rattle.gate_book_trait.specs.RowReads.{rows_named}
use Rattle.gate_book_trait.proofs.ReadLemmas.{rows_of_queue, named_is, found_passes}
use Rattle.gate_memory.specs.HeldQueues.{LiveQueue}
use Rattle.gate_live.specs.Live.{live_queue, edited_live_queue}
use Rattle.gate_live.specs.Held.{queue_of}
use Rattle.gate_live.specs.declared.held_queue.HeldQueue.{HeldQueue}
use Rattle.gate_live.proofs.LiveLemmas.{count_of_landings, count_of_reports}
use Rattle.gate_live.proofs.RisingLemmas.{items_rise}

-- ---- the items of a queue, put one by one

-- an item behind those before it
pub put_next : (m k : ℕ) (items : List Item) (i : Item) → RisesFrom serial_of_item m items → k < length items → i ≡ get_or items k i →
    put_by serial_of_item i (take k items) ≡ take (suc k) items
put_next m k [] i rise l at = absurd (omega (arith, l))
put_next m zero (x ∷ xs) i rise l at = ap (λ (y : Item). y ∷ []) at
put_next m (suc k) (x ∷ xs) i rise l at =
    let within : k < length xs = omega (arith, l) in
    let above : suc x.serial ≤ serial_of_item i = subst (λ (y : Item). suc x.serial ≤ serial_of_item y) (sym at) (rises-at serial_of_item (suc x.serial) xs k i rise.1 within) in
    let less : x.serial < i.serial = omega (arith, above) in
    put_after serial_of_item i x (take k xs) less ∙ ap (λ ys. x ∷ ys) (put_next (suc x.serial) k xs i rise.1 within at)

-- ---- names

itself : (n : List ℕ) → same_name n n ≡ true
itself n = (bytes_decides n n).1 refl

-- what is live of a queue with these items
abbrev pub with_items : List ℕ → ℕ → ℕ → ℕ → List Item → LiveQueue
with_items name window landings reports items = record {
  rows = record { name = name; window = window; items = items; landings = []; reports = [] };
  landings = landings;
  reports = reports;
}

-- one item more put
pub one_more : (name : List ℕ) (window landings reports k : ℕ) (items : List Item) (q : List ℕ) (i : Item) → q ≡ name → RisesFrom serial_of_item 0 items →
    k < length items → i ≡ get_or items k i → edited_live_queue (edit.PutItem q i) (with_items name window landings reports (take k items))
    ≡ with_items name window landings reports (take (k + 1) items)
one_more name window landings reports k items q i same rise within at =
    let named : same_name q name ≡ true = ap (λ n. same_name n name) same ∙ itself name in
    let step : suc k ≡ k + 1 = omega arith in
    let put : put_by serial_of_item i (take k items) ≡ take (k + 1) items = put_next 0 k items i rise within at ∙ ap (λ n. take n items) step in
    ap (λ b. with_items name window landings reports (cond b (put_by serial_of_item i (take k items)) (take k items))) named
    ∙ ap (with_items name window landings reports) put

-- ---- one queue, as it was read

-- a book that has no such queue
pub no_queue : (c : Settings) (x : Content) (name : List ℕ) → None ≡ read.window_of x.state name → None ≡ option_map live_queue (rows_named (tables c x).queues name)
no_queue c x name none = by_found (read.queue_named x.state name) none ∙ ap (option_map live_queue) (sym (named_is c x name))
  where
    by_found : (o : Option Queue) → None ≡ option_map (λ (q : Queue). q.window) o → None ≡ option_map live_queue (option_map (rows_of_queue c x.state) o)
    by_found None e = refl
    by_found (Some q) e = absurd (none-some q.window e)

-- and one that has it
pub queue_read : (c : Settings) (x : Content) (name : List ℕ) (window landings reports : ℕ) (items : List Item) → IsLawfulContent c x →
    Some window ≡ read.window_of x.state name → items ≡ read.items_in c x.state name → landings ≡ read.landing_count x.state name →
    reports ≡ read.reports_in x.state name →
    RisesFrom serial_of_item 0 items × (Some (with_items name window landings reports items) ≡ option_map live_queue (rows_named (tables c x).queues name))
queue_read c x name window landings reports items lawful w is ls rs =
    by_found (read.queue_named x.state name) refl w is ls rs
  where
    by_found : (o : Option Queue) → read.queue_named x.state name ≡ o → Some window ≡ option_map (λ (q : Queue). q.window) o →
        items ≡ option_map_or (item_rows c x.state) o [] → landings ≡ length (option_map_or (λ (q : Queue). q.landings) o []) →
        reports ≡ option_map_or (λ (q : Queue). length q.reports) o 0 →
        RisesFrom serial_of_item 0 items × (Some (with_items name window landings reports items) ≡ option_map live_queue (rows_named (tables c x).queues name))
    by_found None e w is ls rs = absurd (none-some window (sym w))
    by_found (Some q) e w is ls rs =
        let passes : same_name q.name name ≡ true = subst (λ o. IfSome o (λ (r : Queue). same_name r.name name ≡ true)) e (found_passes (λ (r : Queue). same_name r.name name) x.state.queues) in
        let name_is : name ≡ q.name = sym ((bytes_decides q.name name).0 passes) in
        let told : with_items name window landings reports items ≡ live_queue (rows_of_queue c x.state q) =
        λ i. with_items (name_is i) (some_is window q.window w i) ((ls ∙ sym (count_of_landings q.landings)) i) ((rs ∙ sym (count_of_reports q.reports)) i) (is i)
        in (
          subst (λ (zs : List Item). RisesFrom serial_of_item 0 zs) (sym is) (items_rise c x name q lawful e),
          ap (λ (l : LiveQueue). Some l) told ∙ ap (option_map live_queue) (sym (named_is c x name ∙ ap (option_map (rows_of_queue c x.state)) e)),
        )

-- ---- the queues, found by their names

-- a queue of another name in front makes no difference
others_named : (q : QueueRows) (qs rs : List QueueRows) → list_any (same_name q.name) (map (λ (r : QueueRows). r.name) rs) ≡ false →
    map (λ (r : QueueRows). rows_named (q ∷ qs) r.name) rs ≡ map (λ (r : QueueRows). rows_named qs r.name) rs
others_named q qs [] none = refl
others_named q qs (r ∷ rs) none =
    let both = or_parts (same_name q.name r.name) _ none in
    λ i. cond (both.0 i) (Some q) (rows_named qs r.name) ∷ others_named q qs rs both.1 i

-- where no two are of one name, each is found by its own
each_named : (qs : List QueueRows) → are_distinct (map (λ (q : QueueRows). q.name) qs) ≡ true →
    map (λ (q : QueueRows). rows_named qs q.name) qs ≡ map (λ (q : QueueRows). Some q) qs
each_named [] differ = refl
each_named (q ∷ qs) differ =
    let both = and_parts (not (list_any (same_name q.name) (map (λ (r : QueueRows). r.name) qs))) (are_distinct (map (λ (r : QueueRows). r.name) qs)) differ in
    let rest = others_named q qs qs (not-true _ both.0) ∙ each_named qs both.1 in
    λ i. cond (itself q.name i) (Some q) (rows_named qs q.name) ∷ rest i

known : {X : Type 0} → List (Option X) → List X
known [] = []
known (None ∷ os) = known os
known (Some x ∷ os) = x ∷ known os

known_all : {X : Type 0} (xs : List X) → known (map (λ (x : X). Some x) xs) ≡ xs
unfolding known
known_all [] = refl
known_all (x ∷ xs) = ap (λ ys. x ∷ ys) (known_all xs)

-- the queue of a name, as what is live of it
abbrev live_of_name : List QueueRows → List ℕ → Option LiveQueue
live_of_name qs name = option_map live_queue (rows_named qs name)

-- what was read by the names of the settings is what is live of the queues, where these have just those names
pub filled : (ls : List LiveQueue) (qs : List QueueRows) (rs : List QueueSetting) →
    map (λ (q : QueueRows). q.name) qs ≡ map (λ (r : QueueSetting). r.name) rs →
    are_distinct (map (λ (r : QueueSetting). r.name) rs) ≡ true →
    map (λ (l : LiveQueue). Some l) ls ≡ map (λ (r : QueueSetting). live_of_name qs r.name) rs → ls ≡ map live_queue qs
filled ls qs rs names differ read =
    let each : map (λ (q : QueueRows). rows_named qs q.name) qs ≡ map (λ (q : QueueRows). Some q) qs = each_named qs (ap are_distinct names ∙ differ) in
    let told : map (λ (l : LiveQueue). Some l) ls ≡ map (λ (l : LiveQueue). Some l) (map live_queue qs) =
    read
    ∙ sym (map-map (live_of_name qs) (λ (r : QueueSetting). r.name) rs)
    ∙ ap (map (live_of_name qs)) (sym names)
    ∙ map-map (live_of_name qs) (λ (q : QueueRows). q.name) qs
    ∙ sym (map-map (option_map live_queue) (λ (q : QueueRows). rows_named qs q.name) qs)
    ∙ ap (map (option_map live_queue)) each
    ∙ map-map (option_map live_queue) (λ (q : QueueRows). Some q) qs
    ∙ sym (map-map (λ (l : LiveQueue). Some l) live_queue qs)
    in
    sym (known_all ls) ∙ ap known told ∙ known_all (map live_queue qs)

-- ---- the loops

-- one queue more
pub told_next : (f : QueueSetting → Option LiveQueue) (qs : List HeldQueue) (q : HeldQueue) (rs : List QueueSetting) (n : ℕ) (r : QueueSetting) →
    n < length rs → r ≡ get_or rs n r → map (λ (l : LiveQueue). Some l) (map queue_of qs) ≡ map f (take n rs) → Some (queue_of q) ≡ f r →
    map (λ (l : LiveQueue). Some l) (map queue_of (qs ++ q ∷ [])) ≡ map f (take (n + 1) rs)
told_next f qs q rs n r l at before here =
    let step : suc n ≡ n + 1 = omega arith in
    ap (map (λ (k : LiveQueue). Some k)) (map-append queue_of qs (q ∷ []))
    ∙ map-append (λ (k : LiveQueue). Some k) (map queue_of qs) (queue_of q ∷ [])
    ∙ (λ i. before i ++ here i ∷ [])
    ∙ sym (map-append f (take n rs) (r ∷ []))
    ∙ ap (λ x. map f (take n rs ++ x ∷ [])) at
    ∙ ap (map f) (sym (take-suc rs n r l))
    ∙ ap (λ m. map f (take m rs)) step

-- ---- the settings

pub names_are : (c : Settings) (x : Content) (rs : List QueueSetting) → IsSound c x.state → rs ≡ c.queues →
    map (λ (q : QueueRows). q.name) (tables c x).queues ≡ map (λ (r : QueueSetting). r.name) rs
names_are c x rs sound e =
    map-map (λ (q : QueueRows). q.name) (rows_of_queue c x.state) x.state.queues ∙ sound.queues_are_set
    ∙ ap (map (λ (r : QueueSetting). r.name)) (sym e)
