-- The row that a walk reads next is the one that is found by key.
use Rattle.std.proofs.Common.{◌≡◌, ℕ, suc, ◌-◌, ◌≤◌, Bool, true, false, not, ◌&&◌, cond, Option, Some, None, List, []}
use Rattle.std.proofs.Common.{◌∷◌, inl, inr, refl, sym, ap, ◌∙◌, subst, arith, true≢false}
use Rattle.std.specs.Prelude.{◌==◌, nat_lt, nat_le, find, option_map, IfSome}
use Rattle.std.specs.List.{list_any}
use Rattle.std.specs.Option.{option_map_or}
use Rattle.std.proofs.lemmas.Bool.{and_parts, and_from, eq-eqb, ne_eqb, lt-ltb, le-ltb, ltb-true, ltb-false, le-leb}
use Rattle.std.proofs.lemmas.Bool.{leb-true}
use Rattle.gate_types.specs.declared.records.Item.{Item as ItemRow}
use Rattle.gate_types.specs.Settings.{Settings}
use Rattle.gate_types.specs.State.{Queue, State, known_change}
use Rattle.gate_types.specs.Lawful.{IsSound}
use Rattle.gate_types.specs.Rows.{item_rows}
use Rattle.gate_types.specs.Once.{Content}
use Rattle.gate_types.specs.Rising.{RisesFrom, In}
use Rattle.gate_types.proofs.PlainLemmas.{and_false, same_truth}
use Rattle.gate_walk.specs.declared.walk.Next.{Next as CodeNext}
use Rattle.gate_walk.specs.declared.walk.Next.TheVariants as code
use Rattle.gate_walk.specs.Walk.{SeenNeed, Seen, Walk, is_gone, needs_gone}
use Rattle.gate_walk.specs.Next.{Next, from, go, need, stop, wanted}
use Rattle.gate_walk.specs.Views.{next_of_code}
use Rattle.gate_walk.specs.UnderWay.{stale_rows, rows_seen, next_by, row_wanted, HasVisited, Starts, GoesOn}
use Rattle.gate_book_trait.specs.Reads.{queue_named, items_in, first_above}
use Rattle.gate_reads.specs.declared.touched.TouchedItem.{TouchedItem}
use Rattle.gate_laws.proofs.Members.{every, from_map, found, any_map, contains_in}
use Rattle.gate_laws.proofs.Parts.{ItemsRise}
use Rattle.gate_laws.proofs.Tests.{not_and_false}
use Rattle.gate_book_trait.proofs.Finding.{find_map}
use Rattle.gate_queue_rules.proofs.Ordered.{row_serial, rises, items_rise}
use Rattle.gate_walk.proofs.Visits.{stored_rise}
use Rattle.gate_settling.specs.Touching.{Touching, delivered, sees}
use Rattle.gate_settling.specs.Rows.{is_out, need_now, needs_known, first_behind, is_needing, row_for, IsFrom, IsAbove}
use Rattle.gate_settling.proofs.ListLemmas.{find_same, find_kept, any_swapped}
use Rattle.gate_settling.proofs.StandingLemmas.{items_are, serial_is_drawn, stands, stale_are, in_stale}
use Rattle.gate_settling.proofs.SeenLemmas.{needs_of_change, seen_now}

-- ---- rows behind a serial

behind_own : (n m : ℕ) → not (m == n) && nat_le n m ≡ nat_lt n m
behind_own n m = same_truth _ _
    (λ e. let both = and_parts (not (m == n)) (nat_le n m) e in by_lt (nat_lt n m) refl both.0 (leb-true n m both.1))
    (λ e. let l = ltb-true n m e in
    and_from (not (m == n)) (nat_le n m) (ap not (ne_eqb m n (λ s. absurd (omega (arith, l, s)))))
    (le-leb n m (omega (arith, l))))
  where
    by_lt : (b : Bool) → nat_lt n m ≡ b → not (m == n) ≡ true → n ≤ m → b ≡ true
    by_lt true e k l = refl
    by_lt false e k l =
        let low = ltb-false n m e in
        let same : m ≡ n = omega (arith, low, l) in
        absurd (true≢false (sym k ∙ ap not (eq-eqb m n same)))

from_own : (n m : ℕ) → 1 ≤ n → nat_le n m ≡ nat_lt (n - 1) m
from_own n m one = same_truth _ _
    (λ e. let l = leb-true n m e in lt-ltb (n - 1) m (omega (arith, one, l)))
    (λ e. let l = ltb-true (n - 1) m e in le-leb n m (omega (arith, one, l)))

-- a row above the touched one stands
above_stands : (k : TouchedItem) (r : ItemRow) (n : ℕ) → k.item.serial ≤ n → nat_lt n r.serial ≡ true →
    stands k r ≡ true
above_stands k r n l e =
    let more = ltb-true n r.serial e in
    ap (λ b. not (is_out k.event && b)) (ne_eqb r.serial k.item.serial (λ s. absurd (omega (arith, l, more, s))))
    ∙ not_and_false (is_out k.event)

-- what is found among the rows that stand
found_stale : {c : Settings} {x : Content} {k : TouchedItem} (h : Touching c x k) (p q : ItemRow → Bool) →
    ((r : ItemRow) → In r (item_rows c x.state h.queue) → stands k r && p r ≡ q r) →
    find p (stale_rows (delivered h)) ≡ find q (items_in c x.state k.queue)
found_stale {c = c} {x = x} {k = k} h p q same =
    ap (find p) (stale_are h) ∙ find_kept p (stands k) (item_rows c x.state h.queue)
    ∙ find_same (λ r. stands k r && p r) q (item_rows c x.state h.queue) same ∙ ap (find q) (sym (items_are h))

-- and so among the rows as visits see them
found_seen : {c : Settings} {x : Content} {k : TouchedItem} (h : Touching c x k) (t : Seen → Bool)
    (q : ItemRow → Bool) →
    ((r : ItemRow) → In r (item_rows c x.state h.queue) → stands k r && t (sees h r) ≡ q r) →
    find t (rows_seen (delivered h)) ≡ option_map (sees h) (find q (items_in c x.state k.queue))
found_seen h t q same =
    find_map (sees h) t (stale_rows (delivered h))
    ∙ ap (option_map (sees h)) (found_stale h (λ r. t (sees h r)) q same)

-- ---- the row that is wanted

pub first_is : {c : Settings} {x : Content} {k : TouchedItem} (h : Touching c x k) →
    row_wanted (delivered h) [] ≡ option_map (sees h) (first_above (first_behind k) (items_in c x.state k.queue))
first_is {k = k} h = found_seen h (λ v. nat_le k.item.serial v.row.serial) (λ r. nat_lt (first_behind k) r.serial)
    (λ r m. at_first (is_out k.event) r.serial)
  where
    at_first : (b : Bool) (m : ℕ) →
        not (b && m == k.item.serial) && nat_le k.item.serial m ≡ nat_lt (cond b k.item.serial (k.item.serial - 1)) m
    at_first true m = behind_own k.item.serial m
    at_first false m = from_own k.item.serial m (serial_is_drawn h)

needs_are : {c : Settings} {x : Content} {k : TouchedItem} (h : Touching c x k) (gone : List ℕ) (r : ItemRow) →
    In r (stale_rows (delivered h)) → needs_gone gone (sees h r).needs ≡ is_needing x.state gone r
needs_are {c = c} {x = x} {k = k} h gone r m =
    let s = x.state in
    let ns = needs_known (known_change s r.change) in
    sym (ap (λ (v : Seen). needs_gone gone v.needs) (seen_now h r m))
    ∙ any_map (λ (n : SeenNeed). is_gone gone n.change) (need_now c s k) ns
    ∙ any_swapped ns gone
    ∙ ap (λ l. list_any (λ g. list_any (λ n. n == g) l) gone) (sym (needs_of_change s r.change))

needing_is : {c : Settings} {x : Content} {k : TouchedItem} (h : Touching c x k) (gone : List ℕ) (n : ℕ) →
    k.item.serial ≤ n → (r : ItemRow) → In r (item_rows c x.state h.queue) →
    stands k r && (nat_lt n r.serial && needs_gone gone (sees h r).needs)
    ≡ (nat_lt n r.serial && is_needing x.state gone r)
needing_is {x = x} {k = k} h gone n l r m = by_lt (nat_lt n r.serial) refl
  where
    by_lt : (b : Bool) → nat_lt n r.serial ≡ b →
        stands k r && (b && needs_gone gone (sees h r).needs) ≡ (b && is_needing x.state gone r)
    by_lt true e =
        let up = above_stands k r n l e in
        ap (λ t. t && needs_gone gone (sees h r).needs) up ∙ needs_are h gone r (in_stale h r m up)
    by_lt false e = and_false (stands k r)

pub wanted_is : {c : Settings} {x : Content} {k : TouchedItem} (h : Touching c x k) (gone : List ℕ) (n : ℕ)
    (next : CodeNext) → IsFrom n next → k.item.serial ≤ n →
    wanted gone (next_of_code next) (rows_seen (delivered h))
    ≡ option_map (sees h) (row_for c x.state k.queue gone next)
wanted_is {k = k} h gone n (code.Go m) e l =
    found_seen h (λ v. nat_lt m v.row.serial) (λ r. nat_lt m r.serial) (λ r mr. same_truth _ _
    (λ t. (and_parts (stands k r) (nat_lt m r.serial) t).1)
    (λ t. and_from (stands k r) (nat_lt m r.serial)
    (above_stands k r m (subst (λ z. k.item.serial ≤ z) (sym e) l) t) t))
wanted_is {x = x} {k = k} h gone n (code.Need m) e l =
    found_seen h (λ v. nat_lt m v.row.serial && needs_gone gone v.needs)
    (λ r. nat_lt m r.serial && is_needing x.state gone r)
    (needing_is h gone m (subst (λ z. k.item.serial ≤ z) (sym e) l))
wanted_is h gone n code.Stop e l = refl

-- it is one of the rows
pub wanted_in : (gone : List ℕ) (next : Next) (vs : List Seen) (v : Seen) → wanted gone next vs ≡ Some v → In v vs
wanted_in gone (from n) vs v e = (found (λ (x : Seen). nat_le n x.row.serial) vs v e).0
wanted_in gone (go n) vs v e = (found (λ (x : Seen). nat_lt n x.row.serial) vs v e).0
wanted_in gone (need n) vs v e =
    (found (λ (x : Seen). nat_lt n x.row.serial && needs_gone gone x.needs) vs v e).0
wanted_in gone stop vs v e = absurd (none_some e)
  where
    none_some : None ≡ Some v → ⊥
    none_some q = cc

pub row_stale : {c : Settings} {x : Content} {k : TouchedItem} (h : Touching c x k) (vs : List Seen) (r : ItemRow) →
    row_wanted (delivered h) vs ≡ Some (sees h r) → In r (stale_rows (delivered h))
row_stale h vs r e =
    let there = from_map (sees h) (stale_rows (delivered h)) (sees h r)
    (wanted_in _ (next_by (delivered h) vs) (rows_seen (delivered h)) (sees h r) e) in
    subst (λ y. In y (stale_rows (delivered h))) (ap (λ (v : Seen). v.row) there.2) there.1

-- ---- a walk under way

-- a walk has made its visits so far, and this is the row that it reads next
pub record IsUnderWay {c : Settings} {x : Content} {k : TouchedItem} (h : Touching c x k) (w : Walk)
    (row : Option ItemRow) : Type 0 where
  pub visits : List Seen
  pub visited : HasVisited (delivered h) w visits
  pub wanted : row_wanted (delivered h) visits ≡ option_map (sees h) row

pub starts_under_way : {c : Settings} {x : Content} {k : TouchedItem} (h : Touching c x k) (w : Walk)
    (row : Option ItemRow) → Starts (delivered h) w →
    row ≡ first_above (first_behind k) (items_in c x.state k.queue) → IsUnderWay h w row
starts_under_way h w row st e = record {
  visits = [];
  visited = st.visited;
  wanted = first_is h ∙ ap (option_map (sees h)) (sym e);
}

pub goes_under_way : {c : Settings} {x : Content} {k : TouchedItem} (h : Touching c x k) (old new : Walk) (r : ItemRow)
    (vs : List Seen) (next : CodeNext) (row : Option ItemRow) → GoesOn (delivered h) old new (sees h r) vs next →
    IsFrom r.serial next → k.item.serial ≤ r.serial → row ≡ row_for c x.state k.queue new.carry.gone next →
    IsUnderWay h new row
goes_under_way h old new r vs next row g f l e =
    let d = delivered h in
    let us = sees h r ∷ vs in
    record {
      visits = us;
      visited = g.visited;
      wanted = ap (λ (w : Walk). wanted w.carry.gone (next_by d us) (rows_seen d)) (sym g.visited.is)
          ∙ ap (λ n. wanted new.carry.gone n (rows_seen d)) (sym g.wants)
          ∙ wanted_is h new.carry.gone r.serial next f l ∙ ap (option_map (sees h)) (sym e);
    }

-- ---- the rows of a queue

pub low_in : (n : ℕ) (rows : List ItemRow) → RisesFrom row_serial n rows → (r : ItemRow) → In r rows → n ≤ r.serial
low_in n [] h r m = absurd m
low_in n (y ∷ rows) h r m =
    let low : n ≤ y.serial = h.0 in
    elim m [
      | inl e ↦ subst (λ (z : ItemRow). n ≤ z.serial) e low
      | inr o ↦ (let more : suc y.serial ≤ r.serial = low_in (suc y.serial) rows h.1 r o in omega (arith, low, more))
    ]

-- the rows of a queue rise
pub items_in_rise : (c : Settings) (s : State) → IsSound c s → (name : List ℕ) →
    RisesFrom row_serial 0 (items_in c s name)
items_in_rise c s sound name = by_queue (queue_named s name) refl
  where
    by_queue : (f : Option Queue) → queue_named s name ≡ f → RisesFrom row_serial 0 (option_map_or (item_rows c s) f [])
    by_queue None e = tt
    by_queue (Some q) e =
        let there = found _ s.queues q e in
        stored_rise c s q (items_rise c s q q.items 0
        (rises (λ j. j.serial) q.items (every ItemsRise s.queues sound.items_rise q there.0)))

-- of rows that rise, the first from a row's serial on is this row
first_from : (n : ℕ) (rows : List ItemRow) → RisesFrom row_serial n rows → (r : ItemRow) → In r rows → 1 ≤ r.serial →
    first_above (r.serial - 1) rows ≡ Some r
first_from n [] h r m one = absurd m
first_from n (y ∷ rows) h r (inl e) one =
    let same = ap (λ (z : ItemRow). z.serial) e in
    ap (λ b. cond b (Some y) (first_above (r.serial - 1) rows))
    (lt-ltb (r.serial - 1) y.serial (omega (arith, same, one))) ∙ ap Some e
first_from n (y ∷ rows) h r (inr m) one =
    let more : suc y.serial ≤ r.serial = low_in (suc y.serial) rows h.1 r m in
    ap (λ b. cond b (Some y) (first_above (r.serial - 1) rows))
    (le-ltb (r.serial - 1) y.serial (omega (arith, more))) ∙ first_from (suc y.serial) rows h.1 r m one

-- so the touched item, where it still stands, is the first row that a walk reads
pub touched_first : {c : Settings} {x : Content} {k : TouchedItem} (h : Touching c x k) → is_out k.event ≡ false →
    Some k.item ≡ first_above (first_behind k) (items_in c x.state k.queue)
touched_first {c = c} {x = x} {k = k} h inside =
    let items = items_in c x.state k.queue in
    let there = subst (In k.item) (sym (items_are h)) (contains_in (item_rows c x.state h.queue) k.item h.stored) in
    sym (ap (λ b. first_above (cond b k.item.serial (k.item.serial - 1)) items) inside
    ∙ first_from 0 items (items_in_rise c x.state h.lawful.lawful.sound k.queue) k.item there (serial_is_drawn h))

-- ---- serials rise

pub further : (n k : ℕ) (next : CodeNext) (row : Option ItemRow) → k ≤ n → IsFrom n next →
    IfSome row (λ r. IsAbove r.serial next) → IfSome row (λ r. k ≤ r.serial)
further n k next None l f h = tt
further n k (code.Go m) (Some r) l f h = omega (arith, l, f, h)
further n k (code.Need m) (Some r) l f h = omega (arith, l, f, h)
further n k code.Stop (Some r) l f h = absurd h
