-- A row as it is read by key, with what the delivery makes of it, is the row as a visit is to see it.
use Rattle.std.proofs.Common.{◌≡◌, ℕ, Bool, true, false, ◌&&◌, ◌||◌, cond, Option, Some, None, List, [], map, refl}
use Rattle.std.proofs.Common.{sym, ap, ◌∙◌, subst, true≢false}
use Rattle.std.specs.Prelude.{◌==◌, find, option_map, unwrap_or}
use Rattle.std.proofs.lemmas.Bool.{and_parts, and_from, eqb-true}
use Rattle.gate_types.specs.declared.records.Change.{Change}
use Rattle.gate_types.specs.declared.records.Item.{Item as ItemRow}
use Rattle.gate_types.specs.declared.records.Need.{Need}
use Rattle.gate_types.specs.declared.records.Stage.TheVariants as stage
use Rattle.gate_types.specs.Names.{same_name}
use Rattle.gate_types.specs.Settings.{Settings}
use Rattle.gate_types.specs.State.{Item, Queue, State, known_change, known_or_closed, change_of, is_landed, plan_of}
use Rattle.gate_types.specs.Standing.{needs_of}
use Rattle.gate_types.specs.Rows.{item_of, item_rows}
use Rattle.gate_types.specs.Once.{Content}
use Rattle.gate_types.specs.Rising.{In}
use Rattle.gate_types.proofs.NameLemmas.{same_name_is}
use Rattle.gate_walk.specs.Walk.{Seen}
use Rattle.gate_walk.specs.Rescan.{standing_in, need_seen}
use Rattle.gate_walk.specs.Delivery.{moved}
use Rattle.gate_walk.specs.UnderWay.{stale_rows}
use Rattle.gate_book_trait.specs.Reads.{queued_items, queued_of, live_builds}
use Rattle.gate_book_trait.specs.declared.rows.QueuedItem.{QueuedItem}
use Rattle.gate_reads.specs.Moves.{row_by_columns}
use Rattle.gate_reads.specs.declared.touched.TouchedItem.{TouchedItem}
use Rattle.gate_laws.proofs.Members.{from_map, to_map, map_map, map_same, from_flat, to_flat, found, not_found}
use Rattle.gate_laws.proofs.Alone.{change_alone, name_alone, same_name_of}
use Rattle.gate_settling.specs.Touching.{Touching, delivered, sees}
use Rattle.gate_settling.specs.Rows.{has_landed, stands_still, standing_by, need_now, needs_known, build_now}
use Rattle.gate_settling.proofs.ColumnLemmas.{columns_of, columns_found, found_alone}
use Rattle.gate_settling.proofs.LeftLemmas.{need_after, left}
use Rattle.gate_settling.proofs.StandingLemmas.{queue_there, stands, stale_in, in_stale}

-- ---- what is known of a change

abbrev closed : ℕ → Change
closed n = record { number = n; project = []; revision = 0; stage = stage.Closed; needs = [] }

needs_are : (n : ℕ) (known : Option Change) → (unwrap_or known (closed n)).needs ≡ needs_known known
needs_are n None = refl
needs_are n (Some j) = refl

landed_is : (n : ℕ) (known : Option Change) → is_landed (unwrap_or known (closed n)) ≡ is_landed (known_or_closed known)
landed_is n None = refl
landed_is n (Some j) = refl

pub needs_of_change : (s : State) (n : ℕ) → (change_of s n).needs ≡ needs_known (known_change s n)
needs_of_change s n = needs_are n (known_change s n)

-- ---- where a needed item stands

-- the item of a row, under its queue's name
abbrev queued : Queue → ItemRow → QueuedItem
queued q r = record { queue = q.name; item = r }

abbrev queued_change : QueuedItem → ℕ
queued_change p = p.item.change

-- where an item of all queues is from
record Source (c : Settings) (s : State) (p : QueuedItem) : Type 0 where
  queue : Queue
  there : In queue s.queues
  row : ItemRow
  stored : In row (item_rows c s queue)
  item : Item
  inside : In item queue.items
  row_is : row_by_columns (columns_of c s) item ≡ row
  is : queued queue row ≡ p

source : {c : Settings} {x : Content} {k : TouchedItem} (h : Touching c x k) (p : QueuedItem) →
    In p (queued_items c x.state) → Source c x.state p
source {c = c} {x = x} h p m =
    let s = x.state in
    let a = from_flat (λ (q : Queue). map (queued q) (item_rows c s q)) s.queues p m in
    let b = from_map (queued a.0) (item_rows c s a.0) p a.2 in
    let i = from_map (row_by_columns (columns_of c s)) a.0.items b.0
    (subst (In b.0) (columns_found c s h.lawful.lawful.sound a.0 a.1) b.1) in
    record { queue = a.0; there = a.1; row = b.0; stored = b.1; item = i.0; inside = i.1; row_is = i.2; is = b.2 }

-- two of them have different changes
change_queued : {c : Settings} {x : Content} {k : TouchedItem} (h : Touching c x k) (p o : QueuedItem) →
    In p (queued_items c x.state) → In o (queued_items c x.state) → queued_change p ≡ queued_change o → p ≡ o
change_queued {c = c} {x = x} h p o mp mo e =
    let s = x.state in
    let a = source h p mp in
    let b = source h o mo in
    let same : a.item.change ≡ b.item.change =
    ap (λ (r : ItemRow). r.change) a.row_is ∙ ap queued_change a.is ∙ e
    ∙ sym (ap (λ (r : ItemRow). r.change) b.row_is ∙ ap queued_change b.is) in
    let sound = h.lawful.lawful.sound in
    let one = change_alone c s sound a.queue b.queue a.item b.item a.there b.there a.inside b.inside same in
    sym a.is ∙ (λ t. queued (one.0 t) (sym a.row_is t)) ∙ (λ t. queued b.queue (row_by_columns (columns_of c s) (one.1 t)))
    ∙ (λ t. queued b.queue (b.row_is t)) ∙ b.is

queued_there : {c : Settings} {x : Content} {k : TouchedItem} (h : Touching c x k) (r : ItemRow) →
    In r (item_rows c x.state h.queue) → In (queued h.queue r) (queued_items c x.state)
queued_there {c = c} {x = x} h r m =
    to_flat (λ (q : Queue). map (queued q) (item_rows c x.state q)) x.state.queues h.queue (queued h.queue r)
    (queue_there h) (to_map (queued h.queue) (item_rows c x.state h.queue) r m)

still_there : {c : Settings} {x : Content} {k : TouchedItem} (h : Touching c x k) (p : QueuedItem) →
    In p (queued_items c x.state) → stands_still k p ≡ true → In p.item (stale_rows (delivered h))
still_there {c = c} {x = x} {k = k} h p m e =
    let both = and_parts (same_name p.queue k.queue) (stands k p.item) e in
    let a = source h p m in
    let named = ap (λ (o : QueuedItem). o.queue) a.is ∙ same_name_is p.queue k.queue both.0 ∙ sym h.named in
    let same = name_alone c x.state h.sound h.lawful.lawful.sound a.queue h.queue a.there (queue_there h)
    (same_name_of a.queue.name h.queue.name named) in
    let row : a.row ≡ p.item = ap (λ (o : QueuedItem). o.item) a.is in
    let stored = subst (λ q. In a.row (item_rows c x.state q)) same a.stored in
    in_stale h p.item (subst (λ r. In r (item_rows c x.state h.queue)) row stored) both.1

pub standing_is : {c : Settings} {x : Content} {k : TouchedItem} (h : Touching c x k) (n : ℕ) →
    standing_by k (queued_of c x.state n) ≡ standing_in (stale_rows (delivered h)) n
standing_is {c = c} {x = x} {k = k} h n = by_row (find (λ (r : ItemRow). r.change == n) rows) refl
  where
    rows : List ItemRow
    rows = stale_rows (delivered h)

    by_row : (f : Option ItemRow) → find (λ (r : ItemRow). r.change == n) (stale_rows (delivered h)) ≡ f →
        standing_by k (queued_of c x.state n) ≡ option_map (λ (r : ItemRow). r.failing) f
    by_row (Some y) e =
        let there = found (λ (r : ItemRow). r.change == n) (stale_rows (delivered h)) y e in
        let stored = stale_in h y there.0 in
        let mine = queued_there h y stored.0 in
        let one = found_alone queued_change (queued_items c x.state) (queued h.queue y) mine
        (λ p m s. change_queued h p (queued h.queue y) m mine s) in
        let named : queued_of c x.state n ≡ Some (queued h.queue y) =
        ap (λ m. find (λ (p : QueuedItem). p.item.change == m) (queued_items c x.state))
        (sym (eqb-true y.change n there.1)) ∙ one in
        let still : stands_still k (queued h.queue y) ≡ true =
        and_from (same_name h.queue.name k.queue) (stands k y) (same_name_of h.queue.name k.queue h.named) stored.1 in
        ap (standing_by k) named ∙ ap (λ b. cond b (Some y.failing) None) still
    by_row None e = by_queued (queued_of c x.state n) refl
      where
        by_queued : (f : Option QueuedItem) → queued_of c x.state n ≡ f → standing_by k f ≡ None
        by_queued None g = refl
        by_queued (Some p) g = by_still (stands_still k p) refl
          where
            by_still : (b : Bool) → stands_still k p ≡ b → cond b (Some p.item.failing) None ≡ None
            by_still false w = refl
            by_still true w =
                let there = found (λ (o : QueuedItem). o.item.change == n) (queued_items c x.state) p g in
                let rows = stale_rows (delivered h) in
                absurd (true≢false (sym there.1
                ∙ not_found (λ (r : ItemRow). r.change == n) rows e p.item (still_there h p there.0 w)))

-- ---- a row

need_is : {c : Settings} {x : Content} {k : TouchedItem} (h : Touching c x k) (n : ℕ) →
    need_now c x.state k n ≡ need_seen (stale_rows (delivered h))
    (need_after k.event k.item.change (record { change = n; landed = is_landed (change_of x.state n) }))
need_is {x = x} {k = k} h n = λ t. record {
  change = n;
  landed = sym (landed_is n (known_change x.state n)) t || has_landed k.event && k.item.change == n;
  standing = standing_is h n t;
}

-- a row as a visit sees it
abbrev pub row_now : Settings → State → TouchedItem → ItemRow → Seen
row_now c s k r = record {
  row = r;
  needs = map (need_now c s k) (needs_known (known_change s r.change));
  jobs = (plan_of s r.serial).jobs;
  fast = (plan_of s r.serial).fast;
  builds = map (build_now k.event) (live_builds s r.serial);
}

item_seen : {c : Settings} {x : Content} {k : TouchedItem} (h : Touching c x k) (j : Item) →
    In j (moved c h.delivery h.queue (item_of k.item)).items →
    row_now c x.state k (row_by_columns (columns_of c x.state) j) ≡ sees h (row_by_columns (columns_of c x.state) j)
item_seen {c = c} {x = x} {k = k} h j m =
    let s = x.state in
    let rows = stale_rows (delivered h) in
    let l = left h in
    let as_need : ℕ → Need = λ n. record { change = n; landed = is_landed (change_of s n) } in
    let after = need_after k.event k.item.change in
    let needs : map (need_now c s k) (needs_known (known_change s j.change))
    ≡ map (need_seen rows) (needs_of h.after j.change) =
    ap (map (need_now c s k)) (sym (needs_of_change s j.change))
    ∙ map_same (need_now c s k) (λ n. need_seen rows (after (as_need n))) (change_of s j.change).needs
    (λ n mn. need_is h n)
    ∙ sym (map_map (λ n. need_seen rows (after n)) as_need (change_of s j.change).needs)
    ∙ sym (map_map (need_seen rows) after (needs_of s j.change))
    ∙ ap (map (need_seen rows)) (sym (l.needs j m)) in
    let jobs = sym (l.jobs j m) in
    let fast = sym (l.fast j m) in
    let builds = sym (l.builds j m) in
    λ t. record { row = row_by_columns (columns_of c s) j; needs = needs t; jobs = jobs t; fast = fast t; builds = builds t }

pub seen_now : {c : Settings} {x : Content} {k : TouchedItem} (h : Touching c x k) (r : ItemRow) →
    In r (stale_rows (delivered h)) → row_now c x.state k r ≡ sees h r
seen_now {c = c} {x = x} {k = k} h r m =
    let j = from_map (row_by_columns (columns_of c x.state)) (moved c h.delivery h.queue (item_of k.item)).items r
    (subst (In r) (left h).rows m) in
    subst (λ y. row_now c x.state k y ≡ sees h y) j.2 (item_seen h j.0 j.1)
