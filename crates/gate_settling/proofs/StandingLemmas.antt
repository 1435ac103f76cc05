-- The rows of the touched queue: those that stand once the delivery is done, and what is found among them by key.
use Rattle.std.proofs.Common.{◌≡◌, ℕ, ◌≤◌, Bool, true, not, ◌&&◌, Option, Some, None, List, [], ◌∷◌, length, inl}
use Rattle.std.proofs.Common.{refl, sym, ap, ◌∙◌, subst, true≢false}
use Rattle.std.specs.Prelude.{◌==◌, filter, find}
use Rattle.std.specs.List.{list_all}
use Rattle.std.specs.Option.{option_map_or}
use Rattle.std.proofs.lemmas.Bool.{and_parts, leb-true}
use Rattle.std.proofs.lemmas.Option.{same_Some, none-some}
use Rattle.gate_types.specs.declared.records.Item.{Item as ItemRow}
use Rattle.gate_types.specs.declared.records.Report.{Report}
use Rattle.gate_types.specs.declared.deliveries.Delivery.{Delivery}
use Rattle.gate_types.specs.declared.deliveries.Delivery.TheVariants as delivery
use Rattle.gate_types.specs.Names.{same_name}
use Rattle.gate_types.specs.Settings.{Settings, are_sound}
use Rattle.gate_types.specs.State.{Item, Queue, State}
use Rattle.gate_types.specs.Lawful.{IsSound}
use Rattle.gate_types.specs.Rows.{item_of, item_rows}
use Rattle.gate_types.specs.Once.{Content}
use Rattle.gate_types.specs.Forms.{is_queue_in_form, is_item_in_form, is_report_in_form}
use Rattle.gate_types.specs.Rising.{In}
use Rattle.gate_types.proofs.NameLemmas.{same_name_is}
use Rattle.gate_walk.specs.Delivery.{touch_of, standing_rows}
use Rattle.gate_walk.specs.UnderWay.{stale_rows}
use Rattle.gate_book_trait.specs.Reads.{queue_named, items_in}
use Rattle.gate_reads.specs.Moves.{row_by_columns}
use Rattle.gate_reads.specs.Touches.{event_of}
use Rattle.gate_reads.specs.declared.touched.Event.{Event}
use Rattle.gate_reads.specs.declared.touched.TouchedItem.{TouchedItem}
use Rattle.gate_laws.proofs.Members.{every, from_map, to_right, from_filter, to_filter, filter_all, all_from}
use Rattle.gate_laws.proofs.Members.{found, not_found, contains_in}
use Rattle.gate_laws.proofs.Alone.{serial_alone, name_alone, same_name_of}
use Rattle.gate_settling.specs.Touching.{Touching, delivered}
use Rattle.gate_settling.specs.Rows.{is_out}
use Rattle.gate_settling.proofs.ColumnLemmas.{columns_of, columns_found, found_alone}

-- ---- the touched queue

pub queue_there : {c : Settings} {x : Content} {k : TouchedItem} (h : Touching c x k) → In h.queue x.state.queues
queue_there h =
    subst (In h.queue) (sym h.queues) (to_right h.queues_ahead (h.queue ∷ h.queues_behind) h.queue (inl refl))

pub item_there : {c : Settings} {x : Content} {k : TouchedItem} (h : Touching c x k) → In (item_of k.item) h.queue.items
item_there {k = k} h =
    let i = item_of k.item in
    subst (In i) (sym h.items) (to_right h.items_ahead (i ∷ h.items_behind) i (inl refl))

-- a queue is that of its name
pub queue_of_name : (c : Settings) (s : State) (name : List ℕ) (q : Queue) → are_sound c ≡ true → IsSound c s →
    In q s.queues → q.name ≡ name → queue_named s name ≡ Some q
queue_of_name c s name q w sound m e = by_first (queue_named s name) refl
  where
    by_first : (f : Option Queue) → queue_named s name ≡ f → f ≡ Some q
    by_first None n =
        absurd (true≢false (sym (same_name_of q.name name e) ∙ not_found (λ o. same_name o.name name) s.queues n q m))
    by_first (Some o) n =
        let there = found (λ z. same_name z.name name) s.queues o n in
        let same = same_name_of o.name q.name (same_name_is o.name name there.1 ∙ sym e) in
        ap Some (name_alone c s w sound o q there.0 m same)

pub queue_is : {c : Settings} {x : Content} {k : TouchedItem} (h : Touching c x k) →
    queue_named x.state k.queue ≡ Some h.queue
queue_is {c = c} {x = x} {k = k} h =
    queue_of_name c x.state k.queue h.queue h.sound h.lawful.lawful.sound (queue_there h) h.named

pub items_are : {c : Settings} {x : Content} {k : TouchedItem} (h : Touching c x k) →
    items_in c x.state k.queue ≡ item_rows c x.state h.queue
items_are {c = c} {x = x} h = ap (λ o. option_map_or (item_rows c x.state) o []) (queue_is h)

-- it is in form, its items and its reports are: their serials begin with 1
queue_form : {c : Settings} {x : Content} {k : TouchedItem} (h : Touching c x k) → is_queue_in_form h.queue ≡ true
queue_form {x = x} h =
    every (λ o. is_queue_in_form o ≡ true) x.state.queues h.lawful.in_form.state.queues h.queue (queue_there h)

items_form : (q : Queue) → is_queue_in_form q ≡ true → list_all is_item_in_form q.items ≡ true
items_form q form = (and_parts _ _ (and_parts _ _ (and_parts _ _ form).0).0).1

reports_form : (q : Queue) → is_queue_in_form q ≡ true →
    list_all (is_report_in_form (length q.landings)) q.reports ≡ true
reports_form q form = (and_parts _ _ form).1

pub item_from_1 : {c : Settings} {x : Content} {k : TouchedItem} (h : Touching c x k) (i : Item) →
    In i h.queue.items → 1 ≤ i.serial
item_from_1 h i m =
    let form = all_from is_item_in_form h.queue.items (items_form h.queue (queue_form h)) i m in
    leb-true 1 i.serial (and_parts _ _ (and_parts _ _ (and_parts _ _ form).0).0).0

pub report_from_1 : {c : Settings} {x : Content} {k : TouchedItem} (h : Touching c x k) (r : Report) →
    In r h.queue.reports → 1 ≤ r.serial
report_from_1 h r m =
    let q = h.queue in
    let form = all_from (is_report_in_form (length q.landings)) q.reports (reports_form q (queue_form h)) r m in
    leb-true 1 r.serial (and_parts _ _ (and_parts _ _ (and_parts _ _ (and_parts _ _ form).0).0).0).0

pub serial_is_drawn : {c : Settings} {x : Content} {k : TouchedItem} (h : Touching c x k) → 1 ≤ k.item.serial
serial_is_drawn {k = k} h = item_from_1 h (item_of k.item) (item_there h)

-- ---- its rows

-- a row is that of an item
pub row_item : {c : Settings} {x : Content} {k : TouchedItem} (h : Touching c x k) (r : ItemRow) →
    In r (item_rows c x.state h.queue) → (j : Item) × In j h.queue.items × (row_by_columns (columns_of c x.state) j ≡ r)
row_item {c = c} {x = x} h r m = from_map (row_by_columns (columns_of c x.state)) h.queue.items r
    (subst (In r) (columns_found c x.state h.lawful.lawful.sound h.queue (queue_there h)) m)

-- no two rows have one serial, or one change
pub serial_row : {c : Settings} {x : Content} {k : TouchedItem} (h : Touching c x k) (r o : ItemRow) →
    In r (item_rows c x.state h.queue) → In o (item_rows c x.state h.queue) → r.serial ≡ o.serial → r ≡ o
serial_row {c = c} {x = x} h r o mr mo e =
    let a = row_item h r mr in
    let b = row_item h o mo in
    let there = queue_there h in
    let one = serial_alone c x.state h.lawful.lawful.sound h.queue h.queue a.0 b.0 there there a.1 b.1
    (ap (λ (y : ItemRow). y.serial) a.2 ∙ e ∙ sym (ap (λ (y : ItemRow). y.serial) b.2)) in
    sym a.2 ∙ ap (row_by_columns (columns_of c x.state)) one.1 ∙ b.2

-- the row of the touched item is found by its serial
pub touched_row : {c : Settings} {x : Content} {k : TouchedItem} (h : Touching c x k) →
    find (λ (r : ItemRow). r.serial == k.item.serial) (item_rows c x.state h.queue) ≡ Some k.item
touched_row {c = c} {x = x} {k = k} h =
    let rows = item_rows c x.state h.queue in
    let mine = contains_in rows k.item h.stored in
    found_alone (λ (r : ItemRow). r.serial) rows k.item mine (λ r m e. serial_row h r k.item m mine e)

-- ---- the rows that stand

-- a row stands once the delivery is done
abbrev pub stands : TouchedItem → ItemRow → Bool
stands k r = not (is_out k.event && r.serial == k.item.serial)

all_stand : (rows : List ItemRow) → rows ≡ filter (λ r. true) rows
all_stand rows = sym (filter_all (λ r. true) rows (λ r m. refl))

standing_by : (d : Delivery) (i : Item) (rows : List ItemRow) (e : Event) → event_of d ≡ Some e →
    standing_rows (touch_of d) i rows ≡ filter (λ r. not (is_out e && r.serial == i.serial)) rows
standing_by (delivery.Revision n name r message) i rows e ev =
    ap (λ f. filter (λ (y : ItemRow). not (is_out f && y.serial == i.serial)) rows) (same_Some _ _ ev)
standing_by (delivery.Approved n r) i rows e ev = absurd (none-some e ev)
standing_by (delivery.Withdrawn n r) i rows e ev =
    ap (λ f. filter (λ (y : ItemRow). not (is_out f && y.serial == i.serial)) rows) (same_Some _ _ ev)
standing_by (delivery.Closed n r) i rows e ev =
    ap (λ f. filter (λ (y : ItemRow). not (is_out f && y.serial == i.serial)) rows) (same_Some _ _ ev)
standing_by (delivery.Landed n) i rows e ev =
    ap (λ f. filter (λ (y : ItemRow). not (is_out f && y.serial == i.serial)) rows) (same_Some _ _ ev)
standing_by (delivery.Refused n) i rows e ev =
    ap (λ f. filter (λ (y : ItemRow). not (is_out f && y.serial == i.serial)) rows) (same_Some _ _ ev)
standing_by (delivery.Take worker) i rows e ev = absurd (none-some e ev)
standing_by (delivery.Result n f) i rows e ev = all_stand rows
    ∙ ap (λ g. filter (λ (y : ItemRow). not (is_out g && y.serial == i.serial)) rows) (same_Some _ _ ev)

pub stale_are : {c : Settings} {x : Content} {k : TouchedItem} (h : Touching c x k) →
    stale_rows (delivered h) ≡ filter (stands k) (item_rows c x.state h.queue)
stale_are {c = c} {x = x} {k = k} h =
    standing_by h.delivery (item_of k.item) (item_rows c x.state h.queue) k.event h.event

pub stale_in : {c : Settings} {x : Content} {k : TouchedItem} (h : Touching c x k) (r : ItemRow) →
    In r (stale_rows (delivered h)) → In r (item_rows c x.state h.queue) × (stands k r ≡ true)
stale_in {c = c} {x = x} {k = k} h r m =
    from_filter (stands k) (item_rows c x.state h.queue) r (subst (In r) (stale_are h) m)

pub in_stale : {c : Settings} {x : Content} {k : TouchedItem} (h : Touching c x k) (r : ItemRow) →
    In r (item_rows c x.state h.queue) → stands k r ≡ true → In r (stale_rows (delivered h))
in_stale {c = c} {x = x} {k = k} h r m e =
    subst (In r) (sym (stale_are h)) (to_filter (stands k) (item_rows c x.state h.queue) r m e)
