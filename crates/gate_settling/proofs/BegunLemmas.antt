-- A walk is begun as it is to be: by the settings, the window and the reports of its queue, and the touched row.
use Rattle.std.proofs.Common.{◌≡◌, ℕ, zero, suc, ◌<◌, ◌≤◌, Bool, true, false, cond, Option, Some, None, List, [], ◌∷◌}
use Rattle.std.proofs.Common.{map, length, inl, inr, refl, sym, ap, ◌∙◌, subst, arith, true≢false}
use Rattle.std.specs.Prelude.{find, option_map, option_and_then, flat_map}
use Rattle.std.specs.Option.{option_map_or}
use Rattle.std.proofs.lemmas.Bool.{and_parts, leb-true}
use Rattle.std.proofs.lemmas.Option.{same_Some, none-some}
use Rattle.std.proofs.lemmas.List.{length-append, length-map}
use Rattle.gate_types.specs.declared.config.Queue.{Queue as QueueSetting}
use Rattle.gate_types.specs.declared.records.Item.{Item as ItemRow}
use Rattle.gate_types.specs.declared.records.Report.{Report}
use Rattle.gate_types.specs.declared.deliveries.Delivery.{Delivery}
use Rattle.gate_types.specs.declared.deliveries.Delivery.TheVariants as delivery
use Rattle.gate_types.specs.Names.{same_name}
use Rattle.gate_types.specs.Settings.{default_rule, Settings}
use Rattle.gate_types.specs.State.{Item, Queue, State}
use Rattle.gate_types.specs.Window.{Bounds, bounds_by, bounds_of}
use Rattle.gate_types.specs.Lawful.{serials_of}
use Rattle.gate_types.specs.Rows.{item_of, item_rows}
use Rattle.gate_types.specs.Once.{Content}
use Rattle.gate_types.specs.Forms.{are_counters_in_form}
use Rattle.gate_types.proofs.NameLemmas.{same_name_is}
use Rattle.gate_walk.specs.declared.walk.QueueFacts.{QueueFacts}
use Rattle.gate_walk.specs.declared.walk.Touched.{Touched}
use Rattle.gate_walk.specs.Rescan.{TakenOut, walk_start, fails_at}
use Rattle.gate_walk.specs.TakenOut.{out_of}
use Rattle.gate_walk.specs.Delivery.{touch_of, out_by}
use Rattle.gate_walk.specs.UnderWay.{IsFor, queue_after}
use Rattle.gate_book_trait.specs.Reads.{window_of, reports_in}
use Rattle.gate_reads.specs.Touches.{event_of}
use Rattle.gate_reads.specs.Windows.{window_now}
use Rattle.gate_reads.specs.declared.touched.Event.{Event}
use Rattle.gate_reads.specs.declared.touched.TouchedItem.{TouchedItem}
use Rattle.gate_laws.proofs.Members.{from_map, to_map, from_append, found, not_found}
use Rattle.gate_laws.proofs.Counts.{times, in_times, distinct_from, one_part}
use Rattle.gate_laws.proofs.Alone.{same_name_of}
use Rattle.gate_laws.proofs.Drawn.{item_drawn, report_drawn}
use Rattle.gate_laws.proofs.FewRows.{few_numbers}
use Rattle.gate_settling.specs.Touching.{Touching, delivered}
use Rattle.gate_settling.specs.Rows.{is_out, has_landed, taken_out}
use Rattle.gate_settling.proofs.LeftLemmas.{left, reports_now}
use Rattle.gate_settling.proofs.StandingLemmas.{queue_there, item_there, item_from_1, report_from_1, queue_is}
use Rattle.gate_settling.proofs.StandingLemmas.{touched_row}
use Rattle.gate_types.specs.Counters.{last_number}
use Rattle.gate_types.specs.Rising.{In}

-- ---- the queue is there

-- in the settings
pub set_there : {c : Settings} {x : Content} {k : TouchedItem} (h : Touching c x k) →
    find (λ (q : QueueSetting). same_name q.name k.queue) c.queues ≡ None → ⊥
set_there {c = c} {x = x} {k = k} h none =
    let name : QueueSetting → List ℕ = λ q. q.name in
    let r = from_map name c.queues h.queue.name
    (subst (In h.queue.name) h.lawful.lawful.sound.queues_are_set
    (to_map (λ (q : Queue). q.name) x.state.queues h.queue (queue_there h))) in
    true≢false (sym (same_name_of r.0.name k.queue (r.2 ∙ h.named))
    ∙ not_found (λ (q : QueueSetting). same_name q.name k.queue) c.queues none r.0 r.1)

-- and in the state
pub window_is : {c : Settings} {x : Content} {k : TouchedItem} (h : Touching c x k) →
    window_of x.state k.queue ≡ Some h.queue.window
window_is h = ap (option_map (λ q. q.window)) (queue_is h)

pub reports_are : {c : Settings} {x : Content} {k : TouchedItem} (h : Touching c x k) →
    reports_in x.state k.queue ≡ length h.queue.reports
reports_are h = ap (λ o. option_map_or (λ (q : Queue). length q.reports) o 0) (queue_is h)

-- ---- its reports are fewer than numbers can be drawn

-- each serial of the queue is drawn
serial_drawn : {c : Settings} {x : Content} {k : TouchedItem} (h : Touching c x k) (n : ℕ) → In n (serials_of h.queue) →
    (1 ≤ n) × (n ≤ x.state.counters.order)
serial_drawn {c = c} {x = x} h n m =
    let q = h.queue in
    let s = x.state in
    let sound = h.lawful.lawful.sound in
    elim (from_append (map (λ (i : Item). i.serial) q.items) (map (λ (r : Report). r.serial) q.reports) n m) [
      | inl a ↦ (let i = from_map (λ (i : Item). i.serial) q.items n a in
          let least = item_from_1 h i.0 i.1 in
          let most = item_drawn c s sound q (queue_there h) i.0 i.1 in
          let same = i.2 in
          (omega (arith, least, same), omega (arith, most, same)))
      | inr b ↦ (let r = from_map (λ (r : Report). r.serial) q.reports n b in
          let least = report_from_1 h r.0 r.1 in
          let most = report_drawn c s sound q (queue_there h) r.0 r.1 in
          let same = r.2 in
          (omega (arith, least, same), omega (arith, most, same)))
    ]

serial_once : {c : Settings} {x : Content} {k : TouchedItem} (h : Touching c x k) (n : ℕ) →
    times n (serials_of h.queue) ≤ 1
serial_once {x = x} h n = by_count (times n (serials_of h.queue)) refl
  where
    all_once : times n (flat_map serials_of x.state.queues) ≤ 1
    all_once = distinct_from (flat_map serials_of x.state.queues) h.lawful.lawful.sound.serials_differ n

    by_count : (m : ℕ) → times n (serials_of h.queue) ≡ m → times n (serials_of h.queue) ≤ 1
    by_count zero e = omega (arith, e)
    by_count (suc m) e =
        let there = in_times n (serials_of h.queue) (omega (arith, e)) in
        (one_part n serials_of x.state.queues h.queue h.queue all_once (queue_there h) (queue_there h) there there).1

last_drawn : (s : State) → are_counters_in_form s.counters ≡ true → s.counters.order ≤ last_number
last_drawn s form = leb-true s.counters.order last_number (and_parts _ _ form).1

some_item : (q : Queue) (i : Item) → In i q.items → 1 ≤ length q.items
some_item q i m = by_items q.items m
  where
    by_items : (is : List Item) → In i is → 1 ≤ length is
    by_items [] n = absurd n
    by_items (j ∷ js) n = omega arith

pub few_reports : {c : Settings} {x : Content} {k : TouchedItem} (h : Touching c x k) →
    length h.queue.reports < last_number
few_reports {x = x} {k = k} h =
    let q = h.queue in
    let few = few_numbers (serials_of q) x.state.counters.order (serial_once h) (serial_drawn h) in
    let sum = length-append (map (λ (i : Item). i.serial) q.items) (map (λ (r : Report). r.serial) q.reports) in
    let items = length-map q.items (λ (i : Item). i.serial) in
    let reports = length-map q.reports (λ (r : Report). r.serial) in
    let one = some_item q (item_of k.item) (item_there h) in
    let top = last_drawn x.state h.lawful.in_form.state.counters in
    omega (arith, few, sum, items, reports, one, top)

-- ---- what it begins with

-- what was taken out by an event, if the item left
abbrev out_with : Event → ℕ → Bool → Option TakenOut
out_with e n fails = cond (is_out e) (Some (record { change = n; failing = fails; landed = has_landed e })) None

out_is : (d : Delivery) (i : Item) (rows : List ItemRow) (e : Event) (row : ItemRow) → event_of d ≡ Some e →
    row.change ≡ i.change → fails_at i.serial rows ≡ row.failing →
    out_by (touch_of d) i rows ≡ out_with e row.change row.failing
out_is d i rows e row ev same fails =
    by_kind d ev ∙ (λ t. out_with e (sym same t) (fails t))
  where
    told : Event → Option TakenOut
    told f = out_with f i.change (fails_at i.serial rows)

    by_kind : (b : Delivery) → event_of b ≡ Some e → out_by (touch_of b) i rows ≡ told e
    by_kind (delivery.Revision n name r message) v = ap told (same_Some _ _ v)
    by_kind (delivery.Approved n r) v = absurd (none-some e v)
    by_kind (delivery.Withdrawn n r) v = ap told (same_Some _ _ v)
    by_kind (delivery.Closed n r) v = ap told (same_Some _ _ v)
    by_kind (delivery.Landed n) v = ap told (same_Some _ _ v)
    by_kind (delivery.Refused n) v = ap told (same_Some _ _ v)
    by_kind (delivery.Take worker) v = absurd (none-some e v)
    by_kind (delivery.Result n f) v = ap told (same_Some _ _ v)

pub is_for : {c : Settings} {x : Content} {k : TouchedItem} (h : Touching c x k) (facts : QueueFacts)
    (touched : Touched) →
    find (λ (q : QueueSetting). same_name q.name k.queue) c.queues ≡ Some facts.settings.now →
    facts.window ≡ window_now k.event (bounds_by facts.settings.now) h.queue.window →
    facts.reports ≡ reports_now k.event (length h.queue.reports) → touched.serial ≡ k.item.serial →
    touched.ahead ≡ k.item.ahead → option_map out_of touched.out ≡ taken_out k → IsFor (delivered h) facts touched
is_for {c = c} {x = x} {k = k} h facts touched set window reports serial ahead out =
    let o = queue_after (delivered h) in
    let l = left h in
    let i = item_of k.item in
    let rows = item_rows c x.state h.queue in
    let row = touched_row h in
    let unset : Bounds = record { floor = 1; rule = default_rule } in
    let there = found (λ (q : QueueSetting). same_name q.name k.queue) c.queues facts.settings.now set in
    let named : o.name ≡ k.queue = l.name ∙ h.named in
    let bounds : bounds_by facts.settings.now ≡ bounds_of c o =
    sym (ap (λ n. option_map_or bounds_by (find (λ (r : QueueSetting). same_name r.name n) c.queues) unset) named
    ∙ ap (λ f. option_map_or bounds_by f unset) set) in
    let fails = ap (λ f. option_map_or (λ (r : ItemRow). r.failing) f false) row in
    let was = ap (option_and_then (λ (r : ItemRow). r.ahead)) row in
    let outs = out ∙ sym (out_is h.delivery i rows k.event k.item h.event refl fails) in
    let aheads = ahead ∙ sym was in
    let many = reports ∙ sym l.reports in
    let windows = window ∙ ap (λ n. window_now k.event n h.queue.window) bounds ∙ sym l.window in
    record {
      name = same_name_is facts.settings.now.name k.queue there.1 ∙ sym named;
      bounds = bounds;
      serial = serial;
      begins = λ t. walk_start (outs t) (aheads t) (many t) (windows t);
    }
