-- A shown order, by the row of its item: what it touches, and what its queue becomes.
use Rattle.std.proofs.Common.{◌≡◌, ℕ, suc, ◌+◌, Bool, true, false, not, cond, Some, List, [], ◌∷◌, ◌++◌, map, filter}
use Rattle.std.proofs.Common.{length, refl, sym, ap, ◌∙◌, subst, arith, true≢false}
use Rattle.std.specs.Prelude.{◌==◌, find, nat_lt, option_map, unwrap_or}
use Rattle.std.proofs.lemmas.Bool.{ne_eqb, le-ltb, eqb-true, false_from_ne_true}
use Rattle.gate_types.specs.declared.records.Change.{Change}
use Rattle.gate_types.specs.declared.records.Ready.{Ready}
use Rattle.gate_types.specs.declared.records.Landing.{Landing}
use Rattle.gate_types.specs.declared.records.Plan.{Plan}
use Rattle.gate_types.specs.declared.records.Stage.TheVariants as stage
use Rattle.gate_types.specs.declared.records.Verdict.{Verdict}
use Rattle.gate_types.specs.declared.records.Verdict.TheVariants as verdict
use Rattle.gate_types.specs.declared.rows.LandingRow.{LandingRow}
use Rattle.gate_types.specs.declared.edits.Edit.{Edit}
use Rattle.gate_types.specs.declared.edits.Edit.TheVariants as edit
use Rattle.gate_types.specs.declared.deliveries.Delivery.TheVariants as delivery
use Rattle.gate_types.specs.declared.deliveries.Reply.TheVariants as reply
use Rattle.gate_types.specs.Names.{same_name}
use Rattle.gate_types.specs.Settings.{Settings, are_sound}
use Rattle.gate_types.specs.State.{Item, Queue, State, put_by, put_change, put_plan, change_queue, known_change}
use Rattle.gate_types.specs.Window.{Bounds, grow, shrink, bounds_of}
use Rattle.gate_types.specs.Admit.{without_ready}
use Rattle.gate_types.specs.SubmitOrder.{Order, orders}
use Rattle.gate_types.specs.Rows.{item_of}
use Rattle.gate_types.specs.Step.{left_queue, leave, landed_queue, landed_plan, shrunk_queue, with_landing}
use Rattle.gate_types.specs.Step.{with_stage, Stepped, raw_landed, raw_refused, accepted}
use Rattle.gate_types.specs.Once.{Content}
use Rattle.gate_types.specs.Tables.{numbered_landings}
use Rattle.gate_types.specs.Lawful.{IsSound}
use Rattle.gate_types.specs.Rising.{In}
use Rattle.gate_types.proofs.NameLemmas.{same_name_is}
use Rattle.gate_book_trait.specs.declared.rows.QueuedItem.{QueuedItem}
use Rattle.gate_laws.proofs.Members.{map_same, map_map, from_map, found, filter_all}
use Rattle.gate_laws.proofs.Alone.{name_alone, same_name_of, queued_unready}
use Rattle.gate_laws.proofs.OrderFacts.{shows}
use Rattle.gate_laws.proofs.RecordedChange.{known_number}
use Rattle.gate_reads.specs.Moves.{Columns, in_state, Moves}
use Rattle.gate_reads.specs.declared.touched.QueueFigures.{QueueFigures}
use Rattle.gate_reads.specs.Touches.{AreFigures, Touches}
use Rattle.gate_reads.specs.declared.touched.Event.TheVariants as event
use Rattle.gate_queue_rules.specs.Edits.{window_edits}
use Rattle.gate_ruling.specs.Guards.{HasOrder}
use Rattle.gate_ruling.specs.Landing.{landing_of_row, landing_edits}
use Rattle.gate_reads.specs.Windows.{bounds_if}
use Rattle.gate_ruling.proofs.Folded.{shown, shown_after, by_parts}
use Rattle.gate_ruling.proofs.Stored.{Stored}

-- ---- the order of a row

serial_is : (c : Settings) (s : State) (number : ℕ) (k : QueuedItem) → HasOrder c s number k →
    k.item.serial == number ≡ true
serial_is c s number k h =
    ap (λ (i : Item). i.serial == number) h.row.item
    ∙ (found (λ (o : Order). o.item.serial == number) (orders c s) h.order h.shown).1

pub landed_touches : (c : Settings) (s : State) (number : ℕ) (k : QueuedItem) (f : QueueFigures) →
    HasOrder c s number k → AreFigures s k.queue f →
    Touches c s (delivery.Landed number)
    (Some (record { queue = k.queue; item = k.item; event = event.Landed; figures = f }))
landed_touches c s number k f h figures = record {
  queue = ap (option_map (λ o. o.queue.name)) h.shown ∙ ap Some (sym h.row.queue);
  there = h.row.stored;
  on = serial_is c s number k h;
  event = refl;
  figures = figures;
}

pub refused_touches : (c : Settings) (s : State) (number : ℕ) (k : QueuedItem) (f : QueueFigures) →
    HasOrder c s number k → AreFigures s k.queue f →
    Touches c s (delivery.Refused number)
    (Some (record { queue = k.queue; item = k.item; event = event.Left verdict.Refused; figures = f }))
refused_touches c s number k f h figures = record {
  queue = ap (option_map (λ o. o.queue.name)) h.shown ∙ ap Some (sym h.row.queue);
  there = h.row.stored;
  on = serial_is c s number k h;
  event = refl;
  figures = figures;
}

-- the order's queue is that of the row
pub same_queue : (c : Settings) (s : State) (number : ℕ) (k : QueuedItem) → are_sound c ≡ true → IsSound c s →
    (o : HasOrder c s number k) → (h : Stored c s k.queue k.item) → h.queue ≡ o.order.queue
same_queue c s number k settings sound o h =
    name_alone c s settings sound h.queue o.order.queue h.there (shows c s number o.order o.shown).queue_in
    (same_name_of h.queue.name o.order.queue.name (same_name_is h.queue.name k.queue h.named ∙ o.row.queue))

-- ---- one queue changed

turned : (a b : List ℕ) (t : Bool) → same_name a b ≡ t → same_name b a ≡ t
turned a b true e = same_name_of b a (sym (same_name_is a b e))
turned a b false e =
    false_from_ne_true (same_name b a) (λ f. true≢false (sym (same_name_of a b (sym (same_name_is b a f))) ∙ e))

-- among queues that the item left, the one of the row's name is the row's
left_alone : (c : Settings) (s : State) (k : QueuedItem) (v : Verdict) (n : ℕ) → are_sound c ≡ true → IsSound c s →
    (h : Stored c s k.queue k.item) → (q : Queue) → In q (map (left_queue v n) s.queues) →
    same_name q.name k.queue ≡ true → left_queue v n h.queue ≡ q
left_alone c s k v n settings sound h q m e =
    let x = from_map (left_queue v n) s.queues q m in
    let name : x.0.name ≡ q.name = ap (λ (o : Queue). o.name) x.2 in
    let same = same_name_of h.queue.name x.0.name (same_name_is h.queue.name k.queue h.named
    ∙ sym (name ∙ same_name_is q.name k.queue e)) in
    ap (left_queue v n) (name_alone c s settings sound h.queue x.0 h.there x.1 same) ∙ x.2

queues_changed : (columns : ℕ → Columns) (edits : List Edit) (name : List ℕ) (f : Queue → Queue) (qs : List Queue) →
    ((q : Queue) → In q qs → same_name q.name name ≡ true → shown_after columns edits q ≡ shown columns (f q)) →
    ((q : Queue) → same_name name q.name ≡ false → shown_after columns edits q ≡ shown columns q) →
    map (shown_after columns edits) qs
    ≡ map (shown columns) (map (λ q. cond (same_name q.name name) (f q) q) qs)
queues_changed columns edits name f qs own other =
    map_same (shown_after columns edits) (λ q. shown columns (cond (same_name q.name name) (f q) q)) qs
    (λ q m. by_name q m (same_name q.name name) refl)
    ∙ sym (map_map (shown columns) (λ (q : Queue). cond (same_name q.name name) (f q) q) qs)
  where
    by_name : (q : Queue) → In q qs → (t : Bool) → same_name q.name name ≡ t →
        shown_after columns edits q ≡ shown columns (cond t (f q) q)
    by_name q m true e = own q m e
    by_name q m false e = other q (turned q.name name false e)

-- the queues that an item left, where edits change the row's alone
one_changed : (c : Settings) (s : State) (k : QueuedItem) (v : Verdict) → are_sound c ≡ true → IsSound c s →
    (h : Stored c s k.queue k.item) → (columns : ℕ → Columns) (edits : List Edit) (f : Queue → Queue) →
    (let left = left_queue v k.item.change h.queue in shown_after columns edits left ≡ shown columns (f left)) →
    ((q : Queue) → same_name k.queue q.name ≡ false → shown_after columns edits q ≡ shown columns q) →
    (let left = map (left_queue v k.item.change) s.queues in
    map (shown_after columns edits) left
    ≡ map (shown columns) (map (λ q. cond (same_name q.name k.queue) (f q) q) left))
one_changed c s k v settings sound h columns edits f own other =
    queues_changed columns edits k.queue f (map (left_queue v k.item.change) s.queues)
    (λ q m e. subst (λ o. shown_after columns edits o ≡ shown columns (f o))
    (left_alone c s k v k.item.change settings sound h q m e) own)
    other

-- ---- `refused`

-- the lines on a shown order
abbrev pub refusing : Settings → State → Order → Stepped
refusing c s o =
    accepted reply.Removed (change_queue o.queue.name (shrunk_queue c) (leave verdict.Refused o.item.change s))

pub refused_raw : (c : Settings) (s : State) (number : ℕ) (k : QueuedItem) → (h : HasOrder c s number k) →
    raw_refused c s number
    ≡ accepted reply.Removed (change_queue k.queue (shrunk_queue c) (leave verdict.Refused k.item.change s))
refused_raw c s number k h =
    h.goes (refusing c s)
    ∙ (λ i. accepted reply.Removed (change_queue (sym h.row.queue i) (shrunk_queue c)
    (leave verdict.Refused (sym h.row.item i).change s)))

-- what the settings say of the window of the queue of a name
abbrev pub bounds_named : Settings → List ℕ → Bounds
bounds_named c name = bounds_if (find (λ r. same_name r.name name) c.queues)

-- its window is set, where it isn't so small already
pub shrinks : (c : Settings) (x : Content) (k : QueuedItem) → are_sound c ≡ true → IsSound c x.state →
    (h : Stored c x.state k.queue k.item) → (w : ℕ) →
    w ≡ shrink h.queue.window (bounds_named c k.queue).floor (bounds_named c k.queue).rule →
    Moves (in_state x (leave verdict.Refused k.item.change x.state)) (window_edits k.queue h.queue.window w)
    (change_queue k.queue (shrunk_queue c) (leave verdict.Refused k.item.change x.state))
shrinks c x k settings sound h w is = by_test (h.queue.window == w) refl
  where
    t : State
    t = leave verdict.Refused k.item.change x.state

    left : Queue
    left = left_queue verdict.Refused k.item.change h.queue

    window : w ≡ shrink h.queue.window (bounds_of c left).floor (bounds_of c left).rule
    window =
        is ∙ ap (λ m. shrink h.queue.window (bounds_named c m).floor (bounds_named c m).rule)
        (sym (same_name_is h.queue.name k.queue h.named))

    by_test : (b : Bool) → (h.queue.window == w) ≡ b →
        Moves (in_state x t) (cond b [] (edit.SetWindow k.queue w ∷ [])) (change_queue k.queue (shrunk_queue c) t)
    by_test true e = by_parts (in_state x t) [] (change_queue k.queue (shrunk_queue c) t) (record {
      changes = refl;
      queues = λ columns. one_changed c x.state k verdict.Refused settings sound h columns [] (shrunk_queue c)
          (ap (λ u. record (shown columns left) { window = u }) (eqb-true h.queue.window w e ∙ window))
          (λ q apart. refl);
      plans = refl;
      builds = refl;
      counters = refl;
      kept = refl;
    })
    by_test false e =
        let edits : List Edit = edit.SetWindow k.queue w ∷ [] in
        by_parts (in_state x t) edits (change_queue k.queue (shrunk_queue c) t) (record {
          changes = refl;
          queues = λ columns. one_changed c x.state k verdict.Refused settings sound h columns edits (shrunk_queue c)
              (ap (λ b. record (shown columns left) { window = cond b w left.window })
              (turned h.queue.name k.queue true h.named)
              ∙ ap (λ u. record (shown columns left) { window = u }) window)
              (λ q apart. ap (λ b. record (shown columns q) { window = cond b w q.window }) apart);
          plans = refl;
          builds = refl;
          counters = refl;
          kept = refl;
        })

-- ---- `landed`

-- a landing behind all others
put_last : (k : ℕ) (ls : List Landing) (l : Landing) (n : ℕ) → n ≡ k + length ls →
    put_by (λ (x : LandingRow). x.place) (record { place = n + 1; landing = l }) (numbered_landings k ls)
    ≡ numbered_landings k (ls ++ l ∷ [])
put_last k [] l n e = let at : n + 1 ≡ suc k = omega arith in ap (λ m. record { place = m; landing = l } ∷ []) at
put_last k (x ∷ ls) l n e =
    let new : LandingRow = record { place = n + 1; landing = l } in
    let first : LandingRow = record { place = suc k; landing = x } in
    let rest = put_by (λ (y : LandingRow). y.place) new (numbered_landings (suc k) ls) in
    ap (λ t. cond t (new ∷ numbered_landings (suc k) ls) (cond (nat_lt (n + 1) (suc k))
    (new ∷ first ∷ numbered_landings (suc k) ls) (first ∷ rest))) (ne_eqb (n + 1) (suc k) (λ s. omega (arith, s)))
    ∙ ap (λ t. cond t (new ∷ first ∷ numbered_landings (suc k) ls) (first ∷ rest))
    (le-ltb (n + 1) (suc k) (omega arith))
    ∙ ap (λ r. first ∷ r) (put_last (suc k) ls l n (omega arith))

-- its landing stands last
last_row : (q : Queue) (l : Landing) (place : ℕ) → place ≡ length q.landings + 1 →
    put_by (λ (y : LandingRow). y.place) (record { place = place; landing = l }) (numbered_landings 0 q.landings)
    ≡ numbered_landings 0 (q.landings ++ l ∷ [])
last_row q l place at =
    ap (λ n. put_by (λ (y : LandingRow). y.place) (record { place = n; landing = l }) (numbered_landings 0 q.landings)) at
    ∙ put_last 0 q.landings l (length q.landings) (omega arith)

-- and its window is set, where it grows
pub lands : (c : Settings) (x : Content) (k : QueuedItem) → are_sound c ≡ true → IsSound c x.state →
    (h : Stored c x.state k.queue k.item) → (plans : List Plan) (place w : ℕ) →
    place ≡ length h.queue.landings + 1 → w ≡ grow h.queue.window (bounds_named c k.queue).rule →
    Moves (in_state x (record (leave (verdict.Landed place) k.item.change x.state) { plans = plans }))
    (landing_edits k place h.queue.window w)
    (change_queue k.queue (landed_queue c (item_of k.item))
    (record (leave (verdict.Landed place) k.item.change x.state) { plans = plans }))
lands c x k settings sound h plans place w at is = by_test (h.queue.window == w) refl
  where
    t : State
    t = record (leave (verdict.Landed place) k.item.change x.state) { plans = plans }

    left : Queue
    left = left_queue (verdict.Landed place) k.item.change h.queue

    f : Queue → Queue
    f = landed_queue c (item_of k.item)

    window : w ≡ grow h.queue.window (bounds_of c left).rule
    window = is ∙ ap (λ m. grow h.queue.window (bounds_named c m).rule) (sym (same_name_is h.queue.name k.queue h.named))

    put : Edit
    put = edit.PutLanding k.queue place (landing_of_row k.item)

    new : List LandingRow → List LandingRow
    new ls = put_by (λ (y : LandingRow). y.place) (record { place = place; landing = landing_of_row k.item }) ls

    rows : new (numbered_landings 0 h.queue.landings) ≡ numbered_landings 0 (h.queue.landings ++ landing_of_row k.item ∷ [])
    rows = last_row h.queue (landing_of_row k.item) place at

    there : same_name k.queue h.queue.name ≡ true
    there = turned h.queue.name k.queue true h.named

    by_test : (b : Bool) → (h.queue.window == w) ≡ b →
        Moves (in_state x t) (put ∷ cond b [] (edit.SetWindow k.queue w ∷ [])) (change_queue k.queue f t)
    by_test true e = by_parts (in_state x t) (put ∷ []) (change_queue k.queue f t) (record {
      changes = refl;
      queues = λ columns. one_changed c x.state k (verdict.Landed place) settings sound h columns (put ∷ []) f
          (ap (λ b. record (shown columns left) {
            landings = cond b (new (numbered_landings 0 h.queue.landings)) (numbered_landings 0 h.queue.landings);
          }) there
          ∙ (λ i. record (shown columns left) {
            landings = rows i;
            window = (eqb-true h.queue.window w e ∙ window) i;
          }))
          (λ q apart. ap (λ b. record (shown columns q) {
            landings = cond b (new (numbered_landings 0 q.landings)) (numbered_landings 0 q.landings);
          }) apart);
      plans = refl;
      builds = refl;
      counters = refl;
      kept = refl;
    })
    by_test false e =
        let edits : List Edit = put ∷ edit.SetWindow k.queue w ∷ [] in
        by_parts (in_state x t) edits (change_queue k.queue f t) (record {
          changes = refl;
          queues = λ columns. one_changed c x.state k (verdict.Landed place) settings sound h columns edits f
              (ap (λ b. record (shown columns left) {
                landings = cond b (new (numbered_landings 0 h.queue.landings)) (numbered_landings 0 h.queue.landings);
                window = cond b w h.queue.window;
              }) there
              ∙ (λ i. record (shown columns left) { landings = rows i; window = window i }))
              (λ q apart. ap (λ b. record (shown columns q) {
                landings = cond b (new (numbered_landings 0 q.landings)) (numbered_landings 0 q.landings);
                window = cond b w q.window;
              }) apart);
          plans = refl;
          builds = refl;
          counters = refl;
          kept = refl;
        })

-- the state that `landed` leaves
abbrev pub landed_state : Settings → QueuedItem → ℕ → Change → State → State
landed_state c k place known s =
    put_change (record known { stage = stage.Landed }) (without_ready known.number
    (put_plan (landed_plan s k.item.serial)
    (change_queue k.queue (landed_queue c (item_of k.item)) (leave (verdict.Landed place) k.item.change s))))

-- the lines on a shown order
abbrev pub landing : Settings → State → Order → Stepped
landing c s o =
    let n = length o.queue.landings + 1 in accepted (reply.Landed n) (with_landing c n o s)

pub landed_raw : (c : Settings) (s : State) (number : ℕ) (k : QueuedItem) (known : Change) → IsSound c s →
    (o : HasOrder c s number k) → (h : Stored c s k.queue k.item) → h.queue ≡ o.order.queue →
    known_change s k.item.change ≡ Some known → (place : ℕ) → place ≡ length h.queue.landings + 1 →
    raw_landed c s number ≡ accepted (reply.Landed place) (landed_state c k place known s)
landed_raw c s number k known sound o h same is place at =
    let n = k.item.change in
    let unknown : Change = record { number = n; project = []; revision = 0; stage = stage.Closed; needs = [] } in
    let ready : s.ready ≡ filter (λ r. not (r.change == known.number)) s.ready =
    sym (filter_all (λ (r : Ready). not (r.change == known.number)) s.ready (λ r m.
    ap not (false_from_ne_true (r.change == known.number) (λ e.
    queued_unready c s sound h.queue (item_of k.item) h.there h.item r m
    (eqb-true r.change known.number e ∙ known_number s n known is))))) in
    let count : length o.order.queue.landings + 1 ≡ place =
    ap (λ (q : Queue). length q.landings + 1) (sym same) ∙ sym at in
    o.goes (landing c s)
    ∙ (λ i. accepted (reply.Landed (count i)) (with_stage stage.Landed (sym o.row.item i).change
    (put_plan (landed_plan s (sym o.row.item i).serial)
    (change_queue (sym o.row.queue i) (landed_queue c (sym o.row.item i))
    (leave (verdict.Landed (count i)) (sym o.row.item i).change s)))))
    ∙ (λ i. accepted (reply.Landed place) (record (put_change
    (record (unwrap_or (is i) unknown) { stage = stage.Landed })
    (put_plan (landed_plan s k.item.serial)
    (change_queue k.queue (landed_queue c (item_of k.item)) (leave (verdict.Landed place) n s)))) { ready = ready i }))
