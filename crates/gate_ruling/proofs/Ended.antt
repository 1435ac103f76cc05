-- A build has ended: what that leaves, and what it touches.
use Rattle.std.proofs.Common.{◌≡◌, ℕ, true, false, ◌&&◌, Option, Some, None, [], ◌∷◌, map, refl, sym, ap, ◌∙◌, subst}
use Rattle.std.proofs.Common.{true≢false}
use Rattle.std.specs.Prelude.{◌==◌, find, option_map}
use Rattle.std.specs.Option.{option_map_or}
use Rattle.std.proofs.lemmas.Bool.{and_parts, eq-eqb, eqb-true}
use Rattle.std.proofs.lemmas.Option.{none-some}
use Rattle.gate_types.specs.declared.records.Build.{Build}
use Rattle.gate_types.specs.declared.records.Item.{Item as ItemRow}
use Rattle.gate_types.specs.declared.deliveries.Delivery.TheVariants as delivery
use Rattle.gate_types.specs.declared.deliveries.Ending.{Ending}
use Rattle.gate_types.specs.declared.deliveries.Refusal.TheVariants as refusal
use Rattle.gate_types.specs.declared.deliveries.Reply.TheVariants as reply
use Rattle.gate_types.specs.declared.edits.Edit.TheVariants as edit
use Rattle.gate_types.specs.Settings.{Settings, are_sound}
use Rattle.gate_types.specs.State.{Item, Queue, State}
use Rattle.gate_types.specs.Standing.{places}
use Rattle.gate_types.specs.Slot.{is_running}
use Rattle.gate_types.specs.Step.{build_of, end_build, outcome_of_ending, raw_result, accepted, refused}
use Rattle.gate_types.specs.Rows.{item_of, row_of, item_rows}
use Rattle.gate_types.specs.Once.{Content}
use Rattle.gate_types.specs.Lawful.{IsSound, is_sound_build}
use Rattle.gate_book_trait.specs.Reads.{queue_named, queued_items, item_at, items_in}
use Rattle.gate_book_trait.specs.declared.rows.QueuedItem.{QueuedItem}
use Rattle.gate_laws.specs.Touch.{has_serial, queue_of_serial}
use Rattle.gate_laws.proofs.Members.{every, found, not_found, from_map, from_flat, in_contains, any_from, any_to}
use Rattle.gate_laws.proofs.Facts.{build_facts}
use Rattle.gate_laws.proofs.Tests.{implied}
use Rattle.gate_laws.proofs.Alone.{serial_alone}
use Rattle.gate_types.specs.Names.{same_name}
use Rattle.gate_types.specs.Rising.{In}
use Rattle.gate_types.proofs.NameLemmas.{same_name_is}
use Rattle.gate_laws.proofs.Places.{item_of_place}
use Rattle.gate_reads.specs.Moves.{Moves}
use Rattle.gate_reads.specs.declared.touched.QueueFigures.{QueueFigures}
use Rattle.gate_reads.specs.Touches.{AreFigures, Touches}
use Rattle.gate_reads.specs.declared.touched.Event.TheVariants as event
use Rattle.gate_reads.proofs.Queues.{named_itself}
use Rattle.gate_ruling.proofs.Folded.{by_parts}

-- the row of a serial is one of a queue of the state
record AtSerial (c : Settings) (s : State) (n : ℕ) (row : ItemRow) : Type 0 where
  queue : Queue
  there : In queue s.queues
  stored : In row (item_rows c s queue)
  item : In (item_of row) queue.items
  serial : row.serial ≡ n

at_serial : (c : Settings) (s : State) (n : ℕ) (row : ItemRow) → item_at c s n ≡ Some row → AtSerial c s n row
at_serial c s n row h = by_found (find (λ k. k.item.serial == n) (queued_items c s)) refl h
  where
    by_found : (o : Option QueuedItem) → find (λ k. k.item.serial == n) (queued_items c s) ≡ o →
        option_map (λ k. k.item) o ≡ Some row → AtSerial c s n row
    by_found None e f = absurd (none-some row f)
    by_found (Some k) e f =
        let same : k.item ≡ row = ap (λ o. option_map_or (λ r. r) o k.item) f in
        let x = found (λ (k : QueuedItem). k.item.serial == n) (queued_items c s) k e in
        let q = from_flat (λ (q : Queue). map (λ i. record { queue = q.name; item = i }) (item_rows c s q)) s.queues k
        x.0 in
        let i = from_map (λ (i : ItemRow). record { queue = q.0.name; item = i }) (item_rows c s q.0) k q.2 in
        let is : i.0 ≡ row = ap (λ (k : QueuedItem). k.item) i.2 ∙ same in
        let stored = subst (λ r. In r (item_rows c s q.0)) is i.1 in
        let p = from_map (row_of s.builds) (places c s q.0) row stored in
        let y = item_of_place c s q.0 p.0 p.1 in
        record {
          queue = q.0;
          there = q.1;
          stored = stored;
          item = subst (λ j. In j q.0.items) (ap (λ r. r.item) y.3 ∙ ap item_of p.2) y.2;
          serial = ap (λ (r : ItemRow). r.serial) (sym same) ∙ eqb-true k.item.serial n x.1;
        }

-- a serial finds the queue of its item
serial_queue : (c : Settings) (s : State) → IsSound c s → (q : Queue) → In q s.queues → (i : Item) → In i q.items →
    queue_of_serial s i.serial ≡ Some q.name
serial_queue c s sound q m i mi = by_found (find (λ o. has_serial o.items i.serial) s.queues) refl
  where
    here : has_serial q.items i.serial ≡ true
    here = any_to (λ (j : Item). j.serial == i.serial) q.items i mi (eq-eqb i.serial i.serial refl)

    by_found : (o : Option Queue) → find (λ o. has_serial o.items i.serial) s.queues ≡ o →
        option_map (λ q. q.name) o ≡ Some q.name
    by_found None e =
        absurd (true≢false (sym here ∙ not_found (λ (o : Queue). has_serial o.items i.serial) s.queues e q m))
    by_found (Some o) e =
        let x = found (λ (o : Queue). has_serial o.items i.serial) s.queues o e in
        let j = any_from (λ (j : Item). j.serial == i.serial) o.items x.1 in
        let one = serial_alone c s sound o q j.0 i x.0 m j.1 mi (eqb-true j.0.serial i.serial j.2) in
        ap (λ (q : Queue). Some q.name) one.0

pub ended_touches : (c : Settings) (s : State) (n : ℕ) (e : Ending) (b : Build) (row : ItemRow) (f : QueueFigures) →
    are_sound c ≡ true → IsSound c s → build_of s n ≡ Some b → item_at c s b.serial ≡ Some row →
    AreFigures s b.queue f → Touches c s (delivery.Result n e)
    (Some (record { queue = b.queue; item = row; event = event.Ended n e; figures = f }))
ended_touches c s n e b row f settings sound known there figures =
    let h = at_serial c s b.serial row there in
    let q = h.queue in
    let mb = (found (λ (y : Build). y.number == n) s.builds b known).0 in
    let facts = build_facts s b (every (λ y. is_sound_build s y ≡ true) s.builds sound.builds_are_sound b mb) in
    let own = implied (b.serial == row.serial) (same_name b.queue q.name && _)
    (facts.owned q h.there (item_of row) h.item) (eq-eqb b.serial row.serial (sym h.serial)) in
    let name : b.queue ≡ q.name = same_name_is b.queue q.name (and_parts (same_name b.queue q.name) _ own).0 in
    let first = ap (queue_named s) name ∙ named_itself c s settings sound q h.there in
    record {
      queue = ap (λ o. option_map_or (λ (y : Build). queue_of_serial s y.serial) o None) known
          ∙ ap (queue_of_serial s) (sym h.serial) ∙ serial_queue c s sound q h.there (item_of row) h.item
          ∙ ap Some (sym name);
      there = in_contains (items_in c s b.queue) row
          (subst (λ o. In row (option_map_or (item_rows c s) o [])) (sym first) h.stored);
      on = ap (λ o. option_map_or (λ (y : Build). y.serial == row.serial) o false) known
          ∙ eq-eqb b.serial row.serial (sym h.serial);
      event = refl;
      figures = figures;
    }

pub ended_moves : (x : Content) (n : ℕ) (e : Ending) →
    Moves x (edit.SetOutcome n (outcome_of_ending e) ∷ []) (end_build e n x.state)
ended_moves x n e =
    by_parts x (edit.SetOutcome n (outcome_of_ending e) ∷ []) (end_build e n x.state) (record {
      changes = refl;
      queues = λ columns. refl;
      plans = refl;
      builds = refl;
      counters = refl;
      kept = refl;
    })

pub unknown_raw : (s : State) (n : ℕ) (e : Ending) → build_of s n ≡ None →
    raw_result s n e ≡ refused refusal.UnknownBuild
unknown_raw s n e none = rw none refl

pub late_raw : (s : State) (n : ℕ) (e : Ending) (b : Build) → build_of s n ≡ Some b →
    b.live && is_running b.outcome ≡ false → raw_result s n e ≡ accepted reply.Stale s
late_raw s n e b known late = rw (known, late) refl

pub ended_raw : (s : State) (n : ℕ) (e : Ending) (b : Build) → build_of s n ≡ Some b →
    b.live && is_running b.outcome ≡ true → raw_result s n e ≡ accepted reply.Noted (end_build e n s)
ended_raw s n e b known runs = rw (known, runs) refl
