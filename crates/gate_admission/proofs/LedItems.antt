-- The items of a queue in the state to which edits lead.
use Rattle.std.proofs.Common.{◌≡◌, ℕ, ◌+◌, ◌<◌, ◌≤◌, ⊎_elim, false, length, Option, Some, List, [], sym, ap, ◌∙◌}
use Rattle.std.proofs.Common.{subst, arith}
use Rattle.std.specs.Prelude.{nat_lt}
use Rattle.std.specs.Option.{option_map_or, option_or}
use Rattle.std.proofs.lemmas.Bool.{lt-ltb, le-ltb, cases_lt}
use Rattle.gate_types.specs.declared.records.Item.{Item as ItemRow}
use Rattle.gate_types.specs.declared.edits.Edit.{Edit}
use Rattle.gate_types.specs.Settings.{Settings}
use Rattle.gate_types.specs.State.{Queue, State}
use Rattle.gate_types.specs.Once.{Content}
use Rattle.gate_types.specs.Rows.{item_rows}
use Rattle.gate_types.specs.Lawful.{IsSound}
use Rattle.gate_book_trait.specs.Reads.{items_in, queued_of, item_count, last_item_below}
use Rattle.gate_laws.proofs.Rising.{Rising}
use Rattle.gate_laws.proofs.ItemRows.{rows_length}
use Rattle.gate_admission.specs.Led.{IsLed}
use Rattle.gate_admission.specs.Known.{IsQueue, has_room}
use Rattle.gate_admission.specs.Seen.{items_after, item_put, item_left}
use Rattle.gate_admission.specs.Enters.{row_of_change, last_row}
use Rattle.gate_admission.proofs.LastItem.{last_is}
use Rattle.gate_admission.proofs.ByChange.{AreOnce, AreTold, by_change}
use Rattle.gate_admission.proofs.Standing.{rows_rise, row_once, row_drawn, queue_in, stored_tells}
use Rattle.gate_admission.proofs.Led.{queue_after_is, items_led}
use Rattle.gate_types.specs.Limits.{most_items}
use Rattle.gate_types.specs.Keys.{serial_of_item}

pub change_led : (c : Settings) (x : Content) (edits : List Edit) (v : State) (name : List ℕ) (n : ℕ) →
    IsSound c x.state → IsLed c x edits v → IsQueue v name →
    option_or (item_put n (items_after name (items_in c x.state name) edits) edits)
    (item_left n (queued_of c x.state n) (items_after name (items_in c x.state name) edits)) ≡
    row_of_change n (items_in c v name)
change_led c x edits v name n sound led there =
    let at = queue_after_is c x edits v name there.queue led there.named in
    let q = there.queue in
    let p = at.before in
    let own = queue_in v name q there.named in
    let rise : Rising serial_of_item (items_after name (item_rows c x.state p) edits) =
    subst (λ (rows : List ItemRow). Rising serial_of_item rows) (sym at.items) (rows_rise c v q led.sound own) in
    let once : AreOnce (items_after name (item_rows c x.state p) edits) =
    subst (λ (rows : List ItemRow). AreOnce rows) (sym at.items) (row_once c v q led.sound own) in
    let told : AreTold n (queued_of c x.state n) (item_rows c x.state p) =
    λ r m e. subst (λ k. (i : _) × (queued_of c x.state k ≡ Some i) × (i.item.serial ≡ r.serial)) e
    (stored_tells c x.state name p r sound at.named m) in
    ap (λ o. option_or (item_put n (items_after name (option_map_or (item_rows c x.state) o []) edits) edits)
    (item_left n (queued_of c x.state n) (items_after name (option_map_or (item_rows c x.state) o []) edits))) at.named
    ∙ by_change name n (queued_of c x.state n) (item_rows c x.state p) edits rise once told
    ∙ ap (row_of_change n) at.items
    ∙ sym (ap (λ o. row_of_change n (option_map_or (item_rows c v) o [])) there.named)

pub last_led : (c : Settings) (x : Content) (edits : List Edit) (v : State) (name : List ℕ) → IsLed c x edits v →
    IsQueue v name → last_item_below (v.counters.order + 1) (items_after name (items_in c x.state name) edits) ≡
    last_row (items_in c v name)
last_led c x edits v name led there =
    let q = there.queue in
    ap (last_item_below (v.counters.order + 1)) (items_led c x edits v name led there)
    ∙ ap (λ o. last_item_below (v.counters.order + 1) (option_map_or (item_rows c v) o [])) there.named
    ∙ last_is (v.counters.order + 1) (item_rows c v q)
    (λ r m. let low = row_drawn c v q r led.sound (queue_in v name q there.named) m in omega (arith, low))
    ∙ sym (ap (λ o. last_row (option_map_or (item_rows c v) o [])) there.named)

-- ---- room

shifted : (a l d : ℕ) → l + d ≡ a → nat_lt a (most_items + d) ≡ nat_lt l most_items
shifted a l d e = ⊎_elim
    (λ (h : l < most_items). lt-ltb a (most_items + d) (omega (arith, h, e)) ∙ sym (lt-ltb l most_items h))
    (λ (h : most_items ≤ l). le-ltb a (most_items + d) (omega (arith, h, e)) ∙ sym (le-ltb l most_items h))
    (cases_lt l most_items)

pub room_led : (c : Settings) (x : Content) (edits : List Edit) (v : State) (name : List ℕ) (items added dropped : ℕ) →
    IsLed c x edits v → IsQueue v name → items ≡ item_count c x.state name →
    length (items_after name (items_in c x.state name) edits) + dropped ≡ length (items_in c x.state name) + added →
    nat_lt (items + added) (most_items + dropped) ≡ has_room v name
room_led c x edits v name items added dropped led there count sum =
    let q = there.queue in
    let new : length (items_after name (items_in c x.state name) edits) ≡ length q.items =
    ap length (items_led c x edits v name led there)
    ∙ ap (λ o. length (option_map_or (item_rows c v) o [])) there.named ∙ rows_length c v q in
    shifted (items + added) (length q.items) dropped (omega (arith, count, new, sum))
    ∙ sym (ap (λ (o : Option Queue). option_map_or (λ q. nat_lt (length q.items) most_items) o false) there.named)
