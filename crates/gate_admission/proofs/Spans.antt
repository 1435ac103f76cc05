-- A queue has no more items than there are serials from its first to its last.
use Rattle.std.proofs.Common.{◌≡◌, ℕ, ◌+◌, ◌-◌, ◌<◌, ◌≤◌, true, false, cond, Option, Some, None, List, [], ◌∷◌, fold}
use Rattle.std.proofs.Common.{length, refl, sym, ap, ◌∙◌, subst, arith, inl, inr, ⊎_elim, true≢false}
use Rattle.std.specs.Prelude.{nat_lt, nat_le, find, unwrap_or, option_map}
use Rattle.std.specs.Option.{option_map_or}
use Rattle.std.proofs.lemmas.Bool.{and_parts, leb-true, lt-ltb}
use Rattle.std.proofs.lemmas.Option.{none-some}
use Rattle.gate_types.specs.declared.records.Item.{Item as ItemRow}
use Rattle.gate_types.specs.declared.edits.Edit.{Edit}
use Rattle.gate_types.specs.Settings.{Settings}
use Rattle.gate_types.specs.State.{Queue, State}
use Rattle.gate_types.specs.Step.{is_exhausted}
use Rattle.gate_types.specs.Rows.{item_rows, edited_items}
use Rattle.gate_types.specs.Once.{Content}
use Rattle.gate_types.specs.Forms.{IsLawfulContent, is_queue_in_form, is_item_in_form}
use Rattle.gate_book_trait.specs.Reads.{queue_named, items_in, item_count, first_above, last_item_below}
use Rattle.gate_laws.proofs.Members.{every, all_from, not_found, filter_all}
use Rattle.gate_laws.proofs.Rising.{Rising}
use Rattle.gate_laws.proofs.ItemRows.{rows_length}
use Rattle.gate_admission.specs.Led.{IsLed}
use Rattle.gate_admission.specs.Known.{IsQueue, has_room}
use Rattle.gate_admission.specs.Seen.{items_after, grows}
use Rattle.gate_admission.specs.Candidates.{is_full}
use Rattle.gate_admission.proofs.Led.{items_led}
use Rattle.gate_admission.proofs.LastItem.{AtMost, last_of, last_most}
use Rattle.gate_admission.proofs.QueueItems.{rising_after}
use Rattle.gate_admission.proofs.Sizes.{size_step, one_if_most}
use Rattle.gate_admission.proofs.Standing.{queue_in, items_rise, row_is_of, row_drawn}
use Rattle.gate_types.specs.Counters.{last_number}
use Rattle.gate_types.specs.Limits.{most_items}
use Rattle.gate_types.specs.Keys.{serial_of_item}
use Rattle.gate_types.specs.Rising.{In}

-- ---- the rows of a queue

-- a row's serial is above 0
row_positive : (c : Settings) (x : Content) (q : Queue) (r : ItemRow) → IsLawfulContent c x → In q x.state.queues →
    In r (item_rows c x.state q) → 1 ≤ r.serial
row_positive c x q r lawful there m =
    let i = row_is_of c x.state q r m in
    let form = every (λ (p : Queue). is_queue_in_form p ≡ true) x.state.queues lawful.in_form.state.queues q there in
    let items = (and_parts _ _ (and_parts _ _ (and_parts _ _ form).0).0).1 in
    let item = all_from is_item_in_form q.items items i.item i.there in
    let low = leb-true 1 i.item.serial (and_parts _ _ (and_parts _ _ (and_parts _ _ item).0).0).0 in
    let e = i.serial in
    omega (arith, low, e)

-- rising rows between two serials
count_between : (rows : List ItemRow) (low top : ℕ) → Rising serial_of_item rows →
    ((r : ItemRow) → In r rows → low ≤ r.serial) → ((r : ItemRow) → In r rows → r.serial ≤ top) →
    length rows ≤ top + 1 - low
count_between [] low top up lows tops = omega arith
count_between (r ∷ rs) low top up lows tops =
    let rest = count_between rs (r.serial + 1) top up.1 (λ t m. let h = up.0 t m in omega (arith, h))
    (λ t m. tops t (inr m)) in
    let a = lows r (inl refl) in
    let b = tops r (inl refl) in
    omega (arith, rest, a, b)

first_is : (rows : List ItemRow) (f : ItemRow) → ((r : ItemRow) → In r rows → 1 ≤ r.serial) → Rising serial_of_item rows →
    first_above 0 rows ≡ Some f → (r : ItemRow) → In r rows → f.serial ≤ r.serial
first_is [] f low up e r m = absurd m
first_is (y ∷ ys) f low up e r m =
    let first : y ≡ f = ap (λ (o : Option ItemRow). unwrap_or o y)
    (sym (ap (λ b. cond b (Some y) (find (λ (i : ItemRow). nat_lt 0 i.serial) ys))
    (lt-ltb 0 y.serial (let h = low y (inl refl) in omega (arith, h)))) ∙ e) in
    let at = ap (λ (x : ItemRow). x.serial) first in ⊎_elim
    (λ (h : y ≡ r). let same = ap (λ (x : ItemRow). x.serial) h in omega (arith, at, same))
    (λ (h : In r ys). let less = up.0 r h in omega (arith, at, less))
    m

none_above : (rows : List ItemRow) → ((r : ItemRow) → In r rows → 1 ≤ r.serial) → first_above 0 rows ≡ None →
    length rows ≤ 0
none_above [] low e = omega arith
none_above (y ∷ ys) low e = absurd (true≢false
    (sym (lt-ltb 0 y.serial (let h = low y (inl refl) in omega (arith, h)))
    ∙ not_found (λ (i : ItemRow). nat_lt 0 i.serial) (y ∷ ys) e y (inl refl)))

-- a state's serials are up to 10^15
order_small : (s : State) → is_exhausted s ≡ false → s.counters.order ≤ last_number
order_small s h = grind (arith, h)

-- ---- of the queue of a name

module _ (c : Settings) (x : Content) (name : List ℕ) (lawful : IsLawfulContent c x) where
  abbrev pub rows : List ItemRow
  rows = items_in c x.state name

  in_queue : (P : ItemRow → Type 0) → ((q : Queue) → In q x.state.queues → (r : ItemRow) → In r (item_rows c x.state q) → P r) →
      (r : ItemRow) → In r rows → P r
  in_queue P h r m = by_found (queue_named x.state name) refl m
    where
      by_found : (o : Option Queue) → queue_named x.state name ≡ o →
          In r (option_map_or (item_rows c x.state) o []) → P r
      by_found None e k = absurd k
      by_found (Some q) e k = h q (queue_in x.state name q e) r k

  positive : (r : ItemRow) → In r rows → 1 ≤ r.serial
  positive = in_queue (λ r. 1 ≤ r.serial) (λ q there r m. row_positive c x q r lawful there m)

  small : (r : ItemRow) → In r rows → r.serial < 18446744073709551615
  small = in_queue (λ r. r.serial < 18446744073709551615) (λ q there r m.
      let low = row_drawn c x.state q r lawful.lawful.sound there m in
      let top = order_small x.state lawful.lawful.not_exhausted in
      omega (arith, low, top))

  up : Rising serial_of_item rows
  up = items_rise c x.state name lawful.lawful.sound

  pub no_first : first_above 0 rows ≡ None → item_count c x.state name ≤ 0
  no_first e = none_above rows positive e

  pub no_last : last_item_below 18446744073709551615 rows ≡ None → item_count c x.state name ≤ 0
  no_last e = by_rows rows
      (sym (ap (fold (λ (last : Option ItemRow) (i : ItemRow). Some i) None)
      (filter_all (λ (i : ItemRow). nat_lt i.serial 18446744073709551615) rows
      (λ r m. lt-ltb r.serial 18446744073709551615 (small r m)))) ∙ e)
    where
      some_last : (r : ItemRow) (rs : List ItemRow) →
          fold (λ (last : Option ItemRow) (i : ItemRow). Some i) (Some r) rs ≡ None → ⊥
      some_last r [] f = none-some r (sym f)
      some_last r (s ∷ rs) f = some_last s rs f

      by_rows : (rs : List ItemRow) → fold (λ (last : Option ItemRow) (i : ItemRow). Some i) None rs ≡ None →
          length rs ≤ 0
      by_rows [] f = omega arith
      by_rows (r ∷ rs) f = absurd (some_last r rs f)

  pub most : (f l : ItemRow) (n : ℕ) → first_above 0 rows ≡ Some f → last_item_below 18446744073709551615 rows ≡ Some l →
      l.serial < f.serial + n → item_count c x.state name ≤ n
  most f l n first last h =
      let few = count_between rows f.serial l.serial up (first_is rows f positive up first) top in
      omega (arith, few, h)
    where
      top : (r : ItemRow) → In r rows → r.serial ≤ l.serial
      top r m = subst (λ (o : Option ItemRow). AtMost r.serial (option_map serial_of_item o))
          (sym (ap (last_of None) (filter_all (λ (i : ItemRow). nat_lt i.serial 18446744073709551615) rows
          (λ t k. lt-ltb t.serial 18446744073709551615 (small t k)))) ∙ last)
          (last_most None rows r up m)

-- a queue is full where a thousand are counted
pub full_is : (c : Settings) (s : State) (name : List ℕ) → is_full s name ≡ nat_le most_items (item_count c s name)
full_is c s name = by_found (queue_named s name)
  where
    by_found : (o : Option Queue) → option_map_or (λ (q : Queue). nat_le most_items (length q.items)) o false ≡
        nat_le most_items (length (option_map_or (item_rows c s) o []))
    by_found None = refl
    by_found (Some q) = ap (nat_le most_items) (sym (rows_length c s q))

-- ---- after edits

few_added : (name : List ℕ) (items : List ItemRow) (edits : List Edit) → Rising serial_of_item items →
    length (items_after name items edits) ≤ length items + length edits
few_added name items [] rise = omega arith
few_added name items (e ∷ es) rise =
    let rest = few_added name (edited_items name items e) es (rising_after name items (e ∷ []) rise) in
    let step = size_step name items e rise in
    let one = one_if_most (grows name items e) in
    omega (arith, rest, step, one)

-- where its serials don't allow 1,000 it has room
pub room_by_most : (c : Settings) (x : Content) (edits : List Edit) (v : State) (name : List ℕ) (n : ℕ) →
    IsLawfulContent c x → IsLed c x edits v → IsQueue v name → item_count c x.state name ≤ n →
    n + length edits < most_items → has_room v name ≡ true
room_by_most c x edits v name n lawful led there most few =
    let q = there.queue in
    let added = few_added name (items_in c x.state name) edits (items_rise c x.state name lawful.lawful.sound) in
    let same : length (items_after name (items_in c x.state name) edits) ≡ length q.items =
    ap length (items_led c x edits v name led there)
    ∙ ap (λ o. length (option_map_or (item_rows c v) o [])) there.named ∙ rows_length c v q in
    ap (λ (o : Option Queue). option_map_or (λ p. nat_lt (length p.items) most_items) o false) there.named
    ∙ lt-ltb (length q.items) most_items (omega (arith, added, same, most, few))
