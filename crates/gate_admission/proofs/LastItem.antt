-- The last item of a queue after edits, below a serial.
use Rattle.std.proofs.Common.{◌≡◌, ◌≢◌, ℕ, suc, ◌-◌, ◌<◌, ◌≤◌, ◌⊎◌, inl, inr, ⊎_elim, Bool, true, false, ◌&&◌, cond}
use Rattle.std.proofs.Common.{Option, Some, None, List, [], ◌∷◌, filter, fold, length, refl, sym, ap, ◌∙◌, subst}
use Rattle.std.proofs.Common.{arith, true≢false}
use Rattle.std.specs.Prelude.{nat_lt, slice_get, ◌==◌, option_map, option_and_then, is_some, IfSome}
use Rattle.std.specs.Option.{option_map_or}
use Rattle.std.proofs.lemmas.Bool.{eqb-true, eq-eqb, ltb-true, ltb-false, lt-ltb, le-ltb}
use Rattle.std.proofs.lemmas.Option.{none-some}
use Rattle.gate_types.specs.declared.records.Item.{Item as ItemRow}
use Rattle.gate_types.specs.declared.edits.Edit.{Edit}
use Rattle.gate_types.specs.declared.edits.Edit.TheVariants as edit
use Rattle.gate_types.specs.Names.{same_name}
use Rattle.gate_types.specs.Keys.{serial_of_item}
use Rattle.gate_types.specs.Rising.{In}
use Rattle.gate_book_trait.specs.Reads.{last_item_below}
use Rattle.gate_laws.proofs.Members.{found, not_found, from_filter, to_filter, filter_none, filter_all, filter_same}
use Rattle.gate_laws.proofs.Rising.{Rising, rising_filter}
use Rattle.gate_admission.specs.Seen.{items_after, row_of_serial, if_at, later, put_below, last_put_below}
use Rattle.gate_admission.specs.Enters.{last_row}
use Rattle.gate_admission.proofs.QueueItems.{at_there, Puts, PutBy, from_after}

-- a serial is at most one that is there
abbrev pub AtMost : ℕ → Option ℕ → Type 0
AtMost n None = ⊥
AtMost n (Some k) = n ≤ k

later_left : (n : ℕ) (a b : Option ℕ) → AtMost n a → AtMost n (later a b)
later_left n None b h = absurd h
later_left n (Some a) None h = h
later_left n (Some a) (Some b) h = omega (arith, h)

later_right : (n : ℕ) (a b : Option ℕ) → AtMost n b → AtMost n (later a b)
later_right n None b h = h
later_right n (Some a) None h = absurd h
later_right n (Some a) (Some b) h = omega (arith, h)

-- ---- by edits

abbrev pub last_from : List ℕ → ℕ → Option ℕ → List Edit → Option ℕ
last_from name end o edits = fold (λ last e. later last (put_below name end e)) o edits

stays_most : (name : List ℕ) (end n : ℕ) (o : Option ℕ) (edits : List Edit) → AtMost n o →
    AtMost n (last_from name end o edits)
stays_most name end n o [] h = h
stays_most name end n o (e ∷ es) h =
    stays_most name end n (later o (put_below name end e)) es (later_left n o (put_below name end e) h)

put_at : (name : List ℕ) (end : ℕ) (r : ItemRow) (e : Edit) → Puts name r e → r.serial < end →
    put_below name end e ≡ Some r.serial
put_at name end r (edit.PutItem q i) puts l =
    (λ k. cond (puts.0 k && nat_lt (puts.1 k).serial end) (Some (puts.1 k).serial) None)
    ∙ ap (λ b. cond b (Some r.serial) None) (lt-ltb r.serial end l)
put_at name end r (edit.DropItem k) puts l = absurd puts
put_at name end r (edit.LandItem k) puts l = absurd puts
put_at name end r (edit.PutChange k a) puts l = absurd puts
put_at name end r (edit.SetStage k g) puts l = absurd puts
put_at name end r (edit.PutPlan k) puts l = absurd puts
put_at name end r (edit.PutLanding q p x) puts l = absurd puts
put_at name end r (edit.PutReport q p x) puts l = absurd puts
put_at name end r (edit.PutBuild b) puts l = absurd puts
put_at name end r (edit.SetOutcome b o) puts l = absurd puts
put_at name end r (edit.StopBuild b) puts l = absurd puts
put_at name end r (edit.SetWindow q w) puts l = absurd puts
put_at name end r (edit.SetCounter k d) puts l = absurd puts
put_at name end r (edit.Keep k) puts l = absurd puts

put_most : (name : List ℕ) (end : ℕ) (r : ItemRow) (o : Option ℕ) (edits : List Edit) → PutBy name r edits →
    r.serial < end → AtMost r.serial (last_from name end o edits)
put_most name end r o [] puts l = absurd puts
put_most name end r o (e ∷ es) puts l = ⊎_elim
    (λ (p : Puts name r e).
    let here : AtMost r.serial (put_below name end e) =
    subst (AtMost r.serial) (sym (put_at name end r e p l)) (let same : r.serial ≤ r.serial = omega arith in same) in
    stays_most name end r.serial (later o (put_below name end e)) es
    (later_right r.serial o (put_below name end e) here))
    (λ (p : PutBy name r es). put_most name end r (later o (put_below name end e)) es p l)
    puts

-- ---- by rows

abbrev pub last_of : Option ItemRow → List ItemRow → Option ItemRow
last_of o rows = fold (λ last i. Some i) o rows

most_from : (n : ℕ) (o : Option ItemRow) (rows : List ItemRow) → AtMost n (option_map (λ i. i.serial) o) →
    ((y : ItemRow) → In y rows → n ≤ y.serial) → AtMost n (option_map (λ i. i.serial) (last_of o rows))
most_from n o [] h all = h
most_from n o (y ∷ ys) h all = most_from n (Some y) ys (all y (inl refl)) (λ z m. all z (inr m))

pub last_most : (o : Option ItemRow) (rows : List ItemRow) (r : ItemRow) → Rising serial_of_item rows → In r rows →
    AtMost r.serial (option_map (λ i. i.serial) (last_of o rows))
last_most o [] r up m = absurd m
last_most o (y ∷ ys) r up m = elim m [
  | inl e ↦
      most_from r.serial (Some y) ys
      (let same : r.serial ≤ y.serial = let f = ap serial_of_item e in omega (arith, f) in
      same)
      (λ z n. let low = up.0 z n in let f = ap serial_of_item e in omega (arith, low, f))
  | inr n ↦ last_most (Some y) ys r up.1 n
]

-- the last is one of them
last_in : (o : Option ItemRow) (rows : List ItemRow) (r : ItemRow) → last_of o rows ≡ Some r → (o ≡ Some r) ⊎ In r rows
last_in o [] r e = inl e
last_in o (y ∷ ys) r e = ⊎_elim
    (λ (f : Some y ≡ Some r). inr (inl (ap (λ (p : Option ItemRow). option_map_or (λ x. x) p y) f)))
    (λ (m : In r ys). inr (inr m))
    (last_in (Some y) ys r e)

-- ---- the greatest serial below another

pub greatest : (name : List ℕ) (end : ℕ) (rows : List ItemRow) (edits : List Edit) (r : ItemRow) →
    Rising serial_of_item rows →
    In r (items_after name rows edits) → r.serial < end →
    AtMost r.serial (later (last_put_below name end edits) (option_map (λ i. i.serial) (last_item_below end rows)))
greatest name end rows edits r up m l = ⊎_elim
    (λ (n : In r rows).
    later_right r.serial (last_put_below name end edits) (option_map (λ i. i.serial) (last_item_below end rows))
    (last_most None (filter (λ i. nat_lt i.serial end) rows) r
    (rising_filter serial_of_item (λ i. nat_lt i.serial end) rows up)
    (to_filter (λ i. nat_lt i.serial end) rows r n (lt-ltb r.serial end l))))
    (λ (p : PutBy name r edits).
    later_left r.serial (last_put_below name end edits) (option_map (λ i. i.serial) (last_item_below end rows))
    (put_most name end r None edits p l))
    (from_after name rows edits r m)

-- none stands there
pub none_below : (end : ℕ) (rows : List ItemRow) → ((r : ItemRow) → In r rows → r.serial < end → ⊥) →
    last_item_below end rows ≡ None
none_below end rows h =
    ap (last_of None) (filter_none (λ i. nat_lt i.serial end) rows (λ r m. by_test (nat_lt r.serial end) r m refl))
  where
    by_test : (b : Bool) (r : ItemRow) → In r rows → nat_lt r.serial end ≡ b → b ≡ false
    by_test true r m e = absurd (h r m (ltb-true r.serial end e))
    by_test false r m e = refl

-- the item of the greatest serial is the last
pub last_here : (end k : ℕ) (rows : List ItemRow) (r : ItemRow) → Rising serial_of_item rows → k < end →
    ((y : ItemRow) → In y rows → y.serial < end → y.serial ≤ k) → row_of_serial k rows ≡ Some r → last_item_below end rows ≡ Some r
last_here end k rows r up l most e = by_found (last_item_below end rows) refl here
  where
    below : List ItemRow
    below = filter (λ i. nat_lt i.serial end) rows

    at : In r rows × (r.serial == k ≡ true)
    at = found (λ i. i.serial == k) rows r e

    serial : r.serial ≡ k
    serial = eqb-true r.serial k at.1

    low : r.serial < end
    low = omega (arith, serial, l)

    here : AtMost r.serial (option_map (λ i. i.serial) (last_of None below))
    here = last_most None below r (rising_filter serial_of_item (λ i. nat_lt i.serial end) rows up)
        (to_filter (λ i. nat_lt i.serial end) rows r at.0 (lt-ltb r.serial end low))

    by_found : (o : Option ItemRow) → last_of None below ≡ o → AtMost r.serial (option_map (λ i. i.serial) o) →
        o ≡ Some r
    by_found None f h = absurd h
    by_found (Some s) f h = ⊎_elim
        (λ (g : None ≡ Some s). absurd (none-some s g))
        (λ (m : In s below).
        let own = from_filter (λ i. nat_lt i.serial end) rows s m in
        let top = most s own.0 (ltb-true s.serial end own.1) in
        let same : s.serial ≡ k = omega (arith, top, h, serial) in
        sym (at_there rows s up own.0) ∙ ap (λ n. row_of_serial n rows) same ∙ e)
        (last_in None below s f)

pub last_found : (end k : ℕ) (rows : List ItemRow) (o : Option ItemRow) → Rising serial_of_item rows → k < end →
    ((y : ItemRow) → In y rows → y.serial < end → y.serial ≤ k) → row_of_serial k rows ≡ o → is_some o ≡ true →
    last_item_below end rows ≡ o
last_found end k rows None up l most e is = absurd (true≢false (sym is))
last_found end k rows (Some r) up l most e is = last_here end k rows r up l most e

pub none_found : (o : Option ItemRow) → is_some o ≡ false → o ≡ None
none_found None is = refl
none_found (Some r) is = absurd (true≢false is)

-- where none has the greatest serial, the last is below it
pub last_lower : (end k : ℕ) (rows : List ItemRow) → k < end →
    ((y : ItemRow) → In y rows → y.serial < end → y.serial ≤ k) → row_of_serial k rows ≡ None →
    last_item_below k rows ≡ last_item_below end rows
last_lower end k rows l most e =
    ap (last_of None) (filter_same (λ i. nat_lt i.serial k) (λ i. nat_lt i.serial end) rows same)
  where
    same : (y : ItemRow) → In y rows → nat_lt y.serial k ≡ nat_lt y.serial end
    same y m = by_test (nat_lt y.serial end) refl
      where
        by_test : (b : Bool) → nat_lt y.serial end ≡ b → nat_lt y.serial k ≡ b
        by_test true f =
            let top = most y m (ltb-true y.serial end f) in
            let other : y.serial ≢ k = λ g. true≢false
            (sym (eq-eqb y.serial k g) ∙ not_found (λ i. i.serial == k) rows e y m) in
            lt-ltb y.serial k (omega (arith, top, other))
        by_test false f = let high = ltb-false y.serial end f in le-ltb y.serial k (omega (arith, high, l))

-- the stored item of the serial that is looked at next is the last one below, if it has this serial
pub stored_at : (end k : ℕ) (rows : List ItemRow) (put : Option ℕ) → Rising serial_of_item rows → k < end →
    later put (option_map (λ i. i.serial) (last_item_below end rows)) ≡ Some k →
    option_and_then (if_at k) (last_item_below end rows) ≡ row_of_serial k rows
stored_at end k rows put up l e = by_last (last_item_below end rows) refl e (row_of_serial k rows) refl
  where
    below : List ItemRow
    below = filter (λ i. nat_lt i.serial end) rows

    at_most : (r : ItemRow) → row_of_serial k rows ≡ Some r → AtMost k (option_map (λ i. i.serial) (last_item_below end rows))
    at_most r f =
        let at = found (λ i. i.serial == k) rows r f in
        let serial = eqb-true r.serial k at.1 in
        subst (λ n. AtMost n (option_map (λ i. i.serial) (last_of None below))) serial
        (last_most None below r (rising_filter serial_of_item (λ i. nat_lt i.serial end) rows up)
        (to_filter (λ i. nat_lt i.serial end) rows r at.0 (lt-ltb r.serial end (omega (arith, serial, l)))))

    by_serial : (s : ItemRow) → In s rows → s.serial ≤ k → AtMost k (Some s.serial) ⊎ (row_of_serial k rows ≡ None) →
        (b : Bool) → s.serial == k ≡ b → cond b (Some s) None ≡ row_of_serial k rows
    by_serial s m low high true t = sym (ap (λ n. row_of_serial n rows) (sym (eqb-true s.serial k t)) ∙ at_there rows s up m)
    by_serial s m low high false t = elim high [
      | inl top ↦ absurd (true≢false (sym (eq-eqb s.serial k (omega (arith, low, top))) ∙ t))
      | inr none ↦ sym none
    ]

    by_last : (o : Option ItemRow) → last_item_below end rows ≡ o →
        later put (option_map (λ i. i.serial) o) ≡ Some k → (f : Option ItemRow) → row_of_serial k rows ≡ f →
        option_and_then (if_at k) o ≡ row_of_serial k rows
    by_last None g h None e = sym e
    by_last None g h (Some r) e = absurd (subst (λ o. AtMost k (option_map (λ i. i.serial) o)) g (at_most r e))
    by_last (Some s) g h f e =
        let m = ⊎_elim
        (λ (n : None ≡ Some s). absurd (none-some s n))
        (λ (n : In s below). (from_filter (λ i. nat_lt i.serial end) rows s n).0)
        (last_in None below s g) in
        let own : s.serial ≤ s.serial = omega arith in
        let low : s.serial ≤ k = subst (AtMost s.serial) h (later_right s.serial put (Some s.serial) own) in
        by_serial s m low (by_there f e) (s.serial == k) refl
      where
        by_there : (o : Option ItemRow) → row_of_serial k rows ≡ o →
            AtMost k (Some s.serial) ⊎ (row_of_serial k rows ≡ None)
        by_there None e = inr e
        by_there (Some r) e = inl (subst (λ o. AtMost k (option_map (λ i. i.serial) o)) g (at_most r e))

-- ---- the last of all

last_get : (o : Option ItemRow) (y : ItemRow) (ys : List ItemRow) → last_of o (y ∷ ys) ≡ slice_get (y ∷ ys) (length ys)
last_get o y [] = refl
last_get o y (x ∷ xs) = last_get (Some y) x xs

pub last_is : (end : ℕ) (rows : List ItemRow) → ((y : ItemRow) → In y rows → y.serial < end) →
    last_item_below end rows ≡ last_row rows
last_is end rows h =
    ap (last_of None) (filter_all (λ i. nat_lt i.serial end) rows (λ y m. lt-ltb y.serial end (h y m))) ∙ by_rows rows
  where
    by_rows : (rows : List ItemRow) → last_of None rows ≡ last_row rows
    by_rows [] = refl
    by_rows (y ∷ ys) =
        let less : length ys ≡ suc (length ys) - 1 = omega arith in
        last_get None y ys ∙ ap (slice_get (y ∷ ys)) less

-- ---- the serial that is looked at next

abbrev pub next_down : List ℕ → ℕ → List ItemRow → List Edit → Option ℕ
next_down name end rows edits = later (last_put_below name end edits) (option_map (λ i. i.serial) (last_item_below end rows))

pub most_of : (name : List ℕ) (end k : ℕ) (rows : List ItemRow) (edits : List Edit) → Rising serial_of_item rows →
    next_down name end rows edits ≡ Some k → (y : ItemRow) → In y (items_after name rows edits) → y.serial < end →
    y.serial ≤ k
most_of name end k rows edits up e y m l = subst (AtMost y.serial) e (greatest name end rows edits y up m l)

pub none_of : (name : List ℕ) (end : ℕ) (rows : List ItemRow) (edits : List Edit) → Rising serial_of_item rows →
    next_down name end rows edits ≡ None → (y : ItemRow) → In y (items_after name rows edits) → y.serial < end → ⊥
none_of name end rows edits up e y m l = subst (AtMost y.serial) e (greatest name end rows edits y up m l)

-- it is below

pub under_later : (n : ℕ) (a b : Option ℕ) → IfSome a (λ k. k < n) → IfSome b (λ k. k < n) →
    IfSome (later a b) (λ k. k < n)
under_later n None b f g = g
under_later n (Some a) None f g = f
under_later n (Some a) (Some b) f g = omega (arith, f, g)

under_edit : (name : List ℕ) (end : ℕ) (e : Edit) → IfSome (put_below name end e) (λ k. k < end)
under_edit name end (edit.PutItem q i) = by_name (same_name q name) (nat_lt i.serial end) refl
  where
    by_name : (b l : Bool) → nat_lt i.serial end ≡ l → IfSome (cond (b && l) (Some i.serial) None) (λ k. k < end)
    by_name true true e = ltb-true i.serial end e
    by_name true false e = tt
    by_name false l e = tt
under_edit name end (edit.DropItem k) = tt
under_edit name end (edit.LandItem k) = tt
under_edit name end (edit.PutChange k a) = tt
under_edit name end (edit.SetStage k g) = tt
under_edit name end (edit.PutPlan k) = tt
under_edit name end (edit.PutLanding q p x) = tt
under_edit name end (edit.PutReport q p x) = tt
under_edit name end (edit.PutBuild b) = tt
under_edit name end (edit.SetOutcome b o) = tt
under_edit name end (edit.StopBuild b) = tt
under_edit name end (edit.SetWindow q w) = tt
under_edit name end (edit.SetCounter k d) = tt
under_edit name end (edit.Keep k) = tt

pub under_put : (name : List ℕ) (end : ℕ) (o : Option ℕ) (edits : List Edit) → IfSome o (λ k. k < end) →
    IfSome (last_from name end o edits) (λ k. k < end)
under_put name end o [] h = h
under_put name end o (e ∷ es) h =
    under_put name end (later o (put_below name end e)) es
    (under_later end o (put_below name end e) h (under_edit name end e))

pub under_row : (n : ℕ) (o : Option ItemRow) → IfSome o (λ i. i.serial < n) →
    IfSome (option_map (λ (i : ItemRow). i.serial) o) (λ k. k < n)
under_row n None h = tt
under_row n (Some i) h = h
