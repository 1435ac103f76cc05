-- The rows that are kept of those that need what has gone.
use Rattle.std.proofs.Common.{◌≡◌, ℕ, suc, ◌<◌, ◌≤◌, Bool, true, false, ◌&&◌, ◌||◌, cond, Option, Some, None, List}
use Rattle.std.proofs.Common.{[], ◌∷◌, ◌++◌, take, length, inl, refl, sym, ap, ◌∙◌, subst, arith}
use Rattle.std.specs.Prelude.{◌==◌, nat_lt, filter, is_some, IfSome}
use Rattle.std.specs.List.{list_any}
use Rattle.std.proofs.lemmas.Bool.{eq-eqb, ne_eqb, lt-ltb, ltb-true, le-ltb}
use Rattle.std.proofs.lemmas.List.{take-append-le, append-nil, length-append}
use Rattle.std.proofs.lemmas.List.Folds.{list_any-append}
use Rattle.gate_types.specs.declared.records.Item.{Item as ItemRow}
use Rattle.gate_types.specs.State.{State, change_of}
use Rattle.gate_types.specs.Rising.{RisesFrom, In}
use Rattle.gate_types.proofs.PlainLemmas.{and_false, filter_twice, or_false}
use Rattle.gate_walk.specs.Walk.{Seen, Walk, behind_visit, verdict_by}
use Rattle.gate_book_trait.specs.Reads.{first_above, items_needing}
use Rattle.gate_laws.proofs.Members.{from_filter, filter_same, found}
use Rattle.gate_queue_rules.proofs.Ordered.{row_serial}
use Rattle.gate_settling.specs.Rows.{is_needing, first_needing_any, needing_any, merged, joined_behind, AreKept}
use Rattle.gate_settling.proofs.ListLemmas.{find_same, find_kept}
use Rattle.gate_settling.proofs.WantedLemmas.{low_in}

-- ---- rows of two lists

-- rows that rise, kept by two tests and merged, are those that pass one of them
pub joined_is : (p q : ItemRow → Bool) (n : ℕ) (rows : List ItemRow) → RisesFrom row_serial n rows →
    merged (filter p rows) (filter q rows) ≡ filter (λ r. p r || q r) rows
joined_is p q n [] h = refl
joined_is p q n (y ∷ rows) h = by_both (p y) (q y) (joined_is p q (suc y.serial) rows h.1)
  where
    behind : (t : ItemRow → Bool) (r : ItemRow) → In r (filter t rows) → y.serial < r.serial
    behind t r m = let more = low_in (suc y.serial) rows h.1 r (from_filter t rows r m).0 in omega (arith, more)

    in_both : merged (y ∷ filter p rows) (y ∷ filter q rows) ≡ y ∷ merged (filter p rows) (filter q rows)
    in_both =
        let join = merged (filter p rows) in
        let bs = filter q rows in
        ap (λ b. cond b (y ∷ joined_behind y join bs) (cond (y.serial == y.serial) (y ∷ join bs) (y ∷ join (y ∷ bs))))
        (le-ltb y.serial y.serial (omega arith))
        ∙ ap (λ b. cond b (y ∷ join bs) (y ∷ join (y ∷ bs))) (eq-eqb y.serial y.serial refl)

    in_first : (bs : List ItemRow) → filter q rows ≡ bs → merged (y ∷ filter p rows) bs ≡ y ∷ merged (filter p rows) bs
    in_first [] e = refl
    in_first (b ∷ bs) e =
        let join = merged (filter p rows) in
        let more = behind q b (subst (In b) (sym e) (inl refl)) in
        ap (λ t. cond t (b ∷ joined_behind y join bs) (cond (b.serial == y.serial) (y ∷ join bs) (y ∷ join (b ∷ bs))))
        (le-ltb b.serial y.serial (omega (arith, more)))
        ∙ ap (λ t. cond t (y ∷ join bs) (y ∷ join (b ∷ bs)))
        (ne_eqb b.serial y.serial (λ s. absurd (omega (arith, more, s))))

    in_second : (ys : List ItemRow) → filter p rows ≡ ys → merged ys (y ∷ filter q rows) ≡ y ∷ merged ys (filter q rows)
    in_second [] e = refl
    in_second (a ∷ ys) e =
        let join = merged ys in
        let bs = filter q rows in
        ap (λ t. cond t (y ∷ joined_behind a join bs) (cond (y.serial == a.serial) (a ∷ join bs) (a ∷ join (y ∷ bs))))
        (lt-ltb y.serial a.serial (behind p a (subst (In a) (sym e) (inl refl))))

    by_both : (s t : Bool) → merged (filter p rows) (filter q rows) ≡ filter (λ r. p r || q r) rows →
        merged (cond s (y ∷ filter p rows) (filter p rows)) (cond t (y ∷ filter q rows) (filter q rows))
        ≡ cond (s || t) (y ∷ filter (λ r. p r || q r) rows) (filter (λ r. p r || q r) rows)
    by_both true true rest = in_both ∙ ap (λ l. y ∷ l) rest
    by_both true false rest = in_first (filter q rows) refl ∙ ap (λ l. y ∷ l) rest
    by_both false true rest = in_second (filter p rows) refl ∙ ap (λ l. y ∷ l) rest
    by_both false false rest = rest

-- ---- the rows that need one of several changes

-- one change more
pub needing_more : (s : State) (gone : List ℕ) (g n : ℕ) (rows : List ItemRow) → RisesFrom row_serial 0 rows →
    merged (needing_any s gone n rows) (items_needing s g n rows) ≡ needing_any s (gone ++ g ∷ []) n rows
needing_more s gone g n rows h =
    joined_is (λ r. nat_lt n r.serial && is_needing s gone r) (λ r. nat_lt n r.serial && needs r g) 0 rows h
    ∙ filter_same _ _ rows (λ r m. by_lt r (nat_lt n r.serial))
  where
    needs : ItemRow → ℕ → Bool
    needs r k = list_any (λ m. m == k) (change_of s r.change).needs

    by_lt : (r : ItemRow) (b : Bool) →
        b && is_needing s gone r || b && needs r g ≡ (b && is_needing s (gone ++ g ∷ []) r)
    by_lt r true =
        let last = ap (λ t. is_needing s gone r || t) (or_false (needs r g)) in
        sym (list_any-append (needs r) gone (g ∷ []) ∙ last)
    by_lt r false = refl

none_needing : (s : State) (n : ℕ) (rows : List ItemRow) → needing_any s [] n rows ≡ []
none_needing s n [] = refl
none_needing s n (r ∷ rows) =
    ap (λ b. cond b (r ∷ needing_any s [] n rows) (needing_any s [] n rows)) (and_false (nat_lt n r.serial))
    ∙ none_needing s n rows

-- those of them that lie above a higher serial
pub needing_above : (s : State) (gone : List ℕ) (m n : ℕ) (rows : List ItemRow) → m ≤ n →
    filter (λ r. nat_lt n r.serial) (needing_any s gone m rows) ≡ needing_any s gone n rows
needing_above s gone m n rows l =
    filter_twice (λ r. nat_lt m r.serial && is_needing s gone r) (λ r. nat_lt n r.serial) rows
    ∙ filter_same _ _ rows (λ r _. by_lt r (nat_lt n r.serial) refl)
  where
    by_lt : (r : ItemRow) (b : Bool) → nat_lt n r.serial ≡ b →
        (nat_lt m r.serial && is_needing s gone r) && b ≡ (b && is_needing s gone r)
    by_lt r false e = and_false (nat_lt m r.serial && is_needing s gone r)
    by_lt r true e =
        let more = ltb-true n r.serial e in
        ap (λ b. (b && is_needing s gone r) && true) (lt-ltb m r.serial (omega (arith, l, more)))
        ∙ and_true (is_needing s gone r)
      where
        and_true : (b : Bool) → b && true ≡ b
        and_true true = refl
        and_true false = refl

-- the first of them is the first that needs one of the changes
pub first_needing : (s : State) (gone : List ℕ) (n : ℕ) (rows : List ItemRow) →
    first_above n (needing_any s gone n rows) ≡ first_needing_any s gone n rows
first_needing s gone n rows =
    find_kept (λ r. nat_lt n r.serial) (λ r. nat_lt n r.serial && is_needing s gone r) rows
    ∙ find_same _ _ rows (λ r _. twice (nat_lt n r.serial) (is_needing s gone r))
  where
    twice : (a b : Bool) → (a && b) && a ≡ (a && b)
    twice true true = refl
    twice true false = refl
    twice false b = refl

pub above_rises : (n : ℕ) (rows : List ItemRow) (o : Option ItemRow) → o ≡ first_above n rows →
    IfSome o (λ r. n < r.serial)
above_rises n rows None e = tt
above_rises n rows (Some r) e = ltb-true n r.serial (found (λ i. nat_lt n i.serial) rows r (sym e)).1

-- ---- what is kept

-- before any change was asked about
pub nothing_kept : (s : State) (gone : List ℕ) (items kept : List ItemRow) (asked : ℕ) (row : Option ItemRow) →
    kept ≡ [] → asked ≡ 0 → IfSome row (λ r. AreKept s gone r.serial items kept asked)
nothing_kept s gone items kept asked None e z = tt
nothing_kept s gone items kept asked (Some r) e z = record {
  above = r.serial;
  no_higher = omega arith;
  rows = e ∙ sym (none_needing s r.serial items)
      ∙ ap (λ (n : ℕ). needing_any s (take n gone) r.serial items) (sym z);
  were_asked = omega (arith, z);
}

-- those above a serial
pub kept_above : (s : State) (gone : List ℕ) (limit : ℕ) (items kept : List ItemRow) (asked : ℕ) →
    AreKept s gone limit items kept asked →
    filter (λ r. nat_lt limit r.serial) kept ≡ needing_any s (take asked gone) limit items
kept_above s gone limit items kept asked h =
    ap (filter (λ r. nat_lt limit r.serial)) h.rows
    ∙ needing_above s (take asked gone) h.above limit items h.no_higher

-- for a row farther behind
pub kept_behind : (s : State) (gone : List ℕ) (n : ℕ) (items kept : List ItemRow) (asked : ℕ) (row : Option ItemRow) →
    AreKept s gone n items kept asked → IfSome row (λ r. n ≤ r.serial) →
    IfSome row (λ r. AreKept s gone r.serial items kept asked)
kept_behind s gone n items kept asked None h l = tt
kept_behind s gone n items kept asked (Some r) h l = record {
  above = h.above;
  no_higher = (let low = h.no_higher in omega (arith, l, low));
  rows = h.rows;
  were_asked = h.were_asked;
}

-- a visit lets go at most its own row's change
gone_more : (w : Walk) (v : Seen) → (more : List ℕ) × ((behind_visit w v).carry.gone ≡ w.carry.gone ++ more)
gone_more w v = by_verdict (is_some (verdict_by w.carry v))
  where
    by_verdict : (b : Bool) →
        (more : List ℕ) × (cond b (w.carry.gone ++ v.row.change ∷ []) w.carry.gone ≡ w.carry.gone ++ more)
    by_verdict true = (v.row.change ∷ [], refl)
    by_verdict false = ([], sym (append-nil w.carry.gone))

-- behind a visit
pub kept_by_visit : (s : State) (old new : Walk) (v : Seen) (n : ℕ) (items kept : List ItemRow) (asked : ℕ) →
    new ≡ behind_visit old v → AreKept s old.carry.gone n items kept asked →
    AreKept s new.carry.gone n items kept asked
kept_by_visit s old new v n items kept asked e h =
    let gone = old.carry.gone in
    let more = gone_more old v in
    let grown : new.carry.gone ≡ gone ++ more.0 = ap (λ (w : Walk). w.carry.gone) e ∙ more.1 in
    let same = sym (take-append-le asked gone more.0 h.were_asked) ∙ ap (take asked) (sym grown) in
    record {
      above = h.above;
      no_higher = h.no_higher;
      rows = h.rows ∙ ap (λ (g : List ℕ). needing_any s g h.above items) same;
      were_asked = (
          let few = h.were_asked in
          let all = length-append gone more.0 in
          let as_many = ap length grown in
          omega (arith, few, all, as_many)
          );
    }
