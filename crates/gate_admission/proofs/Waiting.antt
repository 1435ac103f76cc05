-- Candidates, each under the number of its approval: some are added, and the first is taken out.
use Rattle.std.proofs.Common.{◌≡◌, ◌≢◌, ◌≤◌, ℕ, Bool, true, false, not, cond, Option, Some, None, List, [], ◌∷◌, ◌⊎◌}
use Rattle.std.proofs.Common.{fold, refl, sym, ap, ◌∙◌, inl, inr, ⊎_elim, true≢false, arith}
use Rattle.std.specs.Prelude.{find, ◌==◌, is_some}
use Rattle.std.specs.Ordering.{nat_cmp, is_gt}
use Rattle.std.specs.BTreeMap.{BTreeMap, get, is_at, IsLowerBound}
use Rattle.std.proofs.lemmas.Bool.{eqb-true, eq-eqb, ne_eqb, not-true}
use Rattle.std.proofs.lemmas.Bool.Decides.{nat_tests}
use Rattle.std.proofs.lemmas.Option.{none-some}
use Rattle.gate_types.specs.declared.records.Ready.{Ready}
use Rattle.gate_types.specs.Settings.{Settings}
use Rattle.gate_types.specs.State.{State}
use Rattle.gate_types.specs.Admit.{may_enter, entered}
use Rattle.gate_types.specs.Lawful.{IsSound}
use Rattle.gate_types.specs.Rising.{In}
use Rattle.gate_types.proofs.PlainLemmas.{some_is}
use Rattle.gate_laws.proofs.Members.{from_filter, to_filter, contains_in, in_contains}
use Rattle.gate_laws.proofs.Rising.{Rising, rising}
use Rattle.gate_admission.specs.Candidates.{needs_it, change_under, IsAmong, AreCandidates, AreOthers, AreToLookAt}
use Rattle.gate_admission.specs.Candidates.{EntersFirst}
use Rattle.gate_admission.proofs.ReadyList.{apart_ready, apart_same}
use Rattle.gate_admission.proofs.StillOut.{stays_out}

-- the ready list rises by approval
pub ready_rise : (c : Settings) (v : State) → IsSound c v → Rising (λ (r : Ready). r.approval) v.ready
ready_rise c v sound = rising (λ (r : Ready). r.approval) v.ready sound.ready_rises

-- two of one approval are one
one_approval : (ws : List Ready) (r t : Ready) → Rising (λ (x : Ready). x.approval) ws → In r ws → In t ws →
    r.approval ≡ t.approval → r ≡ t
one_approval [] r t up m n e = absurd m
one_approval (w ∷ ws) r t up m n e = ⊎_elim
    (λ (a : w ≡ r). ⊎_elim
    (λ (b : w ≡ t). sym a ∙ b)
    (λ (b : In t ws). let same = ap (λ (x : Ready). x.approval) a in let low = up.0 t b in
    absurd (omega (arith, e, same, low)))
    n)
    (λ (a : In r ws). ⊎_elim
    (λ (b : w ≡ t). let same = ap (λ (x : Ready). x.approval) b in let low = up.0 r a in
    absurd (omega (arith, e, same, low)))
    (λ (b : In t ws). one_approval ws r t up.1 a b e)
    n)
    m

-- ---- some are added

from_added : (rows : List Ready) (a n : ℕ) (o : Option ℕ) → fold (change_under a) o rows ≡ Some n →
    (o ≡ Some n) ⊎ In (record { approval = a; change = n }) rows
from_added [] a n o e = inl e
from_added (r ∷ rs) a n o e = ⊎_elim
    (λ (h : change_under a o r ≡ Some n). by_test (r.approval == a) refl h)
    (λ (m : In (record { approval = a; change = n }) rs). inr (inr m))
    (from_added rs a n (change_under a o r) e)
  where
    by_test : (b : Bool) → r.approval == a ≡ b → cond b (Some r.change) o ≡ Some n →
        (o ≡ Some n) ⊎ In (record { approval = a; change = n }) (r ∷ rs)
    by_test true same h =
        let approval = eqb-true r.approval a same in
        let change = some_is r.change n h in
        inr (inl (λ i. record { approval = approval i; change = change i }))
    by_test false same h = inl h

none_added : (rows : List Ready) (a : ℕ) (o : Option ℕ) → fold (change_under a) o rows ≡ None → o ≡ None
none_added [] a o e = e
none_added (r ∷ rs) a o e = by_test (r.approval == a) (none_added rs a (change_under a o r) e)
  where
    by_test : (b : Bool) → cond b (Some r.change) o ≡ None → o ≡ None
    by_test true h = absurd (none-some r.change (sym h))
    by_test false h = h

none_there : (rows : List Ready) (a : ℕ) (o : Option ℕ) → fold (change_under a) o rows ≡ None → (r : Ready) →
    In r rows → r.approval ≢ a
none_there [] a o e r m = absurd m
none_there (t ∷ ts) a o e r m = ⊎_elim
    (λ (h : t ≡ r). λ same. none-some t.change (sym (none_added ts a (change_under a o t) e)
    ∙ ap (λ b. cond b (Some t.change) o)
    (eq-eqb t.approval a (ap (λ (x : Ready). x.approval) h ∙ same))))
    (λ (n : In r ts). none_there ts a (change_under a o t) e r n)
    m

-- who is among them once some of a list were added to others of it
pub record AreAdded (ws : List Ready) (old new : BTreeMap ℕ ℕ) (rows : List Ready) : Type 0 where
  pub listed : (r : Ready) → IsAmong new r → In r ws
  pub stay : (r : Ready) → IsAmong old r → IsAmong new r
  pub there : (r : Ready) → In r rows → IsAmong new r

pub added : (ws : List Ready) (old new : BTreeMap ℕ ℕ) (rows : List Ready) → Rising (λ (r : Ready). r.approval) ws →
    ((a : ℕ) → get nat_cmp new a ≡ fold (change_under a) (get nat_cmp old a) rows) →
    ((r : Ready) → IsAmong old r → In r ws) → ((r : Ready) → In r rows → In r ws) → AreAdded ws old new rows
added ws old new rows up is olds adds = record {
  listed = listed;
  stay = λ r m. by_found r (olds r m) (get nat_cmp new r.approval) refl
      (λ e. none-some r.change (sym (none_added rows r.approval (get nat_cmp old r.approval)
      (sym (is r.approval) ∙ e)) ∙ m));
  there = λ r m. by_found r (adds r m) (get nat_cmp new r.approval) refl
      (λ e. none_there rows r.approval (get nat_cmp old r.approval) (sym (is r.approval) ∙ e) r m refl);
}
  where
    listed : (r : Ready) → IsAmong new r → In r ws
    listed r m = ⊎_elim
        (λ (e : get nat_cmp old r.approval ≡ Some r.change). olds r e)
        (λ (n : In (record { approval = r.approval; change = r.change }) rows). adds r n)
        (from_added rows r.approval r.change (get nat_cmp old r.approval) (sym (is r.approval) ∙ m))

    by_found : (r : Ready) → In r ws → (o : Option ℕ) → get nat_cmp new r.approval ≡ o → (o ≡ None → ⊥) →
        IsAmong new r
    by_found r m None e some = absurd (some refl)
    by_found r m (Some n) e some =
        let t : Ready = record { approval = r.approval; change = n } in
        let same = one_approval ws r t up m (listed t e) refl in
        e ∙ ap (λ (x : Ready). Some x.change) (sym same)

-- candidates, of rows among which each is that may enter
pub candidates_of : (c : Settings) (v : State) (old new : BTreeMap ℕ ℕ) (rows : List Ready) → IsSound c v →
    ((a : ℕ) → get nat_cmp old a ≡ None) →
    ((a : ℕ) → get nat_cmp new a ≡ fold (change_under a) (get nat_cmp old a) rows) → AreToLookAt c v rows →
    AreCandidates c v new
candidates_of c v old new rows sound none is look =
    let all = added v.ready old new rows (ready_rise c v sound) is
    (λ r m. absurd (none-some r.change (sym (none r.approval) ∙ m)))
    (λ r m. contains_in v.ready r (look.ready r (in_contains rows r m))) in
    record {
      ready = λ r m. in_contains v.ready r (all.listed r m);
      all = λ r m may. all.there r (contains_in rows r (look.all r m may));
    }

-- those who need a change are added to the others
pub others_and : (c : Settings) (v : State) (n : ℕ) (old mid new : BTreeMap ℕ ℕ) (put left : List Ready) →
    IsSound c v → AreOthers c v n old →
    ((a : ℕ) → get nat_cmp mid a ≡ fold (change_under a) (get nat_cmp old a) put) →
    ((a : ℕ) → get nat_cmp new a ≡ fold (change_under a) (get nat_cmp mid a) left) →
    ((r : Ready) → In r put → In r v.ready) → ((r : Ready) → In r left → In r v.ready) →
    ((r : Ready) → In r v.ready → needs_it v n r ≡ true → In r put ⊎ In r left) → AreCandidates c v new
others_and c v n old mid new put left sound others first second puts lefts there =
    let up = ready_rise c v sound in
    let one = added v.ready old mid put up first (λ r m. contains_in v.ready r (others.ready r m)) puts in
    let two = added v.ready mid new left up second one.listed lefts in
    record {
      ready = λ r m. in_contains v.ready r (two.listed r m);
      all = λ r m may. by_need r (contains_in v.ready r m) (needs_it v n r) refl
          (λ f. two.stay r (one.stay r (others.others r m may f))) one two;
    }
  where
    by_need : (r : Ready) → In r v.ready → (b : Bool) → needs_it v n r ≡ b → (b ≡ false → IsAmong new r) →
        AreAdded v.ready old mid put → AreAdded v.ready mid new left → IsAmong new r
    by_need r m true t rest one two = ⊎_elim
        (λ (p : In r put). two.stay r (one.there r p))
        (λ (p : In r left). two.there r p)
        (there r m t)
    by_need r m false f rest one two = rest refl

-- ---- the first is taken out

at_key : (k q : ℕ) → is_at (nat_cmp k) q ≡ (k == q)
at_key k q = grind (arith, nat_tests)

not_above : (k q : ℕ) → is_gt (nat_cmp k q) ≡ false → k ≤ q
not_above k q h = grind (arith, nat_tests, h)

-- no candidate: nobody may enter
none_may : (t : Ready → Bool) (rs : List Ready) → ((r : Ready) → In r rs → t r ≡ true → ⊥) → find t rs ≡ None
none_may t [] h = refl
none_may t (r ∷ rs) h = by_test (t r) refl (none_may t rs (λ x m. h x (inr m)))
  where
    by_test : (b : Bool) → t r ≡ b → find t rs ≡ None → cond b (Some r) (find t rs) ≡ None
    by_test true e rest = absurd (h r (inl refl) e)
    by_test false e rest = rest

pub nobody_left : (c : Settings) (v : State) (waiting : BTreeMap ℕ ℕ) → AreCandidates c v waiting →
    ((a : ℕ) → get nat_cmp waiting a ≡ None) → find (may_enter c v) v.ready ≡ None
nobody_left c v waiting are none = none_may (may_enter c v) v.ready
    (λ r m may. none-some r.change (sym (none r.approval) ∙ are.all r (in_contains v.ready r m) may))

-- of a rising list the one of the least approval is found
least_found : (t : Ready → Bool) (rs : List Ready) (r : Ready) → Rising (λ (x : Ready). x.approval) rs → In r rs →
    t r ≡ true → ((x : Ready) → In x rs → t x ≡ true → r.approval ≤ x.approval) → find t rs ≡ Some r
least_found t [] r up m h least = absurd m
least_found t (y ∷ ys) r up m h least = by_test (t y) refl
    (λ n. least_found t ys r up.1 n h (λ x k. least x (inr k)))
  where
    by_test : (b : Bool) → t y ≡ b → (In r ys → find t ys ≡ Some r) → cond b (Some y) (find t ys) ≡ Some r
    by_test true e rest = ⊎_elim
        (λ (a : y ≡ r). ap (λ (x : Ready). Some x) a)
        (λ (a : In r ys). let low = up.0 r a in let high = least y (inl refl) e in absurd (omega (arith, low, high)))
        m
    by_test false e rest = ⊎_elim
        (λ (a : y ≡ r). absurd (true≢false (sym (ap t a ∙ h) ∙ e)))
        (λ (a : In r ys). rest a)
        m

module _ (c : Settings) (v : State) (sound : IsSound c v) (old new : BTreeMap ℕ ℕ) (p : Ready)
    (are : AreCandidates c v old) (is : IsAmong old p)
    (gone : (q : ℕ) → get nat_cmp new q ≡ cond (is_at (nat_cmp p.approval) q) None (get nat_cmp old q)) where
  -- who is left was among them
  was_among : (r : Ready) → IsAmong new r → IsAmong old r
  was_among r m = by_test (is_at (nat_cmp p.approval) r.approval) (sym (gone r.approval) ∙ m)
    where
      by_test : (b : Bool) → cond b None (get nat_cmp old r.approval) ≡ Some r.change → IsAmong old r
      by_test true e = absurd (none-some r.change e)
      by_test false e = e

  -- who was among them and isn't the first is left
  is_left : (r : Ready) → IsAmong old r → r.change ≢ p.change → IsAmong new r
  is_left r m other = gone r.approval ∙ by_test (p.approval == r.approval) refl
    where
      by_test : (b : Bool) → p.approval == r.approval ≡ b →
          cond (is_at (nat_cmp p.approval) r.approval) None (get nat_cmp old r.approval) ≡ Some r.change
      by_test true e = absurd (other (some_is r.change p.change
          (sym m ∙ ap (get nat_cmp old) (sym (eqb-true p.approval r.approval e)) ∙ is)))
      by_test false e = ap (λ b. cond b None (get nat_cmp old r.approval)) (at_key p.approval r.approval ∙ e) ∙ m

  -- who is left isn't of the first one's change
  other_change : (r : Ready) → IsAmong new r → r.change ≢ p.change
  other_change r m e =
      let same = apart_same v.ready r p (apart_ready c v sound) (contains_in v.ready r (are.ready r (was_among r m)))
      (contains_in v.ready p (are.ready p is)) e in
      let at = at_key p.approval r.approval
      ∙ eq-eqb p.approval r.approval (ap (λ (x : Ready). x.approval) (sym same)) in
      none-some r.change (sym (ap (λ b. cond b None (get nat_cmp old r.approval)) at) ∙ sym (gone r.approval) ∙ m)

  -- the first may not enter: the others are the candidates
  pub passed : may_enter c v p ≡ false → AreCandidates c v new
  passed may = record {
    ready = λ r m. are.ready r (was_among r m);
    all = λ r m h. is_left r (are.all r m h)
        (λ e. true≢false (sym h ∙ ap (λ n. may_enter c v (record { approval = 0; change = n })) e ∙ may));
  }

  -- the first may: it enters, and the others are left
  pub enters_first : may_enter c v p ≡ true → IsLowerBound nat_cmp old p.approval → EntersFirst c v p new
  enters_first may least = record {
    first = least_found (may_enter c v) v.ready p (ready_rise c v sound) (contains_in v.ready p (are.ready p is)) may
        (λ r m h. not_above p.approval r.approval (least r.approval
        (ap is_some (are.all r (in_contains v.ready r m) h))));
    others = record {
      ready = λ r m. in_contains (entered c v p).ready r
          (to_filter (λ (x : Ready). not (x.change == p.change)) v.ready r
          (contains_in v.ready r (are.ready r (was_among r m)))
          (ap not (ne_eqb r.change p.change (other_change r m))));
      others = λ r m h needs.
          let at = from_filter (λ (x : Ready). not (x.change == p.change)) v.ready r
          (contains_in (entered c v p).ready r m) in
          is_left r (are.all r (in_contains v.ready r at.0) (still r h needs))
          (λ e. true≢false (sym (eq-eqb r.change p.change e) ∙ not-true (r.change == p.change) at.1));
    };
  }
    where
      still : (r : Ready) → may_enter c (entered c v p) r ≡ true → needs_it v p.change r ≡ false →
          may_enter c v r ≡ true
      still r h needs = by_test (may_enter c v r) refl
        where
          by_test : (b : Bool) → may_enter c v r ≡ b → b ≡ true
          by_test true e = refl
          by_test false e = absurd (true≢false (sym h ∙ stays_out c v r p e needs))
