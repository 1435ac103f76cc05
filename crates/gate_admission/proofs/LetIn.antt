-- The candidates: changes that the edits put, and those that need a change that they put as landed.
use Rattle.std.proofs.Common.{◌≡◌, ℕ, Bool, true, false, not, ◌&&◌, ◌||◌, cond, Option, Some, None, List, [], ◌∷◌}
use Rattle.std.proofs.Common.{◌⊎◌, filter, fold, flat_map, refl, sym, ap, ◌∙◌, subst, inl, inr, ⊎_elim, true≢false}
use Rattle.std.specs.Prelude.{nat_lt, ◌==◌, option_map, unwrap_or}
use Rattle.std.specs.List.{list_any}
use Rattle.std.proofs.lemmas.Bool.{or_parts, eqb-true, eq-eqb, not-true}
use Rattle.gate_types.specs.declared.records.Change.{Change}
use Rattle.gate_types.specs.declared.records.Ready.{Ready}
use Rattle.gate_types.specs.declared.edits.Edit.{Edit}
use Rattle.gate_types.specs.declared.edits.Edit.TheVariants as edit
use Rattle.gate_types.specs.declared.records.Stage.{Stage}
use Rattle.gate_types.specs.declared.records.Stage.TheVariants as stage
use Rattle.gate_types.specs.Settings.{Settings}
use Rattle.gate_types.specs.State.{State, known_change, change_of, is_landed}
use Rattle.gate_types.specs.Once.{Content}
use Rattle.gate_types.specs.Lawful.{IsSound}
use Rattle.gate_types.specs.Rising.{In}
use Rattle.gate_book_trait.specs.Reads.{ready_needing}
use Rattle.gate_laws.proofs.Members.{from_filter, to_filter, from_append, to_left, to_right, from_flat, to_flat}
use Rattle.gate_laws.proofs.Members.{any_from, any_to, none_from, contains_in, in_contains}
use Rattle.gate_admission.specs.Led.{IsLed}
use Rattle.gate_admission.specs.Seen.{staged, ready_after, ready_without, with_approval, change_put}
use Rattle.gate_admission.specs.Candidates.{is_landing, needs_it, puts_or_sets, makes_room, lets_in, EntersByEdits, put_ready}
use Rattle.gate_admission.specs.Candidates.{left_needing, let_in_by, let_in, AreToLookAt}
use Rattle.gate_admission.proofs.Led.{put_led}
use Rattle.gate_admission.proofs.ReadyList.{other_than, stays_in, ready_led}

-- ---- one edit

-- what an edit makes of a ready change that it doesn't put, and of one that it puts
record AfterEdit (e : Edit) (r : Ready) : Type 0 where
  from : (rs : List Ready) → puts_or_sets r.change e ≡ false → In r (ready_after rs e) → In r rs
  to : (rs : List Ready) → puts_or_sets r.change e ≡ false → In r rs → In r (ready_after rs e)
  same : (rs ts : List Ready) → puts_or_sets r.change e ≡ true → In r (ready_after rs e) → In r (ready_after ts e)
  known : (o : Option Change) → puts_or_sets r.change e ≡ false → change_put r.change o e ≡ o

-- an edit that puts no change
unmoved : (e : Edit) (r : Ready) → ((rs : List Ready) → ready_after rs e ≡ rs) → puts_or_sets r.change e ≡ false →
    ((o : Option Change) → change_put r.change o e ≡ o) → AfterEdit e r
unmoved e r stays other known = record {
  from = λ rs f m. subst (In r) (stays rs) m;
  to = λ rs f m. subst (In r) (sym (stays rs)) m;
  same = λ rs ts t m. absurd (true≢false (sym t ∙ other));
  known = λ o f. known o;
}

-- the list behind a put
before_or_behind : (a : ℕ) (rest : List Ready) (r : Ready) → In r rest →
    In r (filter (λ t. nat_lt t.approval a) rest) ⊎ In r (filter (λ t. not (nat_lt t.approval a)) rest)
before_or_behind a rest r m = by_test (nat_lt r.approval a) refl
  where
    by_test : (b : Bool) → nat_lt r.approval a ≡ b →
        In r (filter (λ t. nat_lt t.approval a) rest) ⊎ In r (filter (λ t. not (nat_lt t.approval a)) rest)
    by_test true e = inl (to_filter (λ (t : Ready). nat_lt t.approval a) rest r m e)
    by_test false e = inr (to_filter (λ (t : Ready). not (nat_lt t.approval a)) rest r m (ap not e))

put_among : (a n : ℕ) (rest : List Ready) (r : Ready) → In r (with_approval (Some a) n rest) →
    (record { approval = a; change = n } ≡ r) ⊎ In r rest
put_among a n rest r m = ⊎_elim
    (λ (p : In r (filter before rest)). inr (from_filter before rest r p).0)
    (λ (p : In r (record { approval = a; change = n } ∷ filter behind rest)). ⊎_elim
    (λ (e : record { approval = a; change = n } ≡ r). inl e)
    (λ (q : In r (filter behind rest)). inr (from_filter behind rest r q).0)
    p)
    (from_append (filter before rest) (record { approval = a; change = n } ∷ filter behind rest) r m)
  where
    before : Ready → Bool
    before t = nat_lt t.approval a

    behind : Ready → Bool
    behind t = not (nat_lt t.approval a)

among_put : (a n : ℕ) (rest : List Ready) (r : Ready) → In r rest → In r (with_approval (Some a) n rest)
among_put a n rest r m = ⊎_elim
    (λ (p : In r (filter (λ t. nat_lt t.approval a) rest)). to_left (filter (λ t. nat_lt t.approval a) rest)
    (record { approval = a; change = n } ∷ filter (λ t. not (nat_lt t.approval a)) rest) r p)
    (λ (p : In r (filter (λ t. not (nat_lt t.approval a)) rest)). to_right (filter (λ t. nat_lt t.approval a) rest)
    (record { approval = a; change = n } ∷ filter (λ t. not (nat_lt t.approval a)) rest) r (inr p))
    (before_or_behind a rest r m)

-- the put of a change
put_change : (k : Change) (a : Option ℕ) (r : Ready) → AfterEdit (edit.PutChange k a) r
put_change k None r = record {
  from = λ rs f m. (other_than k.number rs r m).0;
  to = λ rs f m. stays_in k.number rs r m (λ e. true≢false (sym (eq-eqb k.number r.change (sym e)) ∙ f));
  same = λ rs ts t m. absurd ((other_than k.number rs r m).1 (sym (eqb-true k.number r.change t)));
  known = λ o f. ap (λ b. cond b (Some k) o) f;
}
put_change k (Some a) r =
    let n = k.number in
    let new : Ready = record { approval = a; change = n } in
    record {
      from = λ rs f m. ⊎_elim
          (λ (e : new ≡ r). absurd (true≢false
          (sym (eq-eqb n r.change (ap (λ (t : Ready). t.change) e)) ∙ f)))
          (λ (p : In r (ready_without n rs)). (other_than n rs r p).0)
          (put_among a n (ready_without n rs) r m);
      to = λ rs f m. among_put a n (ready_without n rs) r
          (stays_in n rs r m (λ e. true≢false (sym (eq-eqb n r.change (sym e)) ∙ f)));
      same = λ rs ts t m. ⊎_elim
          (λ (e : new ≡ r). to_right (filter (λ x. nat_lt x.approval a) (ready_without n ts))
          (new ∷ filter (λ x. not (nat_lt x.approval a)) (ready_without n ts)) r (inl e))
          (λ (p : In r (ready_without n rs)). absurd ((other_than n rs r p).1 (sym (eqb-true n r.change t))))
          (put_among a n (ready_without n rs) r m);
      known = λ o f. ap (λ b. cond b (Some k) o) f;
    }

-- its stage set
set_stage : (n : ℕ) (g : Stage) (r : Ready) → AfterEdit (edit.SetStage n g) r
set_stage n g r = record {
  from = λ rs f m. (other_than n rs r m).0;
  to = λ rs f m. stays_in n rs r m (λ e. true≢false (sym (eq-eqb n r.change (sym e)) ∙ f));
  same = λ rs ts t m. absurd ((other_than n rs r m).1 (sym (eqb-true n r.change t)));
  known = λ o f. ap (λ b. cond b (option_map (staged g) o) o) f;
}

after_edit : (e : Edit) (r : Ready) → AfterEdit e r
after_edit (edit.PutChange k a) r = put_change k a r
after_edit (edit.SetStage n g) r = set_stage n g r
after_edit (edit.PutItem q i) r = unmoved (edit.PutItem q i) r (λ rs. refl) refl (λ o. refl)
after_edit (edit.DropItem n) r = unmoved (edit.DropItem n) r (λ rs. refl) refl (λ o. refl)
after_edit (edit.LandItem n) r = unmoved (edit.LandItem n) r (λ rs. refl) refl (λ o. refl)
after_edit (edit.PutPlan p) r = unmoved (edit.PutPlan p) r (λ rs. refl) refl (λ o. refl)
after_edit (edit.PutLanding q n l) r = unmoved (edit.PutLanding q n l) r (λ rs. refl) refl (λ o. refl)
after_edit (edit.PutReport q n p) r = unmoved (edit.PutReport q n p) r (λ rs. refl) refl (λ o. refl)
after_edit (edit.PutBuild b) r = unmoved (edit.PutBuild b) r (λ rs. refl) refl (λ o. refl)
after_edit (edit.SetOutcome b o) r = unmoved (edit.SetOutcome b o) r (λ rs. refl) refl (λ p. refl)
after_edit (edit.StopBuild b) r = unmoved (edit.StopBuild b) r (λ rs. refl) refl (λ o. refl)
after_edit (edit.SetWindow q w) r = unmoved (edit.SetWindow q w) r (λ rs. refl) refl (λ o. refl)
after_edit (edit.SetCounter k n) r = unmoved (edit.SetCounter k n) r (λ rs. refl) refl (λ o. refl)
after_edit (edit.Keep k) r = unmoved (edit.Keep k) r (λ rs. refl) refl (λ o. refl)

-- ---- all edits

-- some edit puts the change of a number
abbrev pub are_putting : ℕ → List Edit → Bool
are_putting n edits = list_any (puts_or_sets n) edits

-- a change that isn't put stands in the list after the edits where it stood before
pub from_all : (edits : List Edit) (rs : List Ready) (r : Ready) → are_putting r.change edits ≡ false →
    In r (fold ready_after rs edits) → In r rs
from_all [] rs r f m = m
from_all (e ∷ es) rs r f m =
    let both = or_parts (puts_or_sets r.change e) (are_putting r.change es) f in
    (after_edit e r).from rs both.0 (from_all es (ready_after rs e) r both.1 m)

to_all : (edits : List Edit) (rs : List Ready) (r : Ready) → are_putting r.change edits ≡ false → In r rs →
    In r (fold ready_after rs edits)
to_all [] rs r f m = m
to_all (e ∷ es) rs r f m =
    let both = or_parts (puts_or_sets r.change e) (are_putting r.change es) f in
    to_all es (ready_after rs e) r both.1 ((after_edit e r).to rs both.0 m)

-- one that is put stands in it whatever the list was before
same_all : (edits : List Edit) (rs ts : List Ready) (r : Ready) → are_putting r.change edits ≡ true →
    In r (fold ready_after rs edits) → In r (fold ready_after ts edits)
same_all [] rs ts r h m = absurd (true≢false (sym h))
same_all (e ∷ es) rs ts r h m = by_later (are_putting r.change es) refl (puts_or_sets r.change e) refl h
    (same_all es (ready_after rs e) (ready_after ts e) r)
  where
    by_later : (l : Bool) → are_putting r.change es ≡ l → (b : Bool) → puts_or_sets r.change e ≡ b → (b || l) ≡ true →
        (are_putting r.change es ≡ true → In r (fold ready_after (ready_after rs e) es) →
        In r (fold ready_after (ready_after ts e) es)) →
        In r (fold ready_after (ready_after ts e) es)
    by_later true g b f k rest = rest g m
    by_later false g true f k rest =
        to_all es (ready_after ts e) r g ((after_edit e r).same rs ts f (from_all es (ready_after rs e) r g m))
    by_later false g false f k rest = absurd (true≢false (sym k))

-- whom the edits put into an empty list they put
put_is_put : (edits : List Edit) (r : Ready) → In r (put_ready edits) → are_putting r.change edits ≡ true
put_is_put edits r m = by_test (are_putting r.change edits) refl
  where
    by_test : (b : Bool) → are_putting r.change edits ≡ b → b ≡ true
    by_test true e = refl
    by_test false e = absurd (from_all edits [] r e m)

-- what is known of a change that isn't put stays
known_all : (edits : List Edit) (r : Ready) (o : Option Change) → are_putting r.change edits ≡ false →
    fold (change_put r.change) o edits ≡ o
known_all [] r o f = refl
known_all (e ∷ es) r o f =
    let both = or_parts (puts_or_sets r.change e) (are_putting r.change es) f in
    ap (λ p. fold (change_put r.change) p es) ((after_edit e r).known o both.0) ∙ known_all es r o both.1

-- ---- the state to which the edits lead

module _ (c : Settings) (x : Content) (edits : List Edit) (v : State) (sound : IsSound c x.state)
    (led : IsLed c x edits v) where
  now_ready : fold ready_after x.state.ready edits ≡ v.ready
  now_ready = ready_led c x edits v sound led

  pub was_ready : (r : Ready) → are_putting r.change edits ≡ false → In r v.ready → In r x.state.ready
  was_ready r f m = from_all edits x.state.ready r f (subst (In r) (sym now_ready) m)

  put_stands : (r : Ready) → are_putting r.change edits ≡ true → In r v.ready → In r (put_ready edits)
  put_stands r t m = same_all edits x.state.ready [] r t (subst (In r) (sym now_ready) m)

  -- a change that isn't put is as it was
  pub change_stays : (r : Ready) → are_putting r.change edits ≡ false →
      change_of v r.change ≡ change_of x.state r.change
  change_stays r f =
      ap (λ (o : Option Change). unwrap_or o
      (record { number = r.change; project = []; revision = 0; stage = stage.Closed; needs = [] }))
      (sym (put_led c x edits v r.change led) ∙ known_all edits r (known_change x.state r.change) f)

  pub put_are_ready : (r : Ready) → In r (put_ready edits) → In r v.ready
  put_are_ready r m = subst (In r) now_ready (same_all edits [] x.state.ready r (put_is_put edits r m) m)

  pub left_are_ready : (n : ℕ) (r : Ready) → In r (left_needing x.state edits n) → In r v.ready
  left_are_ready n r m =
      let left = from_filter (λ (t : Ready). not (are_putting t.change edits)) (ready_needing x.state n) r m in
      let stood = from_filter (needs_it x.state n) x.state.ready r left.0 in
      subst (In r) now_ready (to_all edits x.state.ready r (not-true (are_putting r.change edits) left.1) stood.0)

  -- who needs a change was put, or is left to be read
  pub needing_is_there : (n : ℕ) (r : Ready) → In r v.ready → needs_it v n r ≡ true →
      In r (put_ready edits) ⊎ In r (left_needing x.state edits n)
  needing_is_there n r m needs = by_put (are_putting r.change edits) refl
    where
      by_put : (b : Bool) → are_putting r.change edits ≡ b →
          In r (put_ready edits) ⊎ In r (left_needing x.state edits n)
      by_put true t = inl (put_stands r t m)
      by_put false f = inr (to_filter (λ (s : Ready). not (are_putting s.change edits)) (ready_needing x.state n) r
          (to_filter (needs_it x.state n) x.state.ready r (was_ready r f m)
          (ap (λ (k : Change). list_any (λ j. j == n) k.needs) (sym (change_stays r f)) ∙ needs))
          (ap not f))

  let_in_are_ready : (r : Ready) → In r (let_in x.state edits) → In r v.ready
  let_in_are_ready r m = ⊎_elim
      (λ (p : In r (put_ready edits)). put_are_ready r p)
      (λ (p : In r (flat_map (let_in_by x.state edits) edits)).
      let one = from_flat (let_in_by x.state edits) edits r p in by_edit one.0 one.2)
      (from_append (put_ready edits) (flat_map (let_in_by x.state edits) edits) r m)
    where
      by_edit : (e : Edit) → In r (let_in_by x.state edits e) → In r v.ready
      by_edit (edit.PutChange k a) p = by_test (is_landed k) p
        where
          by_test : (b : Bool) → In r (cond b (left_needing x.state edits k.number) []) → In r v.ready
          by_test true q = left_are_ready k.number r q
          by_test false q = absurd q
      by_edit (edit.SetStage n g) p = by_test (is_landing g) p
        where
          by_test : (b : Bool) → In r (cond b (left_needing x.state edits n) []) → In r v.ready
          by_test true q = left_are_ready n r q
          by_test false q = absurd q
      by_edit (edit.PutItem q i) p = absurd p
      by_edit (edit.DropItem n) p = absurd p
      by_edit (edit.LandItem n) p = absurd p
      by_edit (edit.PutPlan n) p = absurd p
      by_edit (edit.PutLanding q n l) p = absurd p
      by_edit (edit.PutReport q n l) p = absurd p
      by_edit (edit.PutBuild b) p = absurd p
      by_edit (edit.SetOutcome b o) p = absurd p
      by_edit (edit.StopBuild b) p = absurd p
      by_edit (edit.SetWindow q w) p = absurd p
      by_edit (edit.SetCounter k n) p = absurd p
      by_edit (edit.Keep k) p = absurd p

  -- whom an edit lets in is there
  let_in_is_there : (r : Ready) (e : Edit) → In e edits → In r v.ready → lets_in v r e ≡ true →
      In r (let_in x.state edits)
  let_in_is_there r (edit.PutChange k a) at m h = by_put (k.number == r.change) refl h
    where
      landed : (b : Bool) → is_landed k ≡ b → b && needs_it v k.number r ≡ true → In r (let_in x.state edits)
      landed false f g = absurd (true≢false (sym g))
      landed true f g = ⊎_elim
          (λ (p : In r (put_ready edits)).
          to_left (put_ready edits) (flat_map (let_in_by x.state edits) edits) r p)
          (λ (p : In r (left_needing x.state edits k.number)).
          to_right (put_ready edits) (flat_map (let_in_by x.state edits) edits) r
          (to_flat (let_in_by x.state edits) edits (edit.PutChange k a) r at
          (subst (λ b. In r (cond b (left_needing x.state edits k.number) [])) (sym f) p)))
          (needing_is_there k.number r m g)

      by_put : (b : Bool) → k.number == r.change ≡ b → (b || is_landed k && needs_it v k.number r) ≡ true →
          In r (let_in x.state edits)
      by_put true t g = to_left (put_ready edits) (flat_map (let_in_by x.state edits) edits) r
          (put_stands r (any_to (puts_or_sets r.change) edits (edit.PutChange k a) at t) m)
      by_put false t g = landed (is_landed k) refl g
  let_in_is_there r (edit.SetStage n g) at m h = by_put (n == r.change) refl h
    where
      landed : (b : Bool) → is_landing g ≡ b → b && needs_it v n r ≡ true → In r (let_in x.state edits)
      landed false f q = absurd (true≢false (sym q))
      landed true f q = ⊎_elim
          (λ (p : In r (put_ready edits)).
          to_left (put_ready edits) (flat_map (let_in_by x.state edits) edits) r p)
          (λ (p : In r (left_needing x.state edits n)).
          to_right (put_ready edits) (flat_map (let_in_by x.state edits) edits) r
          (to_flat (let_in_by x.state edits) edits (edit.SetStage n g) r at
          (subst (λ b. In r (cond b (left_needing x.state edits n) [])) (sym f) p)))
          (needing_is_there n r m q)

      by_put : (b : Bool) → n == r.change ≡ b → (b || is_landing g && needs_it v n r) ≡ true →
          In r (let_in x.state edits)
      by_put true t q = to_left (put_ready edits) (flat_map (let_in_by x.state edits) edits) r
          (put_stands r (any_to (puts_or_sets r.change) edits (edit.SetStage n g) at t) m)
      by_put false t q = landed (is_landing g) refl q
  let_in_is_there r (edit.PutItem q i) at m h = absurd (true≢false (sym h))
  let_in_is_there r (edit.DropItem n) at m h = absurd (true≢false (sym h))
  let_in_is_there r (edit.LandItem n) at m h = absurd (true≢false (sym h))
  let_in_is_there r (edit.PutPlan n) at m h = absurd (true≢false (sym h))
  let_in_is_there r (edit.PutLanding q n l) at m h = absurd (true≢false (sym h))
  let_in_is_there r (edit.PutReport q n l) at m h = absurd (true≢false (sym h))
  let_in_is_there r (edit.PutBuild b) at m h = absurd (true≢false (sym h))
  let_in_is_there r (edit.SetOutcome b o) at m h = absurd (true≢false (sym h))
  let_in_is_there r (edit.StopBuild b) at m h = absurd (true≢false (sym h))
  let_in_is_there r (edit.SetWindow q w) at m h = absurd (true≢false (sym h))
  let_in_is_there r (edit.SetCounter k n) at m h = absurd (true≢false (sym h))
  let_in_is_there r (edit.Keep k) at m h = absurd (true≢false (sym h))

  -- where no full queue lost an item, each who may enter is among those whom the edits let in
  pub let_in_are_all : EntersByEdits c x.state edits v → list_any (makes_room x.state) edits ≡ false →
      AreToLookAt c v (let_in x.state edits)
  let_in_are_all enters none = record {
    ready = λ r m. in_contains v.ready r (let_in_are_ready r (contains_in (let_in x.state edits) r m));
    all = λ r m may. in_contains (let_in x.state edits) r (by_edits r (contains_in v.ready r m)
        (any_from (λ e. makes_room x.state e || lets_in v r e) edits (enters r m may)));
  }
    where
      by_edits : (r : Ready) → In r v.ready →
          (e : Edit) × In e edits × ((makes_room x.state e || lets_in v r e) ≡ true) → In r (let_in x.state edits)
      by_edits r m one = let_in_is_there r one.0 one.1 m
          (sym (ap (λ b. b || lets_in v r one.0) (none_from (makes_room x.state) edits none one.0 one.1)) ∙ one.2)

-- all who are ready are there
pub all_are_there : (c : Settings) (v : State) → AreToLookAt c v v.ready
all_are_there c v = record { ready = λ r m. m; all = λ r m may. m }
