-- The ready list after edits: it holds each change whose row has an approval, in the order of the approvals.
use Rattle.std.proofs.Common.{◌≡◌, ◌≢◌, ℕ, ◌≤◌, inl, inr, ⊎_elim, Bool, true, false, not, cond, Option, Some, None}
use Rattle.std.proofs.Common.{List, [], ◌∷◌, ◌++◌, map, filter, fold, flat_map, refl, sym, ap, ◌∙◌, subst, true≢false}
use Rattle.std.proofs.Common.{arith}
use Rattle.std.specs.Prelude.{find, nat_lt, ◌==◌, option_map, option_and_then, unwrap_or}
use Rattle.std.proofs.lemmas.Bool.{eqb-true, eq-eqb, ne_eqb, ltb-true, ltb-false, not-true}
use Rattle.std.proofs.lemmas.Option.{none-some}
use Rattle.gate_types.specs.declared.records.Change.{Change}
use Rattle.gate_types.specs.declared.records.Ready.{Ready}
use Rattle.gate_types.specs.declared.records.Stage.{Stage}
use Rattle.gate_types.specs.declared.records.Stage.TheVariants as stage
use Rattle.gate_types.specs.declared.rows.ChangeRow.{ChangeRow}
use Rattle.gate_types.specs.declared.edits.Edit.{Edit}
use Rattle.gate_types.specs.declared.edits.Edit.TheVariants as edit
use Rattle.gate_types.specs.Settings.{Settings}
use Rattle.gate_types.specs.State.{State, put_by, known_change, change_of, is_open}
use Rattle.gate_types.specs.Once.{Content}
use Rattle.gate_types.specs.Lawful.{IsSound, waiting_changes}
use Rattle.gate_types.specs.Tables.{approval_of, at_stage, change_row, edited_changes}
use Rattle.gate_types.specs.Rising.{In}
use Rattle.gate_types.proofs.ChangedLemmas.{found_changed, found_key}
use Rattle.gate_types.proofs.PlainLemmas.{some_is}
use Rattle.gate_laws.proofs.Members.{every, found, not_found, from_filter, to_filter, from_append, to_left}
use Rattle.gate_laws.proofs.Members.{to_right}
use Rattle.gate_laws.proofs.Rising.{Rising, rising}
use Rattle.gate_laws.proofs.Counts.{distinct_from, times-append, one_of}
use Rattle.gate_laws.proofs.RecordedChange.{known_number}
use Rattle.gate_admission.specs.Led.{IsLed}
use Rattle.gate_admission.specs.Seen.{ready_after, ready_without, with_approval}
use Rattle.gate_admission.proofs.Rows.{find_put, turned}
use Rattle.gate_admission.proofs.Led.{changes_led}
use Rattle.gate_book_trait.specs.RowReads.{approval_in}
use Rattle.gate_book_trait.proofs.Finding.{find_map}

-- ---- lists

-- no approval is below an earlier one
abbrev pub Climbing : List Ready → Type 0
Climbing [] = Unit {0}
Climbing (r ∷ rs) = ((t : Ready) → In t rs → r.approval ≤ t.approval) × Climbing rs

-- no two are of one change
abbrev pub Apart : List Ready → Type 0
Apart [] = Unit {0}
Apart (r ∷ rs) = ((t : Ready) → In t rs → r.change ≢ t.change) × Apart rs

climbing_filter : (p : Ready → Bool) (rs : List Ready) → Climbing rs → Climbing (filter p rs)
climbing_filter p [] h = tt
climbing_filter p (r ∷ rs) h = by_test (p r) (climbing_filter p rs h.1)
  where
    by_test : (b : Bool) → Climbing (filter p rs) → Climbing (cond b (r ∷ filter p rs) (filter p rs))
    by_test true k = ((λ t m. h.0 t (from_filter p rs t m).0), k)
    by_test false k = k

apart_filter : (p : Ready → Bool) (rs : List Ready) → Apart rs → Apart (filter p rs)
apart_filter p [] h = tt
apart_filter p (r ∷ rs) h = by_test (p r) (apart_filter p rs h.1)
  where
    by_test : (b : Bool) → Apart (filter p rs) → Apart (cond b (r ∷ filter p rs) (filter p rs))
    by_test true k = ((λ t m. h.0 t (from_filter p rs t m).0), k)
    by_test false k = k

climbing_join : (rs ts : List Ready) → Climbing rs → Climbing ts →
    ((r t : Ready) → In r rs → In t ts → r.approval ≤ t.approval) → Climbing (rs ++ ts)
climbing_join [] ts h k low = k
climbing_join (r ∷ rs) ts h k low = (
  (λ t m. ⊎_elim (λ (n : In t rs). h.0 t n) (λ (n : In t ts). low r t (inl refl) n) (from_append rs ts t m)),
  climbing_join rs ts h.1 k (λ x t m n. low x t (inr m) n),
)

apart_join : (rs ts : List Ready) → Apart rs → Apart ts →
    ((r t : Ready) → In r rs → In t ts → r.change ≢ t.change) → Apart (rs ++ ts)
apart_join [] ts h k other = k
apart_join (r ∷ rs) ts h k other = (
  (λ t m. ⊎_elim (λ (n : In t rs). h.0 t n) (λ (n : In t ts). other r t (inl refl) n) (from_append rs ts t m)),
  apart_join rs ts h.1 k (λ x t m n. other x t (inr m) n),
)

pub apart_same : (rs : List Ready) (r t : Ready) → Apart rs → In r rs → In t rs → r.change ≡ t.change → r ≡ t
apart_same [] r t h m n e = absurd m
apart_same (x ∷ xs) r t h m n e = ⊎_elim
    (λ (a : x ≡ r). ⊎_elim
    (λ (b : x ≡ t). sym a ∙ b)
    (λ (b : In t xs). absurd (h.0 t b (ap (λ (y : Ready). y.change) a ∙ e)))
    n)
    (λ (a : In r xs). ⊎_elim
    (λ (b : x ≡ t). absurd (h.0 r a (ap (λ (y : Ready). y.change) b ∙ sym e)))
    (λ (b : In t xs). apart_same xs r t h.1 a b e)
    n)
    m

-- ---- the list that rows tell

-- the list holds each change whose row has an approval, and no other
pub record AreReady (rows : List ChangeRow) (rs : List Ready) : Type 0 where
  pub climbing : Climbing rs
  pub apart : Apart rs
  pub told : (r : Ready) → In r rs → approval_in rows r.change ≡ Some r.approval
  pub there : (r : Ready) → approval_in rows r.change ≡ Some r.approval → In r rs

approval_put : (n : ℕ) (k : Change) (a : Option ℕ) (rows : List ChangeRow) →
    approval_in (put_by (λ r. r.change.number) (record { change = k; approval = a }) rows) n ≡
    cond (k.number == n) a (approval_in rows n)
approval_put n k a rows =
    ap (option_and_then (λ (r : ChangeRow). r.approval))
    (find_put (λ (r : ChangeRow). r.change.number) n (record { change = k; approval = a }) rows)
    ∙ by_test (k.number == n)
  where
    by_test : (b : Bool) →
        option_and_then (λ (r : ChangeRow). r.approval)
        (cond b (Some (record { change = k; approval = a }))
        (find (λ (r : ChangeRow). r.change.number == n) rows)) ≡
        cond b a (approval_in rows n)
    by_test true = refl
    by_test false = refl

-- who is left without a change
pub other_than : (n : ℕ) (rs : List Ready) (r : Ready) → In r (ready_without n rs) → In r rs × (r.change ≢ n)
other_than n rs r m =
    let at = from_filter (λ (t : Ready). not (t.change == n)) rs r m in
    (at.0, (λ e. true≢false (sym (eq-eqb r.change n e) ∙ not-true (r.change == n) at.1)))

pub stays_in : (n : ℕ) (rs : List Ready) (r : Ready) → In r rs → r.change ≢ n → In r (ready_without n rs)
stays_in n rs r m other =
    to_filter (λ (t : Ready). not (t.change == n)) rs r m (ap not (ne_eqb r.change n other))

ready_step : (rows : List ChangeRow) (rs : List Ready) (k : Change) (a : Option ℕ) → AreReady rows rs →
    AreReady (edited_changes rows (edit.PutChange k a)) (with_approval a k.number (ready_without k.number rs))
ready_step rows rs k None h =
    let n = k.number in
    record {
      climbing = climbing_filter (λ (t : Ready). not (t.change == n)) rs h.climbing;
      apart = apart_filter (λ (t : Ready). not (t.change == n)) rs h.apart;
      told = λ r m.
          let at = other_than n rs r m in
          approval_put r.change k None rows
          ∙ ap (λ b. cond b None (approval_in rows r.change)) (ne_eqb n r.change (λ e. at.1 (sym e))) ∙ h.told r at.0;
      there = λ r e. by_test r (n == r.change) refl (sym (approval_put r.change k None rows) ∙ e);
    }
  where
    by_test : (r : Ready) (b : Bool) → k.number == r.change ≡ b →
        cond b None (approval_in rows r.change) ≡ Some r.approval →
        In r (ready_without k.number rs)
    by_test r true f e = absurd (none-some r.approval e)
    by_test r false f e =
        stays_in k.number rs r (h.there r e) (λ g. true≢false (sym (eq-eqb k.number r.change (sym g)) ∙ f))
ready_step rows rs k (Some a) h =
    let n = k.number in
    let climbs = climbing_filter (λ (t : Ready). not (t.change == n)) rs h.climbing in
    let others = apart_filter (λ (t : Ready). not (t.change == n)) rs h.apart in
    record {
      climbing = climbing_join (filter before rest) (new ∷ filter behind rest) (climbing_filter before rest climbs) (
        (λ t m. ltb-false t.approval a (not-true (nat_lt t.approval a) (from_filter behind rest t m).1)),
        climbing_filter behind rest climbs,
      )
          low;
      apart = apart_join (filter before rest) (new ∷ filter behind rest) (apart_filter before rest others)
          ((λ t m e. (other_than n rs t (from_filter behind rest t m).0).1 (sym e)), apart_filter behind rest others)
          (other others);
      told = λ r m. ⊎_elim
          (λ (p : In r (filter before rest)). told r (from_filter before rest r p).0)
          (λ (p : In r (new ∷ filter behind rest)). ⊎_elim
          (λ (e : new ≡ r). subst (λ (t : Ready). approval_in (edited_changes rows (edit.PutChange k (Some a)))
          t.change ≡ Some t.approval) e
          (approval_put n k (Some a) rows ∙ ap (λ b. cond b (Some a) (approval_in rows n)) (eq-eqb n n refl)))
          (λ (q : In r (filter behind rest)). told r (from_filter behind rest r q).0)
          p)
          (from_append (filter before rest) (new ∷ filter behind rest) r m);
      there = λ r e. by_test r (n == r.change) refl (sym (approval_put r.change k (Some a) rows) ∙ e);
    }
  where
    rest : List Ready
    rest = ready_without k.number rs

    new : Ready
    new = record { approval = a; change = k.number }

    before : Ready → Bool
    before r = nat_lt r.approval a

    behind : Ready → Bool
    behind r = not (nat_lt r.approval a)

    told : (r : Ready) → In r rest → approval_in (edited_changes rows (edit.PutChange k (Some a))) r.change ≡
        Some r.approval
    told r m =
        let at = other_than k.number rs r m in
        approval_put r.change k (Some a) rows
        ∙ ap (λ b. cond b (Some a) (approval_in rows r.change)) (ne_eqb k.number r.change (λ e. at.1 (sym e)))
        ∙ h.told r at.0

    low : (r t : Ready) → In r (filter before rest) → In t (new ∷ filter behind rest) → r.approval ≤ t.approval
    low r t m p =
        let under = ltb-true r.approval a (from_filter before rest r m).1 in
        ⊎_elim
        (λ (e : new ≡ t). let same = ap (λ (x : Ready). x.approval) e in omega (arith, under, same))
        (λ (q : In t (filter behind rest)).
        let over = ltb-false t.approval a (not-true (nat_lt t.approval a) (from_filter behind rest t q).1) in
        omega (arith, under, over))
        p

    other : Apart rest → (r t : Ready) → In r (filter before rest) → In t (new ∷ filter behind rest) →
        r.change ≢ t.change
    other apart r t m p e =
        let left = from_filter before rest r m in
        ⊎_elim
        (λ (f : new ≡ t). (other_than k.number rs r left.0).1 (e ∙ sym (ap (λ (x : Ready). x.change) f)))
        (λ (q : In t (filter behind rest)).
        let right = from_filter behind rest t q in
        let same = apart_same rest r t apart left.0 right.0 e in
        true≢false (sym left.1 ∙ ap before same ∙ not-true (nat_lt t.approval a) right.1))
        p

    placed : (r : Ready) (b : Bool) → before r ≡ b → In r rest → In r (filter before rest ++ (new ∷ filter behind rest))
    placed r true f m =
        to_left (filter before rest) (new ∷ filter behind rest) r (to_filter before rest r m f)
    placed r false f m =
        to_right (filter before rest) (new ∷ filter behind rest) r (inr (to_filter behind rest r m (ap not f)))

    by_test : (r : Ready) (b : Bool) → k.number == r.change ≡ b →
        cond b (Some a) (approval_in rows r.change) ≡ Some r.approval →
        In r (filter before rest ++ (new ∷ filter behind rest))
    by_test r true f e =
        let approval = some_is a r.approval e in
        let change = eqb-true k.number r.change f in
        let same : new ≡ r = λ i. record { approval = approval i; change = change i } in
        to_right (filter before rest) (new ∷ filter behind rest) r (inl same)
    by_test r false f e =
        placed r (before r) refl
        (stays_in k.number rs r (h.there r e) (λ g. true≢false (sym (eq-eqb k.number r.change (sym g)) ∙ f)))

-- the approval of a change whose stage is set
approval_set : (n m : ℕ) (g : Stage) (rows : List ChangeRow) →
    approval_in (edited_changes rows (edit.SetStage m g)) n ≡ cond (m == n) None (approval_in rows n)
approval_set n m g rows =
    ap (option_and_then (λ (r : ChangeRow). r.approval))
    (found_changed (λ (r : ChangeRow). r.change.number) m (at_stage g) (λ r. refl) n rows)
    ∙ by_row (find (λ (r : ChangeRow). r.change.number == n) rows)
    (λ r e. found_key (λ (k : ChangeRow). k.change.number) n rows r e)
  where
    by_row : (o : Option ChangeRow) → ((r : ChangeRow) → o ≡ Some r → r.change.number ≡ n) →
        option_and_then (λ (r : ChangeRow). r.approval)
        (option_map (λ (r : ChangeRow). cond (r.change.number == m) (at_stage g r) r) o)
        ≡ cond (m == n) None (option_and_then (λ (r : ChangeRow). r.approval) o)
    by_row None its = elim (m == n) as (λ b. ◌≡◌ {A = Option ℕ} None (cond b None None)) [ true ↦ refl | false ↦ refl ]
    by_row (Some r) its =
        ap (λ k. (cond (k == m) (at_stage g r) r).approval) (its r refl)
        ∙ ap (λ b. (cond b (at_stage g r) r).approval) (turned n m)
        ∙ elim (m == n) as (λ b. (cond b (at_stage g r) r).approval ≡ cond b None r.approval)
        [ true ↦ refl | false ↦ refl ]

ready_set : (rows : List ChangeRow) (rs : List Ready) (n : ℕ) (g : Stage) → AreReady rows rs →
    AreReady (edited_changes rows (edit.SetStage n g)) (ready_without n rs)
ready_set rows rs n g h = record {
  climbing = climbing_filter (λ (t : Ready). not (t.change == n)) rs h.climbing;
  apart = apart_filter (λ (t : Ready). not (t.change == n)) rs h.apart;
  told = λ r m.
      let at = other_than n rs r m in
      approval_set r.change n g rows
      ∙ ap (λ b. cond b None (approval_in rows r.change)) (ne_eqb n r.change (λ e. at.1 (sym e))) ∙ h.told r at.0;
  there = λ r e. by_test r (n == r.change) refl (sym (approval_set r.change n g rows) ∙ e);
}
  where
    by_test : (r : Ready) (b : Bool) → n == r.change ≡ b → cond b None (approval_in rows r.change) ≡ Some r.approval →
        In r (ready_without n rs)
    by_test r true f e = absurd (none-some r.approval e)
    by_test r false f e = stays_in n rs r (h.there r e) (λ q. true≢false (sym (eq-eqb n r.change (sym q)) ∙ f))

ready_all : (rows : List ChangeRow) (rs : List Ready) (edits : List Edit) → AreReady rows rs →
    AreReady (fold edited_changes rows edits) (fold ready_after rs edits)
ready_all rows rs [] h = h
ready_all rows rs (edit.PutChange k a ∷ es) h =
    ready_all (edited_changes rows (edit.PutChange k a)) (ready_after rs (edit.PutChange k a)) es
    (ready_step rows rs k a h)
ready_all rows rs (edit.SetStage n g ∷ es) h =
    ready_all (edited_changes rows (edit.SetStage n g)) (ready_without n rs) es (ready_set rows rs n g h)
ready_all rows rs (edit.PutItem q i ∷ es) h = ready_all rows rs es h
ready_all rows rs (edit.DropItem k ∷ es) h = ready_all rows rs es h
ready_all rows rs (edit.LandItem k ∷ es) h = ready_all rows rs es h
ready_all rows rs (edit.PutPlan k ∷ es) h = ready_all rows rs es h
ready_all rows rs (edit.PutLanding q p l ∷ es) h = ready_all rows rs es h
ready_all rows rs (edit.PutReport q p l ∷ es) h = ready_all rows rs es h
ready_all rows rs (edit.PutBuild b ∷ es) h = ready_all rows rs es h
ready_all rows rs (edit.SetOutcome b o ∷ es) h = ready_all rows rs es h
ready_all rows rs (edit.StopBuild b ∷ es) h = ready_all rows rs es h
ready_all rows rs (edit.SetWindow q w ∷ es) h = ready_all rows rs es h
ready_all rows rs (edit.SetCounter k d ∷ es) h = ready_all rows rs es h
ready_all rows rs (edit.Keep k ∷ es) h = ready_all rows rs es h

-- ---- a sound state's list

approvals_rise : (c : Settings) (s : State) → IsSound c s → Rising (λ (r : Ready). r.approval) s.ready
approvals_rise c s sound = rising (λ (r : Ready). r.approval) s.ready sound.ready_rises

climbs : (rs : List Ready) → Rising (λ (r : Ready). r.approval) rs → Climbing rs
climbs [] h = tt
climbs (r ∷ rs) h = ((λ t m. let up = h.0 t m in omega (arith, up)), climbs rs h.1)

-- two of one change would be one, and no approval stands twice
differ : (rs : List Ready) → Rising (λ (r : Ready). r.approval) rs →
    ((r t : Ready) → In r rs → In t rs → r.change ≡ t.change → r ≡ t) → Apart rs
differ [] up h = tt
differ (r ∷ rs) up h = (
  (λ t m e. let same = ap (λ (x : Ready). x.approval) (h r t (inl refl) (inr m) e) in let low = up.0 t m in
      omega (arith, same, low)),
  differ rs up.1 (λ x t m n e. h x t (inr m) (inr n) e),
)

pub apart_ready : (c : Settings) (s : State) → IsSound c s → Apart s.ready
apart_ready c s sound =
    differ s.ready (approvals_rise c s sound)
    (λ r t m n e. one_of (λ (x : Ready). x.change) s.ready r t
    (let most = distinct_from (waiting_changes s) sound.waiting_differ r.change in
    let sum = times-append r.change (map (λ i. i.change) (flat_map (λ q. q.items) s.queues))
    (map (λ (x : Ready). x.change) s.ready) in
    omega (arith, most, sum)) m n e)

-- an open change is known
pub open_known : (s : State) (n : ℕ) → is_open (change_of s n) ≡ true → (k : Change) × (known_change s n ≡ Some k)
open_known s n is = by_known (known_change s n) refl is
  where
    by_known : (o : Option Change) → known_change s n ≡ o →
        is_open (unwrap_or o (record { number = n; project = []; revision = 0; stage = stage.Closed; needs = [] })) ≡
        true →
        (k : Change) × (o ≡ Some k)
    by_known None e f = absurd (true≢false (sym f))
    by_known (Some k) e f = (k, refl)

-- the row's approval is that of the list
row_tells : (s : State) (n : ℕ) → approval_in (map (change_row s.ready) s.changes) n ≡
    option_and_then (λ (k : Change). approval_of s.ready k.number) (known_change s n)
row_tells s n =
    ap (option_and_then (λ (r : ChangeRow). r.approval))
    (find_map (change_row s.ready) (λ (r : ChangeRow). r.change.number == n) s.changes) ∙ by_found (known_change s n)
  where
    by_found : (o : Option Change) → option_and_then (λ (r : ChangeRow). r.approval)
        (option_map (change_row s.ready) o) ≡
        option_and_then (λ (k : Change). approval_of s.ready k.number) o
    by_found None = refl
    by_found (Some k) = refl

listed : (rs : List Ready) (r : Ready) → Apart rs → In r rs → approval_of rs r.change ≡ Some r.approval
listed rs r apart m = by_found (find (λ (t : Ready). t.change == r.change) rs) refl
  where
    by_found : (o : Option Ready) → find (λ (t : Ready). t.change == r.change) rs ≡ o →
        option_map (λ (t : Ready). t.approval) o ≡ Some r.approval
    by_found None e = absurd (true≢false (sym (eq-eqb r.change r.change refl)
        ∙ not_found (λ (t : Ready). t.change == r.change) rs e r m))
    by_found (Some t) e =
        let at = found (λ (t : Ready). t.change == r.change) rs t e in
        ap (λ (x : Ready). Some x.approval) (apart_same rs t r apart at.0 m (eqb-true t.change r.change at.1))

unlisted : (rs : List Ready) (r : Ready) → approval_of rs r.change ≡ Some r.approval → In r rs
unlisted rs r e = by_found (find (λ (t : Ready). t.change == r.change) rs) refl e
  where
    by_found : (o : Option Ready) → find (λ (t : Ready). t.change == r.change) rs ≡ o →
        option_map (λ (t : Ready). t.approval) o ≡ Some r.approval → In r rs
    by_found None f g = absurd (none-some r.approval g)
    by_found (Some t) f g =
        let at = found (λ (t : Ready). t.change == r.change) rs t f in
        let approval = some_is t.approval r.approval g in
        let change = eqb-true t.change r.change at.1 in
        let same : t ≡ r = λ i. record { approval = approval i; change = change i } in
        subst (λ (x : Ready). In x rs) same at.0

ready_of_sound : (c : Settings) (s : State) → IsSound c s → AreReady (map (change_row s.ready) s.changes) s.ready
ready_of_sound c s sound =
    let apart = apart_ready c s sound in
    record {
      climbing = climbs s.ready (approvals_rise c s sound);
      apart = apart;
      told = λ r m.
          let known = open_known s r.change (every (λ (t : Ready). is_open (change_of s t.change) ≡ true) s.ready
          sound.ready_are_open r m) in
          row_tells s r.change ∙ ap (option_and_then (λ (k : Change). approval_of s.ready k.number)) known.1
          ∙ ap (approval_of s.ready) (known_number s r.change known.0 known.1) ∙ listed s.ready r apart m;
      there = λ r e. by_known r (known_change s r.change) refl (sym (row_tells s r.change) ∙ e);
    }
  where
    by_known : (r : Ready) (o : Option Change) → known_change s r.change ≡ o →
        option_and_then (λ (k : Change). approval_of s.ready k.number) o ≡ Some r.approval → In r s.ready
    by_known r None f e = absurd (none-some r.approval e)
    by_known r (Some k) f e = unlisted s.ready r (ap (approval_of s.ready) (sym (known_number s r.change k f)) ∙ e)

-- ---- it is the one list

same_list : (rs ts : List Ready) → Climbing rs → Apart rs → Rising (λ (r : Ready). r.approval) ts →
    ((r : Ready) → In r rs → In r ts) → ((r : Ready) → In r ts → In r rs) → rs ≡ ts
same_list [] [] climb apart up f g = refl
same_list [] (t ∷ ts) climb apart up f g = absurd (g t (inl refl))
same_list (r ∷ rs) [] climb apart up f g = absurd (f r (inl refl))
same_list (r ∷ rs) (t ∷ ts) climb apart up f g =
    λ i. first i ∷ same_list rs ts climb.1 apart.1 up.1 rest_f rest_g i
  where
    first : r ≡ t
    first = ⊎_elim
        (λ (e : t ≡ r). sym e)
        (λ (m : In r ts). ⊎_elim
        (λ (e : r ≡ t). e)
        (λ (n : In t rs). let low = climb.0 t n in let high = up.0 r m in absurd (omega (arith, low, high)))
        (g t (inl refl)))
        (f r (inl refl))

    rest_f : (x : Ready) → In x rs → In x ts
    rest_f x m = ⊎_elim
        (λ (e : t ≡ x). absurd (apart.0 x m (ap (λ (y : Ready). y.change) (first ∙ e))))
        (λ (n : In x ts). n)
        (f x (inr m))

    rest_g : (x : Ready) → In x ts → In x rs
    rest_g x m = ⊎_elim
        (λ (e : r ≡ x). let same = ap (λ (y : Ready). y.approval) (sym first ∙ e) in let high = up.0 x m in
        absurd (omega (arith, same, high)))
        (λ (n : In x rs). n)
        (g x (inr m))

pub ready_led : (c : Settings) (x : Content) (edits : List Edit) (v : State) → IsSound c x.state → IsLed c x edits v →
    fold ready_after x.state.ready edits ≡ v.ready
ready_led c x edits v sound led =
    let after = ready_all (map (change_row x.state.ready) x.state.changes) x.state.ready edits
    (ready_of_sound c x.state sound) in
    let now = subst (λ rows. AreReady rows v.ready) (sym (changes_led c x edits v led))
    (ready_of_sound c v led.sound) in
    same_list (fold ready_after x.state.ready edits) v.ready after.climbing after.apart (approvals_rise c v led.sound)
    (λ r m. now.there r (after.told r m)) (λ r m. after.there r (now.told r m))
