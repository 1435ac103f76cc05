-- One admission after another, under edits.
use Rattle.std.proofs.Common.{◌≡◌, ℕ, zero, suc, ◌+◌, ◌<◌, ◌≤◌, Bool, true, false, not, ◌||◌, cond, Option, Some}
use Rattle.std.proofs.Common.{None, List, [], ◌∷◌, filter, fold, refl, sym, ap, ◌∙◌, subst, arith, ⊎_elim, true≢false}
use Rattle.std.specs.Prelude.{find, nat_lt, max, length, ◌==◌}
use Rattle.std.specs.List.{list_any}
use Rattle.std.specs.Ordering.{nat_cmp}
use Rattle.std.specs.BTreeMap.{BTreeMap, get}
use Rattle.std.specs.Option.{option_map_or}
use Rattle.std.proofs.lemmas.Bool.{ltb-true, ltb-false, lt-ltb, le-ltb, or_parts, eq-eqb}
use Rattle.gate_types.specs.declared.records.Ready.{Ready}
use Rattle.gate_types.specs.declared.edits.Edit.{Edit}
use Rattle.gate_types.specs.declared.edits.Edit.TheVariants as edit
use Rattle.gate_types.specs.declared.edits.Counter.TheVariants as counter
use Rattle.gate_types.specs.Counters.{Drawn, last_number}
use Rattle.gate_types.specs.Settings.{Settings}
use Rattle.gate_types.specs.State.{State}
use Rattle.gate_types.specs.Once.{Content}
use Rattle.gate_types.specs.Tables.{Leads, edited_counters}
use Rattle.gate_types.specs.Admit.{may_enter, entered, admit_one, admit}
use Rattle.gate_types.specs.Step.{is_exhausted}
use Rattle.gate_types.specs.Rising.{In}
use Rattle.gate_reads.specs.Moves.{in_state}
use Rattle.gate_laws.proofs.Members.{found}
use Rattle.gate_admission.specs.Led.{IsLed}
use Rattle.gate_admission.specs.Counted.{sets_past}
use Rattle.gate_admission.specs.Candidates.{AreCandidates}
use Rattle.gate_admission.proofs.Led.{counters_led}
use Rattle.gate_admission.proofs.Waiting.{nobody_left}
use Rattle.gate_admission.proofs.Admitted.{tries, admit_tries, tries_more, all_in, one_in, none_left, order_rises}

-- each number is at most the last one
record AreInRange (d : Drawn) : Type 0 where
  approval : d.approval ≤ last_number
  build : d.build ≤ last_number
  order : d.order ≤ last_number

-- the edits lead to a state with this order counter, and its other counters aren't past the last number
pub record IsUnder (c : Settings) (x : Content) (edits : List Edit) (drawn : ℕ) (u : State) : Type 0 where
  pub led : IsLed c x edits u
  pub order : u.counters.order ≡ drawn
  pub approval : u.counters.approval ≤ last_number
  pub build : u.counters.build ≤ last_number

-- ---- counters

same_counters : (c : Settings) (s : State) (n : ℕ) →
    ((tries c s n).counters.approval ≡ s.counters.approval) × ((tries c s n).counters.build ≡ s.counters.build)
same_counters c s zero = (refl, refl)
same_counters c s (suc n) =
    let rest = same_counters c (admit_one c s) n in
    let one = by_found (find (may_enter c s) s.ready) in
    (rest.0 ∙ one.0, rest.1 ∙ one.1)
  where
    by_found : (o : Option Ready) → ((option_map_or (entered c s) o s).counters.approval ≡ s.counters.approval) ×
        ((option_map_or (entered c s) o s).counters.build ≡ s.counters.build)
    by_found None = (refl, refl)
    by_found (Some r) = (refl, refl)

-- one is past the last number
past_one : (a b o : ℕ) → (nat_lt last_number a || nat_lt last_number b || nat_lt last_number o) ≡ true →
    last_number < max a (max b o)
past_one a b o h = by_tests (nat_lt last_number a) refl (nat_lt last_number b) refl
    (nat_lt last_number o) refl h
  where
    by_tests : (p : Bool) → nat_lt last_number a ≡ p → (q : Bool) → nat_lt last_number b ≡ q → (r : Bool) →
        nat_lt last_number o ≡ r → (p || q || r) ≡ true → last_number < max a (max b o)
    by_tests true e q f r g k = let low = ltb-true last_number a e in omega (arith, low)
    by_tests false e true f r g k = let low = ltb-true last_number b f in omega (arith, low)
    by_tests false e false f true g k = let low = ltb-true last_number o g in omega (arith, low)
    by_tests false e false f false g k = absurd (true≢false (sym k))

-- none is
pub none_past : (a b o : ℕ) → (nat_lt last_number a || nat_lt last_number b || nat_lt last_number o) ≡
    false →
    (a ≤ last_number) × (b ≤ last_number) × (o ≤ last_number)
none_past a b o h = by_tests (nat_lt last_number a) refl (nat_lt last_number b) refl
    (nat_lt last_number o) refl h
  where
    by_tests : (p : Bool) → nat_lt last_number a ≡ p → (q : Bool) → nat_lt last_number b ≡ q → (r : Bool) →
        nat_lt last_number o ≡ r → (p || q || r) ≡ false →
        (a ≤ last_number) × (b ≤ last_number) × (o ≤ last_number)
    by_tests true e q f r g k = absurd (true≢false k)
    by_tests false e true f r g k = absurd (true≢false k)
    by_tests false e false f true g k = absurd (true≢false k)
    by_tests false e false f false g k =
        (ltb-false last_number a e, ltb-false last_number b f, ltb-false last_number o g)

-- what is past stays so
pub past_stays : (c : Settings) (v : State) →
    (nat_lt last_number v.counters.approval || nat_lt last_number v.counters.build ||
    nat_lt last_number v.counters.order) ≡ true → is_exhausted (admit c v) ≡ true
past_stays c v h =
    let n = length v.ready in
    let past = past_one v.counters.approval v.counters.build v.counters.order h in
    let same = same_counters c v n in
    let more = order_rises c v n in
    ap is_exhausted (admit_tries c v)
    ∙ lt-ltb last_number (max (tries c v n).counters.approval
    (max (tries c v n).counters.build (tries c v n).counters.order))
    (omega (arith, past, same.0, same.1, more))

-- where no serial is left for one, the counter passes the last number
pub runs_out : (c : Settings) (v : State) (m : ℕ) (r : Ready) → m + 1 ≤ length v.ready →
    find (may_enter c (tries c v m)) (tries c v m).ready ≡ Some r → last_number ≤ (tries c v m).counters.order →
    is_exhausted (admit c v) ≡ true
runs_out c v m r l e h =
    let n = length v.ready in
    let past = ltb-true last_number (tries c v n).counters.order (none_left c v m n r l e h) in
    ap is_exhausted (admit_tries c v)
    ∙ lt-ltb last_number (max (tries c v n).counters.approval
    (max (tries c v n).counters.build (tries c v n).counters.order))
    (omega (arith, past))

-- ---- the end

pub at_the_end : (c : Settings) (x : Content) (edits : List Edit) (order : ℕ) (v u : State) → order ≤ last_number →
    IsUnder c x edits order u → admit c v ≡ u →
    Leads c x edits (in_state x (admit c v)) × (is_exhausted (admit c v) ≡ false)
at_the_end c x edits order v u low under e =
    let o = under.order in
    let a = under.approval in
    let b = under.build in (
      subst (λ (t : State). Leads c x edits (in_state x t)) (sym e) under.led.leads,
      ap is_exhausted e ∙ le-ltb last_number (max u.counters.approval (max u.counters.build u.counters.order))
          (omega (arith, low, o, a, b)),
    )

-- nobody may enter any more
pub nobody_enters : (c : Settings) (v : State) (m : ℕ) → m ≤ length v.ready →
    find (may_enter c (tries c v m)) (tries c v m).ready ≡ None → admit c v ≡ tries c v m
nobody_enters c v m l e = admit_tries c v ∙ all_in c v m (length v.ready) l e

-- one more has entered
pub one_more : (c : Settings) (x : Content) (edits all : List Edit) (order : ℕ) (v : State) (m : ℕ) (r : Ready) →
    IsUnder c x edits order (tries c v m) → find (may_enter c (tries c v m)) (tries c v m).ready ≡ Some r →
    IsLed c x all (entered c (tries c v m) r) → IsUnder c x all (order + 1) (tries c v (m + 1))
one_more c x edits all order v m r under first led =
    subst (λ (t : State). IsUnder c x all (order + 1) t) (sym (tries_more c v m ∙ one_in c (tries c v m) r first))
    (record { led = led; order = ap (λ n. n + 1) under.order; approval = under.approval; build = under.build })

-- ---- who entered so far

-- so many have entered, who were ready; behind these edits these are the candidates
pub record AreEntering (c : Settings) (x : Content) (edits : List Edit) (drawn : ℕ) (v : State) (waiting : BTreeMap ℕ ℕ) :
    Type 0 where
  pub entered : ℕ
  pub few : length (tries c v entered).ready + entered ≤ length v.ready
  pub under : IsUnder c x edits drawn (tries c v entered)
  pub candidates : AreCandidates c (tries c v entered) waiting

-- who is found leaves the list
fewer_left : (n : ℕ) (rs : List Ready) (r : Ready) → In r rs → r.change ≡ n →
    length (filter (λ t. not (t.change == n)) rs) + 1 ≤ length rs
fewer_left n [] r m e = absurd m
fewer_left n (y ∷ ys) r m e = by_test (y.change == n) refl (λ k. fewer_left n ys r k e) (no_more ys)
  where
    no_more : (ts : List Ready) → length (filter (λ t. not (t.change == n)) ts) ≤ length ts
    no_more [] = omega arith
    no_more (t ∷ ts) = one (t.change == n) (no_more ts)
      where
        one : (b : Bool) → length (filter (λ z. not (z.change == n)) ts) ≤ length ts →
            length (cond (not b) (t ∷ filter (λ z. not (z.change == n)) ts) (filter (λ z. not (z.change == n)) ts)) ≤
            suc (length ts)
        one true h = omega (arith, h)
        one false h = omega (arith, h)

    by_test : (b : Bool) → y.change == n ≡ b →
        (In r ys → length (filter (λ t. not (t.change == n)) ys) + 1 ≤ length ys) →
        length (filter (λ t. not (t.change == n)) ys) ≤ length ys →
        length (cond (not b) (y ∷ filter (λ t. not (t.change == n)) ys) (filter (λ t. not (t.change == n)) ys)) + 1 ≤
        suc (length ys)
    by_test true f rest most = omega (arith, most)
    by_test false f rest most = ⊎_elim
        (λ (h : y ≡ r). absurd (true≢false (sym (eq-eqb y.change n (ap (λ (t : Ready). t.change) h ∙ e)) ∙ f)))
        (λ (h : In r ys). let k = rest h in omega (arith, k))
        m

still_ready : (c : Settings) (u : State) (r : Ready) → find (may_enter c u) u.ready ≡ Some r →
    length (entered c u r).ready + 1 ≤ length u.ready
still_ready c u r first = fewer_left r.change u.ready r (found (may_enter c u) u.ready r first).0 refl

-- one more has
pub next_entered : (c : Settings) (x : Content) (edits all : List Edit) (drawn : ℕ) (v : State) (r : Ready)
    (waiting next : BTreeMap ℕ ℕ) (h : AreEntering c x edits drawn v waiting) →
    find (may_enter c (tries c v h.entered)) (tries c v h.entered).ready ≡ Some r →
    IsLed c x all (entered c (tries c v h.entered) r) → AreCandidates c (entered c (tries c v h.entered) r) next →
    AreEntering c x all (drawn + 1) v next
next_entered c x edits all drawn v r waiting next h first led are =
    let u = tries c v h.entered in
    let is : tries c v (h.entered + 1) ≡ entered c u r = tries_more c v h.entered ∙ one_in c u r first in
    let less = still_ready c u r first in
    let same = ap (λ (t : State). length t.ready) is in
    let few = h.few in
    record {
      entered = h.entered + 1;
      few = omega (arith, less, same, few);
      under = one_more c x edits all drawn v h.entered r h.under first led;
      candidates = subst (λ (t : State). AreCandidates c t next) (sym is) are;
    }

-- all have: nobody else may enter
pub all_entered : (c : Settings) (x : Content) (edits : List Edit) (drawn : ℕ) (v : State) (waiting : BTreeMap ℕ ℕ)
    (h : AreEntering c x edits drawn v waiting) → drawn ≤ last_number →
    find (may_enter c (tries c v h.entered)) (tries c v h.entered).ready ≡ None →
    Leads c x edits (in_state x (admit c v)) × (is_exhausted (admit c v) ≡ false)
all_entered c x edits drawn v waiting h low none =
    let few = h.few in
    at_the_end c x edits drawn v (tries c v h.entered) low h.under
    (nobody_enters c v h.entered (omega (arith, few)) none)

-- no serial is left for the next
pub none_for_next : (c : Settings) (x : Content) (edits : List Edit) (drawn : ℕ) (v : State) (r : Ready)
    (waiting : BTreeMap ℕ ℕ) (h : AreEntering c x edits drawn v waiting) →
    find (may_enter c (tries c v h.entered)) (tries c v h.entered).ready ≡ Some r → last_number ≤ drawn →
    is_exhausted (admit c v) ≡ true
none_for_next c x edits drawn v r waiting h first last =
    let less = still_ready c (tries c v h.entered) r first in
    let few = h.few in
    let order = h.under.order in
    runs_out c v h.entered r (omega (arith, few, less)) first (omega (arith, order, last))

-- a counter that no edit sets past the last number isn't
not_past : (d : Drawn) (edits : List Edit) → list_any sets_past edits ≡ false → AreInRange d →
    AreInRange (fold edited_counters d edits)
not_past d [] h r = r
not_past d (e ∷ es) h r =
    let both = or_parts (sets_past e) (list_any sets_past es) h in
    not_past (edited_counters d e) es both.1 (one e both.0)
  where
    one : (e : Edit) → sets_past e ≡ false → AreInRange (edited_counters d e)
    one (edit.SetCounter counter.Approval n) f =
        record { approval = ltb-false last_number n f; build = r.build; order = r.order }
    one (edit.SetCounter counter.Build n) f =
        record { approval = r.approval; build = ltb-false last_number n f; order = r.order }
    one (edit.SetCounter counter.Order n) f =
        record { approval = r.approval; build = r.build; order = ltb-false last_number n f }
    one (edit.PutItem q i) f = r
    one (edit.DropItem k) f = r
    one (edit.LandItem k) f = r
    one (edit.PutChange k a) f = r
    one (edit.SetStage k g) f = r
    one (edit.PutPlan k) f = r
    one (edit.PutLanding q p l) f = r
    one (edit.PutReport q p l) f = r
    one (edit.PutBuild b) f = r
    one (edit.SetOutcome b o) f = r
    one (edit.StopBuild b) f = r
    one (edit.SetWindow q w) f = r
    one (edit.Keep k) f = r

-- where nobody is a candidate, and no counter is set past the last number, admission changes nothing
pub idle_stays : (c : Settings) (x : Content) (edits : List Edit) (v : State) (waiting : BTreeMap ℕ ℕ) →
    is_exhausted x.state ≡ false → IsLed c x edits v → list_any sets_past edits ≡ false → AreCandidates c v waiting →
    ((a : ℕ) → get nat_cmp waiting a ≡ None) →
    Leads c x edits (in_state x (admit c v)) × (is_exhausted (admit c v) ≡ false)
idle_stays c x edits v waiting before led none are empty =
    let most = ltb-false last_number _ before in
    let start : AreInRange x.state.counters = record {
      approval = omega (arith, most);
      build = omega (arith, most);
      order = omega (arith, most);
    } in
    let range = subst AreInRange (counters_led c x edits v led) (not_past x.state.counters edits none start) in
    let a = range.approval in
    let b = range.build in
    at_the_end c x edits v.counters.order v v range.order
    (record { led = led; order = refl; approval = a; build = b })
    (nobody_enters c v 0 (omega arith) (nobody_left c v waiting are empty))
