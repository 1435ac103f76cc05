-- The stored rows of a queue around the touched one, and how visits see them.
use Rattle.std.proofs.Common.{◌≡◌, ℕ, suc, ◌<◌, ◌≤◌, Bool, true, false, not, ◌&&◌, ◌||◌, cond, Option, Some, None}
use Rattle.std.proofs.Common.{List, [], ◌∷◌, ◌++◌, map, refl, sym, ap, ◌∙◌, true≢false, arith}
use Rattle.std.specs.Prelude.{◌==◌, filter, find, option_map, option_and_then, nat_le}
use Rattle.std.specs.Option.{option_map_or}
use Rattle.std.proofs.lemmas.Bool.{eqb-true, eq-eqb, ne_eqb, le-leb, leb-true}
use Rattle.std.proofs.lemmas.List.Folds.{list_any-append}
use Rattle.gate_types.specs.declared.records.Build.{Build}
use Rattle.gate_types.specs.declared.records.Item.{Item as ItemRow}
use Rattle.gate_types.specs.Settings.{Settings}
use Rattle.gate_types.specs.State.{Item, State, has_change, plan_of}
use Rattle.gate_types.specs.Line.{Place}
use Rattle.gate_types.specs.Standing.{with_ahead, next_ahead, places_after, needs_of}
use Rattle.gate_types.specs.Rows.{row_of}
use Rattle.gate_types.specs.Rising.{RisesFrom}
use Rattle.gate_walk.specs.Walk.{Seen}
use Rattle.gate_walk.specs.Rescan.{standing_in, row_seen, without_row, rows_from, ahead_at, fails_at}
use Rattle.gate_walk.proofs.Steps.{seen_need}
use Rattle.gate_walk.proofs.Resets.{Quiet, visits}
use Rattle.gate_walk.proofs.Events.{all_before}
use Rattle.gate_walk.proofs.Calm.{Says, says_next}
use Rattle.gate_laws.proofs.LiveBuildsCount.{place_serial}
use Rattle.gate_laws.proofs.Places.{ahead_end}

-- ---- where items stand, by the rows that are left

pub says_through : (stand : ℕ → Option Bool) (bs : List Build) (tail : List ItemRow) (before ahead : List Item) (ps : List Place) → Says stand before (map (row_of bs) (places_after bs ahead ps) ++ tail) → Says stand (all_before before ps) tail
says_through stand bs tail before ahead [] h = h
says_through stand bs tail before ahead (p ∷ ps) h =
    let at = with_ahead ahead p in
    says_through stand bs tail (before ++ p.item ∷ []) (next_ahead bs at) ps (says_next stand before p.item (row_of bs at) (map (row_of bs) (places_after bs (next_ahead bs at) ps) ++ tail) refl h)

-- quiet by all rows is quiet by those that are left
pub restand : (old stand : ℕ → Option Bool) (bs : List Build) (tail : List ItemRow) (before ahead : List Item) (ps : List Place) → Says stand before (map (row_of bs) (places_after bs ahead ps) ++ tail) → Quiet old bs before ahead ps → Quiet stand bs before ahead ps
restand old stand bs tail before ahead [] h q = tt
restand old stand bs tail before ahead (p ∷ ps) h q =
    let at = with_ahead ahead p in
    let rest = map (row_of bs) (places_after bs (next_ahead bs at) ps) ++ tail in (
      record {
        counting = q.0.counting;
        ended = q.0.ended;
        stays = q.0.stays;
        standing = h p.item.change q.0.fresh ∙ ap (λ x. option_map (λ (y : ItemRow). y.failing) (cond x (Some (row_of bs at)) (find (λ y. y.change == p.item.change) rest))) (eq-eqb p.item.change p.item.change refl);
        fresh = q.0.fresh;
        open_needs = q.0.open_needs;
      },
      restand old stand bs tail (before ++ p.item ∷ []) (next_ahead bs at) ps (says_next stand before p.item (row_of bs at) rest refl h) q.1,
    )

-- a change of an item before stands in no row behind
pub none_in : (stand : ℕ → Option Bool) (bs : List Build) (before ahead : List Item) (ps : List Place) (n : ℕ) → Quiet stand bs before ahead ps → has_change before n ≡ true → standing_in (map (row_of bs) (places_after bs ahead ps)) n ≡ None
none_in stand bs before ahead [] n q h = refl
none_in stand bs before ahead (p ∷ ps) n q h =
    let at = with_ahead ahead p in
    let rest = map (row_of bs) (places_after bs (next_ahead bs at) ps) in
    ap (λ x. option_map (λ (y : ItemRow). y.failing) (cond x (Some (row_of bs at)) (find (λ y. y.change == n) rest))) (other (p.item.change == n) refl)
    ∙ none_in stand bs (before ++ p.item ∷ []) (next_ahead bs at) ps n q.1 (list_any-append (λ (j : Item). j.change == n) before (p.item ∷ []) ∙ ap (λ x. x || (p.item.change == n || false)) h)
  where
    other : (x : Bool) → (p.item.change == n) ≡ x → (p.item.change == n) ≡ false
    other false e = e
    other true e = absurd (true≢false (sym h ∙ ap (has_change before) (sym (eqb-true p.item.change n e)) ∙ q.0.fresh))

-- ---- the rows by their serials

-- all above, or all below
abbrev pub AllFrom : ℕ → List ItemRow → Type 0
AllFrom n [] = Unit {0}
AllFrom n (r ∷ rows) = (n ≤ r.serial) × AllFrom n rows

abbrev pub AllUnder : ℕ → List ItemRow → Type 0
AllUnder n [] = Unit {0}
AllUnder n (r ∷ rows) = (r.serial < n) × AllUnder n rows

from_all : (n : ℕ) (rows : List ItemRow) → AllFrom n rows → rows_from n rows ≡ rows
from_all n [] h = refl
from_all n (r ∷ rows) h = λ k. cond (le-leb n r.serial h.0 k) (r ∷ from_all n rows h.1 k) (from_all n rows h.1 k)

from_none : (n : ℕ) (xs ys : List ItemRow) → AllUnder n xs → rows_from n (xs ++ ys) ≡ rows_from n ys
from_none n [] ys h = refl
from_none n (r ∷ rows) ys h = ap (λ t. cond t (r ∷ rows_from n (rows ++ ys)) (rows_from n (rows ++ ys))) (off (nat_le n r.serial) refl) ∙ from_none n rows ys h.1
  where
    off : (t : Bool) → nat_le n r.serial ≡ t → nat_le n r.serial ≡ false
    off false e = e
    off true e = let low : r.serial < n = h.0 in let high : n ≤ r.serial = leb-true n r.serial e in absurd (omega arith)

without_under : (n : ℕ) (xs ys : List ItemRow) → AllUnder n xs → without_row n (xs ++ ys) ≡ xs ++ without_row n ys
without_under n [] ys h = refl
without_under n (r ∷ rows) ys h =
    let low : r.serial < n = h.0 in
    (λ k. cond (not (ne_eqb r.serial n (λ e. omega (arith, e)) k)) (r ∷ without_under n rows ys h.1 k) (without_under n rows ys h.1 k))

without_above : (n : ℕ) (ys : List ItemRow) → AllFrom (suc n) ys → without_row n ys ≡ ys
without_above n [] h = refl
without_above n (r ∷ rows) h =
    let high : suc n ≤ r.serial = h.0 in
    (λ k. cond (not (ne_eqb r.serial n (λ e. omega (arith, e)) k)) (r ∷ without_above n rows h.1 k) (without_above n rows h.1 k))

find_there : (n : ℕ) (xs : List ItemRow) (r : ItemRow) (ys : List ItemRow) → r.serial ≡ n → AllUnder n xs → find (λ x. x.serial == n) (xs ++ r ∷ ys) ≡ Some r
find_there n [] r ys e h = ap (λ t. cond t (Some r) (find (λ x. x.serial == n) ys)) (eq-eqb r.serial n e)
find_there n (x ∷ xs) r ys e h =
    let low : x.serial < n = h.0 in
    ap (λ t. cond t (Some x) (find (λ z. z.serial == n) (xs ++ r ∷ ys))) (ne_eqb x.serial n (λ s. omega (arith, s))) ∙ find_there n xs r ys e h.1

less_all : (m n : ℕ) (rows : List ItemRow) → m ≤ n → AllFrom n rows → AllFrom m rows
less_all m n [] l h = tt
less_all m n (r ∷ rows) l h = let high : n ≤ r.serial = h.0 in (omega arith, less_all m n rows l h.1)

rows_all_from : (bs : List Build) (ahead : List Item) (m n : ℕ) (ps : List Place) → m ≤ n → RisesFrom place_serial n ps → AllFrom m (map (row_of bs) (places_after bs ahead ps))
rows_all_from bs ahead m n [] l r = tt
rows_all_from bs ahead m n (p ∷ ps) l r =
    let low : n ≤ p.item.serial = r.0 in (omega arith, rows_all_from bs (next_ahead bs (with_ahead ahead p)) m (suc p.item.serial) ps (omega arith) r.1)

pub low_place : (n : ℕ) (front : List Place) (p : Place) (behind : List Place) → RisesFrom place_serial n (front ++ p ∷ behind) → n ≤ p.item.serial
low_place n [] p behind r = r.0
low_place n (f ∷ front) p behind r =
    let low : n ≤ f.item.serial = r.0 in
    let more : suc f.item.serial ≤ p.item.serial = low_place (suc f.item.serial) front p behind r.1 in
    omega arith

rows_all_under : (bs : List Build) (ahead : List Item) (n : ℕ) (front : List Place) (p : Place) (behind : List Place) → RisesFrom place_serial n (front ++ p ∷ behind) → AllUnder p.item.serial (map (row_of bs) (places_after bs ahead front))
rows_all_under bs ahead n [] p behind r = tt
rows_all_under bs ahead n (f ∷ front) p behind r =
    let more : suc f.item.serial ≤ p.item.serial = low_place (suc f.item.serial) front p behind r.1 in
    (omega arith, rows_all_under bs (next_ahead bs (with_ahead ahead f)) (suc f.item.serial) front p behind r.1)

-- the parts of the rows around one of them
pub record Parted (n : ℕ) (front : List ItemRow) (r : ItemRow) (behind : List ItemRow) : Type 0 where
  pub from_own : rows_from n (front ++ r ∷ behind) ≡ r ∷ behind
  pub left : without_row n (front ++ r ∷ behind) ≡ front ++ behind
  pub from_behind : rows_from n (front ++ behind) ≡ behind
  pub ahead : ahead_at n (front ++ r ∷ behind) ≡ r.ahead
  pub fails : fails_at n (front ++ r ∷ behind) ≡ r.failing

pub parted : (bs : List Build) (front : List Place) (p : Place) (behind : List Place) (was : List Item) → RisesFrom place_serial 0 (front ++ p ∷ behind) → RisesFrom place_serial (suc p.item.serial) behind →
    (let a = ahead_end bs [] front in Parted p.item.serial (map (row_of bs) (places_after bs [] front)) (row_of bs (with_ahead a p)) (map (row_of bs) (places_after bs was behind)))
parted bs front p behind was r rb =
    let n = p.item.serial in
    let xs = map (row_of bs) (places_after bs [] front) in
    let own = row_of bs (with_ahead (ahead_end bs [] front) p) in
    let ys = map (row_of bs) (places_after bs was behind) in
    let under = rows_all_under bs [] 0 front p behind r in
    let high : AllFrom (suc n) ys = rows_all_from bs was (suc n) (suc n) behind (omega arith) rb in
    let there = find_there n xs own ys refl under in
    record {
      from_own = from_none n xs (own ∷ ys) under ∙ from_all n (own ∷ ys) (omega arith, less_all n (suc n) ys (omega arith) high);
      left = without_under n xs (own ∷ ys) under ∙ ap (λ l. xs ++ l) (ap (λ t. cond (not t) (own ∷ without_row n ys) (without_row n ys)) (eq-eqb n n refl) ∙ without_above n ys high);
      from_behind = from_none n xs ys under ∙ from_all n ys (less_all n (suc n) ys (omega arith) high);
      ahead = ap (λ (o : Option ItemRow). option_and_then (λ x. x.ahead) o) there;
      fails = ap (λ (o : Option ItemRow). option_map_or (λ x. x.failing) o false) there;
    }

-- ---- rows as visits see them

-- the needs and jobs that an item has now, and whether it is to fail fast
abbrev pub AreNow : Settings → State → (Place → Place) → List Place → Type 0
AreNow c t now [] = Unit {0}
AreNow c t now (p ∷ ps) = (needs_of t p.item.change ≡ (now p).needs) × ((plan_of t p.item.serial).jobs ≡ (now p).jobs) × ((plan_of t p.item.serial).fast ≡ (now p).fast) × ((now p).item.serial ≡ p.item.serial) × AreNow c t now ps

pub rows_are_seen : (c : Settings) (t : State) (rows : List ItemRow) (now : Place → Place) (was : List Item) (ps : List Place) → AreNow c t now ps →
    map (row_seen c t rows) (map (row_of t.builds) (places_after t.builds was ps)) ≡ visits (standing_in rows) t.builds now was ps
rows_are_seen c t rows now was [] h = refl
rows_are_seen c t rows now was (p ∷ ps) h =
    let at = with_ahead was p in
    λ k. (let one : Seen = record { row = row_of t.builds at; needs = map (seen_need (standing_in rows)) (h.0 k); jobs = h.1 k; fast = h.2 k; builds = filter (λ b. b.live && b.serial == sym h.3 k) t.builds } in one)
    ∷ rows_are_seen c t rows now (next_ahead t.builds at) ps h.4 k
