-- The indexes of changes, where a change is put or goes.
use Rattle.std.proofs.Common.{◌≡◌, ◌≢◌, ℕ, zero, suc, ◌<◌, ◌⊎◌, inl, inr, ⊎_elim, false, not, cond, Option, Some}
use Rattle.std.proofs.Common.{List, [], ◌∷◌, length, get_or, refl, sym, ap, subst, ◌∙◌, arith}
use Rattle.std.specs.Prelude.{◌==◌}
use Rattle.std.specs.List.{AllByRecursion}
use Rattle.std.proofs.lemmas.Bool.{eq-eqb}
use Rattle.std.proofs.lemmas.Bool.Decides.{eqb_tells}
use Rattle.gate_types.specs.declared.rows.ChangeRow.{ChangeRow}
use Rattle.gate_types.specs.State.{put_by}
use Rattle.gate_types.specs.Keys.{number_of_change}
use Rattle.gate_types.specs.Rising.{RisesFrom, In}
use Rattle.gate_types.specs.Tables.{change_row_in, needs_in}
use Rattle.gate_types.proofs.ChangedLemmas.{needs_of_row}
use Rattle.gate_book_trait.proofs.Finding.{all_in, in_weaker}
use Rattle.gate_memory.specs.declared.pairs.Pair.{Pair}
use Rattle.gate_memory.specs.Pairs.{IsFit}
use Rattle.gate_memory.specs.Sorted.{without}
use Rattle.gate_memory.specs.Needs.{AreNeeds, TellsNeeds, TellsNeedsOf, TellsNoneOf, pair_of_need}
use Rattle.gate_memory.specs.Changes.{TellsReady, indexed_ready}
use Rattle.gate_memory.proofs.TableLemmas.{find_put}
use Rattle.gate_memory.proofs.ChangeLemmas.{dropped, in_dropped}
use Rattle.gate_memory.proofs.NeedLemmas.{all_from, from_filter}
use Rattle.gate_memory.proofs.IndexLemmas.{put_in, other}
use Rattle.gate_memory.proofs.MovedLemmas.{find_without}

pub in_at : {X : Type 0} (xs : List X) (k : ℕ) (d : X) → k < length xs → In (get_or xs k d) xs
in_at [] k d l = absurd (omega arith)
in_at (x ∷ xs) zero d l = inl refl
in_at (x ∷ xs) (suc k) d l = inr (in_at xs k d (omega arith))

-- no need of a change with no pair stands, whatever pair stands is another's
others_stand : (mid : List Pair) (n : ℕ) (rows : List ChangeRow) (p : Pair) → TellsNoneOf mid n (needs_in rows n) → In p mid → In p.first (needs_in rows p.second) → n ≢ p.second
others_stand mid n rows p gone there needed e =
    all_in (λ m. In (pair_of_need m n) mid → ⊥) (needs_in rows n) p.first gone (subst (λ q. In p.first (needs_in rows q)) (sym e) needed)
    (subst (λ q. In (pair_of_need p.first q) mid) (sym e) there)

-- ---- a change put

-- mid is the index without the needs of the earlier revision, new has those of the later
pub tells_needs_put : (old mid new : List Pair) (row : ChangeRow) (rows : List ChangeRow) → RisesFrom number_of_change 0 rows → TellsNeeds old rows →
    ((p : Pair) → p.second ≢ number_of_change row → In p old → In p mid) → ((p : Pair) → In p mid → In p new) →
    TellsNeedsOf new row.change.number row.change.needs → TellsNeeds new (put_by number_of_change row rows)
tells_needs_put old mid new row rows up told others more itself =
    all_from (λ (r : ChangeRow). TellsNeedsOf new r.change.number r.change.needs) (put_by number_of_change row rows)
    (λ r t. ⊎_elim
    (λ e. subst (λ (k : ChangeRow). TellsNeedsOf new k.change.number k.change.needs) e itself)
    (λ u. in_weaker (λ m. In (pair_of_need m r.change.number) old) (λ m. In (pair_of_need m r.change.number) new)
    (λ m h. more (pair_of_need m r.change.number) (others (pair_of_need m r.change.number) u.1 h)) r.change.needs
    (all_in (λ (k : ChangeRow). TellsNeedsOf old k.change.number k.change.needs) rows r told u.0))
    (put_in number_of_change row r 0 rows up t))

pub are_needs_put : (old mid new : List Pair) (row : ChangeRow) (rows : List ChangeRow) → AreNeeds old rows → TellsNoneOf mid (number_of_change row) (needs_in rows (number_of_change row)) →
    ((p : Pair) → In p mid → In p old) → ((p : Pair) → In p new → In p mid ⊎ ((p.second ≡ number_of_change row) × In p.first row.change.needs)) →
    AreNeeds new (put_by number_of_change row rows)
are_needs_put old mid new row rows stand gone back more =
    all_from (λ (p : Pair). In p.first (needs_in (put_by number_of_change row rows) p.second)) new
    (λ p t. ⊎_elim
    (λ u. let needed : In p.first (needs_in rows p.second) = all_in (λ (q : Pair). In q.first (needs_in rows q.second)) old p stand (back p u) in
    subst (λ ns. In p.first ns) (sym (found p.second ∙ ap (λ b. needs_of_row (cond b (Some row) (change_row_in rows p.second)))
    (unequal p.second (others_stand mid (number_of_change row) rows p gone u needed)))) needed)
    (λ (u : (p.second ≡ number_of_change row) × In p.first row.change.needs). subst (λ ns. In p.first ns)
    (sym (found p.second ∙ ap (λ b. needs_of_row (cond b (Some row) (change_row_in rows p.second))) (eq-eqb (number_of_change row) p.second (sym u.0)))) u.1)
    (more p t))
  where
    found : (q : ℕ) → needs_in (put_by number_of_change row rows) q ≡ needs_of_row (cond (number_of_change row == q) (Some row) (change_row_in rows q))
    found q = ap needs_of_row (find_put number_of_change q row rows)

    unequal : (q : ℕ) → number_of_change row ≢ q → number_of_change row == q ≡ false
    unequal q ne = ⊎_elim (λ t. absurd (ne t.1)) (λ t. t.0) (eqb_tells (number_of_change row) q)

-- ---- a change that goes

pub tells_needs_without : (old new : List Pair) (n : ℕ) (rows : List ChangeRow) → TellsNeeds old rows → ((p : Pair) → p.second ≢ n → In p old → In p new) →
    TellsNeeds new (without number_of_change n rows)
tells_needs_without old new n rows told others =
    all_from (λ (r : ChangeRow). TellsNeedsOf new r.change.number r.change.needs) (without number_of_change n rows)
    (λ r t.
    let u = from_filter (λ (k : ChangeRow). not (number_of_change k == n)) r rows t in
    in_weaker (λ m. In (pair_of_need m r.change.number) old) (λ m. In (pair_of_need m r.change.number) new)
    (λ m h. others (pair_of_need m r.change.number) (other number_of_change n r u.1) h) r.change.needs
    (all_in (λ (k : ChangeRow). TellsNeedsOf old k.change.number k.change.needs) rows r told u.0))

pub are_needs_without : (old new : List Pair) (n : ℕ) (rows : List ChangeRow) → AreNeeds old rows → TellsNoneOf new n (needs_in rows n) →
    ((p : Pair) → In p new → In p old) → AreNeeds new (without number_of_change n rows)
are_needs_without old new n rows stand gone back =
    all_from (λ (p : Pair). In p.first (needs_in (without number_of_change n rows) p.second)) new
    (λ p t. let needed : In p.first (needs_in rows p.second) = all_in (λ (q : Pair). In q.first (needs_in rows q.second)) old p stand (back p t) in
    subst (λ ns. In p.first ns) (sym (ap needs_of_row (find_without number_of_change n p.second rows (others_stand new n rows p gone t needed)))) needed)

pub ready_without : (was : Option ℕ) (n : ℕ) (ready : List Pair) (rows : List ChangeRow) → n < 18446744073709551616 → AllByRecursion IsFit ready → TellsReady ready rows →
    TellsReady (dropped was n ready) (without number_of_change n rows)
ready_without was n ready rows small fit told =
    all_from (λ (r : ChangeRow). (a : ℕ) → r.approval ≡ Some a → In (indexed_ready r.change.number a) (dropped was n ready)) (without number_of_change n rows)
    (λ r t a e.
    let u = from_filter (λ (k : ChangeRow). not (number_of_change k == n)) r rows t in
    in_dropped was n ready (indexed_ready r.change.number a) small fit (other number_of_change n r u.1)
    (all_in (λ (k : ChangeRow). (b : ℕ) → k.approval ≡ Some b → In (indexed_ready k.change.number b) ready) rows r told u.0 a e))
