-- The item of a change in a queue after edits: where an edit put it, or where it was stored.
use Rattle.std.proofs.Common.{◌≡◌, ℕ, Bool, true, false, cond, Option, Some, None, List, [], ◌∷◌, refl, sym, ap, ◌∙◌}
use Rattle.std.proofs.Common.{subst, true≢false, ◌⊎◌, inl, inr, ⊎_elim}
use Rattle.std.specs.Prelude.{◌==◌, option_and_then, option_map}
use Rattle.std.specs.Option.{option_or, option_map_or}
use Rattle.std.proofs.lemmas.Bool.{eqb-true}
use Rattle.std.proofs.lemmas.Option.{none-some}
use Rattle.gate_types.specs.declared.records.Item.{Item as ItemRow}
use Rattle.gate_types.specs.declared.edits.Edit.{Edit}
use Rattle.gate_types.specs.declared.edits.Edit.TheVariants as edit
use Rattle.gate_types.specs.Keys.{serial_of_item}
use Rattle.gate_types.specs.Rising.{In}
use Rattle.gate_book_trait.specs.declared.rows.QueuedItem.{QueuedItem}
use Rattle.gate_laws.proofs.Members.{found, not_found}
use Rattle.gate_laws.proofs.Rising.{Rising}
use Rattle.gate_admission.specs.Seen.{items_after, row_of_serial, if_of, item_if, item_if_at, serial_put, item_put, item_left}
use Rattle.gate_admission.specs.Enters.{row_of_change}
use Rattle.gate_admission.proofs.QueueItems.{at_there, Puts, PutBy, from_after}

-- what it gives is a row of this change
abbrev pub Gives : ℕ → List ItemRow → Option ItemRow → Type 0
Gives n rows o = (r : ItemRow) → o ≡ Some r → In r rows × (r.change == n ≡ true)

gives_none : (n : ℕ) (rows : List ItemRow) → Gives n rows None
gives_none n rows r e = absurd (none-some r e)

gives_or : (n : ℕ) (rows : List ItemRow) (a b : Option ItemRow) → Gives n rows a → Gives n rows b →
    Gives n rows (option_or a b)
gives_or n rows None b ga gb = gb
gives_or n rows (Some r) b ga gb = ga

gives_if : (n k : ℕ) (rows : List ItemRow) → Gives n rows (item_if n k rows)
gives_if n k rows = by_found (row_of_serial k rows) refl
  where
    by_test : (b : Bool) (x : ItemRow) → x.change == n ≡ b → In x rows → (r : ItemRow) → cond b (Some x) None ≡ Some r →
        In r rows × (r.change == n ≡ true)
    by_test true x t m r e =
        let same : x ≡ r = ap (λ (o : Option ItemRow). option_map_or (λ y. y) o x) e in
        subst (λ (y : ItemRow). In y rows × (y.change == n ≡ true)) same (m, t)
    by_test false x t m r e = absurd (none-some r e)

    by_found : (o : Option ItemRow) → row_of_serial k rows ≡ o → Gives n rows (option_and_then (if_of n) o)
    by_found None e = gives_none n rows
    by_found (Some x) e = by_test (x.change == n) x refl (found (λ (i : ItemRow). i.serial == k) rows x e).0

gives_at : (n : ℕ) (rows : List ItemRow) (o : Option ℕ) → Gives n rows (item_if_at n rows o)
gives_at n rows None = gives_none n rows
gives_at n rows (Some k) = gives_if n k rows

gives_put : (n : ℕ) (rows : List ItemRow) (edits : List Edit) → Gives n rows (item_put n rows edits)
gives_put n rows [] = gives_none n rows
gives_put n rows (e ∷ es) =
    gives_or n rows (item_if_at n rows (serial_put n e)) (item_put n rows es) (gives_at n rows (serial_put n e))
    (gives_put n rows es)

-- where no row is of the change, nothing is given
nothing : (n : ℕ) (rows : List ItemRow) (o : Option ItemRow) → row_of_change n rows ≡ None → Gives n rows o → o ≡ None
nothing n rows None e g = refl
nothing n rows (Some r) e g =
    let at = g r refl in
    absurd (true≢false (sym at.1 ∙ not_found (λ (i : ItemRow). i.change == n) rows e r at.0))

-- no two rows are of one change
abbrev pub AreOnce : List ItemRow → Type 0
AreOnce rows = (r t : ItemRow) → In r rows → In t rows → r.change ≡ t.change → r ≡ t

-- where one is, it alone is given
none_or : (n : ℕ) (rows : List ItemRow) (r : ItemRow) (o : Option ItemRow) → AreOnce rows → In r rows →
    r.change == n ≡ true → Gives n rows o → (o ≡ None) ⊎ (o ≡ Some r)
none_or n rows r None once m t g = inl refl
none_or n rows r (Some x) once m t g =
    let at = g x refl in
    inr (ap Some (once x r at.0 m (eqb-true x.change n at.1 ∙ sym (eqb-true r.change n t))))

-- by its own serial it is given
at_own : (n : ℕ) (rows : List ItemRow) (r : ItemRow) → Rising serial_of_item rows → In r rows → r.change == n ≡ true →
    item_if n r.serial rows ≡ Some r
at_own n rows r up m t =
    ap (option_and_then (if_of n)) (at_there rows r up m) ∙ ap (λ b. cond b (Some r) None) t

-- an edit that puts it gives it
put_own : (name : List ℕ) (n : ℕ) (rows : List ItemRow) (r : ItemRow) (e : Edit) → Rising serial_of_item rows →
    In r rows → r.change == n ≡ true → Puts name r e → item_if_at n rows (serial_put n e) ≡ Some r
put_own name n rows r (edit.PutItem q i) up m t puts =
    ap (λ (b : Bool). item_if_at n rows (cond b (Some i.serial) None))
    (ap (λ (x : ItemRow). x.change == n) puts.1 ∙ t)
    ∙ ap (λ (x : ItemRow). item_if n x.serial rows) puts.1 ∙ at_own n rows r up m t
put_own name n rows r (edit.DropItem k) up m t puts = absurd puts
put_own name n rows r (edit.LandItem k) up m t puts = absurd puts
put_own name n rows r (edit.PutChange k a) up m t puts = absurd puts
put_own name n rows r (edit.SetStage k g) up m t puts = absurd puts
put_own name n rows r (edit.PutPlan k) up m t puts = absurd puts
put_own name n rows r (edit.PutLanding q p l) up m t puts = absurd puts
put_own name n rows r (edit.PutReport q p l) up m t puts = absurd puts
put_own name n rows r (edit.PutBuild b) up m t puts = absurd puts
put_own name n rows r (edit.SetOutcome b o) up m t puts = absurd puts
put_own name n rows r (edit.StopBuild b) up m t puts = absurd puts
put_own name n rows r (edit.SetWindow q w) up m t puts = absurd puts
put_own name n rows r (edit.SetCounter k d) up m t puts = absurd puts
put_own name n rows r (edit.Keep k) up m t puts = absurd puts

put_given : (name : List ℕ) (n : ℕ) (rows : List ItemRow) (r : ItemRow) (edits : List Edit) →
    Rising serial_of_item rows →
    AreOnce rows → In r rows → r.change == n ≡ true → PutBy name r edits → item_put n rows edits ≡ Some r
put_given name n rows r [] up once m t puts = absurd puts
put_given name n rows r (e ∷ es) up once m t puts = ⊎_elim
    (λ (p : Puts name r e). ap (λ o. option_or o (item_put n rows es)) (put_own name n rows r e up m t p))
    (λ (p : PutBy name r es). ⊎_elim
    (λ (f : item_if_at n rows (serial_put n e) ≡ None).
    ap (λ o. option_or o (item_put n rows es)) f ∙ put_given name n rows r es up once m t p)
    (λ (f : item_if_at n rows (serial_put n e) ≡ Some r). ap (λ o. option_or o (item_put n rows es)) f)
    (none_or n rows r (item_if_at n rows (serial_put n e)) once m t (gives_at n rows (serial_put n e))))
    puts

-- a stored row of the change is told
abbrev pub AreTold : ℕ → Option QueuedItem → List ItemRow → Type 0
AreTold n stored rows = (r : ItemRow) → In r rows → r.change ≡ n →
    (k : QueuedItem) × (stored ≡ Some k) × (k.item.serial ≡ r.serial)

pub by_change : (name : List ℕ) (n : ℕ) (stored : Option QueuedItem) (rows : List ItemRow) (edits : List Edit) →
    Rising serial_of_item (items_after name rows edits) → AreOnce (items_after name rows edits) →
    AreTold n stored rows →
    option_or (item_put n (items_after name rows edits) edits) (item_left n stored (items_after name rows edits)) ≡
    row_of_change n (items_after name rows edits)
by_change name n stored rows edits up once told = by_found (row_of_change n all) refl
  where
    all : List ItemRow
    all = items_after name rows edits

    left : Option ItemRow
    left = item_left n stored all

    by_found : (o : Option ItemRow) → row_of_change n all ≡ o → option_or (item_put n all edits) left ≡ o
    by_found None e =
        ap (λ o. option_or o left) (nothing n all (item_put n all edits) e (gives_put n all edits))
        ∙ nothing n all left e (gives_at n all (option_map (λ k. k.item.serial) stored))
    by_found (Some r) e =
        let at = found (λ (i : ItemRow). i.change == n) all r e in
        ⊎_elim
        (λ (m : In r rows).
        let k = told r m (eqb-true r.change n at.1) in
        let here : left ≡ Some r = ap (λ o. item_if_at n all (option_map (λ (q : QueuedItem). q.item.serial) o)) k.1
        ∙ ap (λ (s : ℕ). item_if n s all) k.2 ∙ at_own n all r up at.0 at.1 in
        ⊎_elim
        (λ (f : item_put n all edits ≡ None). ap (λ o. option_or o left) f ∙ here)
        (λ (f : item_put n all edits ≡ Some r). ap (λ o. option_or o left) f)
        (none_or n all r (item_put n all edits) once at.0 at.1 (gives_put n all edits)))
        (λ (p : PutBy name r edits). ap (λ o. option_or o left) (put_given name n all r edits up once at.0 at.1 p))
        (from_after name rows edits r at.0)
