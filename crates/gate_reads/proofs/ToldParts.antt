-- What a part tells of one of its items: its plan, its live builds.
use Rattle.std.proofs.Common.{◌≡◌, ℕ, suc, ◌+◌, ◌<◌, Bool, true, false, ◌&&◌, cond, Option, Some, None, List, [], ◌∷◌}
use Rattle.std.proofs.Common.{◌++◌, drop, take, refl, sym, ap, ◌∙◌, subst, inl, inr, arith, true≢false}
use Rattle.std.specs.Prelude.{◌==◌, find, length, option_to_list, unwrap_or}
use Rattle.std.specs.List.{prefix_len, take_while}
use Rattle.std.proofs.lemmas.Bool.{and_parts, eqb-true, ne_eqb}
use Rattle.std.proofs.lemmas.List.Concat.{flat_map-cons}
use Rattle.std.proofs.Math.Seq.{take-append_seam, drop-append_seam}
use Rattle.gate_types.specs.declared.records.Build.{Build}
use Rattle.gate_types.specs.declared.records.Item.{Item as ItemRow}
use Rattle.gate_types.specs.declared.records.Plan.{Plan}
use Rattle.gate_types.specs.State.{State, plan_in, plan_of}
use Rattle.gate_types.specs.Rising.{In}
use Rattle.gate_laws.proofs.Members.{from_filter, from_flat, to_flat, found, not_found}
use Rattle.gate_book_trait.specs.Reads.{plan_at, live_builds, plans_of_items, builds_of_items}

-- ---- its plan

abbrev has_serial : ℕ → Plan → Bool
has_serial n p = p.serial == n

in_option : {X : Type 0} (o : Option X) (x : X) → In x (option_to_list o) → o ≡ Some x
in_option None x m = absurd m
in_option (Some y) x m = elim m [ inl e ↦ ap Some e | inr n ↦ absurd n ]

found_plan : (s : State) (rows : List ItemRow) (row : ItemRow) → In row rows →
    find (has_serial row.serial) (plans_of_items s rows) ≡ plan_at s row.serial
found_plan s rows row m = by_found (find (has_serial row.serial) plans) refl
  where
    plans : List Plan
    plans = plans_of_items s rows

    by_plan : (o : Option Plan) → plan_at s row.serial ≡ o → find (has_serial row.serial) plans ≡ None → o ≡ None
    by_plan None f e = refl
    by_plan (Some p) f e =
        let there = to_flat (λ i. option_to_list (plan_at s i.serial)) rows row p m
        (subst (λ o. In p (option_to_list o)) (sym f) (inl refl)) in
        absurd (true≢false (sym (found (has_serial row.serial) s.plans p f).1
        ∙ not_found (has_serial row.serial) plans e p there))

    by_found : (o : Option Plan) → find (has_serial row.serial) plans ≡ o →
        find (has_serial row.serial) plans ≡ plan_at s row.serial
    by_found None e = e ∙ sym (by_plan (plan_at s row.serial) refl e)
    by_found (Some p) e =
        let it = found (has_serial row.serial) plans p e in
        let i = from_flat (λ i. option_to_list (plan_at s i.serial)) rows p it.0 in
        let at = in_option (plan_at s i.0.serial) p i.2 in
        let own = found (has_serial i.0.serial) s.plans p at in
        let same : i.0.serial ≡ row.serial =
        sym (eqb-true p.serial i.0.serial own.1) ∙ eqb-true p.serial row.serial it.1 in
        e ∙ sym at ∙ ap (plan_at s) same

pub plan_told : (s : State) (rows : List ItemRow) (row : ItemRow) → In row rows →
    plan_in (plans_of_items s rows) row.serial ≡ plan_of s row.serial
plan_told s rows row m =
    ap (λ o. unwrap_or o (record { serial = row.serial; jobs = []; fast = false })) (found_plan s rows row m)

-- ---- its builds

prefix_is : {X : Type 0} (t : X → Bool) (xs ys : List X) → ((x : X) → In x xs → t x ≡ true) →
    ((y : X) → In y ys → t y ≡ false) → prefix_len t (xs ++ ys) ≡ length xs
prefix_is t [] [] h k = refl
prefix_is t [] (y ∷ ys) h k = ap (λ b. cond b (1 + prefix_len t ys) 0) (k y (inl refl))
prefix_is t (x ∷ xs) ys h k =
    let step : 1 + length xs ≡ suc (length xs) = omega arith in
    ap (λ b. cond b (1 + prefix_len t (xs ++ ys)) 0) (h x (inl refl))
    ∙ ap (λ n. 1 + n) (prefix_is t xs ys (λ z m. h z (inr m)) k) ∙ step

abbrev is_of : ℕ → Build → Bool
is_of n b = b.serial == n

-- those of the first row stand first
own_prefix : (s : State) (row : ItemRow) (rows : List ItemRow) → ((i : ItemRow) → In i rows → row.serial < i.serial) →
    prefix_len (is_of row.serial) (live_builds s row.serial ++ builds_of_items s rows)
    ≡ length (live_builds s row.serial)
own_prefix s row rows h =
    prefix_is (is_of row.serial) (live_builds s row.serial) (builds_of_items s rows) (own row.serial)
    (λ b m. let i = from_flat (λ i. live_builds s i.serial) rows b m in
    let less : row.serial < i.0.serial = h i.0 i.1 in
    let same : b.serial ≡ i.0.serial = eqb-true b.serial i.0.serial (own i.0.serial b i.2) in
    ne_eqb b.serial row.serial (λ z. omega (arith, less, same, z)))
  where
    own : (n : ℕ) (b : Build) → In b (live_builds s n) → is_of n b ≡ true
    own n b m = (and_parts b.live (is_of n b) (from_filter (λ x. x.live && is_of n x) s.builds b m).1).1

builds_cons : (s : State) (row : ItemRow) (rows : List ItemRow) →
    builds_of_items s (row ∷ rows) ≡ live_builds s row.serial ++ builds_of_items s rows
builds_cons s row rows = flat_map-cons (λ i. live_builds s i.serial) row rows

pub own_told : (s : State) (row : ItemRow) (rows : List ItemRow) → ((i : ItemRow) → In i rows → row.serial < i.serial) →
    (builds : List Build) → builds ≡ builds_of_items s (row ∷ rows) →
    take_while (λ b. b.serial == row.serial) builds ≡ live_builds s row.serial
own_told s row rows h builds e =
    ap (take_while (is_of row.serial)) (e ∙ builds_cons s row rows)
    ∙ ap (λ n. take n (live_builds s row.serial ++ builds_of_items s rows)) (own_prefix s row rows h)
    ∙ take-append_seam (live_builds s row.serial) (builds_of_items s rows)

pub behind_told : (s : State) (row : ItemRow) (rows : List ItemRow) →
    ((i : ItemRow) → In i rows → row.serial < i.serial) → (builds : List Build) →
    builds ≡ builds_of_items s (row ∷ rows) →
    drop (prefix_len (λ b. b.serial == row.serial) builds) builds ≡ builds_of_items s rows
behind_told s row rows h builds e =
    ap (λ bs. drop (prefix_len (is_of row.serial) bs) bs) (e ∙ builds_cons s row rows)
    ∙ ap (λ n. drop n (live_builds s row.serial ++ builds_of_items s rows)) (own_prefix s row rows h)
    ∙ drop-append_seam (live_builds s row.serial) (builds_of_items s rows)
