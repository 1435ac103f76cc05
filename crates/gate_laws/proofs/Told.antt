-- What the reports of a queue tell of its landings.
use Rattle.std.proofs.Common.{◌≡◌, ℕ, ◌+◌, Bool, true, false, not, cond, Some, None, List, [], ◌∷◌, ◌++◌, map}
use Rattle.std.proofs.Common.{length, refl, ap, ◌∙◌, inl, inr, arith, append-nil}
use Rattle.std.specs.Prelude.{filter_map}
use Rattle.std.specs.List.{cons_option, enumerate_from}
use Rattle.std.proofs.lemmas.List.Elements.{filter_map-append}
use Rattle.std.proofs.lemmas.Option.{none-some, same_Some}
use Rattle.gate_types.specs.declared.records.Build.{Build}
use Rattle.gate_types.specs.declared.records.Landing.{Landing}
use Rattle.gate_types.specs.declared.records.Report.{Report}
use Rattle.gate_types.specs.declared.records.Verdict.{Verdict}
use Rattle.gate_types.specs.declared.records.Verdict.TheVariants as verdict
use Rattle.gate_types.specs.State.{Item}
use Rattle.gate_types.specs.Line.{Place}
use Rattle.gate_types.specs.Slot.{are_met_by}
use Rattle.gate_types.specs.Sweep.{Judged, fails_for_good, judge, next_staying, judged_after, report_of, report_on}
use Rattle.gate_types.specs.Lawful.{landing_of}
use Rattle.gate_types.specs.Rising.{In}

-- ---- reports that tell of no landing

-- put last, they change nothing of what is told
pub unlanded_told : (old new : List Report) → filter_map landing_of new ≡ [] →
    filter_map landing_of (old ++ new) ≡ filter_map landing_of old
unlanded_told old new none =
    filter_map-append landing_of old new ∙ ap (λ l. filter_map landing_of old ++ l) none
    ∙ append-nil (filter_map landing_of old)

-- a verdict of no landing
abbrev pub TellsNoLanding : Verdict → Type 0
TellsNoLanding v = (i : Item) → landing_of (report_of v i) ≡ None

-- the reports of items that leave under one
pub unlanded_left : (v : Verdict) → TellsNoLanding v → (is : List Item) →
    filter_map landing_of (map (report_of v) is) ≡ []
unlanded_left v h [] = refl
unlanded_left v h (i ∷ is) = ap (λ o. cons_option o (filter_map landing_of (map (report_of v) is))) (h i)
    ∙ unlanded_left v h is

-- the reports of a sweep
pub unlanded_swept : (bs : List Build) (staying : List Item) (ps : List Place) →
    filter_map landing_of (filter_map report_on (judged_after bs staying ps)) ≡ []
unlanded_swept bs staying [] = refl
unlanded_swept bs staying (p ∷ ps) =
    let next = next_staying staying (judge bs staying p) in
    by_tests (not (are_met_by staying p.needs)) (fails_for_good bs p) (judged_after bs next ps) (unlanded_swept bs next ps)
  where
    by_tests : (a b : Bool) (js : List Judged) → filter_map landing_of (filter_map report_on js) ≡ [] →
        (let v = cond a (Some verdict.Needs) (cond b (Some verdict.Failed) None) in
        filter_map landing_of (filter_map report_on (record { item = p.item; verdict = v } ∷ js)) ≡ [])
    by_tests true b js h = h
    by_tests false true js h = h
    by_tests false false js h = h

-- ---- landings that are told

-- each landing is told with a place
pub told_in : (n : ℕ) (ls : List Landing) (l : Landing) → In l ls → (k : ℕ) × In (k, l) (enumerate_from n ls)
told_in n [] l m = absurd m
told_in n (x ∷ xs) l m = elim m [
  | inl e ↦ (n, inl (ap (λ y. (n, y)) e))
  | inr i ↦ (let r = told_in (n + 1) xs l i in (r.0, inr r.1))
]

-- there are as many
pub length-told : (n : ℕ) (ls : List Landing) → length (enumerate_from n ls) ≡ length ls
length-told n [] = refl
length-told n (l ∷ ls) = let rest = length-told (n + 1) ls in omega (arith, rest)

-- one more landing has the next place
pub told-push : (n : ℕ) (ls : List Landing) (l : Landing) →
    enumerate_from n (ls ++ l ∷ []) ≡ enumerate_from n ls ++ (length ls + n, l) ∷ []
told-push n [] l = λ k. ((let e : n ≡ 0 + n = omega arith in e) k, l) ∷ []
told-push n (x ∷ xs) l =
    let e : length xs + (n + 1) ≡ length (x ∷ xs) + n = omega arith in
    ap (λ r. (n, x) ∷ r) (told-push (n + 1) xs l ∙ ap (λ m. enumerate_from (n + 1) xs ++ (m, l) ∷ []) e)

-- a report of a landing has its serial
pub told_serial : (r : Report) (k : ℕ) (l : Landing) → landing_of r ≡ Some (k, l) → r.serial ≡ l.serial
told_serial r k l h = by_verdict r.verdict h
  where
    by_verdict : (v : Verdict) → landing_of (record r { verdict = v }) ≡ Some (k, l) → r.serial ≡ l.serial
    by_verdict (verdict.Landed n) e =
        let x : Landing = record { serial = r.serial; change = r.change; revision = r.revision } in
        ap (λ (y : ℕ × Landing). y.1.serial) (same_Some (n, x) (k, l) e)
    by_verdict verdict.Failed e = absurd (none-some (k, l) e)
    by_verdict verdict.Refused e = absurd (none-some (k, l) e)
    by_verdict verdict.Needs e = absurd (none-some (k, l) e)
    by_verdict verdict.Superseded e = absurd (none-some (k, l) e)
    by_verdict verdict.Withdrawn e = absurd (none-some (k, l) e)
    by_verdict verdict.Closed e = absurd (none-some (k, l) e)
