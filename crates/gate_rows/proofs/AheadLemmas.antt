-- The text of entries, entry by entry.
use Rattle.std.proofs.Common.{◌≡◌, ℕ, ◌+◌, ◌<◌, zero, suc, List, [], ◌∷◌, ◌++◌, take, length, not, ◌||◌, eqb, get_or}
use Rattle.std.proofs.Common.{Bool, true, false, cond, refl, sym, ap, ◌∙◌, arith, append-nil}
use mathlib.Core.List.{append_assoc}
use Rattle.std.proofs.lemmas.Bool.Decides.{nat_tests}
use Rattle.gate_types.specs.declared.records.Entry.{Entry}
use Rattle.gate_types.proofs.PlainLemmas.{or_false, or_true}
use Rattle.gate_schema.specs.AheadText.{entry_text, entries_text, comma_if}

-- what stands before all entries but the first is a comma
pub comma_but : (first : Bool) → cond first [] (44 ∷ []) ≡ comma_if (not first)
comma_but true = refl
comma_but false = refl

-- one more entry is written
entries_push : (later : Bool) (i : ℕ) (es : List Entry) (none : Entry) → i < length es
    → entries_text later (take i es) ++ (comma_if (later || not (eqb i 0)) ++ entry_text (get_or es i none)) ≡ entries_text later (take (suc i) es)
entries_push later i [] none within = absurd (omega arith)
entries_push later zero (e ∷ es) none within = ap (λ b. comma_if b ++ entry_text e) (or_false later) ∙ ap (λ l. comma_if later ++ l) (sym (append-nil (entry_text e)))
entries_push later (suc i) (e ∷ es) none within =
    let far : eqb (suc i) 0 ≡ false = grind (arith, nat_tests) in
    let last = entry_text (get_or es i none) in
    ap (λ b. entries_text later (e ∷ take i es) ++ (comma_if (later || not b) ++ last)) far
    ∙ ap (λ b. entries_text later (e ∷ take i es) ++ (comma_if b ++ last)) (or_true later)
    ∙ append_assoc (comma_if later) _ _ ∙ ap (λ l. comma_if later ++ l) (append_assoc (entry_text e) _ _ ∙ ap (λ l. entry_text e ++ l) (entries_push true i es none (omega arith)))

pub entries_more : (i : ℕ) (es : List Entry) (none : Entry) → i < length es
    → entries_text false (take i es) ++ (comma_if (not (eqb i 0)) ++ entry_text (get_or es i none)) ≡ entries_text false (take (i + 1) es)
entries_more i es none within =
    let next : suc i ≡ i + 1 = omega arith in
    entries_push false i es none within ∙ ap (λ n. entries_text false (take n es)) next
