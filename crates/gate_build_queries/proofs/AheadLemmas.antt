-- The text of entries is read as those entries.
use Rattle.std.proofs.Common.{◌≡◌, ℕ, ◌+◌, ◌*◌, ◌/◌, ◌%◌, ◌<◌, ◌≤◌, List, [], ◌∷◌, ◌++◌, not, eqb, true, false}
use Rattle.std.proofs.Common.{true≢false, Some, refl, sym, ap, ◌∙◌, arith, append-nil}
use mathlib.Core.List.{append_assoc}
use lib.Pointwise.{pointwise}
use Rattle.std.proofs.lemmas.Bool.Decides.{nat_tests}
use Rattle.std.proofs.lemmas.Cmp.{nat_list_eq_equiv}
use Rattle.std.proofs.lemmas.Fmt.{decimal_by_steps}
use Rattle.std.proofs.lemmas.List.Elements.{recursion_from_All}
use Rattle.std.specs.Fmt.{decimal}
use Rattle.sqlite_keyed.proofs.RuleLemmas.{first_of_both, second_of_both}
use Rattle.gate_types.specs.Forms.{is_change_number, is_entry_in_form, is_revision_number}
use Rattle.gate_types.specs.declared.records.Entry.{Entry}
use Rattle.gate_build_queries.specs.declared.ahead.Progress.{Progress}
use Rattle.gate_build_queries.specs.declared.ahead.Progress.TheVariants.{Start, Outer, Opened, InChange, Between}
use Rattle.gate_build_queries.specs.declared.ahead.Progress.TheVariants.{InRevision, Closed, Next, End}
use Rattle.gate_build_queries.specs.Ahead.{digit_of, with_digit, more_of, progress_or_bad, step_byte, ended, go}
use Rattle.gate_schema.specs.AheadText.{ahead_text, entries_text, entry_text}
use Rattle.std.specs.List.{AllByRecursion, AllPass}

-- ---- a digit

-- a digit's byte is read as it
digit_at : (d : ℕ) → d < 10 → digit_of (48 + d) ≡ Some d
digit_at d small = grind (arith, nat_tests)

-- a number grows by a digit
grown_is : (n d : ℕ) → 1 ≤ n → n ≤ 99999999 → with_digit n d ≡ Some (n * 10 + d)
grown_is n d some small = grind (arith, nat_tests)

-- a byte that ends no entry leads on to the next progress
step_on : (p q : Progress) (es : List Entry) (c : ℕ) (rest : List ℕ) → step_byte p c ≡ q → ended q ≡ [] → go p es (c ∷ rest) ≡ go q es rest
step_on p q es c rest is none = ap (λ r. go r (es ++ ended r) rest) is ∙ ap (λ l. go q (es ++ l) rest) none ∙ ap (λ l. go q l rest) (append-nil es)

-- a number is read digit by digit, from where none of it was read
digits_read : (from : Progress) (at : ℕ → Progress) (es : List Entry)
    → ((d : ℕ) → d < 10 → step_byte from (48 + d) ≡ at d) → ((n : ℕ) → ended (at n) ≡ [])
    → ((n d : ℕ) → d < 10 → 1 ≤ n → n ≤ 99999999 → step_byte (at n) (48 + d) ≡ at (n * 10 + d))
    → (n : ℕ) → n ≤ 999999999 → (rest : List ℕ) → go from es (decimal n ++ rest) ≡ go (at n) es rest
digits_read from at es first none more n small =
    decimal_by_steps (λ n ds. n ≤ 999999999 → (rest : List ℕ) → go from es (ds ++ rest) ≡ go (at n) es rest)
    (λ n low small rest. step_on from (at n) es (48 + n) rest (first n low) (none n))
    (λ n ds high before small rest.
    let low : n % 10 < 10 = omega arith in
    let whole : (n / 10) * 10 + n % 10 ≡ n = omega arith in
    let some : 1 ≤ n / 10 = omega arith in
    let few : n / 10 ≤ 99999999 = omega arith in
    let less : n / 10 ≤ 999999999 = omega arith in
    ap (go from es) (append_assoc ds ((48 + n % 10) ∷ []) rest) ∙ before less ((48 + n % 10) ∷ rest)
    ∙ step_on (at (n / 10)) (at ((n / 10) * 10 + n % 10)) es (48 + n % 10) rest (more (n / 10) (n % 10) low some few) (none _)
    ∙ ap (λ m. go (at m) es rest) whole)
    n (omega arith) small

-- so it is within the number of a change
in_change : (n d : ℕ) → d < 10 → 1 ≤ n → n ≤ 99999999 → step_byte (InChange n) (48 + d) ≡ InChange (n * 10 + d)
in_change n d low some few =
    let other : eqb (48 + d) 44 ≡ false = grind (arith, nat_tests) in
    rw other (ap (λ o. progress_or_bad (more_of n o) (λ m. InChange m)) (digit_at d low) ∙ ap (λ o. progress_or_bad o (λ m. InChange m)) (grown_is n d some few))

-- and within a revision
in_revision : (c n d : ℕ) → d < 10 → 1 ≤ n → n ≤ 99999999 → step_byte (InRevision c n) (48 + d) ≡ InRevision c (n * 10 + d)
in_revision c n d low some few =
    let other : eqb (48 + d) 93 ≡ false = grind (arith, nat_tests) in
    rw other (ap (λ o. progress_or_bad (more_of n o) (λ m. InRevision c m)) (digit_at d low) ∙ ap (λ o. progress_or_bad o (λ m. InRevision c m)) (grown_is n d some few))

-- ---- an entry

-- the number of a change has at most nine digits
change_is_small : (n : ℕ) → is_change_number n ≡ true → n ≤ 999999999
change_is_small n h = grind (arith, nat_tests)

-- and so has a revision
revision_is_small : (n : ℕ) → is_revision_number n ≡ true → n ≤ 999999999
revision_is_small n h = grind (arith, nat_tests)

-- its closing bracket
closes : (e : Entry) → is_revision_number e.revision ≡ true → step_byte (InRevision e.change e.revision) 93 ≡ Closed e
closes e h = rw h refl

-- an entry is read behind its bracket
entry_read : (e : Entry) (es : List Entry) (rest : List ℕ) → is_entry_in_form e ≡ true
    → go Opened es (decimal e.change ++ 44 ∷ (decimal e.revision ++ 93 ∷ rest)) ≡ go (Closed e) (es ++ e ∷ []) rest
entry_read e es rest form =
    let change = first_of_both _ _ form in
    let revision = second_of_both _ _ form in
    digits_read Opened (λ n. InChange n) es (λ d low. ap (λ o. progress_or_bad o (λ n. InChange n)) (digit_at d low)) (λ n. refl) in_change e.change (change_is_small e.change change) _
    ∙ step_on (InChange e.change) (Between e.change) es 44 (decimal e.revision ++ 93 ∷ rest) (rw change refl) refl
    ∙ digits_read (Between e.change) (λ r. InRevision e.change r) es (λ d low. ap (λ o. progress_or_bad o (λ r. InRevision e.change r)) (digit_at d low)) (λ n. refl) (in_revision e.change) e.revision (revision_is_small e.revision revision) _
    ∙ ap (λ q. go q (es ++ ended q) rest) (closes e revision)

-- an entry's text before another
bracketed : (e : Entry) (rest : List ℕ) → entry_text e ++ rest ≡ 91 ∷ (decimal e.change ++ 44 ∷ (decimal e.revision ++ 93 ∷ rest))
bracketed e rest = ap (λ l. 91 ∷ l) (append_assoc (decimal e.change) _ rest ∙ ap (λ l. decimal e.change ++ 44 ∷ l) (append_assoc (decimal e.revision) _ rest))

-- ---- the whole text

-- all entries are in form
abbrev AreInForm : List Entry → Type 0
AreInForm = AllByRecursion (λ e. is_entry_in_form e ≡ true)

-- entries are read behind another
more_read : (last : Entry) (es before : List Entry) → AreInForm es → go (Closed last) before (entries_text true es ++ 93 ∷ []) ≡ (End, before ++ es)
more_read last [] before form = refl
more_read last (e ∷ es) before form =
    ap (λ l. go (Closed last) before (44 ∷ l)) (append_assoc (entry_text e) _ (93 ∷ []) ∙ bracketed e (entries_text true es ++ 93 ∷ []))
    ∙ step_on (Closed last) Next before 44 (91 ∷ (decimal e.change ++ 44 ∷ (decimal e.revision ++ 93 ∷ (entries_text true es ++ 93 ∷ [])))) refl refl
    ∙ step_on Next Opened before 91 (decimal e.change ++ 44 ∷ (decimal e.revision ++ 93 ∷ (entries_text true es ++ 93 ∷ []))) refl refl
    ∙ entry_read e before _ form.0 ∙ more_read e es (before ++ e ∷ []) form.1 ∙ ap (λ l. (End, l)) (append_assoc before (e ∷ []) es)

-- the text of entries is read as them
pub ahead_is_read : (es : List Entry) → AreInForm es → go Start [] (ahead_text es) ≡ (End, es)
ahead_is_read [] form = refl
ahead_is_read (e ∷ es) form =
    ap (λ l. go Outer [] l) (append_assoc (entry_text e) _ (93 ∷ []) ∙ bracketed e (entries_text true es ++ 93 ∷ []))
    ∙ entry_read e [] _ form.0 ∙ more_read e es (e ∷ []) form.1

-- the same, of what the reader holds at the end
pub progress_told : (progress : Progress) (entries : List Entry) (text : List ℕ) (es : List Entry) → (progress, entries) ≡ go Start [] text → text ≡ ahead_text es → AllPass is_entry_in_form es → (progress ≡ End) × (entries ≡ es)
progress_told progress entries text es read is form =
    let both : (progress, entries) ≡ (End, es) = read ∙ ap (go Start []) is ∙ ahead_is_read es (recursion_from_All (λ e. is_entry_in_form e ≡ true) es form) in
    (ap (λ p. p.0) both, ap (λ p. p.1) both)

-- a text is the same as itself
same_itself : (a : List ℕ) → pointwise eqb a a ≡ true
same_itself a = nat_list_eq_equiv.refl a

-- equal texts aren't told apart
pub never_other : (a b : List ℕ) → a ≡ b → not (pointwise eqb a b) ≡ true → ⊥
never_other a b same other = true≢false (sym other ∙ ap not (ap (pointwise eqb a) (sym same) ∙ same_itself a))
