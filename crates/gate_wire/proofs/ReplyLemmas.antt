-- Texts of replies, piece by piece.
use Rattle.std.proofs.Common.{◌≡◌, ℕ, ◌<◌, ◌≤◌, ◌+◌, zero, suc, List, [], ◌∷◌, ◌++◌, cond, false, map, length, take}
use Rattle.std.proofs.Common.{get_or, refl, sym, ap, ◌∙◌, append_assoc, arith}
use Rattle.std.proofs.lemmas.Bool.Decides.{nat_tests}
use Rattle.std.specs.Prelude.{◌==◌, codes, decimal}
use Rattle.std.proofs.lemmas.List.{take_more, take_all}
use Rattle.gate_types.specs.declared.records.Entry.{Entry}
use Rattle.gate_types.specs.declared.records.Build.{Build}
use Rattle.gate_types.specs.declared.deliveries.Reply.TheVariants as reply
use Rattle.gate_types.specs.ReplyText.{reply_text}
use Rattle.gate_types.specs.JsonText.{entry, joined, array}

-- an entry, and what stands behind it
entry-rest : (e : Entry) (rest : List ℕ) → entry e rest ≡ entry e [] ++ rest
entry-rest e rest = simp append_assoc

joined-rest : (es : List Entry) (rest : List ℕ) → joined (map entry es) rest ≡ joined (map entry es) [] ++ rest
joined-rest [] rest = refl
joined-rest (x ∷ []) rest = entry-rest x rest
joined-rest (x ∷ y ∷ ys) rest =
    ap (λ l. entry x (44 ∷ l)) (joined-rest (y ∷ ys) rest)
    ∙ entry-rest x (44 ∷ (joined (map entry (y ∷ ys)) [] ++ rest))
    ∙ sym (ap (λ l. l ++ rest) (entry-rest x (44 ∷ joined (map entry (y ∷ ys)) [])) ∙ append_assoc (entry x []) (44 ∷ joined (map entry (y ∷ ys)) []) rest)

-- the end of an array of entries, and what stands behind it
pub joined-end : (es : List Entry) (rest : List ℕ) → joined (map entry es) (93 ∷ []) ++ rest ≡ joined (map entry es) (93 ∷ rest)
joined-end es rest = ap (λ l. l ++ rest) (joined-rest es (93 ∷ [])) ∙ append_assoc (joined (map entry es) []) (93 ∷ []) rest ∙ sym (joined-rest es (93 ∷ rest))

-- what stands between some entries and the next
separator : List Entry → List ℕ
separator [] = []
separator (x ∷ xs) = 44 ∷ []

joined-push : (es : List Entry) (e : Entry) → joined (map entry (es ++ e ∷ [])) [] ≡ joined (map entry es) [] ++ (separator es ++ entry e [])
unfolding separator
joined-push [] e = refl
joined-push (x ∷ []) e = entry-rest x (44 ∷ entry e [])
joined-push (x ∷ y ∷ ys) e =
    let behind = joined (map entry (y ∷ ys)) [] in
    let last = 44 ∷ entry e [] in
    ap (λ l. entry x (44 ∷ l)) (joined-push (y ∷ ys) e)
    ∙ entry-rest x (44 ∷ (behind ++ last))
    ∙ sym (ap (λ l. l ++ last) (entry-rest x (44 ∷ behind)) ∙ append_assoc (entry x []) (44 ∷ behind) last)

separator_at : (es : List Entry) (i : ℕ) → i < length es → cond (i == 0) [] (44 ∷ []) ≡ separator (take i es)
unfolding separator
separator_at [] i h = absurd (omega arith)
separator_at (x ∷ xs) zero h = refl
separator_at (x ∷ xs) (suc i) h = let some : (suc i == 0) ≡ false = grind (arith, nat_tests) in rw some refl

-- one entry more
pub joined_turn : (es : List Entry) (i : ℕ) (e : Entry) (text before new : List ℕ) → i < length es → text ≡ 91 ∷ joined (map entry (take i es)) []
    → before ≡ cond (i == 0) [] (44 ∷ []) → e ≡ get_or es i e → new ≡ text ++ (before ++ entry e []) → new ≡ 91 ∷ joined (map entry (take (i + 1) es)) []
joined_turn es i e text before new h so_far parts at more =
    more
    ∙ ap (λ t. t ++ (before ++ entry e [])) so_far
    ∙ ap (λ s. 91 ∷ (joined (map entry (take i es)) [] ++ (s ++ entry e []))) (parts ∙ separator_at es i h)
    ∙ ap (λ l. 91 ∷ l) (sym (joined-push (take i es) e))
    ∙ ap (λ l. 91 ∷ joined (map entry l) []) (ap (λ x. take i es ++ x ∷ []) at ∙ sym (take_more es i e h))

-- and the end
pub array_ends : (es : List Entry) (n : ℕ) (text new : List ℕ) → length es ≤ n → text ≡ 91 ∷ joined (map entry (take n es)) []
    → new ≡ text ++ 93 ∷ [] → new ≡ array (map entry es) []
array_ends es n text new all so_far more =
    more
    ∙ ap (λ t. t ++ 93 ∷ []) (so_far ∙ ap (λ l. 91 ∷ joined (map entry l) []) (take_all n es all))
    ∙ ap (λ l. 91 ∷ l) (sym (joined-rest es (93 ∷ [])))

-- the reply's text, the array in it
abbrev pub front : ℕ → List ℕ → ℕ → List ℕ
front after ahead n = codes "{\"after\":" ++ (decimal after ++ (codes ",\"ahead\":" ++ (ahead ++ (codes ",\"build\":" ++ decimal n))))

abbrev back : Build → List ℕ
back b =
    codes ",\"change\":" ++ (decimal b.change ++ (codes ",\"job\":\"" ++ (b.job ++ (codes "\",\"queue\":\"" ++ (b.queue
    ++ (codes "\",\"reply\":\"build\",\"revision\":" ++ (decimal b.revision ++ codes "}")))))))

pub grouped : (a k x b n t : List ℕ) → (a ++ (k ++ (x ++ (b ++ n)))) ++ t ≡ a ++ (k ++ (x ++ (b ++ (n ++ t))))
grouped a k x b n t = simp append_assoc

pub build_written : (b : Build) (ahead text : List ℕ) → ahead ≡ array (map entry b.ahead) [] → text ≡ front b.after ahead b.number → text ++ back b ≡ reply_text (reply.Build b)
build_written b ahead text e begun =
    ap (λ l. l ++ back b) (begun ∙ ap (λ l. front b.after l b.number) e)
    ∙ ap (λ l. codes "{\"after\":" ++ l) (grouped (decimal b.after) (codes ",\"ahead\":") (array (map entry b.ahead) []) (codes ",\"build\":") (decimal b.number) (back b))
    ∙ ap (λ l. codes "{\"after\":" ++ (decimal b.after ++ (codes ",\"ahead\":" ++ 91 ∷ l))) (joined-end b.ahead (codes ",\"build\":" ++ (decimal b.number ++ back b)))
