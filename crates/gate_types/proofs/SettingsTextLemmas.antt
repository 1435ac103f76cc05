-- The texts of a queue and a project, with members that are told where they aren't the default.
use Rattle.std.proofs.Common.{◌≡◌, ℕ, Bool, true, false, not, ◌==◌, List, [], ◌∷◌, ◌++◌, refl, ap, sym, ◌∙◌}
use Rattle.std.proofs.Common.{append_assoc, codes}
use Rattle.std.specs.Prelude.{decimal, if◌then◌else◌}
use Rattle.std.specs.List.{join_by}
use Rattle.gate_types.specs.declared.config.Queue.{Queue}
use Rattle.gate_types.specs.declared.config.Project.{Project}
use Rattle.gate_types.specs.Settings.{is_linear, pace_word}
use Rattle.gate_types.specs.JsonText.{Piece, number, plain, boolean, member, listed, joined, leading}
use Rattle.gate_types.specs.SettingsText.{unless, job_text, queue_text, project_text}

-- pieces that may be left out, before one that isn't
before_one : (a b : Bool) (x y z : Piece) (zs : List Piece) (rest : List ℕ) →
    joined (unless a x ++ (unless b y ++ z ∷ zs)) rest ≡ leading (unless a x) (leading (unless b y) (joined (z ∷ zs) rest))
before_one true true x y z zs rest = refl
before_one true false x y z zs rest = refl
before_one false true x y z zs rest = refl
before_one false false x y z zs rest = refl

-- and behind one
behind_one : (w : Piece) (a b : Bool) (x y z : Piece) (zs : List Piece) (rest : List ℕ) →
    joined (w ∷ (unless a x ++ (unless b y ++ z ∷ zs))) rest ≡ w (44 ∷ leading (unless a x) (leading (unless b y) (joined (z ∷ zs) rest)))
behind_one w true true x y z zs rest = refl
behind_one w true false x y z zs rest = refl
behind_one w false true x y z zs rest = refl
behind_one w false false x y z zs rest = refl

-- what stands behind a text member is put behind its text
plain_before : (t : Bool) (name word rest : List ℕ) →
    leading (unless t (member name (plain word))) [] ++ rest ≡ leading (unless t (member name (plain word))) rest
plain_before true name word rest = refl
plain_before false name word rest = ap (λ l. 34 ∷ l)
    (append_assoc name (34 ∷ 58 ∷ 34 ∷ (word ++ 34 ∷ 44 ∷ [])) rest
    ∙ ap (λ l. name ++ 34 ∷ 58 ∷ 34 ∷ l) (append_assoc word (34 ∷ 44 ∷ []) rest))

-- and that of a number
number_before : (t : Bool) (name : List ℕ) (n : ℕ) (rest : List ℕ) →
    leading (unless t (member name (number n))) [] ++ rest ≡ leading (unless t (member name (number n))) rest
number_before true name n rest = refl
number_before false name n rest = ap (λ l. 34 ∷ l)
    (append_assoc name (34 ∷ 58 ∷ (decimal n ++ 44 ∷ [])) rest
    ∙ ap (λ l. name ++ 34 ∷ 58 ∷ l) (append_assoc (decimal n) (44 ∷ []) rest))

-- a text's last byte put behind its last part
last_put : (d e f i j n w s : List ℕ) →
    (d ++ (e ++ (codes "\"floor\":" ++ (f ++ 44 ∷ (i ++ (j ++ (codes "\"name\":\"" ++ (n ++ (codes "\",\"window\":" ++ w))))))))) ++ s
    ≡ d ++ (e ++ (codes "\"floor\":" ++ (f ++ 44 ∷ (i ++ (j ++ (codes "\"name\":\"" ++ (n ++ (codes "\",\"window\":" ++ (w ++ s)))))))))
last_put d e f i j n w s = simp append_assoc refl

-- the text, written from the texts of its members
pub queue_told : (q : Queue) (d e i j : List ℕ) →
    d ≡ leading (unless (not (is_linear q.rule.decrease)) (member (codes "decrease") (plain (pace_word q.rule.decrease)))) [] →
    e ≡ leading (unless (q.rule.decrease_by == 2) (member (codes "decrease_by") (number q.rule.decrease_by))) [] →
    i ≡ leading (unless (is_linear q.rule.increase) (member (codes "increase") (plain (pace_word q.rule.increase)))) [] →
    j ≡ leading (unless (q.rule.increase_by == 1) (member (codes "increase_by") (number q.rule.increase_by))) [] →
    123 ∷ ((d ++ (e ++ (codes "\"floor\":" ++ (decimal q.floor ++ 44 ∷ (i ++ (j ++ (codes "\"name\":\"" ++ (q.name ++ (codes "\",\"window\":" ++ decimal q.window))))))))) ++ 125 ∷ [])
    ≡ queue_text q
queue_told q d e i j ed ee ei ej =
    let a = not (is_linear q.rule.decrease) in
    let x = member (codes "decrease") (plain (pace_word q.rule.decrease)) in
    let b = q.rule.decrease_by == 2 in
    let y = member (codes "decrease_by") (number q.rule.decrease_by) in
    let f = member (codes "floor") (number q.floor) in
    let g = is_linear q.rule.increase in
    let z = member (codes "increase") (plain (pace_word q.rule.increase)) in
    let h = q.rule.increase_by == 1 in
    let w = member (codes "increase_by") (number q.rule.increase_by) in
    let n = member (codes "name") (plain q.name) in
    let last = member (codes "window") (number q.window) ∷ [] in
    let end = joined (n ∷ last) (125 ∷ []) in
    let back : i ++ (j ++ end) ≡ leading (unless g z) (leading (unless h w) end) =
    (λ k. ei k ++ (ej k ++ end))
    ∙ ap (λ l. leading (unless g z) [] ++ l) (number_before h (codes "increase_by") q.rule.increase_by end)
    ∙ plain_before g (codes "increase") (pace_word q.rule.increase) (leading (unless h w) end) in
    let front : d ++ (e ++ f (44 ∷ leading (unless g z) (leading (unless h w) end))) ≡ leading (unless a x) (leading (unless b y) (f (44 ∷ leading (unless g z) (leading (unless h w) end)))) =
    (λ k. ed k ++ (ee k ++ f (44 ∷ leading (unless g z) (leading (unless h w) end))))
    ∙ ap (λ l. leading (unless a x) [] ++ l) (number_before b (codes "decrease_by") q.rule.decrease_by (f (44 ∷ leading (unless g z) (leading (unless h w) end))))
    ∙ plain_before a (codes "decrease") (pace_word q.rule.decrease) (leading (unless b y) (f (44 ∷ leading (unless g z) (leading (unless h w) end)))) in
    ap (λ l. 123 ∷ l) (last_put d e (decimal q.floor) i j q.name (decimal q.window) (125 ∷ []))
    ∙ ap (λ l. 123 ∷ (d ++ (e ++ f (44 ∷ l)))) back
    ∙ ap (λ l. 123 ∷ l) front
    ∙ ap (λ l. 123 ∷ leading (unless a x) (leading (unless b y) l)) (sym (behind_one f g h z w n last (125 ∷ [])))
    ∙ ap (λ l. 123 ∷ l) (sym (before_one a b x y f (unless g z ++ (unless h w ++ n ∷ last)) (125 ∷ [])))

-- a project's first member is told where it is true
fast_told : (t : Bool) (x : Piece) (xs : List Piece) (rest : List ℕ) →
    (if t then codes "\"fail_fast\":true," else []) ++ joined (x ∷ xs) rest
    ≡ joined (unless (not t) (member (codes "fail_fast") (boolean t)) ++ x ∷ xs) rest
fast_told true x xs rest = refl
fast_told false x xs rest = refl

-- the text of a project
pub project_told : (p : Project) (w : List ℕ) → w ≡ (if p.fail_fast then codes "\"fail_fast\":true," else []) →
    123 ∷ (w ++ (codes "\"jobs\":[" ++ (join_by job_text (codes ",") p.jobs ++ (codes "],\"name\":\"" ++ (p.name ++ (codes "\",\"queue\":\"" ++ (p.queue ++ codes "\"}")))))))
    ≡ project_text p
project_told p w e =
    let x = member (codes "jobs") (listed job_text p.jobs) in
    let xs = member (codes "name") (plain p.name) ∷ member (codes "queue") (plain p.queue) ∷ [] in
    ap (λ l. 123 ∷ (l ++ joined (x ∷ xs) (125 ∷ []))) e ∙ ap (λ l. 123 ∷ l) (fast_told p.fail_fast x xs (125 ∷ []))
