-- The fields of a name, one by one.
use Rattle.std.proofs.Common.{◌≡◌, ℕ, ◌+◌, ◌<◌, true, cond, List, [], ◌∷◌, ◌++◌, length, take, drop, get_or, map}
use Rattle.std.proofs.Common.{refl, sym, ap, subst, ◌∙◌}
use Rattle.std.proofs.lemmas.List.{take_more, map-append, take-append-drop}
use Rattle.std.proofs.lemmas.List.Elements.{filter-append}
use Rattle.httparse.specs.Spans.{header_bytes}
use Rattle.httparse.specs.declared.spans.HeaderSpan.{HeaderSpan}
use Rattle.gate_http.specs.Fields.{Pair, is_named, named}
use Rattle.gate_http.specs.declared.fields.NamedField.{NamedField}
use Rattle.gate_http.specs.declared.fields.NamedField.TheVariants as found
use Rattle.gate_http.specs.Parts.{HasSeveral, ShowsNamed}

-- one more header
pub named_more : (head name : List ℕ) (headers : List HeaderSpan) (i : ℕ) (d : HeaderSpan) → i < length headers
    → named name (map (header_bytes head) (take (i + 1) headers))
    ≡ named name (map (header_bytes head) (take i headers))
    ++ named name (header_bytes head (get_or headers i d) ∷ [])
named_more head name headers i d h =
    ap (λ x. named name (map (header_bytes head) x)) (take_more headers i d h)
    ∙ ap (named name) (map-append (header_bytes head) (take i headers) (get_or headers i d ∷ []))
    ∙ filter-append (is_named name) (map (header_bytes head) (take i headers))
    (header_bytes head (get_or headers i d) ∷ [])

-- two are several, whatever follows
pub several_more : (xs ys : List Pair) → HasSeveral xs → HasSeveral (xs ++ ys)
several_more [] ys h = absurd h
several_more (x ∷ []) ys h = absurd h
several_more (x ∷ y ∷ xs) ys h = tt

-- one more after some are several
pub several_next : (xs : List Pair) (x : Pair) → (xs ≡ [] → ⊥) → HasSeveral (xs ++ x ∷ [])
several_next [] x some = absurd (some refl)
several_next (y ∷ []) x some = tt
several_next (y ∷ z ∷ xs) x some = tt

-- a find is a find
pub found_some : (head : List ℕ) (n : NamedField) (fields : List Pair) → ShowsNamed head n fields → (n ≡ found.None → ⊥)
    → fields ≡ [] → ⊥
found_some head found.None fields h not = λ e. not refl
found_some head (found.One value) fields h not = λ e. let k = h.1.1 in cc
found_some head found.Several fields h not = λ e. subst HasSeveral e h

-- another of the name after a find
pub several_found : (head name : List ℕ) (headers : List HeaderSpan) (i : ℕ) (d : HeaderSpan) (n : NamedField)
    → i < length headers
    → is_named name (header_bytes head (get_or headers i d)) ≡ true → (n ≡ found.None → ⊥)
    → ShowsNamed head n (named name (map (header_bytes head) (take i headers)))
    → HasSeveral (named name (map (header_bytes head) headers))
several_found head name headers i d n h same not shows =
    let before = named name (map (header_bytes head) (take i headers)) in
    let this = header_bytes head (get_or headers i d) in
    let next : named name (map (header_bytes head) (take (i + 1) headers)) ≡ before ++ this ∷ [] =
    named_more head name headers i d h ∙ ap (λ t. before ++ cond t (this ∷ []) []) same in
    let several : HasSeveral (named name (map (header_bytes head) (take (i + 1) headers))) =
    subst HasSeveral (sym next) (several_next before this (found_some head n before shows not)) in
    let split : named name (map (header_bytes head) headers)
    ≡ named name (map (header_bytes head) (take (i + 1) headers))
    ++ named name (map (header_bytes head) (drop (i + 1) headers)) =
    ap (λ x. named name (map (header_bytes head) x)) (sym (take-append-drop (i + 1) headers))
    ∙ ap (named name) (map-append (header_bytes head) (take (i + 1) headers) (drop (i + 1) headers))
    ∙ filter-append (is_named name) (map (header_bytes head) (take (i + 1) headers))
    (map (header_bytes head) (drop (i + 1) headers)) in
    subst HasSeveral (sym split)
    (several_more (named name (map (header_bytes head) (take (i + 1) headers)))
    (named name (map (header_bytes head) (drop (i + 1) headers))) several)
