-- Going along two lists of entries side by side.
use Rattle.std.proofs.Common.{◌≡◌, ℕ, zero, suc, ◌+◌, ◌<◌, ◌≤◌, Bool, true, false, cond, ◌&&◌, Option, Some, None}
use Rattle.std.proofs.Common.{List, [], ◌∷◌, ◌++◌, length, get_or, take, drop, map, refl, sym, ap, ◌∙◌, add-one}
use Rattle.std.proofs.Common.{drop-cons, arith, eq-eqb, ◌-◌, length-drop}
use Rattle.std.specs.Prelude.{filter, nat_lt, not, is_some, slice_get}
use Rattle.std.specs.Option.{option_map_or}
use Rattle.std.specs.List.{list_all}
use Rattle.std.proofs.lemmas.Bool.{and_parts}
use Rattle.std.proofs.lemmas.List.{take_all}
use Rattle.gate_types.specs.declared.records.Landing.{Landing}
use Rattle.gate_types.specs.declared.records.Build.{Build}
use Rattle.gate_types.specs.declared.records.Entry.{Entry}
use Rattle.gate_types.specs.Line.{Place, same_entries, landed_entry, item_entry, built_entry, line, ran_on}
use Rattle.gate_queue.specs.WholeQueue.Follows.{has_entry, Follows}

-- behind the first of some entries, these are left
pub record GoesOn (ran : List Entry) (from : ℕ) (entries : List Entry) (n : ℕ) (left : List Entry) : Type 0 where
  pub along : (tail : List Entry) → same_entries (drop from ran) (entries ++ tail) ≡ same_entries (drop n ran) (left ++ tail)

same_step : (ran : List Entry) (n : ℕ) (e : Entry) (es : List Entry) → same_entries (drop n ran) (e ∷ es) ≡ (has_entry ran n e && same_entries (drop (suc n) ran) es)
same_step [] zero e es = refl
same_step [] (suc n) e es = refl
same_step (x ∷ xs) zero e es = refl
same_step (x ∷ xs) (suc n) e es = same_step xs n e es

pub goes_on : (ran entries : List Entry) (from n : ℕ) (e : Entry) (left rest : List Entry) → left ≡ e ∷ rest → has_entry ran n e ≡ true → GoesOn ran from entries n left → GoesOn ran from entries (n + 1) rest
goes_on ran entries from n e left rest is has g = record {
  along = λ tail.
      g.along tail
      ∙ ap (λ l. same_entries (drop n ran) (l ++ tail)) is
      ∙ same_step ran n e (rest ++ tail)
      ∙ ap (λ t. t && same_entries (drop (suc n) ran) (rest ++ tail)) has
      ∙ ap (λ m. same_entries (drop m ran) (rest ++ tail)) (sym (add-one n));
}

pub breaks : (ran entries : List Entry) (from n : ℕ) (e : Entry) (left rest : List Entry) → left ≡ e ∷ rest → has_entry ran n e ≡ false → GoesOn ran from entries n left → Follows ran from entries None
breaks ran entries from n e left rest is has g = record {
  rest = λ tail.
      g.along tail
      ∙ ap (λ l. same_entries (drop n ran) (l ++ tail)) is
      ∙ same_step ran n e (rest ++ tail)
      ∙ ap (λ t. t && same_entries (drop (suc n) ran) (rest ++ tail)) has;
}

-- the elements from one on, under a function
pub left_cons : {X Y : Type 0} (f : X → Y) (xs : List X) (i : ℕ) (x : X) → i < length xs → x ≡ get_or xs i x → map f (drop i xs) ≡ f x ∷ map f (drop (i + 1) xs)
left_cons f xs i x l is = ap (map f) (drop-cons xs i x l) ∙ ap (λ y. f y ∷ map f (drop (suc i) xs)) (sym is) ∙ ap (λ n. f x ∷ map f (drop n xs)) (sym (add-one i))

-- the same where a test keeps it
pub left_kept : {X Y : Type 0} (f : X → Y) (p : X → Bool) (xs : List X) (i : ℕ) (x : X) → i < length xs → x ≡ get_or xs i x → p x ≡ true → map f (filter p (drop i xs)) ≡ f x ∷ map f (filter p (drop (i + 1) xs))
left_kept f p xs i x l is kept =
    ap (λ l. map f (filter p l)) (drop-cons xs i x l)
    ∙ ap (λ y. map f (filter p (y ∷ drop (suc i) xs))) (sym is)
    ∙ ap (λ t. map f (cond t (x ∷ filter p (drop (suc i) xs)) (filter p (drop (suc i) xs)))) kept
    ∙ ap (λ n. f x ∷ map f (filter p (drop n xs))) (sym (add-one i))

-- and where it doesn't
pub left_dropped : {X Y : Type 0} (f : X → Y) (p : X → Bool) (xs : List X) (i : ℕ) (x : X) → i < length xs → x ≡ get_or xs i x → p x ≡ false → map f (filter p (drop i xs)) ≡ map f (filter p (drop (i + 1) xs))
left_dropped f p xs i x l is gone =
    ap (λ l. map f (filter p l)) (drop-cons xs i x l)
    ∙ ap (λ y. map f (filter p (y ∷ drop (suc i) xs))) (sym is)
    ∙ ap (λ t. map f (cond t (x ∷ filter p (drop (suc i) xs)) (filter p (drop (suc i) xs)))) gone
    ∙ ap (λ n. map f (filter p (drop n xs))) (sym (add-one i))

-- one more element that a test keeps
pub goes_on_kept : {X : Type 0} (f : X → Entry) (p : X → Bool) (xs : List X) (i : ℕ) (x : X) (ran entries : List Entry) (from n m : ℕ) → i < length xs → x ≡ get_or xs i x → p x ≡ true → has_entry ran n (f x) ≡ true → m ≡ n + 1 →
    GoesOn ran from entries n (map f (filter p (drop i xs))) → GoesOn ran from entries m (map f (filter p (drop (i + 1) xs)))
goes_on_kept f p xs i x ran entries from n m l is kept has e g =
    rw e (goes_on ran entries from n (f x) _ (map f (filter p (drop (i + 1) xs))) (left_kept f p xs i x l is kept) has g)

-- and one that it drops
pub goes_on_dropped : {X : Type 0} (f : X → Entry) (p : X → Bool) (xs : List X) (i : ℕ) (x : X) (ran entries : List Entry) (from n m : ℕ) → i < length xs → x ≡ get_or xs i x → p x ≡ false → m ≡ n →
    GoesOn ran from entries n (map f (filter p (drop i xs))) → GoesOn ran from entries m (map f (filter p (drop (i + 1) xs)))
goes_on_dropped f p xs i x ran entries from n m l is gone e g =
    rw (e, ← left_dropped f p xs i x l is gone) g

-- landings that both lists begin with needn't be compared
skip : (p : Landing → Bool) (ls : List Landing) (us vs : List Entry) (n a s : ℕ) → n ≤ a → n ≤ s → n ≤ length ls → list_all p (take s ls) ≡ true →
    same_entries (map landed_entry (take a ls) ++ us) (map landed_entry (filter p ls) ++ vs)
    ≡ same_entries (drop n (map landed_entry (take a ls) ++ us)) (map landed_entry (filter p (drop n ls)) ++ vs)
skip p ls us vs zero a s na ns nl h = refl
skip p [] us vs (suc n) a s na ns nl h = absurd (omega arith)
skip p (l ∷ ls) us vs (suc n) zero s na ns nl h = absurd (omega arith)
skip p (l ∷ ls) us vs (suc n) (suc a) zero na ns nl h = absurd (omega arith)
skip p (l ∷ ls) us vs (suc n) (suc a) (suc s) na ns nl h =
    let both = and_parts (p l) (list_all p (take s ls)) h in
    ap (λ t. same_entries (landed_entry l ∷ (map landed_entry (take a ls) ++ us)) (map landed_entry (cond t (l ∷ filter p ls) (filter p ls)) ++ vs)) both.0
    ∙ (λ k. eq-eqb l.change l.change refl k && eq-eqb l.revision l.revision refl k && same_entries (map landed_entry (take a ls) ++ us) (map landed_entry (filter p ls) ++ vs))
    ∙ skip p ls us vs n a s (omega arith) (omega arith) (omega arith) both.1

none_left : (ran : List Entry) (n : ℕ) → same_entries (drop n ran) [] ≡ not (is_some (slice_get ran n))
none_left [] zero = refl
none_left [] (suc n) = refl
none_left (x ∷ xs) zero = refl
none_left (x ∷ xs) (suc n) = none_left xs n

-- all that is left behind some elements
take_rest : {X : Type 0} (xs : List X) (n : ℕ) → take (length xs - n) (drop n xs) ≡ drop n xs
take_rest xs n = take_all (length xs - n) (drop n xs) (omega (arith, length-drop n xs))

-- a build ran on a line, by its parts
pub on_line : (p : Place) (b : Build) (from shared serial : ℕ) (landed : Option ℕ) (r : Bool) →
    from ≤ b.after → from ≤ shared → from ≤ length p.landings → list_all (λ l. nat_lt l.serial p.item.serial) (take shared p.landings) ≡ true → serial ≡ p.item.serial →
    Follows (ran_on p.landings b) from (map landed_entry (filter (λ l. nat_lt l.serial serial) (take (length p.landings - from) (drop from p.landings)))) landed →
    option_map_or (λ n. same_entries (drop n (ran_on p.landings b)) (map item_entry p.ahead ++ item_entry p.item ∷ [])) landed false ≡ r →
    r ≡ same_entries (ran_on p.landings b) (line p)
on_line p b from shared serial landed r na ns nl h se f e =
    sym
    (skip (λ l. nat_lt l.serial p.item.serial) p.landings (b.ahead ++ built_entry b ∷ []) (map item_entry p.ahead ++ item_entry p.item ∷ []) from b.after shared na ns nl h
    ∙ ap (λ s. same_entries (drop from (ran_on p.landings b)) (map landed_entry (filter (λ l. nat_lt l.serial s) (drop from p.landings)) ++ (map item_entry p.ahead ++ item_entry p.item ∷ []))) (sym se)
    ∙ ap (λ (ls : List Landing). same_entries (drop from (ran_on p.landings b)) (map landed_entry (filter (λ l. nat_lt l.serial serial) ls) ++ (map item_entry p.ahead ++ item_entry p.item ∷ []))) (sym (take_rest p.landings from))
    ∙ f.rest (map item_entry p.ahead ++ item_entry p.item ∷ [])
    ∙ e)

-- the end of a line
pub at_end : (ran : List Entry) (n : ℕ) (e : Entry) → same_entries (drop n ran) (e ∷ []) ≡ (has_entry ran n e && not (is_some (slice_get ran (n + 1))))
at_end ran n e = same_step ran n e [] ∙ ap (λ t. has_entry ran n e && t) (none_left ran (suc n) ∙ ap (λ m. not (is_some (slice_get ran m))) (sym (add-one n)))

-- what is left is one entry or it isn't, by what was found there
pub rest_is : (ran : List Entry) (from n : ℕ) (entries : List Entry) (e d : Entry) (has r : Bool) → Follows ran from entries (Some n) → d ≡ e → has ≡ has_entry ran n d → (has && not (is_some (slice_get ran (n + 1)))) ≡ r →
    r ≡ same_entries (drop from ran) (entries ++ e ∷ [])
rest_is ran from n entries e d has r f de he hr =
    sym (f.rest (e ∷ []) ∙ at_end ran n e ∙ ap (λ x. has_entry ran n x && not (is_some (slice_get ran (n + 1)))) (sym de) ∙ ap (λ t. t && not (is_some (slice_get ran (n + 1)))) (sym he) ∙ hr)

pub not_not : (a b : Bool) → a ≡ not b → not a ≡ b
not_not a true e = ap not e
not_not a false e = ap not e
