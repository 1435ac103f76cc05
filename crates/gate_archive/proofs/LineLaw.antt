-- A canonical text is cut before its kind, and the id goes in there.
use Rattle.std.proofs.Common.{◌≡◌, ℕ, zero, suc, ◌+◌, ◌/◌, ◌%◌, ◌<◌, Bool, true, false, not, cond, ◌==◌, List, []}
use Rattle.std.proofs.Common.{◌∷◌, ◌++◌, length, take, drop, codes, decimal, refl, sym, ap, ap₂, ◌∙◌, arith}
use Rattle.std.proofs.Common.{append_assoc}
use Rattle.std.specs.Prelude.{⊤}
use Rattle.std.specs.List.{list_all, before_first, after_first, position_or_len}
use Rattle.std.specs.Fmt.{digits, digits_onto, digit_glyph}
use Rattle.std.proofs.Math.Nat.{mod-lt}
use Rattle.std.proofs.lemmas.Bool.{and_parts, and_from, ne_eqb, lt-ltb}
use Rattle.std.proofs.lemmas.List.{take_at, drop_at, length_push}
use Rattle.std.proofs.lemmas.List.Folds.{list_all-append}
use Rattle.uuid.specs.Text.{simple_text, lower}
use Rattle.gate_types.specs.declared.deliveries.Delivery.TheVariants as delivery
use Rattle.gate_types.specs.declared.records.Id.{Id}
use Rattle.gate_types.specs.Canonical.{ending_word}
use Rattle.gate_types.specs.JsonText.{Piece, number, plain, escaped, joined, member}
use Rattle.gate_archive.specs.Feed.{is_k, with_id}
use Rattle.gate_archive.specs.Laws.{ALineIsItsDeliveryUnderItsId}

-- ---- cutting at a `k`

-- a text has no `k`
abbrev is_free : List ℕ → Bool
is_free xs = list_all (λ b. not (is_k b)) xs

free_both : (xs ys : List ℕ) → is_free xs ≡ true → is_free ys ≡ true → is_free (xs ++ ys) ≡ true
free_both xs ys hx hy = list_all-append (λ b. not (is_k b)) xs ys ∙ and_from _ _ hx hy

place : (xs ys : List ℕ) → is_free xs ≡ true → position_or_len is_k (xs ++ 107 ∷ ys) ≡ length xs
place [] ys h = refl
place (x ∷ xs) ys h =
    let (here, rest) = and_parts (not (is_k x)) (is_free xs) h in
    let on = place xs ys rest in
    ap (λ b. cond b (1 + position_or_len is_k (xs ++ 107 ∷ ys)) 0) here ∙ omega (arith, on)

before : (xs ys : List ℕ) → is_free xs ≡ true → before_first is_k (xs ++ 107 ∷ ys) ≡ xs
before xs ys h = ap (λ n. take n (xs ++ 107 ∷ ys)) (place xs ys h) ∙ take_at xs (107 ∷ ys) (length xs) refl

after : (xs ys : List ℕ) → is_free xs ≡ true → after_first is_k (xs ++ 107 ∷ ys) ≡ ys
after xs ys h =
    ap (λ n. drop (n + 1) (xs ++ 107 ∷ ys)) (place xs ys h)
    ∙ ap (drop (length xs + 1)) (sym (append_assoc xs (107 ∷ []) ys)) ∙ drop_at (xs ++ 107 ∷ []) ys (length xs + 1) (length_push xs 107)

-- ---- no digit is a `k`

digit_free : (d : ℕ) → d < 10 → is_k (digit_glyph false d) ≡ false
digit_free d h = rw (lt-ltb d 10 h) (ne_eqb (48 + d) 107 (λ e. omega arith))

digits_free : (k n : ℕ) (acc : List ℕ) → is_free acc ≡ true → is_free (digits_onto k 10 false n acc) ≡ true
digits_free zero n acc h = h
digits_free (suc k) n acc h =
    let glyph = digit_glyph false (n % 10) in
    let more : is_free (glyph ∷ acc) ≡ true = and_from _ _ (ap not (digit_free (n % 10) (mod-lt n (omega arith)))) h in
    last (n / 10 == 0) glyph more (digits_free k (n / 10) (glyph ∷ acc) more)
  where
    last : (b : Bool) (glyph : ℕ) → is_free (glyph ∷ acc) ≡ true → is_free (digits_onto k 10 false (n / 10) (glyph ∷ acc)) ≡ true
        → is_free (cond b (glyph ∷ acc) (digits_onto k 10 false (n / 10) (glyph ∷ acc))) ≡ true
    last true glyph here on = here
    last false glyph here on = on

decimal_free : (n : ℕ) → is_free (decimal n) ≡ true
unfolding digits
decimal_free n = digits_free 64 n [] refl

-- ---- pieces stand before what is behind

abbrev Stands : Piece → Type 0
Stands piece = (xs ys : List ℕ) → piece (xs ++ ys) ≡ piece xs ++ ys

number-stands : (n : ℕ) → Stands (number n)
number-stands n xs ys = sym (append_assoc (decimal n) xs ys)

escaped-stands : (text : List ℕ) → Stands (escaped text)
escaped-stands text xs ys = search (append_assoc)

plain-stands : (text : List ℕ) → Stands (plain text)
plain-stands text xs ys = ap (λ t. 34 ∷ t) (sym (append_assoc text (34 ∷ xs) ys))

member-stands : (name : List ℕ) (value : Piece) → Stands value → Stands (member name value)
member-stands name value h xs ys =
    ap (λ t. 34 ∷ t) (ap (λ t. name ++ 34 ∷ 58 ∷ t) (h xs ys) ∙ sym (append_assoc name (34 ∷ 58 ∷ value xs) ys))

abbrev AllStand : List Piece → Type 0
AllStand [] = ⊤
AllStand (p ∷ ps) = Stands p × AllStand ps

joined-stands : (ps : List Piece) → AllStand ps → Stands (joined ps)
joined-stands [] h xs ys = refl
joined-stands (p ∷ []) h xs ys = h.0 xs ys
joined-stands (p ∷ q ∷ ps) h xs ys = ap (λ t. p (44 ∷ t)) (joined-stands (q ∷ ps) h.1 xs ys) ∙ h.0 (44 ∷ joined (q ∷ ps) xs) ys

-- ---- a line

-- an object up to its kind
abbrev bare_head : Piece
bare_head xs = 123 ∷ xs

abbrev number_head : List ℕ → ℕ → Piece
number_head name n xs = 123 ∷ member name (number n) (44 ∷ xs)

number_head-stands : (name : List ℕ) (n : ℕ) → Stands (number_head name n)
number_head-stands name n xs ys = ap (λ t. 123 ∷ t) (member-stands name (number n) (number-stands n) (44 ∷ xs) ys)

number_head-free : (name : List ℕ) (n : ℕ) → is_free name ≡ true → is_free (number_head name n (34 ∷ [])) ≡ true
number_head-free name n h = free_both name _ h (free_both (decimal n) _ (decimal_free n) refl)

-- an object behind the `k` of its kind
abbrev tail : List ℕ → List Piece → Piece
tail word more xs = codes "ind\":" ++ plain word (44 ∷ joined more (125 ∷ xs))

tail-stands : (word : List ℕ) (more : List Piece) → AllStand more → Stands (tail word more)
tail-stands word more h xs ys =
    ap (λ t. codes "ind\":" ++ plain word (44 ∷ t)) (joined-stands more h (125 ∷ xs) ys)
    ∙ ap (λ t. codes "ind\":" ++ t) (plain-stands word (44 ∷ joined more (125 ∷ xs)) ys)

-- the id, and what stands behind the `k` of the kind
abbrev onward : Id → List ℕ → List ℕ
onward id behind = codes "id\":\"" ++ (simple_text lower id.0 ++ (codes "\",\"k" ++ behind))

cut : (id : Id) (head behind : Piece) (rest : List ℕ) → Stands head → Stands behind → is_free (head (34 ∷ [])) ≡ true →
    with_id id (head (34 ∷ 107 ∷ behind [])) rest
    ≡ head (34 ∷ onward id (behind rest))
cut id head behind rest hh hb free =
    let parted = hh (34 ∷ []) (107 ∷ behind []) in
    let front = ap (before_first is_k) parted ∙ before (head (34 ∷ [])) (behind []) free in
    let back = ap (after_first is_k) parted ∙ after (head (34 ∷ [])) (behind []) free in
    ap₂ (λ a b. a ++ onward id (b ++ rest)) front back
    ∙ ap (λ t. head (34 ∷ []) ++ onward id t) (sym (hb [] rest))
    ∙ sym (hh (34 ∷ []) _)

-- ---- the law

numbered : (id : Id) (name : List ℕ) (n : ℕ) (word : List ℕ) (more : List Piece) (rest : List ℕ) → is_free name ≡ true → AllStand more →
    with_id id (number_head name n (34 ∷ 107 ∷ tail word more [])) rest
    ≡ number_head name n (34 ∷ onward id (tail word more rest))
numbered id name n word more rest free stand =
    cut id (number_head name n) (tail word more) rest (number_head-stands name n) (tail-stands word more stand) (number_head-free name n free)

unnumbered : (id : Id) (word : List ℕ) (more : List Piece) (rest : List ℕ) → AllStand more →
    with_id id (bare_head (34 ∷ 107 ∷ tail word more [])) rest
    ≡ bare_head (34 ∷ onward id (tail word more rest))
unnumbered id word more rest stand = cut id bare_head (tail word more) rest (λ xs ys. refl) (tail-stands word more stand) refl

abbrev on_change_more : ℕ → List Piece
on_change_more r = member (codes "revision") (number r) ∷ []

abbrev revision_more : List ℕ → ℕ → List ℕ → List Piece
revision_more name r message =
    member (codes "message") (escaped message) ∷ member (codes "project") (escaped name) ∷ on_change_more r

number_member : (name : List ℕ) (n : ℕ) → Stands (member name (number n))
number_member name n = member-stands name (number n) (number-stands n)

text_member : (name text : List ℕ) → Stands (member name (escaped text))
text_member name text = member-stands name (escaped text) (escaped-stands text)

pub a_line_is_its_delivery_under_its_id : ALineIsItsDeliveryUnderItsId
a_line_is_its_delivery_under_its_id id (delivery.Revision n name r message) rest =
    numbered id (codes "change") n (codes "revision") (revision_more name r message) rest refl
    (text_member (codes "message") message, (text_member (codes "project") name, (number_member (codes "revision") r, tt)))
a_line_is_its_delivery_under_its_id id (delivery.Approved n r) rest =
    numbered id (codes "change") n (codes "approved") (on_change_more r) rest refl (number_member (codes "revision") r, tt)
a_line_is_its_delivery_under_its_id id (delivery.Withdrawn n r) rest =
    numbered id (codes "change") n (codes "withdrawn") (on_change_more r) rest refl (number_member (codes "revision") r, tt)
a_line_is_its_delivery_under_its_id id (delivery.Closed n r) rest =
    numbered id (codes "change") n (codes "closed") (on_change_more r) rest refl (number_member (codes "revision") r, tt)
a_line_is_its_delivery_under_its_id id (delivery.Landed n) rest =
    unnumbered id (codes "landed") (member (codes "order") (number n) ∷ []) rest (number_member (codes "order") n, tt)
a_line_is_its_delivery_under_its_id id (delivery.Refused n) rest =
    unnumbered id (codes "refused") (member (codes "order") (number n) ∷ []) rest (number_member (codes "order") n, tt)
a_line_is_its_delivery_under_its_id id (delivery.Take worker) rest =
    unnumbered id (codes "take") (member (codes "worker") (escaped worker) ∷ []) rest (text_member (codes "worker") worker, tt)
a_line_is_its_delivery_under_its_id id (delivery.Result n e) rest =
    numbered id (codes "build") n (codes "result") (member (codes "outcome") (plain (ending_word e)) ∷ []) rest refl
    (member-stands (codes "outcome") (plain (ending_word e)) (plain-stands (ending_word e)), tt)
