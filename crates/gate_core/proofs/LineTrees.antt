-- A line is the print of a JSON object, and the digits of its id stand in it as they are.
use Rattle.std.proofs.Common.{◌≡◌, ℕ, ◌<◌, ◌≤◌, Bool, true, false, ◌&&◌, ◌==◌, cond, List, [], ◌∷◌, ◌++◌, length, All}
use Rattle.std.proofs.Common.{Some, None, codes, decimal, inl, refl, ap, ap₂, ◌∙◌, arith, append_assoc}
use Rattle.std.specs.Prelude.{nat_lt}
use Rattle.std.specs.List.{list_all}
use Rattle.std.proofs.lemmas.Bool.{and_parts, ltb-true, eqb-true}
use Rattle.std.proofs.lemmas.Bool.Decides.{nat_tests}
use Rattle.std.proofs.lemmas.List.Sums.{AllPass-from_list_all}
use Rattle.json.specs.Json as json
use Rattle.json.specs.Print.{escape, escape_byte, print, print_from}
use Rattle.json.specs.Tree.{json_tokens}
use Rattle.json.proofs.Printed.Strings.{escape_byte_plain}
use Rattle.uuid.specs.Text.{simple_text, lower, parsed, is_hex_digit, by_index, byte_of_digits}
use Rattle.uuid.proofs.RoundTrips.{parses_simple, parses_simple_text}
use Rattle.gate_types.specs.declared.deliveries.Delivery.{Delivery}
use Rattle.gate_types.specs.declared.deliveries.Delivery.TheVariants as delivery
use Rattle.gate_types.specs.declared.deliveries.Ending.TheVariants as ending
use Rattle.gate_types.specs.declared.records.Id.{Id}
use Rattle.gate_types.specs.Canonical.{ending_word}
use Rattle.gate_types.specs.Forms.{is_id_in_form}
use Rattle.gate_types.specs.JsonText.{Piece, number, plain, escaped, member, object}
use Rattle.gate_archive.specs.Laws.{members_with_id}

-- ---- the JSON object of a line

-- the digits of an id
abbrev pub hex : Id → List ℕ
hex id = simple_text lower id.0

-- a member with a number, and one with a text, before others
abbrev pub numbered : List ℕ → ℕ → json.Members → json.Members
numbered name n more = json.member name (json.number (decimal n)) more

abbrev pub worded : List ℕ → List ℕ → json.Members → json.Members
worded name text more = json.member name (json.string text) more

abbrev pub change_members : List ℕ → List ℕ → ℕ → ℕ → json.Members
change_members digits word n r =
    numbered (codes "change") n (worded (codes "id") digits (worded (codes "kind") word (numbered (codes "revision") r json.no_members)))

abbrev pub order_members : List ℕ → List ℕ → ℕ → json.Members
order_members digits word n = worded (codes "id") digits (worded (codes "kind") word (numbered (codes "order") n json.no_members))

-- the members under an id of these digits
abbrev pub members_of : List ℕ → Delivery → json.Members
members_of digits (delivery.Revision n name r message) =
    numbered (codes "change") n (worded (codes "id") digits (worded (codes "kind") (codes "revision") (
    worded (codes "message") message (worded (codes "project") name (numbered (codes "revision") r json.no_members)))))
members_of digits (delivery.Approved n r) = change_members digits (codes "approved") n r
members_of digits (delivery.Withdrawn n r) = change_members digits (codes "withdrawn") n r
members_of digits (delivery.Closed n r) = change_members digits (codes "closed") n r
members_of digits (delivery.Landed n) = order_members digits (codes "landed") n
members_of digits (delivery.Refused n) = order_members digits (codes "refused") n
members_of digits (delivery.Take worker) = worded (codes "id") digits (worded (codes "kind") (codes "take") (worded (codes "worker") worker json.no_members))
members_of digits (delivery.Result n e) =
    numbered (codes "build") n (worded (codes "id") digits (worded (codes "kind") (codes "result") (worded (codes "outcome") (ending_word e) json.no_members)))

-- the object
abbrev pub tree : List ℕ → Delivery → json.Json
tree digits d = json.object (members_of digits d)

-- ---- its print

-- digits that need no escape
unquoted : (digits : List ℕ) → escape digits ≡ digits → (rest : List ℕ) → escaped digits rest ≡ plain digits rest
unquoted digits e rest =
    ap (λ t. 34 ∷ ((t ++ 34 ∷ []) ++ rest)) e ∙ ap (λ t. 34 ∷ t) (append_assoc digits (34 ∷ []) rest)

-- an object up to the text of its id
abbrev id_first : Piece
id_first xs = 123 ∷ 34 ∷ (codes "id" ++ 34 ∷ 58 ∷ xs)

abbrev id_second : List ℕ → ℕ → Piece
id_second name n xs = 123 ∷ member name (number n) (44 ∷ 34 ∷ (codes "id" ++ 34 ∷ 58 ∷ xs))

-- a line is the print of its object, where the digits need no escape
pub printed : (id : Id) → escape (hex id) ≡ hex id → (d : Delivery) → print (json_tokens (tree (hex id) d)) ≡ object (members_with_id id d) []
unfolding print_from escape_byte
printed id e (delivery.Revision n name r message) = ap (id_second (codes "change") n) (unquoted (hex id) e _)
printed id e (delivery.Approved n r) = ap (id_second (codes "change") n) (unquoted (hex id) e _)
printed id e (delivery.Withdrawn n r) = ap (id_second (codes "change") n) (unquoted (hex id) e _)
printed id e (delivery.Closed n r) = ap (id_second (codes "change") n) (unquoted (hex id) e _)
printed id e (delivery.Landed n) = ap id_first (unquoted (hex id) e _)
printed id e (delivery.Refused n) = ap id_first (unquoted (hex id) e _)
printed id e (delivery.Take worker) = ap id_first (unquoted (hex id) e _)
printed id e (delivery.Result n ending.Success) = ap (id_second (codes "build") n) (unquoted (hex id) e _)
printed id e (delivery.Result n ending.Failure) = ap (id_second (codes "build") n) (unquoted (hex id) e _)
printed id e (delivery.Result n ending.Lost) = ap (id_second (codes "build") n) (unquoted (hex id) e _)

-- ---- the digits of an id

taken : {A : Type 0} (b : Bool) (x y : A) → Some y ≡ cond b (Some x) None → b ≡ true
taken true x y e = refl
taken false x y e = absurd (cc)

-- digits of sixteen stand for themselves
hex_bytes : (xs : List ℕ) → list_all is_hex_digit xs ≡ true → escape xs ≡ xs
hex_bytes [] h = refl
hex_bytes (x ∷ xs) h =
    let (here, rest) = and_parts (is_hex_digit x) (list_all is_hex_digit xs) h in
    let low : 48 ≤ x = grind (arith, nat_tests) in
    let other : (x ≡ 92 → ⊥) = λ e. grind (arith, nat_tests) in
    ap₂ (λ (a b : List ℕ). a ++ b) (escape_byte_plain x (λ e. omega arith) other (omega arith)) (hex_bytes xs rest)

all_small : (xs : List ℕ) → list_all (λ b. nat_lt b 256) xs ≡ true → All (λ b. b < 256) xs
all_small xs h k d within = ltb-true _ _ (AllPass-from_list_all (λ b. nat_lt b 256) xs h k d within)

-- they need no escape, and say the id
pub digits_read : (id : Id) → is_id_in_form id ≡ true → (escape (hex id) ≡ hex id) × (Some id.0 ≡ parsed (hex id))
digits_read id h =
    let (long, fit) = and_parts (length id.0 == 16) (list_all (λ b. nat_lt b 256) id.0) h in
    let sixteen = eqb-true (length id.0) 16 long in
    let small = all_small id.0 fit in
    let simple = parses_simple_text lower id.0 (inl refl) sixteen small in
    let tests = taken ((length (hex id) == 32) && list_all is_hex_digit (hex id)) (by_index 16 (byte_of_digits (hex id))) id.0 simple in
    (hex_bytes (hex id) (and_parts (length (hex id) == 32) (list_all is_hex_digit (hex id)) tests).1, parses_simple lower id.0 (inl refl) sixteen small)
