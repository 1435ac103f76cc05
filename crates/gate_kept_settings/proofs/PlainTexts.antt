-- Texts that are written as they are, and pieces of a text beside the values that they are the texts of.
use Rattle.std.proofs.Common.{◌≡◌, ℕ, ◌<◌, ◌≤◌, Bool, true, false, ◌||◌, List, [], ◌∷◌, ◌++◌, map, refl, sym, ap, ap₂}
use Rattle.std.proofs.Common.{◌∙◌, append_assoc, arith, lt-ltb}
use Rattle.std.specs.Prelude.{⊤, codes, flat_map}
use Rattle.std.specs.List.{list_all}
use Rattle.std.specs.Str.{IsUtf8}
use Rattle.std.proofs.lemmas.Bool.{and_parts, and_from}
use Rattle.std.proofs.lemmas.Bool.Decides.{nat_tests}
use Rattle.json.specs.Print.{escape, escape_byte, quoted}
use Rattle.json.proofs.Printed.Strings.{escape_byte_plain}
use Rattle.json.proofs.Printed.Utf8.{are_ascii, IsUtf8-are_ascii}
use Rattle.serde_json.specs.Data.{Data, boolean, number, unsigned, string, array, object, Members, no_members, member}
use Rattle.serde_json.specs.Written.{compact_text, items_text, members_text}
use Rattle.serde_json.specs.View.{items_of}
use Rattle.gate_types.specs.Names.{is_name_byte, is_path_byte, is_base_byte, is_name, is_path_name, is_base}
use Rattle.gate_types.specs.SettingsText.{unless}
use Rattle.gate_kept_settings.proofs.Entries.{Entry, always, unless_default, present}
use Rattle.gate_types.specs.JsonText.{Piece, plain, escaped, number as number_piece, boolean as boolean_piece, joined}
use Rattle.gate_types.specs.JsonText.{listed, member as member_piece, object as object_piece}

-- ---- names need no escape

path_byte : (x : ℕ) → is_path_byte x ≡ true → (x ≡ 34 → ⊥) × (x ≡ 92 → ⊥) × (32 ≤ x) × (x < 128)
path_byte x h = (grind (arith, nat_tests), grind (arith, nat_tests), grind (arith, nat_tests), grind (arith, nat_tests))

base_byte : (x : ℕ) → is_base_byte x ≡ true → x < 128
base_byte x h = grind (arith, nat_tests)

-- a text whose bytes pass a test
pub escape_each : (p : ℕ → Bool) → ((x : ℕ) → p x ≡ true → escape_byte x ≡ x ∷ []) → (s : List ℕ) → list_all p s ≡ true → escape s ≡ s
escape_each p f [] h = refl
escape_each p f (x ∷ s) h = let (here, later) = and_parts (p x) (list_all p s) h in ap₂ (λ (a b : List ℕ). a ++ b) (f x here) (escape_each p f s later)

ascii_each : (p : ℕ → Bool) → ((x : ℕ) → p x ≡ true → x < 128) → (s : List ℕ) → list_all p s ≡ true → are_ascii s ≡ true
ascii_each p f [] h = refl
ascii_each p f (x ∷ s) h = let (here, later) = and_parts (p x) (list_all p s) h in and_from _ _ (lt-ltb x 128 (f x here)) (ascii_each p f s later)

pub all_weaker : {X : Type 0} (p q : X → Bool) → ((x : X) → p x ≡ true → q x ≡ true) → (xs : List X) → list_all p xs ≡ true → list_all q xs ≡ true
all_weaker p q f [] h = refl
all_weaker p q f (x ∷ xs) h = let (here, later) = and_parts (p x) (list_all p xs) h in and_from _ _ (f x here) (all_weaker p q f xs later)

-- what names are made of
path_bytes : (s : List ℕ) → is_path_name s ≡ true → list_all is_path_byte s ≡ true
path_bytes s h = (and_parts _ _ h).1

either : (a b : Bool) → a ≡ true → (a || b) ≡ true
either true b h = refl
either false b h = absurd cc

name_bytes : (s : List ℕ) → is_name s ≡ true → list_all is_path_byte s ≡ true
name_bytes s h = all_weaker is_name_byte is_path_byte (λ x e. either _ _ e) s (and_parts _ _ h).1

escape_path : (s : List ℕ) → list_all is_path_byte s ≡ true → escape s ≡ s
escape_path s h = escape_each is_path_byte (λ x e. let b = path_byte x e in escape_byte_plain x b.0 b.1 b.2) s h

utf8_path : (s : List ℕ) → list_all is_path_byte s ≡ true → IsUtf8 s
utf8_path s h = IsUtf8-are_ascii s (ascii_each is_path_byte (λ x e. (path_byte x e).3) s h)

pub escape_name : (s : List ℕ) → is_name s ≡ true → escape s ≡ s
escape_name s h = escape_path s (name_bytes s h)

pub escape_path_name : (s : List ℕ) → is_path_name s ≡ true → escape s ≡ s
escape_path_name s h = escape_path s (path_bytes s h)

pub utf8_name : (s : List ℕ) → is_name s ≡ true → IsUtf8 s
utf8_name s h = utf8_path s (name_bytes s h)

pub utf8_path_name : (s : List ℕ) → is_path_name s ≡ true → IsUtf8 s
utf8_path_name s h = utf8_path s (path_bytes s h)

pub utf8_base : (s : List ℕ) → is_base s ≡ true → IsUtf8 s
utf8_base s h = IsUtf8-are_ascii s (ascii_each is_base_byte base_byte s (and_parts _ _ h).1)

-- ---- pieces

-- a piece is the text of a value
pub record Prints (p : Piece) (d : Data) : Type 0 where
  pub is : (rest : List ℕ) → p rest ≡ compact_text d ++ rest

-- a text that needs no escape
plain_is : (s rest : List ℕ) → escape s ≡ s → plain s rest ≡ quoted s ++ rest
plain_is s rest h = ap (λ e. 34 ∷ (e ++ 34 ∷ rest)) (sym h) ∙ ap (λ l. 34 ∷ l) (sym (append_assoc (escape s) (34 ∷ []) rest))

pub prints_plain : (s : List ℕ) → escape s ≡ s → Prints (plain s) (string s)
prints_plain s h = record { is = λ rest. plain_is s rest h }

pub prints_escaped : (s : List ℕ) → Prints (escaped s) (string s)
prints_escaped s = record { is = λ rest. refl }

pub prints_number : (n : ℕ) → Prints (number_piece n) (number (unsigned n))
prints_number n = record { is = λ rest. refl }

boolean_is : (b : Bool) (rest : List ℕ) → boolean_piece b rest ≡ compact_text (boolean b) ++ rest
boolean_is true rest = refl
boolean_is false rest = refl

pub prints_boolean : (b : Bool) → Prints (boolean_piece b) (boolean b)
prints_boolean b = record { is = boolean_is b }

-- pieces are the members of an object
abbrev AreMembers : List Piece → Members → Type 0
AreMembers [] no_members = ⊤
AreMembers [] (member k d ms) = ⊥
AreMembers (p ∷ ps) no_members = ⊥
AreMembers (p ∷ ps) (member k d ms) = ((rest : List ℕ) → p rest ≡ quoted k ++ 58 ∷ (compact_text d ++ rest)) × AreMembers ps ms

pub record PrintMembers (ps : List Piece) (es : List Entry) : Type 0 where
  pub are : AreMembers ps (present es)

pub none : PrintMembers [] []
none = record { are = tt }

-- a member in front
pub and_member : {p : Piece} {d : Data} {ps : List Piece} {es : List Entry} (k : List ℕ) → escape k ≡ k → Prints p d → PrintMembers ps es → PrintMembers (member_piece k p ∷ ps) (always k d ∷ es)
and_member {d = d} k e h more = record { are = (λ rest. plain_is k _ e ∙ ap (λ t. quoted k ++ 58 ∷ t) (h.is rest), more.are) }

-- a member in front, unless it says the default
pub and_unless : {p : Piece} {d : Data} {ps : List Piece} {es : List Entry} (t : Bool) (k : List ℕ) → escape k ≡ k → Prints p d → PrintMembers ps es → PrintMembers (unless t (member_piece k p) ++ ps) (unless_default t k d ∷ es)
and_unless true k e h more = record { are = more.are }
and_unless false k e h more = record { are = (and_member k e h more).are }

joined_is : (p : Piece) (ps : List Piece) (k : List ℕ) (d : Data) (ms : Members) → AreMembers (p ∷ ps) (member k d ms) → joined (p ∷ ps) (125 ∷ []) ≡ members_text false (member k d ms)
joined_is p [] k d no_members h = h.0 (125 ∷ [])
joined_is p [] k d (member l e ms) h = absurd h.1
joined_is p (q ∷ ps) k d no_members h = absurd h.1
joined_is p (q ∷ ps) k d (member l e ms) h = h.0 (44 ∷ joined (q ∷ ps) (125 ∷ [])) ∙ ap (λ t. quoted k ++ 58 ∷ (compact_text d ++ 44 ∷ t)) (joined_is q ps l e ms h.1)

object_is : (ps : List Piece) (ms : Members) → AreMembers ps ms → object_piece ps [] ≡ compact_text (object ms)
object_is [] no_members h = refl
object_is [] (member k d ms) h = absurd h
object_is (p ∷ ps) no_members h = absurd h
object_is (p ∷ ps) (member k d ms) h = ap (λ t. 123 ∷ t) (joined_is p ps k d ms h)

-- so the object of the pieces is the text of the object
pub prints_object : {ps : List Piece} {es : List Entry} → PrintMembers ps es → object_piece ps [] ≡ compact_text (object (present es))
prints_object {ps = ps} {es = es} h = object_is ps (present es) h.are

-- ---- lists

module _ {X : Type 0} (f : X → List ℕ) (g : X → Data) (p : X → Bool) (each : (x : X) → p x ≡ true → f x ≡ compact_text (g x)) where
  behind : (xs : List X) (rest : List ℕ) → list_all p xs ≡ true → flat_map (λ y. codes "," ++ f y) xs ++ 93 ∷ rest ≡ items_text true (items_of (map g xs)) ++ rest
  behind [] rest h = refl
  behind (x ∷ xs) rest h =
      let (here, later) = and_parts (p x) (list_all p xs) h in
      ap (λ t. 44 ∷ t) (append_assoc (f x) (flat_map (λ y. codes "," ++ f y) xs) (93 ∷ rest)
      ∙ ap₂ (λ (a b : List ℕ). a ++ b) (each x here) (behind xs rest later)
      ∙ sym (append_assoc (compact_text (g x)) (items_text true (items_of (map g xs))) rest))

  list_is : (xs : List X) → list_all p xs ≡ true → (rest : List ℕ) → listed f xs rest ≡ compact_text (array (items_of (map g xs))) ++ rest
  list_is [] h rest = refl
  list_is (x ∷ xs) h rest =
      let (here, later) = and_parts (p x) (list_all p xs) h in
      ap (λ t. 91 ∷ t) (append_assoc (f x) (flat_map (λ y. codes "," ++ f y) xs) (93 ∷ rest)
      ∙ ap₂ (λ (a b : List ℕ). a ++ b) (each x here) (behind xs rest later)
      ∙ sym (append_assoc (compact_text (g x)) (items_text true (items_of (map g xs))) rest))

  -- the texts of values with commas between are the text of their array
  pub prints_list : (xs : List X) → list_all p xs ≡ true → Prints (listed f xs) (array (items_of (map g xs)))
  prints_list xs h = record { is = list_is xs h }
