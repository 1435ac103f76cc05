-- The compact text of a value is read back as that value: texts, whole numbers, truth values, and what is made of them.
use Rattle.std.proofs.Common.{◌≡◌, ℕ, zero, suc, ◌<◌, ◌≤◌, ◌^◌, List, [], ◌∷◌, ◌++◌, Bool, true, false, Some}
use Rattle.std.proofs.Common.{option_map, option_and_then, Greater, nat_cmp, decimal, refl, sym, ap, ◌∙◌, append-nil}
use Rattle.std.proofs.Common.{arith}
use Rattle.std.specs.Prelude.{⊤}
use Rattle.std.specs.Str.{IsUtf8}
use Rattle.std.specs.Cmp.Lexicographic.{slice_cmp}
use Rattle.std.proofs.lemmas.Str.{IsUtf8-append, IsUtf8-nil, IsUtf8-from_ascii}
use Rattle.std.proofs.lemmas.Fmt.{IsAscii-decimal}
use Rattle.json.specs.Json as json
use Rattle.json.specs.Tree as tree
use Rattle.json.specs.Tree.{json_tokens, HasNumbers, ItemsHaveNumbers, MembersHaveNumbers}
use Rattle.json.specs.Lex.{tokens}
use Rattle.json.specs.Print.{quoted}
use Rattle.json.proofs.Printed.Tokens.{tokens-print}
use Rattle.json.proofs.Printed.Trees.{ArePrintable-json_tokens, value-json_tokens}
use Rattle.json.proofs.Printed.Decimals.{IsNumber-decimal}
use Rattle.json.proofs.Printed.Utf8.{IsUtf8-quoted, IsUtf8-boolean, IsUtf8-are_ascii}
use Rattle.serde_json.specs.Data.{Data, null, boolean, number, unsigned, negative, float, string, array, object}
use Rattle.serde_json.specs.Data.{Items, no_items, item, Members, no_members, member, put}
use Rattle.serde_json.specs.Read.{of_json, of_items, of_members, read, max_depth}
use Rattle.serde_json.specs.Written.{outline, items_outline, members_outline, compact_text, items_text, members_text}
use Rattle.serde_json.specs.Written.{comma_if}
use Rattle.serde_json.proofs.Numbers.{number_of-decimal}
use Rattle.serde_json.proofs.Texts.{print-outline}

-- a name stands below those of all members
abbrev pub IsBelow : List ℕ → Members → Type 0
IsBelow l no_members = ⊤
IsBelow l (member k d ms) = (slice_cmp nat_cmp k l ≡ Greater) × IsBelow l ms

-- a value that nests so deep at most: its numbers are whole and fit, its texts are UTF-8, names rise
abbrev mutual
  pub IsFit : Data → ℕ → Type 0
  IsFit null n = ⊤
  IsFit (boolean b) n = ⊤
  IsFit (number (unsigned m)) n = m < 2 ^ 64
  IsFit (number (negative z)) n = ⊥
  IsFit (number (float x)) n = ⊥
  IsFit (string s) n = IsUtf8 s
  IsFit (array ds) zero = ⊥
  IsFit (array ds) (suc n) = AreFit ds n
  IsFit (object ms) zero = ⊥
  IsFit (object ms) (suc n) = HasFit ms n

  pub AreFit : Items → ℕ → Type 0
  AreFit no_items n = ⊤
  AreFit (item d ds) n = IsFit d n × AreFit ds n

  pub HasFit : Members → ℕ → Type 0
  HasFit no_members n = ⊤
  HasFit (member k d ms) n = IsUtf8 k × IsFit d n × IsBelow k ms × HasFit ms n

-- ---- members go in one behind the other

push : List ℕ → Data → Members → Members
push k d no_members = member k d no_members
push k d (member l e ms) = member l e (push k d ms)

onto : Members → Members → Members
onto found no_members = found
onto found (member k d ms) = onto (push k d found) ms

AreBelow : Members → Members → Type 0
AreBelow no_members ms = ⊤
AreBelow (member l e fs) ms = IsBelow l ms × AreBelow fs ms

put_last : (found : Members) (k : List ℕ) (d : Data) (ms : Members) → AreBelow found (member k d ms) → put k d found ≡ push k d found
unfolding push AreBelow
put_last no_members k d ms h = refl
put_last (member l e fs) k d ms h = rw h.0.0 (ap (member l e) (put_last fs k d ms h.1))

below_push : (found : Members) (k : List ℕ) (d : Data) (ms : Members) → AreBelow found (member k d ms) → IsBelow k ms → AreBelow (push k d found) ms
unfolding push AreBelow
below_push no_members k d ms h b = (b, tt)
below_push (member l e fs) k d ms h b = (h.0.1, below_push fs k d ms h.1 b)

onto-member : (l : List ℕ) (e : Data) (fs ms : Members) → onto (member l e fs) ms ≡ member l e (onto fs ms)
unfolding onto push
onto-member l e fs no_members = refl
onto-member l e fs (member k d ms) = onto-member l e (push k d fs) ms

onto-none : (ms : Members) → onto no_members ms ≡ ms
unfolding onto push
onto-none no_members = refl
onto-none (member k d ms) = onto-member k d no_members ms ∙ ap (member k d) (onto-none ms)

mutual
  unfolding onto AreBelow

  of_json-outline : (d : Data) (n : ℕ) → IsFit d n → of_json (outline d) ≡ Some d
  of_json-outline null n h = refl
  of_json-outline (boolean b) n h = refl
  of_json-outline (number (unsigned m)) n h = ap (option_map number) (number_of-decimal m h)
  of_json-outline (number (negative z)) n h = absurd h
  of_json-outline (number (float x)) n h = absurd h
  of_json-outline (string s) n h = refl
  of_json-outline (array ds) zero h = absurd h
  of_json-outline (array ds) (suc n) h = ap (option_map array) (of_items-outline ds n h)
  of_json-outline (object ms) zero h = absurd h
  of_json-outline (object ms) (suc n) h = ap (option_map object) (of_members-outline ms no_members n h tt ∙ ap Some (onto-none ms))

  of_items-outline : (ds : Items) (n : ℕ) → AreFit ds n → of_items (items_outline ds) ≡ Some ds
  of_items-outline no_items n h = refl
  of_items-outline (item d ds) n h =
      ap (option_and_then (λ e. option_map (item e) (of_items (items_outline ds)))) (of_json-outline d n h.0) ∙ ap (option_map (item d)) (of_items-outline ds n h.1)

  of_members-outline : (ms found : Members) (n : ℕ) → HasFit ms n → AreBelow found ms → of_members (members_outline ms) found ≡ Some (onto found ms)
  of_members-outline no_members found n h b = refl
  of_members-outline (member k d ms) found n (u, f, below, more) b =
      ap (option_and_then (λ e. of_members (members_outline ms) (put k e found))) (of_json-outline d n f)
      ∙ ap (of_members (members_outline ms)) (put_last found k d ms b)
      ∙ of_members-outline ms (push k d found) n more (below_push found k d ms b below)

-- ---- what the grammar wants

mutual
  numbers : (d : Data) (n : ℕ) → IsFit d n → HasNumbers (outline d)
  numbers null n h = tt
  numbers (boolean b) n h = tt
  numbers (number (unsigned m)) n h = IsNumber-decimal m h
  numbers (number (negative z)) n h = absurd h
  numbers (number (float x)) n h = absurd h
  numbers (string s) n h = tt
  numbers (array ds) zero h = absurd h
  numbers (array ds) (suc n) h = items_numbers ds n h
  numbers (object ms) zero h = absurd h
  numbers (object ms) (suc n) h = members_numbers ms n h

  items_numbers : (ds : Items) (n : ℕ) → AreFit ds n → ItemsHaveNumbers (items_outline ds)
  items_numbers no_items n h = tt
  items_numbers (item d ds) n h = (numbers d n h.0, items_numbers ds n h.1)

  members_numbers : (ms : Members) (n : ℕ) → HasFit ms n → MembersHaveNumbers (members_outline ms)
  members_numbers no_members n h = tt
  members_numbers (member k d ms) n (u, f, below, more) = (numbers d n f, members_numbers ms n more)

mutual
  shallow : (d : Data) (n : ℕ) → IsFit d n → tree.depth (outline d) ≤ n
  shallow null n h = omega arith
  shallow (boolean b) n h = omega arith
  shallow (number m) n h = omega arith
  shallow (string s) n h = omega arith
  shallow (array ds) zero h = absurd h
  shallow (array ds) (suc n) h = omega (arith, items_shallow ds n h)
  shallow (object ms) zero h = absurd h
  shallow (object ms) (suc n) h = omega (arith, members_shallow ms n h)

  items_shallow : (ds : Items) (n : ℕ) → AreFit ds n → tree.items_depth (items_outline ds) ≤ n
  items_shallow no_items n h = omega arith
  items_shallow (item d ds) n h = omega (arith, shallow d n h.0, items_shallow ds n h.1)

  members_shallow : (ms : Members) (n : ℕ) → HasFit ms n → tree.members_depth (members_outline ms) ≤ n
  members_shallow no_members n h = omega arith
  members_shallow (member k d ms) n (u, f, below, more) = omega (arith, shallow d n f, members_shallow ms n more)

-- the tokens of the text
text_tokens : (d : Data) (n : ℕ) → IsFit d n → tokens (compact_text d) ≡ json_tokens (outline d)
text_tokens d n h = ap tokens (sym (print-outline d)) ∙ tokens-print (json_tokens (outline d)) (ArePrintable-json_tokens (outline d) (numbers d n h))

-- the text is read back
pub read_back : (d : Data) (n : ℕ) → IsFit d n → n ≤ 127 → read (compact_text d) ≡ Some d
read_back d n h few =
    let least : tree.depth (outline d) ≤ max_depth = omega (arith, shallow d n h) in
    ap (λ ts. option_and_then of_json (option_and_then (λ p. json.if_last p.0 p.1) (json.value max_depth ts))) (text_tokens d n h ∙ sym (append-nil (json_tokens (outline d))))
    ∙ ap (λ o. option_and_then of_json (option_and_then (λ p. json.if_last p.0 p.1) o)) (value-json_tokens (outline d) max_depth [] least)
    ∙ of_json-outline d n h

-- ---- the text is UTF-8

comma_is_utf8 : (later : Bool) → IsUtf8 (comma_if later)
comma_is_utf8 true = IsUtf8-are_ascii _ refl
comma_is_utf8 false = IsUtf8-nil

behind : (x : ℕ) (text : List ℕ) → IsUtf8 (x ∷ []) → IsUtf8 text → IsUtf8 (x ∷ text)
behind x text = IsUtf8-append (x ∷ []) text

mutual
  pub text_is_utf8 : (d : Data) (n : ℕ) → IsFit d n → IsUtf8 (compact_text d)
  text_is_utf8 null n h = IsUtf8-are_ascii _ refl
  text_is_utf8 (boolean b) n h = IsUtf8-boolean b
  text_is_utf8 (number (unsigned m)) n h = IsUtf8-from_ascii (decimal m) (IsAscii-decimal m h)
  text_is_utf8 (number (negative z)) n h = absurd h
  text_is_utf8 (number (float x)) n h = absurd h
  text_is_utf8 (string s) n h = IsUtf8-quoted s h
  text_is_utf8 (array ds) zero h = absurd h
  text_is_utf8 (array ds) (suc n) h = behind 91 (items_text false ds) (IsUtf8-are_ascii _ refl) (items_are_utf8 false ds n h)
  text_is_utf8 (object ms) zero h = absurd h
  text_is_utf8 (object ms) (suc n) h = behind 123 (members_text false ms) (IsUtf8-are_ascii _ refl) (members_are_utf8 false ms n h)

  items_are_utf8 : (later : Bool) (ds : Items) (n : ℕ) → AreFit ds n → IsUtf8 (items_text later ds)
  items_are_utf8 later no_items n h = IsUtf8-are_ascii _ refl
  items_are_utf8 later (item d ds) n h =
      IsUtf8-append (comma_if later) (compact_text d ++ items_text true ds) (comma_is_utf8 later)
      (IsUtf8-append (compact_text d) (items_text true ds) (text_is_utf8 d n h.0) (items_are_utf8 true ds n h.1))

  members_are_utf8 : (later : Bool) (ms : Members) (n : ℕ) → HasFit ms n → IsUtf8 (members_text later ms)
  members_are_utf8 later no_members n h = IsUtf8-are_ascii _ refl
  members_are_utf8 later (member k d ms) n (u, f, below, more) =
      IsUtf8-append (comma_if later) (quoted k ++ 58 ∷ (compact_text d ++ members_text true ms)) (comma_is_utf8 later)
      (IsUtf8-append (quoted k) (58 ∷ (compact_text d ++ members_text true ms)) (IsUtf8-quoted k u)
      (behind 58 (compact_text d ++ members_text true ms) (IsUtf8-are_ascii _ refl)
      (IsUtf8-append (compact_text d) (members_text true ms) (text_is_utf8 d n f) (members_are_utf8 true ms n more))))
