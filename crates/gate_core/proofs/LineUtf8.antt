-- A line is UTF-8.
use Rattle.std.proofs.Common.{◌≡◌, ℕ, ◌<◌, ◌^◌, Bool, true, false, ◌&&◌, List, [], ◌∷◌, codes, decimal, IsUtf8, refl}
use Rattle.std.specs.Prelude.{⊤}
use Rattle.std.specs.Str.{is_utf8}
use Rattle.std.proofs.lemmas.Bool.{and_parts}
use Rattle.std.proofs.lemmas.Fmt.{IsAscii-decimal}
use Rattle.std.proofs.lemmas.Str.{IsUtf8-append, IsUtf8-nil, IsUtf8-from_ascii, IsUtf8-from_is_utf8}
use Rattle.json.specs.Token.{Token}
use Rattle.json.specs.Json as json
use Rattle.json.specs.Print.{token_text, ends, print, print_from, separator}
use Rattle.json.specs.Tree.{json_tokens, members_tokens}
use Rattle.json.proofs.Printed.Utf8.{are_ascii, IsUtf8-are_ascii, IsUtf8-quoted, IsUtf8-key, IsUtf8-separator}
use Rattle.gate_types.specs.declared.deliveries.Delivery.{Delivery}
use Rattle.gate_types.specs.declared.deliveries.Delivery.TheVariants as delivery
use Rattle.gate_types.specs.declared.deliveries.Ending.{Ending}
use Rattle.gate_types.specs.declared.deliveries.Ending.TheVariants as ending
use Rattle.gate_types.specs.Canonical.{ending_word}
use Rattle.gate_types.specs.Forms.{is_delivery_in_form, is_change_number, is_revision_number, is_drawn_number}
use Rattle.gate_types.specs.Names.{is_path_name, is_message}
use Rattle.gate_types.specs.OneText.{IsInRange}
use Rattle.gate_types.proofs.NameLemmas.{path_utf8}
use Rattle.gate_core.proofs.LineTrees.{change_members, order_members, tree}

-- ---- what is in form

-- the parts of a form
abbrev pub InForm : Delivery → Type 0
InForm (delivery.Revision n name r message) =
    (is_change_number n ≡ true) × (is_path_name name ≡ true) × (is_revision_number r ≡ true) × (is_message message ≡ true) × IsUtf8 message
InForm (delivery.Approved n r) = (is_change_number n ≡ true) × (is_revision_number r ≡ true)
InForm (delivery.Withdrawn n r) = (is_change_number n ≡ true) × (is_revision_number r ≡ true)
InForm (delivery.Closed n r) = (is_change_number n ≡ true) × (is_revision_number r ≡ true)
InForm (delivery.Landed n) = is_drawn_number n ≡ true
InForm (delivery.Refused n) = is_drawn_number n ≡ true
InForm (delivery.Take worker) = is_path_name worker ≡ true
InForm (delivery.Result n e) = is_drawn_number n ≡ true

pub in_form : (d : Delivery) → is_delivery_in_form d ≡ true → InForm d
in_form (delivery.Revision n name r message) h =
    let a = and_parts (is_change_number n && is_path_name name && is_revision_number r && is_message message) (is_utf8 message) h in
    let b = and_parts (is_change_number n && is_path_name name && is_revision_number r) (is_message message) a.0 in
    let c = and_parts (is_change_number n && is_path_name name) (is_revision_number r) b.0 in
    let d = and_parts (is_change_number n) (is_path_name name) c.0 in
    (d.0, d.1, c.1, b.1, IsUtf8-from_is_utf8 message a.1)
in_form (delivery.Approved n r) h = and_parts (is_change_number n) (is_revision_number r) h
in_form (delivery.Withdrawn n r) h = and_parts (is_change_number n) (is_revision_number r) h
in_form (delivery.Closed n r) h = and_parts (is_change_number n) (is_revision_number r) h
in_form (delivery.Landed n) h = h
in_form (delivery.Refused n) h = h
in_form (delivery.Take worker) h = h
in_form (delivery.Result n e) h = h

-- ---- it is UTF-8

-- the text of each token is
abbrev AllUtf8 : List Token → Type 0
AllUtf8 [] = ⊤
AllUtf8 (t ∷ ts) = IsUtf8 (token_text t) × AllUtf8 ts

print_utf8 : (c : Bool) (ts : List Token) → AllUtf8 ts → IsUtf8 (print_from c ts)
unfolding print_from
print_utf8 c [] h = IsUtf8-nil
print_utf8 c (t ∷ ts) h = IsUtf8-append (separator c t) _ (IsUtf8-separator c t) (IsUtf8-append (token_text t) _ h.0 (print_utf8 (ends t) ts h.1))

key_utf8 : (name : List ℕ) → are_ascii name ≡ true → IsUtf8 (token_text (Token.key name))
key_utf8 name h = IsUtf8-key name (IsUtf8-are_ascii name h)

word_utf8 : (word : List ℕ) → are_ascii word ≡ true → IsUtf8 (token_text (Token.string word))
word_utf8 word h = IsUtf8-quoted word (IsUtf8-are_ascii word h)

number_utf8 : (n : ℕ) → n < 2 ^ 64 → IsUtf8 (decimal n)
number_utf8 n h = IsUtf8-from_ascii (decimal n) (IsAscii-decimal n h)

begin_utf8 : IsUtf8 (token_text Token.begin_object)
begin_utf8 = IsUtf8-are_ascii (123 ∷ []) refl

end_utf8 : AllUtf8 (members_tokens json.no_members)
end_utf8 = (IsUtf8-are_ascii (125 ∷ []) refl, tt)

ending_ascii : (e : Ending) → are_ascii (ending_word e) ≡ true
ending_ascii ending.Success = refl
ending_ascii ending.Failure = refl
ending_ascii ending.Lost = refl

change_utf8 : (digits word : List ℕ) (n r : ℕ) → IsUtf8 digits → are_ascii word ≡ true → (n < 2 ^ 64) × (r < 2 ^ 64) →
    AllUtf8 (json_tokens (json.object (change_members digits word n r)))
change_utf8 digits word n r u w (hn, hr) = (
  begin_utf8,
  (
    key_utf8 (codes "change") refl,
    (
      number_utf8 n hn,
      (
        key_utf8 (codes "id") refl,
        (
          IsUtf8-quoted digits u,
          (
            key_utf8 (codes "kind") refl,
            (word_utf8 word w, (key_utf8 (codes "revision") refl, (number_utf8 r hr, end_utf8))),
          ),
        ),
      ),
    ),
  ),
)

order_utf8 : (digits word : List ℕ) (n : ℕ) → IsUtf8 digits → are_ascii word ≡ true → n < 2 ^ 64 →
    AllUtf8 (json_tokens (json.object (order_members digits word n)))
order_utf8 digits word n u w hn = (
  begin_utf8,
  (
    key_utf8 (codes "id") refl,
    (
      IsUtf8-quoted digits u,
      (
        key_utf8 (codes "kind") refl,
        (word_utf8 word w, (key_utf8 (codes "order") refl, (number_utf8 n hn, end_utf8))),
      ),
    ),
  ),
)

texts_utf8 : (digits : List ℕ) (d : Delivery) → IsUtf8 digits → IsInRange d → InForm d → AllUtf8 (json_tokens (tree digits d))
texts_utf8 digits (delivery.Revision n name r message) u (hn, hr) (_, named, _, _, told) = (
  begin_utf8,
  (
    key_utf8 (codes "change") refl,
    (
      number_utf8 n hn,
      (
        key_utf8 (codes "id") refl,
        (
          IsUtf8-quoted digits u,
          (
            key_utf8 (codes "kind") refl,
            (
              word_utf8 (codes "revision") refl,
              (
                key_utf8 (codes "message") refl,
                (
                  IsUtf8-quoted message told,
                  (
                    key_utf8 (codes "project") refl,
                    (IsUtf8-quoted name (path_utf8 name named), (key_utf8 (codes "revision") refl, (number_utf8 r hr, end_utf8))),
                  ),
                ),
              ),
            ),
          ),
        ),
      ),
    ),
  ),
)
texts_utf8 digits (delivery.Approved n r) u range h = change_utf8 digits (codes "approved") n r u refl range
texts_utf8 digits (delivery.Withdrawn n r) u range h = change_utf8 digits (codes "withdrawn") n r u refl range
texts_utf8 digits (delivery.Closed n r) u range h = change_utf8 digits (codes "closed") n r u refl range
texts_utf8 digits (delivery.Landed n) u range h = order_utf8 digits (codes "landed") n u refl range
texts_utf8 digits (delivery.Refused n) u range h = order_utf8 digits (codes "refused") n u refl range
texts_utf8 digits (delivery.Take worker) u range h = (
  begin_utf8,
  (
    key_utf8 (codes "id") refl,
    (
      IsUtf8-quoted digits u,
      (
        key_utf8 (codes "kind") refl,
        (word_utf8 (codes "take") refl, (key_utf8 (codes "worker") refl, (IsUtf8-quoted worker (path_utf8 worker h), end_utf8))),
      ),
    ),
  ),
)
texts_utf8 digits (delivery.Result n e) u range h = (
  begin_utf8,
  (
    key_utf8 (codes "build") refl,
    (
      number_utf8 n range,
      (
        key_utf8 (codes "id") refl,
        (
          IsUtf8-quoted digits u,
          (
            key_utf8 (codes "kind") refl,
            (word_utf8 (codes "result") refl, (key_utf8 (codes "outcome") refl, (word_utf8 (ending_word e) (ending_ascii e), end_utf8))),
          ),
        ),
      ),
    ),
  ),
)

-- the print of an object
pub tree_utf8 : (digits : List ℕ) (d : Delivery) → IsUtf8 digits → IsInRange d → InForm d → IsUtf8 (print (json_tokens (tree digits d)))
tree_utf8 digits d u hr h = print_utf8 false (json_tokens (tree digits d)) (texts_utf8 digits d u hr h)
