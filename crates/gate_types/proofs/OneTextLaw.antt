-- A canonical text is the print of tokens, and the tokens tell the delivery.
use Rattle.std.proofs.Common.{◌≡◌, ℕ, ◌<◌, ◌^◌, List, [], ◌∷◌, codes, decimal, refl, sym, ap, ◌∙◌, get_or}
use Rattle.std.specs.Bool.{if◌then◌else◌}
use Rattle.std.specs.Str.{bytes_eq}
use Rattle.std.specs.Str.Parse.{digits_value}
use Rattle.std.proofs.lemmas.Fmt.{decimal_is_IsNumeral}
use Rattle.json.specs.Lex.{tokens}
use Rattle.json.specs.Token.{Token, begin_object, end_object, key, string, number}
use Rattle.json.specs.Print.{escape_byte, print, print_from, ArePrintable}
use Rattle.json.proofs.Printed.Tokens.{tokens-print}
use Rattle.json.proofs.Printed.Decimals.{IsNumber-decimal}
use Rattle.gate_types.specs.declared.deliveries.Ending.{Ending}
use Rattle.gate_types.specs.declared.deliveries.Ending.TheVariants as ending
use Rattle.gate_types.specs.declared.deliveries.Delivery.{Delivery}
use Rattle.gate_types.specs.declared.deliveries.Delivery.TheVariants as delivery
use Rattle.gate_types.specs.Canonical.{canonical_text, ending_word}
use Rattle.gate_types.specs.OneText.{IsInRange, OneTextADelivery}

-- ---- the tokens of a delivery

abbrev on_change : List ℕ → ℕ → ℕ → List Token
on_change word n r = begin_object ∷ key (codes "change") ∷ number (decimal n) ∷ key (codes "kind") ∷ string word ∷ key (codes "revision") ∷ number (decimal r) ∷ end_object ∷ []

abbrev on_order : List ℕ → ℕ → List Token
on_order word n = begin_object ∷ key (codes "kind") ∷ string word ∷ key (codes "order") ∷ number (decimal n) ∷ end_object ∷ []

abbrev tokens_of : Delivery → List Token
tokens_of (delivery.Revision n name r message) =
    begin_object ∷ key (codes "change") ∷ number (decimal n) ∷ key (codes "kind") ∷ string (codes "revision") ∷ key (codes "message") ∷ string message ∷
    key (codes "project") ∷ string name ∷ key (codes "revision") ∷ number (decimal r) ∷ end_object ∷ []
tokens_of (delivery.Approved n r) = on_change (codes "approved") n r
tokens_of (delivery.Withdrawn n r) = on_change (codes "withdrawn") n r
tokens_of (delivery.Closed n r) = on_change (codes "closed") n r
tokens_of (delivery.Landed n) = on_order (codes "landed") n
tokens_of (delivery.Refused n) = on_order (codes "refused") n
tokens_of (delivery.Take worker) = begin_object ∷ key (codes "kind") ∷ string (codes "take") ∷ key (codes "worker") ∷ string worker ∷ end_object ∷ []
tokens_of (delivery.Result n e) =
    begin_object ∷ key (codes "build") ∷ number (decimal n) ∷ key (codes "kind") ∷ string (codes "result") ∷ key (codes "outcome") ∷ string (ending_word e) ∷ end_object ∷ []

printed : (d : Delivery) → print (tokens_of d) ≡ canonical_text d
unfolding print_from escape_byte
printed (delivery.Revision n name r message) = refl
printed (delivery.Approved n r) = refl
printed (delivery.Withdrawn n r) = refl
printed (delivery.Closed n r) = refl
printed (delivery.Landed n) = refl
printed (delivery.Refused n) = refl
printed (delivery.Take worker) = refl
printed (delivery.Result n ending.Success) = refl
printed (delivery.Result n ending.Failure) = refl
printed (delivery.Result n ending.Lost) = refl

on_change-printable : (word : List ℕ) (n r : ℕ) → n < 2 ^ 64 → r < 2 ^ 64 → ArePrintable (on_change word n r)
unfolding ArePrintable
on_change-printable word n r hn hr = (tt, (tt, (IsNumber-decimal n hn, (tt, (tt, (tt, (IsNumber-decimal r hr, (tt, tt))))))))

on_order-printable : (word : List ℕ) (n : ℕ) → n < 2 ^ 64 → ArePrintable (on_order word n)
unfolding ArePrintable
on_order-printable word n hn = (tt, (tt, (tt, (tt, (IsNumber-decimal n hn, (tt, tt))))))

printable : (d : Delivery) → IsInRange d → ArePrintable (tokens_of d)
unfolding ArePrintable
printable (delivery.Revision n name r message) (hn, hr) =
    (tt, (tt, (IsNumber-decimal n hn, (tt, (tt, (tt, (tt, (tt, (tt, (tt, (IsNumber-decimal r hr, (tt, tt))))))))))))
printable (delivery.Approved n r) (hn, hr) = on_change-printable (codes "approved") n r hn hr
printable (delivery.Withdrawn n r) (hn, hr) = on_change-printable (codes "withdrawn") n r hn hr
printable (delivery.Closed n r) (hn, hr) = on_change-printable (codes "closed") n r hn hr
printable (delivery.Landed n) hn = on_order-printable (codes "landed") n hn
printable (delivery.Refused n) hn = on_order-printable (codes "refused") n hn
printable (delivery.Take worker) h = (tt, (tt, (tt, (tt, (tt, (tt, tt))))))
printable (delivery.Result n e) hn = (tt, (tt, (IsNumber-decimal n hn, (tt, (tt, (tt, (tt, (tt, tt))))))))

-- ---- the delivery of tokens

-- the texts among tokens, the kind first
abbrev texts : List Token → List (List ℕ)
texts [] = []
texts (string s ∷ ts) = s ∷ texts ts
texts (_ ∷ ts) = texts ts

abbrev text_at : List Token → ℕ → List ℕ
text_at ts k = get_or (texts ts) k []

-- the numbers among tokens
abbrev numbers : List Token → List ℕ
numbers [] = []
numbers (number s ∷ ts) = digits_value 10 s ∷ numbers ts
numbers (_ ∷ ts) = numbers ts

abbrev number_at : List Token → ℕ → ℕ
number_at ts k = get_or (numbers ts) k 0

abbrev told_ending : List ℕ → Ending
told_ending word =
    if bytes_eq word (codes "success") then ending.Success else (
    if bytes_eq word (codes "failure") then ending.Failure else ending.Lost)

abbrev told : List Token → Delivery
told ts =
    if bytes_eq (text_at ts 0) (codes "revision") then delivery.Revision (number_at ts 0) (text_at ts 2) (number_at ts 1) (text_at ts 1) else (
    if bytes_eq (text_at ts 0) (codes "approved") then delivery.Approved (number_at ts 0) (number_at ts 1) else (
    if bytes_eq (text_at ts 0) (codes "withdrawn") then delivery.Withdrawn (number_at ts 0) (number_at ts 1) else (
    if bytes_eq (text_at ts 0) (codes "closed") then delivery.Closed (number_at ts 0) (number_at ts 1) else (
    if bytes_eq (text_at ts 0) (codes "landed") then delivery.Landed (number_at ts 0) else (
    if bytes_eq (text_at ts 0) (codes "refused") then delivery.Refused (number_at ts 0) else (
    if bytes_eq (text_at ts 0) (codes "take") then delivery.Take (text_at ts 1) else
    delivery.Result (number_at ts 0) (told_ending (text_at ts 1))))))))

value : (n : ℕ) → n < 2 ^ 64 → digits_value 10 (decimal n) ≡ n
value n h = (decimal_is_IsNumeral n h).1

told-tokens : (d : Delivery) → IsInRange d → told (tokens_of d) ≡ d
told-tokens (delivery.Revision n name r message) (hn, hr) = rw (value n hn, value r hr) refl
told-tokens (delivery.Approved n r) (hn, hr) = rw (value n hn, value r hr) refl
told-tokens (delivery.Withdrawn n r) (hn, hr) = rw (value n hn, value r hr) refl
told-tokens (delivery.Closed n r) (hn, hr) = rw (value n hn, value r hr) refl
told-tokens (delivery.Landed n) hn = rw (value n hn) refl
told-tokens (delivery.Refused n) hn = rw (value n hn) refl
told-tokens (delivery.Take worker) h = refl
told-tokens (delivery.Result n ending.Success) hn = rw (value n hn) refl
told-tokens (delivery.Result n ending.Failure) hn = rw (value n hn) refl
told-tokens (delivery.Result n ending.Lost) hn = rw (value n hn) refl

-- the delivery of a text
told_by_text : (d : Delivery) → IsInRange d → told (tokens (canonical_text d)) ≡ d
told_by_text d h = ap (λ t. told (tokens t)) (sym (printed d)) ∙ ap told (tokens-print (tokens_of d) (printable d h)) ∙ told-tokens d h

pub one_text_a_delivery : OneTextADelivery
one_text_a_delivery d e hd he h = sym (told_by_text d hd) ∙ ap (λ t. told (tokens t)) h ∙ told_by_text e he
