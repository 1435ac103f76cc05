-- The object of a line reads as a value, and this value says the delivery and the id.
use Rattle.std.proofs.Common.{◌≡◌, ℕ, ◌<◌, ◌≤◌, ◌^◌, Bool, true, ◌&&◌, cond, List, [], Some, None, Result, Ok, codes}
use Rattle.std.proofs.Common.{inl, refl, sym, ap, ◌∙◌, arith, append-nil}
use Rattle.std.specs.Prelude.{nat_le, option_and_then}
use Rattle.std.proofs.lemmas.Str.{IsUtf8-from_ascii}
use Rattle.json.specs.Json as json
use Rattle.json.specs.Print.{print}
use Rattle.json.specs.Tree.{json_tokens, depth, HasNumbers}
use Rattle.json.proofs.Printed.Decimals.{IsNumber-decimal}
use Rattle.json.proofs.Printed.Tokens.{tokens-print}
use Rattle.json.proofs.Printed.Trees.{value-json_tokens, ArePrintable-json_tokens}
use Rattle.serde_json.specs.Data.{Data, unsigned}
use Rattle.serde_json.specs.Data as serde
use Rattle.serde_json.specs.Find.{get, as_number, as_u64, as_str}
use Rattle.serde_json.specs.Read.{of_json, read, max_depth}
use Rattle.serde_json.proofs.Numbers.{number_of-decimal}
use Rattle.uuid.specs.Text.{lower, parsed}
use Rattle.uuid.proofs.TextLemmas.{simple_ascii}
use Rattle.gate_types.specs.declared.deliveries.Delivery.{Delivery}
use Rattle.gate_types.specs.declared.deliveries.Delivery.TheVariants as delivery
use Rattle.gate_types.specs.declared.deliveries.Ending.TheVariants as ending
use Rattle.gate_types.specs.declared.deliveries.Refusal.{Refusal}
use Rattle.gate_types.specs.declared.records.Id.{Id}
use Rattle.gate_types.specs.Canonical.{canonical_text, ending_word}
use Rattle.gate_types.specs.Forms.{is_up_to, is_change_number, is_revision_number, is_drawn_number}
use Rattle.gate_types.specs.Names.{is_path_name, is_message}
use Rattle.gate_types.specs.OneText.{IsInRange}
use Rattle.gate_laws.proofs.LogIsTheGate.{forms_are_in_range}
use Rattle.gate_wire.specs.declared.door.Door.TheVariants as door
use Rattle.gate_wire.specs.Reading.{says, read_or_bad, data_says, id_at, kind_at, delivery_at, revision_said}
use Rattle.gate_wire.specs.Reading.{change_at, revision_at, order_at, build_at, project_name_at, worker_at, message_at}
use Rattle.gate_wire.specs.Reading.{ending_at, at_revision, whole_up_to, text_of_form, or_bad, ◌>>=◌}
use Rattle.gate_archive.specs.Feed.{with_id}
use Rattle.gate_archive.proofs.LineLaw.{a_line_is_its_delivery_under_its_id}
use Rattle.gate_core.specs.ReadBack.{EachLineReadsBack}
use Rattle.gate_core.proofs.LineTrees.{hex, change_members, order_members, tree, printed, digits_read}
use Rattle.gate_core.proofs.LineUtf8.{InForm, in_form, tree_utf8}
use Rattle.gate_types.specs.Counters.{last_number}
use Rattle.gate_types.specs.Reading.{passing}
use Rattle.gate_types.proofs.ReadingLemmas.{value_found}

-- ---- the value that is read

abbrev data_numbered : List ℕ → ℕ → serde.Members → serde.Members
data_numbered name n more = serde.member name (serde.number (unsigned n)) more

abbrev data_worded : List ℕ → List ℕ → serde.Members → serde.Members
data_worded name text more = serde.member name (serde.string text) more

abbrev change_data : List ℕ → List ℕ → ℕ → ℕ → Data
change_data digits word n r =
    serde.object (data_numbered (codes "change") n (data_worded (codes "id") digits (data_worded (codes "kind") word (data_numbered (codes "revision") r serde.no_members))))

abbrev order_data : List ℕ → List ℕ → ℕ → Data
order_data digits word n = serde.object (data_worded (codes "id") digits (data_worded (codes "kind") word (data_numbered (codes "order") n serde.no_members)))

-- the value of a delivery, under an id of these digits
abbrev data_of : List ℕ → Delivery → Data
data_of digits (delivery.Revision n name r message) =
    serde.object (data_numbered (codes "change") n (data_worded (codes "id") digits (data_worded (codes "kind") (codes "revision") (
    data_worded (codes "message") message (data_worded (codes "project") name (data_numbered (codes "revision") r serde.no_members))))))
data_of digits (delivery.Approved n r) = change_data digits (codes "approved") n r
data_of digits (delivery.Withdrawn n r) = change_data digits (codes "withdrawn") n r
data_of digits (delivery.Closed n r) = change_data digits (codes "closed") n r
data_of digits (delivery.Landed n) = order_data digits (codes "landed") n
data_of digits (delivery.Refused n) = order_data digits (codes "refused") n
data_of digits (delivery.Take worker) = serde.object (data_worded (codes "id") digits (data_worded (codes "kind") (codes "take") (data_worded (codes "worker") worker serde.no_members)))
data_of digits (delivery.Result n e) =
    serde.object (data_numbered (codes "build") n (data_worded (codes "id") digits (data_worded (codes "kind") (codes "result") (data_worded (codes "outcome") (ending_word e) serde.no_members))))

change_value : (digits word : List ℕ) (n r : ℕ) → n < 2 ^ 64 → r < 2 ^ 64 → of_json (json.object (change_members digits word n r)) ≡ Some (change_data digits word n r)
change_value digits word n r hn hr = rw (number_of-decimal n hn, number_of-decimal r hr) refl

order_value : (digits word : List ℕ) (n : ℕ) → n < 2 ^ 64 → of_json (json.object (order_members digits word n)) ≡ Some (order_data digits word n)
order_value digits word n hn = rw (number_of-decimal n hn) refl

value : (digits : List ℕ) (d : Delivery) → IsInRange d → of_json (tree digits d) ≡ Some (data_of digits d)
value digits (delivery.Revision n name r message) (hn, hr) = rw (number_of-decimal n hn, number_of-decimal r hr) refl
value digits (delivery.Approved n r) (hn, hr) = change_value digits (codes "approved") n r hn hr
value digits (delivery.Withdrawn n r) (hn, hr) = change_value digits (codes "withdrawn") n r hn hr
value digits (delivery.Closed n r) (hn, hr) = change_value digits (codes "closed") n r hn hr
value digits (delivery.Landed n) hn = order_value digits (codes "landed") n hn
value digits (delivery.Refused n) hn = order_value digits (codes "refused") n hn
value digits (delivery.Take worker) hn = refl
value digits (delivery.Result n e) hn = rw (number_of-decimal n hn) refl

numbers : (digits : List ℕ) (d : Delivery) → IsInRange d → HasNumbers (tree digits d)
numbers digits (delivery.Revision n name r message) (hn, hr) = (IsNumber-decimal n hn, (tt, (tt, (tt, (tt, (IsNumber-decimal r hr, tt))))))
numbers digits (delivery.Approved n r) (hn, hr) = (IsNumber-decimal n hn, (tt, (tt, (IsNumber-decimal r hr, tt))))
numbers digits (delivery.Withdrawn n r) (hn, hr) = (IsNumber-decimal n hn, (tt, (tt, (IsNumber-decimal r hr, tt))))
numbers digits (delivery.Closed n r) (hn, hr) = (IsNumber-decimal n hn, (tt, (tt, (IsNumber-decimal r hr, tt))))
numbers digits (delivery.Landed n) hn = (tt, (tt, (IsNumber-decimal n hn, tt)))
numbers digits (delivery.Refused n) hn = (tt, (tt, (IsNumber-decimal n hn, tt)))
numbers digits (delivery.Take worker) hn = (tt, (tt, (tt, tt)))
numbers digits (delivery.Result n e) hn = (IsNumber-decimal n hn, (tt, (tt, (tt, tt))))

-- no member holds another object
shallow : (digits : List ℕ) (d : Delivery) → depth (tree digits d) ≤ max_depth
shallow digits (delivery.Revision n name r message) = omega arith
shallow digits (delivery.Approved n r) = omega arith
shallow digits (delivery.Withdrawn n r) = omega arith
shallow digits (delivery.Closed n r) = omega arith
shallow digits (delivery.Landed n) = omega arith
shallow digits (delivery.Refused n) = omega arith
shallow digits (delivery.Take worker) = omega arith
shallow digits (delivery.Result n e) = omega arith

-- the print of the object reads as the value
read_back : (digits : List ℕ) (d : Delivery) → IsInRange d → read (print (json_tokens (tree digits d))) ≡ Some (data_of digits d)
read_back digits d h =
    let ts = json_tokens (tree digits d) in
    ap (λ o. option_and_then of_json (option_and_then (λ p. json.if_last p.0 p.1) o))
    (ap (json.value max_depth) (tokens-print ts (ArePrintable-json_tokens (tree digits d) (numbers digits d h)) ∙ sym (append-nil ts))
    ∙ value-json_tokens (tree digits d) max_depth [] (shallow digits d))
    ∙ value digits d h

-- ---- what it says

-- what the members say besides the id
abbrev said_by : List ℕ → Delivery → Result Delivery Refusal
said_by digits (delivery.Revision n name r message) = revision_said (data_of digits (delivery.Revision n name r message))
said_by digits (delivery.Approved n r) = at_revision delivery.Approved (data_of digits (delivery.Approved n r))
said_by digits (delivery.Withdrawn n r) = at_revision delivery.Withdrawn (data_of digits (delivery.Withdrawn n r))
said_by digits (delivery.Closed n r) = at_revision delivery.Closed (data_of digits (delivery.Closed n r))
said_by digits (delivery.Landed n) = order_at (data_of digits (delivery.Landed n)) >>= λ order. Ok (delivery.Landed order)
said_by digits (delivery.Refused n) = order_at (data_of digits (delivery.Refused n)) >>= λ order. Ok (delivery.Refused order)
said_by digits (delivery.Take worker) = worker_at (data_of digits (delivery.Take worker)) >>= λ worker. Ok (delivery.Take worker)
said_by digits (delivery.Result n e) = build_at (data_of digits (delivery.Result n e)) >>= λ build. Ok (delivery.Result build e)

both_said : (digits : List ℕ) (d : Delivery) →
    data_says door.Any (data_of digits d) ≡ (id_at (data_of digits d) >>= λ id. said_by digits d >>= λ said. Ok (id, said))
unfolding data_says kind_at delivery_at ending_at
both_said digits (delivery.Revision n name r message) = refl
both_said digits (delivery.Approved n r) = refl
both_said digits (delivery.Withdrawn n r) = refl
both_said digits (delivery.Closed n r) = refl
both_said digits (delivery.Landed n) = refl
both_said digits (delivery.Refused n) = refl
both_said digits (delivery.Take worker) = refl
both_said digits (delivery.Result n ending.Success) = refl
both_said digits (delivery.Result n ending.Failure) = refl
both_said digits (delivery.Result n ending.Lost) = refl

id_found : (digits : List ℕ) (d : Delivery) → get (codes "id") (data_of digits d) ≡ Some (serde.string digits)
id_found digits (delivery.Revision n name r message) = refl
id_found digits (delivery.Approved n r) = refl
id_found digits (delivery.Withdrawn n r) = refl
id_found digits (delivery.Closed n r) = refl
id_found digits (delivery.Landed n) = refl
id_found digits (delivery.Refused n) = refl
id_found digits (delivery.Take worker) = refl
id_found digits (delivery.Result n e) = refl

number_said : (highest n : ℕ) (name : List ℕ) (v : Data) → get name v ≡ Some (serde.number (unsigned n)) → is_up_to highest n ≡ true → whole_up_to highest name v ≡ Ok n
number_said highest n name v e h =
    ap (λ o. or_bad (option_and_then as_u64 (option_and_then as_number o)) >>= λ n. or_bad (passing (λ n. nat_le 1 n && nat_le n highest) n)) e
    ∙ ap (λ b. or_bad (cond b (Some n) None)) h

text_said : (has_form : List ℕ → Bool) (name text : List ℕ) (v : Data) → get name v ≡ Some (serde.string text) → has_form text ≡ true → text_of_form has_form name v ≡ Ok text
text_said has_form name text v e h =
    ap (λ o. or_bad (option_and_then as_str o) >>= λ s. or_bad (passing has_form s)) e ∙ ap (λ b. or_bad (cond b (Some text) None)) h

id_said : (id : Id) (v : Data) → get (codes "id") v ≡ Some (serde.string (hex id)) → Some id.0 ≡ parsed (hex id) → id_at v ≡ Ok id
unfolding id_at
id_said id v e h =
    ap (λ o. or_bad (option_and_then as_str o) >>= λ s. or_bad (parsed s) >>= λ bytes. Ok (record { 0 = bytes })) e
    ∙ ap (λ o. or_bad o >>= λ bytes. Ok (record { 0 = bytes })) (sym h)

on_change_said : (made : ℕ → ℕ → Delivery) (v : Data) (n r : ℕ) → change_at v ≡ Ok n → revision_at v ≡ Ok r → at_revision made v ≡ Ok (made n r)
on_change_said made v n r e f = rw (e, f) refl

change_said : (made : ℕ → ℕ → Delivery) (digits word : List ℕ) (n r : ℕ) → is_change_number n ≡ true → is_revision_number r ≡ true →
    at_revision made (change_data digits word n r) ≡ Ok (made n r)
unfolding change_at revision_at
change_said made digits word n r hn hr =
    let v = change_data digits word n r in
    on_change_said made v n r (number_said 999999999 n (codes "change") v refl hn) (number_said 9999 r (codes "revision") v refl hr)

order_said : (digits word : List ℕ) (n : ℕ) → is_drawn_number n ≡ true → order_at (order_data digits word n) ≡ Ok n
unfolding order_at
order_said digits word n h = number_said last_number n (codes "order") (order_data digits word n) refl h

delivery_said : (digits : List ℕ) (d : Delivery) → InForm d → said_by digits d ≡ Ok d
unfolding change_at revision_at project_name_at message_at worker_at build_at
delivery_said digits (delivery.Revision n name r message) (hn, named, hr, short, _) =
    let v = data_of digits (delivery.Revision n name r message) in
    rw (
      number_said 999999999 n (codes "change") v refl hn,
      text_said is_path_name (codes "project") name v refl named,
      number_said 9999 r (codes "revision") v refl hr,
      text_said is_message (codes "message") message v refl short,
    ) refl
delivery_said digits (delivery.Approved n r) (hn, hr) = change_said delivery.Approved digits (codes "approved") n r hn hr
delivery_said digits (delivery.Withdrawn n r) (hn, hr) = change_said delivery.Withdrawn digits (codes "withdrawn") n r hn hr
delivery_said digits (delivery.Closed n r) (hn, hr) = change_said delivery.Closed digits (codes "closed") n r hn hr
delivery_said digits (delivery.Landed n) h = ap (λ o. o >>= λ order. Ok (delivery.Landed order)) (order_said digits (codes "landed") n h)
delivery_said digits (delivery.Refused n) h = ap (λ o. o >>= λ order. Ok (delivery.Refused order)) (order_said digits (codes "refused") n h)
delivery_said digits (delivery.Take worker) h =
    ap (λ o. o >>= λ worker. Ok (delivery.Take worker)) (text_said is_path_name (codes "worker") worker (data_of digits (delivery.Take worker)) refl h)
delivery_said digits (delivery.Result n e) h =
    ap (λ o. o >>= λ build. Ok (delivery.Result build e)) (number_said last_number n (codes "build") (data_of digits (delivery.Result n e)) refl h)

said : (id : Id) (d : Delivery) → Some id.0 ≡ parsed (hex id) → InForm d → data_says door.Any (data_of (hex id) d) ≡ Ok (id, d)
said id d parses form =
    both_said (hex id) d
    ∙ ap (λ o. o >>= λ i. said_by (hex id) d >>= λ said. Ok (i, said)) (id_said id _ (id_found (hex id) d) parses)
    ∙ ap (λ o. o >>= λ said. Ok (id, said)) (delivery_said (hex id) d form)

-- ---- the law

pub each_line_reads_back : EachLineReadsBack
each_line_reads_back id d hid hd =
    let (same, parses) = digits_read id hid in
    let range = forms_are_in_range d hd in
    let form = in_form d hd in
    let text = print (json_tokens (tree (hex id) d)) in
    let line : with_id id (canonical_text d) [] ≡ text = a_line_is_its_delivery_under_its_id id d [] ∙ sym (printed id same d) in
    let utf8 = tree_utf8 (hex id) d (IsUtf8-from_ascii (hex id) (simple_ascii lower id.0 (inl refl))) range form in
    ap (says door.Any) line
    ∙ ap (read_or_bad door.Any) (value_found text (data_of (hex id) d) utf8 (read_back (hex id) d range))
    ∙ said id d parses form
