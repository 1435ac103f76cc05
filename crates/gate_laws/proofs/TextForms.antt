-- The texts of deliveries and replies in form are UTF-8.
use Rattle.std.proofs.Common.{◌≡◌, ℕ, ◌≤◌, ◌<◌, true, ◌&&◌, List, [], ◌∷◌, ◌++◌, map, codes, decimal, refl}
use Rattle.std.proofs.Common.{arith, IsUtf8}
use Rattle.std.specs.List.{list_all}
use Rattle.std.specs.Str.{is_utf8}
use Rattle.std.proofs.lemmas.Bool.{and_parts}
use Rattle.std.proofs.lemmas.Str.{IsUtf8-append, IsUtf8-from_ascii, IsUtf8-nil, IsUtf8-from_is_utf8}
use Rattle.std.proofs.lemmas.Str.{is_utf8-from_IsUtf8}
use Rattle.std.proofs.lemmas.Str.Ascii.{IsAscii-nil, IsAscii-cons}
use Rattle.std.proofs.lemmas.Fmt.{IsAscii-decimal}
use Rattle.json.specs.Print.{quoted}
use Rattle.json.proofs.Printed.Utf8.{IsUtf8-quoted, IsUtf8-are_ascii}
use Rattle.gate_types.specs.declared.records.Build.{Build}
use Rattle.gate_types.specs.declared.records.Entry.{Entry}
use Rattle.gate_types.specs.declared.deliveries.Delivery.{Delivery}
use Rattle.gate_types.specs.declared.deliveries.Delivery.TheVariants as delivery
use Rattle.gate_types.specs.declared.deliveries.Ending.{Ending}
use Rattle.gate_types.specs.declared.deliveries.Ending.TheVariants as ending
use Rattle.gate_types.specs.declared.deliveries.Reply.{Reply}
use Rattle.gate_types.specs.declared.deliveries.Reply.TheVariants as reply
use Rattle.gate_types.specs.Settings.{Settings}
use Rattle.gate_types.specs.JsonText.{Piece, number, plain, escaped, joined, array, member, object, entry}
use Rattle.gate_types.specs.Canonical.{ending_word, kind, on_change, on_order_number, delivery_members, canonical_text}
use Rattle.gate_types.specs.ReplyText.{reply_member, reply_members, reply_text}
use Rattle.gate_types.specs.Forms.{is_change_number, is_revision_number, is_drawn_number, is_entry_in_form}
use Rattle.gate_types.specs.Forms.{is_delivery_in_form, is_build_in_form, is_reply_in_form}
use Rattle.gate_laws.proofs.Shapes.{most, build_from}
use Rattle.gate_types.specs.Counters.{last_number}
use Rattle.gate_types.proofs.NameLemmas.{name_utf8, path_utf8}

-- ---- bytes

one : (b : ℕ) → b < 128 → (rest : List ℕ) → IsUtf8 rest → IsUtf8 (b ∷ rest)
one b h rest u = IsUtf8-append (b ∷ []) rest (IsUtf8-from_ascii (b ∷ []) (IsAscii-cons b [] h IsAscii-nil)) u

-- ---- pieces

abbrev KeepsUtf8 : Piece → Type 0
KeepsUtf8 p = (rest : List ℕ) → IsUtf8 rest → IsUtf8 (p rest)

abbrev AllKeep : List Piece → Type 0
AllKeep [] = Unit {0}
AllKeep (p ∷ ps) = KeepsUtf8 p × AllKeep ps

number_keeps : (n : ℕ) → n ≤ last_number → KeepsUtf8 (number n)
number_keeps n h rest u =
    IsUtf8-append (decimal n) rest (IsUtf8-from_ascii (decimal n) (IsAscii-decimal n (omega (arith, h)))) u

plain_keeps : (text : List ℕ) → IsUtf8 text → KeepsUtf8 (plain text)
plain_keeps text t rest u =
    one 34 (omega arith) (text ++ 34 ∷ rest) (IsUtf8-append text (34 ∷ rest) t (one 34 (omega arith) rest u))

escaped_keeps : (text : List ℕ) → IsUtf8 text → KeepsUtf8 (escaped text)
escaped_keeps text t rest u = IsUtf8-append (quoted text) rest (IsUtf8-quoted text t) u

member_keeps : (name : List ℕ) (value : Piece) → IsUtf8 name → KeepsUtf8 value → KeepsUtf8 (member name value)
member_keeps name value n v rest u =
    one 34 (omega arith) (name ++ 34 ∷ 58 ∷ value rest)
    (IsUtf8-append name (34 ∷ 58 ∷ value rest) n
    (one 34 (omega arith) (58 ∷ value rest) (one 58 (omega arith) (value rest) (v rest u))))

joined_keep : (ps : List Piece) → AllKeep ps → KeepsUtf8 (joined ps)
joined_keep [] h rest u = u
joined_keep (p ∷ []) h rest u = h.0 rest u
joined_keep (p ∷ q ∷ ps) h rest u =
    h.0 (44 ∷ joined (q ∷ ps) rest) (one 44 (omega arith) (joined (q ∷ ps) rest) (joined_keep (q ∷ ps) h.1 rest u))

array_keeps : (ps : List Piece) → AllKeep ps → KeepsUtf8 (array ps)
array_keeps ps h rest u =
    one 91 (omega arith) (joined ps (93 ∷ rest)) (joined_keep ps h (93 ∷ rest) (one 93 (omega arith) rest u))

object_utf8 : (ps : List Piece) → AllKeep ps → IsUtf8 (object ps [])
object_utf8 ps h = one 123 (omega arith) (joined ps (125 ∷ []))
    (joined_keep ps h (125 ∷ []) (one 125 (omega arith) [] IsUtf8-nil))

-- ---- numbers in form

pub change_fits : (n : ℕ) → is_change_number n ≡ true → n ≤ last_number
change_fits n h = let top = most 999999999 n h in omega (arith, top)

pub revision_fits : (n : ℕ) → is_revision_number n ≡ true → n ≤ last_number
revision_fits n h = let top = most 9999 n h in omega (arith, top)

pub drawn_fits : (n : ℕ) → is_drawn_number n ≡ true → n ≤ last_number
drawn_fits n h = most last_number n h

-- ---- deliveries

kind_keeps : (word : List ℕ) → IsUtf8 word → KeepsUtf8 (kind word)
kind_keeps word w = member_keeps (codes "kind") (plain word) (IsUtf8-are_ascii (codes "kind") refl) (plain_keeps word w)

change_keeps : (word : List ℕ) (n r : ℕ) → IsUtf8 word → is_change_number n && is_revision_number r ≡ true →
    IsUtf8 (object (on_change word n r) [])
change_keeps word n r w h =
    let both = and_parts (is_change_number n) (is_revision_number r) h in
    object_utf8 (on_change word n r) (
      member_keeps (codes "change") (number n) (IsUtf8-are_ascii (codes "change") refl)
          (number_keeps n (change_fits n both.0)),
      (
        kind_keeps word w,
        (
          member_keeps (codes "revision") (number r) (IsUtf8-are_ascii (codes "revision") refl)
              (number_keeps r (revision_fits r both.1)),
          tt,
        ),
      ),
    )

order_keeps : (word : List ℕ) (n : ℕ) → IsUtf8 word → is_drawn_number n ≡ true →
    IsUtf8 (object (on_order_number word n) [])
order_keeps word n w h =
    object_utf8 (on_order_number word n) (
      kind_keeps word w,
      (
        member_keeps (codes "order") (number n) (IsUtf8-are_ascii (codes "order") refl)
            (number_keeps n (drawn_fits n h)),
        tt,
      ),
    )

ending_utf8 : (e : Ending) → IsUtf8 (ending_word e)
ending_utf8 ending.Success = IsUtf8-are_ascii (codes "success") refl
ending_utf8 ending.Failure = IsUtf8-are_ascii (codes "failure") refl
ending_utf8 ending.Lost = IsUtf8-are_ascii (codes "lost") refl

said_utf8 : (d : Delivery) → is_delivery_in_form d ≡ true → IsUtf8 (canonical_text d)
said_utf8 (delivery.Revision n name r message) h =
    let p4 = and_parts _ _ h in
    let p3 = and_parts _ _ p4.0 in
    let p2 = and_parts _ _ p3.0 in
    let p1 = and_parts _ _ p2.0 in
    object_utf8 (delivery_members (delivery.Revision n name r message)) (
      member_keeps (codes "change") (number n) (IsUtf8-are_ascii (codes "change") refl)
          (number_keeps n (change_fits n p1.0)),
      (
        kind_keeps (codes "revision") (IsUtf8-are_ascii (codes "revision") refl),
        (
          member_keeps (codes "message") (escaped message) (IsUtf8-are_ascii (codes "message") refl)
              (escaped_keeps message (IsUtf8-from_is_utf8 message p4.1)),
          (
            member_keeps (codes "project") (escaped name) (IsUtf8-are_ascii (codes "project") refl)
                (escaped_keeps name (path_utf8 name p1.1)),
            (
              member_keeps (codes "revision") (number r) (IsUtf8-are_ascii (codes "revision") refl)
                  (number_keeps r (revision_fits r p2.1)),
              tt,
            ),
          ),
        ),
      ),
    )
said_utf8 (delivery.Approved n r) h = change_keeps (codes "approved") n r (IsUtf8-are_ascii (codes "approved") refl) h
said_utf8 (delivery.Withdrawn n r) h =
    change_keeps (codes "withdrawn") n r (IsUtf8-are_ascii (codes "withdrawn") refl) h
said_utf8 (delivery.Closed n r) h = change_keeps (codes "closed") n r (IsUtf8-are_ascii (codes "closed") refl) h
said_utf8 (delivery.Landed n) h = order_keeps (codes "landed") n (IsUtf8-are_ascii (codes "landed") refl) h
said_utf8 (delivery.Refused n) h = order_keeps (codes "refused") n (IsUtf8-are_ascii (codes "refused") refl) h
said_utf8 (delivery.Take worker) h = object_utf8 (delivery_members (delivery.Take worker)) (
  kind_keeps (codes "take") (IsUtf8-are_ascii (codes "take") refl),
  (
    member_keeps (codes "worker") (escaped worker) (IsUtf8-are_ascii (codes "worker") refl)
        (escaped_keeps worker (path_utf8 worker h)),
    tt,
  ),
)
said_utf8 (delivery.Result n e) h = object_utf8 (delivery_members (delivery.Result n e)) (
  member_keeps (codes "build") (number n) (IsUtf8-are_ascii (codes "build") refl) (number_keeps n (drawn_fits n h)),
  (
    kind_keeps (codes "result") (IsUtf8-are_ascii (codes "result") refl),
    (
      member_keeps (codes "outcome") (plain (ending_word e)) (IsUtf8-are_ascii (codes "outcome") refl)
          (plain_keeps (ending_word e) (ending_utf8 e)),
      tt,
    ),
  ),
)

pub canonical_is_utf8 : (d : Delivery) → is_delivery_in_form d ≡ true → is_utf8 (canonical_text d) ≡ true
canonical_is_utf8 d h = is_utf8-from_IsUtf8 (canonical_text d) (said_utf8 d h)

-- ---- replies

word_keeps : (word : List ℕ) → IsUtf8 word → KeepsUtf8 (reply_member word)
word_keeps word w = member_keeps (codes "reply") (plain word) (IsUtf8-are_ascii (codes "reply") refl)
    (plain_keeps word w)

entry_keeps : (e : Entry) → is_entry_in_form e ≡ true → KeepsUtf8 (entry e)
entry_keeps e h =
    let both = and_parts (is_change_number e.change) (is_revision_number e.revision) h in
    array_keeps (number e.change ∷ number e.revision ∷ []) (
      number_keeps e.change (change_fits e.change both.0),
      (number_keeps e.revision (revision_fits e.revision both.1), tt),
    )

entries_keep : (es : List Entry) → list_all is_entry_in_form es ≡ true → AllKeep (map entry es)
entries_keep [] h = tt
entries_keep (e ∷ es) h = let both = and_parts (is_entry_in_form e) (list_all is_entry_in_form es) h in
    (entry_keeps e both.0, entries_keep es both.1)

build_utf8 : (c : Settings) (b : Build) → is_build_in_form c b ≡ true → IsUtf8 (reply_text (reply.Build b))
build_utf8 c b h =
    let f = build_from c b h in
    let p7 = and_parts _ _ h in
    let p6 = and_parts _ _ p7.0 in
    let p5 = and_parts _ _ p6.0 in
    let p4 = and_parts _ _ p5.0 in
    let p3 = and_parts _ _ p4.0 in
    let p2 = and_parts _ _ p3.0 in
    let p1 = and_parts _ _ p2.0 in
    object_utf8 (reply_members (reply.Build b)) (
      member_keeps (codes "after") (number b.after) (IsUtf8-are_ascii (codes "after") refl)
          (number_keeps b.after f.0.base),
      (
        member_keeps (codes "ahead") (array (map entry b.ahead)) (IsUtf8-are_ascii (codes "ahead") refl)
            (array_keeps (map entry b.ahead) (entries_keep b.ahead f.0.entries)),
        (
          member_keeps (codes "build") (number b.number) (IsUtf8-are_ascii (codes "build") refl)
              (number_keeps b.number (drawn_fits b.number p1.0)),
          (
            member_keeps (codes "change") (number b.change) (IsUtf8-are_ascii (codes "change") refl)
                (number_keeps b.change (change_fits b.change f.1.1)),
            (
              member_keeps (codes "job") (plain b.job) (IsUtf8-are_ascii (codes "job") refl)
                  (plain_keeps b.job (name_utf8 b.job f.0.job_name)),
              (
                member_keeps (codes "queue") (plain b.queue) (IsUtf8-are_ascii (codes "queue") refl)
                    (plain_keeps b.queue (name_utf8 b.queue f.0.queue_name)),
                (
                  word_keeps (codes "build") (IsUtf8-are_ascii (codes "build") refl),
                  (
                    member_keeps (codes "revision") (number b.revision) (IsUtf8-are_ascii (codes "revision") refl)
                        (number_keeps b.revision (revision_fits b.revision f.1.2)),
                    tt,
                  ),
                ),
              ),
            ),
          ),
        ),
      ),
    )

word_utf8 : (word : List ℕ) → IsUtf8 word → IsUtf8 (object (reply_member word ∷ []) [])
word_utf8 word w = object_utf8 (reply_member word ∷ []) (word_keeps word w, tt)

replied_utf8 : (c : Settings) (r : Reply) → is_reply_in_form c r ≡ true → IsUtf8 (reply_text r)
replied_utf8 c reply.Recorded h = word_utf8 (codes "recorded") (IsUtf8-are_ascii (codes "recorded") refl)
replied_utf8 c reply.Stale h = word_utf8 (codes "stale") (IsUtf8-are_ascii (codes "stale") refl)
replied_utf8 c reply.Waiting h = word_utf8 (codes "waiting") (IsUtf8-are_ascii (codes "waiting") refl)
replied_utf8 c reply.Already h = word_utf8 (codes "already") (IsUtf8-are_ascii (codes "already") refl)
replied_utf8 c reply.Removed h = word_utf8 (codes "removed") (IsUtf8-are_ascii (codes "removed") refl)
replied_utf8 c reply.Noted h = word_utf8 (codes "noted") (IsUtf8-are_ascii (codes "noted") refl)
replied_utf8 c (reply.Queued n) h = object_utf8 (reply_members (reply.Queued n)) (
  member_keeps (codes "order") (number n) (IsUtf8-are_ascii (codes "order") refl) (number_keeps n (drawn_fits n h)),
  (word_keeps (codes "queued") (IsUtf8-are_ascii (codes "queued") refl), tt),
)
replied_utf8 c (reply.Landed n) h = object_utf8 (reply_members (reply.Landed n)) (
  member_keeps (codes "n") (number n) (IsUtf8-are_ascii (codes "n") refl) (number_keeps n (drawn_fits n h)),
  (word_keeps (codes "landed") (IsUtf8-are_ascii (codes "landed") refl), tt),
)
replied_utf8 c (reply.Build b) h = build_utf8 c b h

pub reply_is_utf8 : (c : Settings) (r : Reply) → is_reply_in_form c r ≡ true → is_utf8 (reply_text r) ≡ true
reply_is_utf8 c r h = is_utf8-from_IsUtf8 (reply_text r) (replied_utf8 c r h)
