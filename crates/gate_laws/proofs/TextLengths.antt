-- The texts of deliveries and replies in form are short.
use Rattle.std.proofs.Common.{◌≡◌, ℕ, ◌+◌, ◌*◌, ◌/◌, ◌%◌, ◌≤◌, Bool, true, false, ◌&&◌, cond, List, [], ◌∷◌, map}
use Rattle.std.proofs.Common.{length, codes, decimal, ap, ◌∙◌, arith, lit≤}
use Rattle.std.specs.Prelude.{nat_lt}
use Rattle.std.specs.List.{list_all}
use Rattle.std.specs.Char.{digit_char}
use Rattle.std.proofs.lemmas.Bool.{and_parts, leb-true}
use Rattle.std.proofs.lemmas.List.{length-append}
use Rattle.std.proofs.lemmas.List.Concat.{flat_map-cons}
use Rattle.std.proofs.lemmas.Fmt.{length-decimal-le}
use Rattle.json.specs.Print.{escape_letter, escape_byte, escape, quoted}
use Rattle.gate_types.specs.declared.records.Build.{Build}
use Rattle.gate_types.specs.declared.records.Entry.{Entry}
use Rattle.gate_types.specs.declared.deliveries.Delivery.{Delivery}
use Rattle.gate_types.specs.declared.deliveries.Delivery.TheVariants as delivery
use Rattle.gate_types.specs.declared.deliveries.Ending.{Ending}
use Rattle.gate_types.specs.declared.deliveries.Ending.TheVariants as ending
use Rattle.gate_types.specs.declared.deliveries.Reply.{Reply}
use Rattle.gate_types.specs.declared.deliveries.Reply.TheVariants as reply
use Rattle.gate_types.specs.Names.{is_name, is_path_name}
use Rattle.gate_types.specs.Settings.{Settings}
use Rattle.gate_types.specs.JsonText.{Piece, number, plain, escaped, joined, array, member, object, entry}
use Rattle.gate_types.specs.Canonical.{ending_word, kind, on_change, on_order_number, delivery_members, canonical_text}
use Rattle.gate_types.specs.ReplyText.{reply_member, reply_members, reply_text}
use Rattle.gate_types.specs.Forms.{is_change_number, is_revision_number, is_drawn_number, is_entry_in_form}
use Rattle.gate_types.specs.Forms.{is_delivery_in_form, is_build_in_form, is_reply_in_form}
use Rattle.gate_laws.specs.InForm.{AheadIsShort}
use Rattle.gate_laws.proofs.Shapes.{build_from}
use Rattle.gate_laws.proofs.TextForms.{change_fits, revision_fits, drawn_fits}
use Rattle.gate_types.specs.Counters.{last_number}
use Rattle.gate_types.specs.Limits.{most_items}

-- a piece adds at most so many bytes
abbrev Adds : ℕ → Piece → Type 0
Adds n p = (rest : List ℕ) → length (p rest) ≤ n + length rest

abbrev AllAdd : List ℕ → List Piece → Type 0
AllAdd [] [] = Unit {0}
AllAdd (n ∷ ns) (p ∷ ps) = Adds n p × AllAdd ns ps
AllAdd [] (p ∷ ps) = ⊥
AllAdd (n ∷ ns) [] = ⊥

-- with the commas between
abbrev total : List ℕ → ℕ
total [] = 0
total (n ∷ ns) = n + 1 + total ns

number_adds : (n : ℕ) → n ≤ last_number → Adds 16 (number n)
number_adds n h rest = let few = length-decimal-le 16 n (omega arith) (omega (arith, h)) (omega (arith, h)) in
    let sum = length-append (decimal n) rest in omega (arith, few, sum)

plain_adds : (text : List ℕ) (top : ℕ) → length text ≤ top → Adds (top + 2) (plain text)
plain_adds text top h rest = let sum = length-append text (34 ∷ rest) in omega (arith, sum, h)

-- a byte is escaped by six at most
byte_short : (b : ℕ) → length (escape_byte b) ≤ 6
unfolding escape_byte
byte_short b = by_letter (nat_lt 0 (escape_letter b)) (nat_lt b 32)
  where
    by_letter : (t u : Bool) →
        length (cond t (92 ∷ escape_letter b ∷ [])
        (cond u (92 ∷ 117 ∷ 48 ∷ 48 ∷ digit_char (b / 16) ∷ digit_char (b % 16) ∷ []) (b ∷ []))) ≤ 6
    by_letter true u = omega arith
    by_letter false true = omega arith
    by_letter false false = omega arith

escape_short : (text : List ℕ) → length (escape text) ≤ 6 * length text
escape_short [] = omega arith
escape_short (b ∷ bs) =
    let here = byte_short b in
    let rest = escape_short bs in
    let sum : length (escape (b ∷ bs)) ≡ length (escape_byte b) + length (escape bs) =
    ap length (flat_map-cons escape_byte b bs) ∙ length-append (escape_byte b) (escape bs) in
    omega (arith, here, rest, sum)

escaped_adds : (text : List ℕ) (top : ℕ) → length text ≤ top → Adds (6 * top + 2) (escaped text)
escaped_adds text top h rest =
    let few = escape_short text in
    let sum = length-append (quoted text) rest in
    let own = length-append (escape text) (34 ∷ []) in
    omega (arith, few, sum, own, h)

member_adds : (name : List ℕ) (n : ℕ) (value : Piece) → Adds n value → Adds (length name + 3 + n) (member name value)
member_adds name n value h rest = let few = h rest in let sum = length-append name (34 ∷ 58 ∷ value rest) in
    omega (arith, few, sum)

joined_add : (ns : List ℕ) (ps : List Piece) → AllAdd ns ps → Adds (total ns) (joined ps)
joined_add [] [] h rest = omega arith
joined_add (n ∷ []) (p ∷ []) h rest = let few = h.0 rest in omega (arith, few)
joined_add (n ∷ m ∷ ns) (p ∷ q ∷ ps) h rest = let few = h.0 (44 ∷ joined (q ∷ ps) rest) in
    let all = joined_add (m ∷ ns) (q ∷ ps) h.1 rest in omega (arith, few, all)
joined_add (n ∷ m ∷ ns) (p ∷ []) h rest = absurd h.1
joined_add (n ∷ []) (p ∷ q ∷ ps) h rest = absurd h.1
joined_add [] (p ∷ ps) h rest = absurd h
joined_add (n ∷ ns) [] h rest = absurd h

array_adds : (ns : List ℕ) (ps : List Piece) → AllAdd ns ps → Adds (total ns + 2) (array ps)
array_adds ns ps h rest = let few = joined_add ns ps h (93 ∷ rest) in omega (arith, few)

object_short : (ns : List ℕ) (ps : List Piece) → AllAdd ns ps → length (object ps []) ≤ total ns + 2
object_short ns ps h = let few = joined_add ns ps h (125 ∷ []) in omega (arith, few)

-- ---- names

name_short : (text : List ℕ) → is_name text ≡ true → length text ≤ 64
name_short text h =
    let p3 = and_parts _ _ h in
    let p2 = and_parts _ _ p3.0 in
    leb-true (length text) 64 (and_parts _ _ p2.0).1

path_short : (text : List ℕ) → is_path_name text ≡ true → length text ≤ 64
path_short text h =
    let p3 = and_parts _ _ h in
    let p2 = and_parts _ _ p3.0 in
    leb-true (length text) 64 (and_parts _ _ p2.0).1

-- ---- what a build ran on

entry_adds : (e : Entry) → is_entry_in_form e ≡ true → Adds 36 (entry e)
entry_adds e h =
    let both = and_parts (is_change_number e.change) (is_revision_number e.revision) h in
    array_adds (16 ∷ 16 ∷ []) (number e.change ∷ number e.revision ∷ []) (
      number_adds e.change (change_fits e.change both.0),
      (number_adds e.revision (revision_fits e.revision both.1), tt),
    )

entries_add : (es : List Entry) → list_all is_entry_in_form es ≡ true → Adds (37 * length es) (joined (map entry es))
entries_add [] h rest = omega arith
entries_add (e ∷ []) h rest = let both = and_parts (is_entry_in_form e) (list_all is_entry_in_form []) h in
    let few = entry_adds e both.0 rest in omega (arith, few)
entries_add (e ∷ f ∷ es) h rest =
    let both = and_parts (is_entry_in_form e) (list_all is_entry_in_form (f ∷ es)) h in
    let few = entry_adds e both.0 (44 ∷ joined (map entry (f ∷ es)) rest) in
    let all = entries_add (f ∷ es) both.1 rest in
    omega (arith, few, all)

ahead_adds : (es : List Entry) → list_all is_entry_in_form es ≡ true → length es ≤ most_items →
    Adds 37002 (array (map entry es))
ahead_adds es h top rest = let few = entries_add es h (93 ∷ rest) in omega (arith, few, top)

-- ---- deliveries

kind_adds : (word : List ℕ) → length word ≤ 20 → Adds 29 (kind word)
kind_adds word h = member_adds (codes "kind") 22 (plain word) (plain_adds word 20 h)

change_short : (word : List ℕ) (n r : ℕ) → length word ≤ 20 → is_change_number n && is_revision_number r ≡ true →
    length (object (on_change word n r) []) ≤ 100000
change_short word n r w h =
    let both = and_parts (is_change_number n) (is_revision_number r) h in
    let few = object_short (25 ∷ 29 ∷ 27 ∷ []) (on_change word n r) (
      member_adds (codes "change") 16 (number n) (number_adds n (change_fits n both.0)),
      (
        kind_adds word w,
        (member_adds (codes "revision") 16 (number r) (number_adds r (revision_fits r both.1)), tt),
      ),
    ) in
    omega (arith, few)

order_short : (word : List ℕ) (n : ℕ) → length word ≤ 20 → is_drawn_number n ≡ true →
    length (object (on_order_number word n) []) ≤ 100000
order_short word n w h =
    let few = object_short (29 ∷ 24 ∷ []) (on_order_number word n) (
      kind_adds word w,
      (member_adds (codes "order") 16 (number n) (number_adds n (drawn_fits n h)), tt),
    ) in
    omega (arith, few)

ending_short : (e : Ending) → length (ending_word e) ≤ 20
ending_short ending.Success = lit≤ tt
ending_short ending.Failure = lit≤ tt
ending_short ending.Lost = lit≤ tt

pub said_short : (d : Delivery) → is_delivery_in_form d ≡ true → length (canonical_text d) ≤ 100000
said_short (delivery.Revision n name r message) h =
    let p4 = and_parts _ _ h in
    let p3 = and_parts _ _ p4.0 in
    let p2 = and_parts _ _ p3.0 in
    let p1 = and_parts _ _ p2.0 in
    let few = object_short (25 ∷ 29 ∷ 98316 ∷ 396 ∷ 27 ∷ []) (delivery_members (delivery.Revision n name r message)) (
      member_adds (codes "change") 16 (number n) (number_adds n (change_fits n p1.0)),
      (
        kind_adds (codes "revision") (lit≤ tt),
        (
          member_adds (codes "message") 98306 (escaped message)
              (escaped_adds message 16384 (leb-true (length message) 16384 p3.1)),
          (
            member_adds (codes "project") 386 (escaped name) (escaped_adds name 64 (path_short name p1.1)),
            (member_adds (codes "revision") 16 (number r) (number_adds r (revision_fits r p2.1)), tt),
          ),
        ),
      ),
    ) in
    omega (arith, few)
said_short (delivery.Approved n r) h = change_short (codes "approved") n r (lit≤ tt) h
said_short (delivery.Withdrawn n r) h = change_short (codes "withdrawn") n r (lit≤ tt) h
said_short (delivery.Closed n r) h = change_short (codes "closed") n r (lit≤ tt) h
said_short (delivery.Landed n) h = order_short (codes "landed") n (lit≤ tt) h
said_short (delivery.Refused n) h = order_short (codes "refused") n (lit≤ tt) h
said_short (delivery.Take worker) h =
    let few = object_short (29 ∷ 395 ∷ []) (delivery_members (delivery.Take worker)) (
      kind_adds (codes "take") (lit≤ tt),
      (member_adds (codes "worker") 386 (escaped worker) (escaped_adds worker 64 (path_short worker h)), tt),
    ) in
    omega (arith, few)
said_short (delivery.Result n e) h =
    let few = object_short (24 ∷ 29 ∷ 32 ∷ []) (delivery_members (delivery.Result n e)) (
      member_adds (codes "build") 16 (number n) (number_adds n (drawn_fits n h)),
      (
        kind_adds (codes "result") (lit≤ tt),
        (member_adds (codes "outcome") 22 (plain (ending_word e)) (plain_adds (ending_word e) 20 (ending_short e)), tt),
      ),
    ) in
    omega (arith, few)

-- ---- replies

word_adds : (word : List ℕ) → length word ≤ 20 → Adds 30 (reply_member word)
word_adds word h = member_adds (codes "reply") 22 (plain word) (plain_adds word 20 h)

build_short : (c : Settings) (b : Build) → is_build_in_form c b ≡ true → length (reply_text (reply.Build b)) ≤ 40000
build_short c b h =
    let f = build_from c b h in
    let p7 = and_parts _ _ h in
    let p6 = and_parts _ _ p7.0 in
    let p5 = and_parts _ _ p6.0 in
    let p4 = and_parts _ _ p5.0 in
    let p3 = and_parts _ _ p4.0 in
    let p2 = and_parts _ _ p3.0 in
    let p1 = and_parts _ _ p2.0 in
    let few = object_short (24 ∷ 37010 ∷ 24 ∷ 25 ∷ 72 ∷ 74 ∷ 30 ∷ 27 ∷ []) (reply_members (reply.Build b)) (
      member_adds (codes "after") 16 (number b.after) (number_adds b.after f.0.base),
      (
        member_adds (codes "ahead") 37002 (array (map entry b.ahead)) (ahead_adds b.ahead f.0.entries f.0.few),
        (
          member_adds (codes "build") 16 (number b.number) (number_adds b.number (drawn_fits b.number p1.0)),
          (
            member_adds (codes "change") 16 (number b.change) (number_adds b.change (change_fits b.change f.1.1)),
            (
              member_adds (codes "job") 66 (plain b.job) (plain_adds b.job 64 (name_short b.job f.0.job_name)),
              (
                member_adds (codes "queue") 66 (plain b.queue)
                    (plain_adds b.queue 64 (name_short b.queue f.0.queue_name)),
                (
                  word_adds (codes "build") (lit≤ tt),
                  (
                    member_adds (codes "revision") 16 (number b.revision)
                        (number_adds b.revision (revision_fits b.revision f.1.2)),
                    tt,
                  ),
                ),
              ),
            ),
          ),
        ),
      ),
    ) in
    omega (arith, few)

word_short : (word : List ℕ) → length word ≤ 20 → length (object (reply_member word ∷ []) []) ≤ 40000
word_short word w = let few = object_short (30 ∷ []) (reply_member word ∷ []) (word_adds word w, tt) in
    omega (arith, few)

pub reply_short : (c : Settings) (r : Reply) → is_reply_in_form c r ≡ true → length (reply_text r) ≤ 40000
reply_short c reply.Recorded h = word_short (codes "recorded") (lit≤ tt)
reply_short c reply.Stale h = word_short (codes "stale") (lit≤ tt)
reply_short c reply.Waiting h = word_short (codes "waiting") (lit≤ tt)
reply_short c reply.Already h = word_short (codes "already") (lit≤ tt)
reply_short c reply.Removed h = word_short (codes "removed") (lit≤ tt)
reply_short c reply.Noted h = word_short (codes "noted") (lit≤ tt)
reply_short c (reply.Queued n) h =
    let few = object_short (24 ∷ 30 ∷ []) (reply_members (reply.Queued n)) (
      member_adds (codes "order") 16 (number n) (number_adds n (drawn_fits n h)),
      (word_adds (codes "queued") (lit≤ tt), tt),
    ) in
    omega (arith, few)
reply_short c (reply.Landed n) h =
    let few = object_short (20 ∷ 30 ∷ []) (reply_members (reply.Landed n)) (
      member_adds (codes "n") 16 (number n) (number_adds n (drawn_fits n h)),
      (word_adds (codes "landed") (lit≤ tt), tt),
    ) in
    omega (arith, few)
reply_short c (reply.Build b) h = build_short c b h

-- ---- what a build ran on, as a text

pub ahead_is_short : AheadIsShort
ahead_is_short c b h =
    let f = build_from c b h in
    let few = ahead_adds b.ahead f.0.entries f.0.few [] in
    omega (arith, few)
