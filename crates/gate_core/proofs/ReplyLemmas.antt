-- From lines answered in turn to the replies and the calls of the lines.
use Rattle.std.proofs.Common.{◌≡◌, ◌≢◌, true≢false, ℕ, ◌<◌, ◌≤◌, Bool, true, false, List, [], ◌∷◌, ◌++◌, map, length}
use Rattle.std.proofs.Common.{take, Option, Result, Ok, Err, inl, inr, rules, refl, sym, ap, ◌∙◌, subst}
use Rattle.std.specs.Bool.{if◌then◌else◌}
use Rattle.std.proofs.lemmas.List.{length-map}
use Rattle.std.proofs.lemmas.List.Concat.{flat_map-append}
use Rattle.std.proofs.lemmas.List.Sums.{fold-append}
use Rattle.gate_types.specs.declared.records.Id.{Id}
use Rattle.gate_types.specs.declared.deliveries.Delivery.{Delivery}
use Rattle.gate_types.specs.declared.deliveries.Answer.{Answer}
use Rattle.gate_types.specs.declared.deliveries.Answer.TheVariants as answer
use Rattle.gate_types.specs.declared.deliveries.Refusal.{Refusal}
use Rattle.gate_types.specs.declared.deliveries.Refusal.TheVariants as refusal
use Rattle.gate_types.specs.Settings.{Settings}
use Rattle.gate_types.specs.Once.{Content, Call, once, next_content, answer_of, answer_text, answers, is_unavailable}
use Rattle.gate_types.specs.Refusals.{refusal_text}
use Rattle.gate_types.specs.Forms.{IsLawfulContent}
use Rattle.gate_types.specs.Gated.{Gated}
use Rattle.gate_core.specs.Answered.{Answered, call}
use Rattle.gate_core.specs.declared.gate.Gate.{Gate}
use Rattle.gate_core.specs.Holding.{GateHolds, OfGate}
use Rattle.gate_core.specs.Limit.{too_large}
use Rattle.gate_types.specs.Limits.{most_bytes}
use Rattle.gate_wire.specs.declared.door.Door.TheVariants as door
use Rattle.gate_wire.specs.Reading.{says}
use Rattle.gate_core.specs.Runs.{AnswersLine, Runs, BrokeInWriting}
use Rattle.gate_core.specs.Replies.{CallsAreAnswered, call_replies, Marked, is_too_long, call_read, call_of}
use Rattle.gate_core.specs.Replies.{calls_of_lines, gate_after_lines, text_read, reply_to, replies}
use Rattle.gate_core.specs.Left.{LeavesBy}
use Rattle.gate_core.specs.Held.{CutOver, Goes, ReplayedOver, TellsLine, ToldOver}
use Rattle.gate_core.proofs.LeftLemmas.{MayLeaveMore, leaves_call, leaves_none, leaves_then, leaves_unheard}

-- the reply to a line, by whether it is too long, its mark and what was read
abbrev reply_by : Bool → Bool → Gated → Result (Id × Delivery) Refusal → List ℕ
reply_by long u g r = if long then too_large else if u then refusal_text refusal.Unavailable else text_read g r

-- the gate after it
abbrev gate_by : Bool → Bool → Gated → Result (Id × Delivery) Refusal → Gated
gate_by long u g r = record g { content = once g.settings g.content ((if long then [] else call_read u r) ++ []) }

-- a line is told of by what its reply, its gate and its call are
told_by : {B : Type 0} (leaves : B → Settings → List Content → Type 0) (old new : Gate B) (g after : Gated)
    (line text : List ℕ) (u long : Bool) (r : Result (Id × Delivery) Refusal) → is_too_long line ≡ long →
    says door.Any line ≡ r → text ≡ reply_by long u g r → after ≡ gate_by long u g r →
    LeavesBy leaves old new g ((if long then [] else call_read u r) ++ []) → ToldOver leaves old new line text g after
told_by leaves old new g after line text u long r hl hr said stands left =
    let calls_by : Bool → Result (Id × Delivery) Refusal → List Call = λ l s. (if l then [] else call_read u s) ++ [] in (
      record {
        unavailable = u;
        said = said ∙ sym (ap (λ l. reply_by l u g r) hl) ∙ ap (λ s. reply_by (is_too_long line) u g s) (sym hr);
        stands = stands ∙ sym (ap (λ l. gate_by l u g r) hl) ∙ ap (λ s. gate_by (is_too_long line) u g s) (sym hr);
      },
      subst (LeavesBy leaves old new g)
          (sym (ap (λ l. calls_by l r) hl) ∙ ap (λ s. calls_by (is_too_long line) s) (sym hr)) left,
    )

-- a line within the limit isn't too long
fits : (line : List ℕ) → length line ≤ most_bytes → is_too_long line ≡ false
fits line h = search rules

-- the text of a call's answer, marked or not
answered : (c : Settings) (x : Content) (id : Id) (d : Delivery) (u : Bool)
    → answer_text (answer_of c x (record { id = id; delivery = d; unavailable = u }))
    ≡ (if u then refusal_text refusal.Unavailable else answer_text (answer_of c x (record { id = id; delivery = d; unavailable = false })))
answered c x id d true = refl
answered c x id d false = refl

-- a line that says a delivery, by its answer
told_call : {B : Type 0} (leaves : B → Settings → List Content → Type 0) (old new : Gate B) (g : Gated)
    (line text : List ℕ) (id : Id) (d : Delivery) (a : Answer) → length line ≤ most_bytes → says door.Any line ≡ Ok (id, d) →
    text ≡ answer_text a →
    (let k : Call = record { id = id; delivery = d; unavailable = is_unavailable a } in
    a ≡ answer_of g.settings g.content k → LeavesBy leaves old new g (k ∷ []) →
    ToldOver leaves old new line text g (record g { content = next_content g.settings g.content k }))
told_call leaves old new g line text id d a short said is e left =
    let u = is_unavailable a in
    let k : Call = record { id = id; delivery = d; unavailable = u } in
    told_by leaves old new g (record g { content = next_content g.settings g.content k }) line text u false (Ok (id, d))
    (fits line short) said (is ∙ ap answer_text e ∙ answered g.settings g.content id d u) refl left

-- a line that is answered `unavailable` changes nothing
stays_marked : (g : Gated) (r : Result (Id × Delivery) Refusal) → g ≡ gate_by false true g r
stays_marked g (Ok x) = refl
stays_marked g (Err e) = refl

-- a line that is refused before any delivery is heard, by whether that is for want of memory
told_by_refusal : {B : Type 0} (leaves : B → Settings → List Content → Type 0) → MayLeaveMore leaves →
    (gate : Gate B) (g : Gated) (line : List ℕ) (r : Refusal) (u : Bool) → length line ≤ most_bytes →
    is_unavailable (answer.Refused r) ≡ u → (r ≢ refusal.Unavailable → says door.Any line ≡ Err r) →
    ToldOver leaves gate gate line (refusal_text r) g g
told_by_refusal leaves more gate g line refusal.Unavailable true short e said =
    told_by leaves gate gate g g line (refusal_text refusal.Unavailable) true false (says door.Any line)
    (fits line short) refl refl (stays_marked g (says door.Any line))
    (leaves_unheard leaves more gate g (says door.Any line))
told_by_refusal leaves more gate g line r false short e said =
    let other : r ≢ refusal.Unavailable = λ same. true≢false (sym (ap (λ q. is_unavailable (answer.Refused q)) same) ∙ e) in
    told_by leaves gate gate g g line (refusal_text r) false false (Err r) (fits line short) (said other) refl refl
    (leaves_none leaves gate g)
told_by_refusal leaves more gate g line r true short e said = absurd (true≢false (sym e))

-- a line that is refused before any delivery is heard
pub told_refusal : {B : Type 0} (leaves : B → Settings → List Content → Type 0) → MayLeaveMore leaves →
    (gate : Gate B) (g : Gated) (line : List ℕ) (r : Refusal) → length line ≤ most_bytes →
    (r ≢ refusal.Unavailable → says door.Any line ≡ Err r) → ToldOver leaves gate gate line (refusal_text r) g g
told_refusal leaves more gate g line r short said =
    told_by_refusal leaves more gate g line r (is_unavailable (answer.Refused r)) short refl said

-- a line over the limit is
long : (line : List ℕ) → most_bytes < length line → is_too_long line ≡ true
long line h = search rules

-- lines in two parts, one after the other
pub gate_after_lines-append : (g : Gated) (ms ns : List Marked) → gate_after_lines (gate_after_lines g ms) ns ≡ gate_after_lines g (ms ++ ns)
gate_after_lines-append g ms ns = ap (λ x. record g { content = x })
    (sym (ap (once g.settings g.content) (flat_map-append call_of ms ns) ∙ fold-append (next_content g.settings) g.content (calls_of_lines ms) (calls_of_lines ns)))

-- ---- gates over books

-- what changes nothing
pub goes_nowhere : {B : Type 0} (trusted : B → Type 0) (holds : B → Settings → Content → Type 0) (old new : Gate B)
    (P : Gated → Gated → Type 0) → new ≡ old → ((g : Gated) → P g g) → Goes trusted holds old new P
goes_nowhere trusted holds old new P stays at =
    subst (λ n. Goes trusted holds old n P) (sym stays)
    (record { settings = refl; trusted_before = λ t. t; passes = λ t g over. (g, over, at g) })

-- one call behind another
pub goes_on : {B : Type 0} (trusted : B → Type 0) (holds : B → Settings → Content → Type 0) (old mid new : Gate B)
    (P Q R : Gated → Gated → Type 0) → Goes trusted holds old mid P → Goes trusted holds mid new Q →
    ((g h after : Gated) → P g h → Q h after → R g after) → Goes trusted holds old new R
goes_on trusted holds old mid new P Q R first next both = record {
  settings = next.settings ∙ first.settings;
  trusted_before = λ t. first.trusted_before (next.trusted_before t);
  passes = λ t g over.
      let a = first.passes (next.trusted_before t) g over in
      let b = next.passes t a.0 a.1 in (b.0, b.1, both g a.0 b.0 a.2 b.2);
}

-- a line that says a delivery, by what the gate's answer to it came to
pub goes_told : {B : Type 0} (trusted : B → Type 0) (holds : B → Settings → Content → Type 0)
    (leaves : B → Settings → List Content → Type 0) (old new : Gate B) (line : List ℕ) (id : Id) (d : Delivery)
    (a : Answer) (text : List ℕ) → new.config ≡ old.config → (trusted new.book → trusted old.book) →
    length line ≤ most_bytes → says door.Any line ≡ Ok (id, d) → text ≡ answer_text a →
    OfGate trusted holds old new (λ x. Answered old.config x (call id d (is_unavailable a)) a (GateHolds holds new)
    (leaves old.book old.config) (leaves new.book old.config)) →
    TellsLine trusted holds leaves old line text new
goes_told trusted holds leaves old new line id d a text settings before short said is answered = record {
  settings = settings;
  trusted_before = before;
  passes = λ t g over.
      let k = call id d (is_unavailable a) in
      let h = subst (λ c. Answered c g.content k a (GateHolds holds new) (leaves old.book c) (leaves new.book c))
      (sym over.settings) (answered t g.content over.held over.lawful) in
      let after : Gated = record g { content = next_content g.settings g.content k } in (
        after,
        record {
          settings = over.settings ∙ sym settings;
          held = h.content;
          lawful = subst (λ c. IsLawfulContent c after.content) (over.settings ∙ sym settings) h.lawful;
        },
        told_call leaves old new g line text id d a short said is h.answer
            (leaves_call leaves old new g k h.crash),
      );
}

-- a line that the engine answers, too long or not
answers_told : {B : Type 0} (trusted : B → Type 0) (holds : B → Settings → Content → Type 0)
    (leaves : B → Settings → List Content → Type 0) (old : Gate B) (line text : List ℕ) (new : Gate B) →
    AnswersLine (TellsLine trusted holds leaves) old line text new → TellsLine trusted holds leaves old line text new
answers_told trusted holds leaves old line text new (inl (short, h)) = h
answers_told trusted holds leaves old line text new (inr (over, said, stays)) =
    goes_nowhere trusted holds old new (ToldOver leaves old new line text) stays
    (λ g. subst (λ n. ToldOver leaves old n line text g g) (sym stays)
    (told_by leaves old old g g line text false true (says door.Any line) (long line over) refl said refl
    (leaves_none leaves old g)))

-- a line, and lines behind it
replayed_cons : {B : Type 0} (leaves : B → Settings → List Content → Type 0) (old between new : Gate B)
    (g mid after : Gated) (line said : List ℕ) (lines : List (List ℕ)) (more text : List ℕ) →
    text ≡ (said ++ 10 ∷ []) ++ more → ToldOver leaves old between line said g mid →
    ReplayedOver leaves between new lines more mid after → ReplayedOver leaves old new (line ∷ lines) text g after
replayed_cons leaves old between new g mid after line said lines more text joined (told, left) (later, next) =
    let m : Marked = record { line = line; unavailable = told.unavailable } in (
      record {
        marked = m ∷ later.marked;
        every_line = ap (λ l. line ∷ l) later.every_line;
        said = joined ∙ ap (λ s. (s ++ 10 ∷ []) ++ more) told.said
            ∙ ap (λ s. (reply_to g m ++ 10 ∷ []) ++ s) (later.said ∙ ap (λ h. replies h later.marked) told.stands);
        stands = later.stands ∙ ap (λ h. gate_after_lines h later.marked) told.stands
            ∙ gate_after_lines-append g (m ∷ []) later.marked;
      },
      leaves_then leaves old between new g mid (m ∷ []) later.marked told.stands left next,
    )

-- what the engine ran through is replayed
pub replayed_of_runs : {B : Type 0} (trusted : B → Type 0) (holds : B → Settings → Content → Type 0)
    (leaves : B → Settings → List Content → Type 0) (old : Gate B) (lines : List (List ℕ)) (text : List ℕ)
    (new : Gate B) → Runs (TellsLine trusted holds leaves) old lines text new →
    Goes trusted holds old new (ReplayedOver leaves old new lines text)
replayed_of_runs trusted holds leaves old [] text new (said, stays) =
    goes_nowhere trusted holds old new (ReplayedOver leaves old new [] text) stays
    (λ g. (
      record { marked = []; every_line = refl; said = said; stands = refl },
      subst (λ n. LeavesBy leaves old n g []) (sym stays) (leaves_none leaves old g),
    ))
replayed_of_runs trusted holds leaves old (line ∷ lines) text new (said, more, mid, answers, joined, rest) =
    goes_on trusted holds old mid new (ToldOver leaves old mid line said) (ReplayedOver leaves mid new lines more)
    (ReplayedOver leaves old new (line ∷ lines) text) (answers_told trusted holds leaves old line said mid answers)
    (replayed_of_runs trusted holds leaves mid lines more new rest)
    (λ g h after. replayed_cons leaves old mid new g h after line said lines more text joined)

-- lines, and a line behind them whose answer is cut
cut_behind : {B : Type 0} (leaves : B → Settings → List Content → Type 0) (old between new : Gate B)
    (g mid after : Gated) (lines front : List (List ℕ)) (line : List ℕ) (more : List (List ℕ)) (text said : List ℕ)
    (at : ℕ) → lines ≡ front ++ line ∷ more → at < length (said ++ 10 ∷ []) →
    ReplayedOver leaves old between front text g mid → ToldOver leaves between new line said mid after →
    CutOver leaves old new lines (text ++ take at (said ++ 10 ∷ [])) (length front) g after
cut_behind leaves old between new g mid after lines front line more text said at split short (done, first) (told, left) =
    let m : Marked = record { line = line; unavailable = told.unavailable } in
    let reply : said ≡ reply_to (gate_after_lines g done.marked) m = told.said ∙ ap (λ h. reply_to h m) done.stands in (
      record {
        done = done.marked;
        last = m;
        unanswered = more;
        every_line = ap (λ l. l ++ line ∷ more) done.every_line ∙ sym split;
        at = at;
        short = subst (λ s. at < length (s ++ 10 ∷ [])) reply short;
        said = ap (λ s. s ++ take at (said ++ 10 ∷ [])) done.said
            ∙ ap (λ s. replies g done.marked ++ take at (s ++ 10 ∷ [])) reply;
        stands = told.stands ∙ ap (λ h. gate_after_lines h (m ∷ [])) done.stands
            ∙ gate_after_lines-append g done.marked (m ∷ []);
      },
      sym (length-map done.marked (λ m. m.line)) ∙ ap length done.every_line,
      leaves_then leaves old between new g mid done.marked (m ∷ []) done.stands first left,
    )

-- what the engine broke off is cut
pub cut_of_broke : {B : Type 0} (trusted : B → Type 0) (holds : B → Settings → Content → Type 0)
    (leaves : B → Settings → List Content → Type 0) (old new : Gate B) (lines : List (List ℕ)) (w v : Option (List ℕ))
    (b : BrokeInWriting (TellsLine trusted holds leaves) old lines new w v) → Goes trusted holds old new
    (CutOver leaves old new lines (b.text ++ take b.at (b.said ++ 10 ∷ [])) (length b.done))
cut_of_broke trusted holds leaves old new lines w v b =
    goes_on trusted holds old b.mid new (ReplayedOver leaves old b.mid b.done b.text)
    (ToldOver leaves b.mid new b.line b.said)
    (CutOver leaves old new lines (b.text ++ take b.at (b.said ++ 10 ∷ [])) (length b.done))
    (replayed_of_runs trusted holds leaves old b.done b.text b.mid b.ran)
    (answers_told trusted holds leaves b.mid b.line b.said new b.answered)
    (λ g h after. cut_behind leaves old b.mid new g h after lines b.done b.line b.more b.text b.said b.at b.split b.short)

-- what a line adds to the replies to calls, by what was read
abbrev AddsAnswer : Gated → List Marked → Bool → Bool → Result (Id × Delivery) Refusal → Type 0
AddsAnswer g ms over u r =
    let calls = if over then [] else call_read u r in
    map (λ k. reply_by over u g r) calls ++ call_replies (gate_by over u g r) ms
    ≡ map answer_text (answers g.settings g.content (calls ++ calls_of_lines ms))

adds_answer : (g : Gated) (ms : List Marked) (over u : Bool) (r : Result (Id × Delivery) Refusal) → ((h : Gated) → CallsAreAnswered h ms) → AddsAnswer g ms over u r
adds_answer g ms true u r rest = rest g
adds_answer g ms false u (Err e) rest = rest g
adds_answer g ms false u (Ok x) rest =
    let after = gate_by false u g (Ok x) in
    ap (λ t. t ∷ call_replies after ms) (sym (answered g.settings g.content x.0 x.1 u))
    ∙ ap (λ l. answer_text (answer_of g.settings g.content (record { id = x.0; delivery = x.1; unavailable = u })) ∷ l) (rest after)

pub calls_answered : (g : Gated) (ms : List Marked) → CallsAreAnswered g ms
calls_answered g [] = refl
calls_answered g (m ∷ ms) = adds_answer g ms (is_too_long m.line) m.unavailable (says door.Any m.line) (λ h. calls_answered h ms)
