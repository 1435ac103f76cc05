-- Calls that tell again what is kept are the calls that acted, and those alone come to the same content.
use Rattle.std.proofs.Common.{◌≡◌, ℕ, ◌<◌, ◌^◌, arith, Bool, true, false, ◌&&◌, not, cond, List, [], ◌∷◌, ◌++◌, fold}
use Rattle.std.proofs.Common.{refl, sym, ap, ◌∙◌, subst}
use Rattle.std.specs.Prelude.{is_some}
use Rattle.std.specs.Str.{is_utf8}
use Rattle.std.proofs.lemmas.Bool.{and_parts, not-true}
use Rattle.std.proofs.lemmas.List.{append_assoc, append-nil, append_cancel_left}
use Rattle.gate_types.specs.Settings.{Settings}
use Rattle.gate_types.specs.declared.records.Kept.{Kept}
use Rattle.gate_types.specs.declared.deliveries.Delivery.TheVariants as delivery
use Rattle.gate_types.specs.Names.{is_path_name, is_message}
use Rattle.gate_types.specs.Canonical.{canonical_text}
use Rattle.gate_types.specs.ReplyText.{reply_text}
use Rattle.gate_types.specs.OneText.{IsInRange}
use Rattle.gate_types.specs.Forms.{is_change_number, is_revision_number, is_drawn_number}
use Rattle.gate_types.specs.Step.{Stepped, accepted, refused, step}
use Rattle.gate_types.specs.Once.{Content, Call, empty, kept_for, may_act, is_accepted, acts, content_after}
use Rattle.gate_types.specs.Once.{next_content, once, acting}
use Rattle.gate_types.specs.Adopt.{may_adopt, adopted_content}
use Rattle.gate_types.proofs.OnceLaw.{content_by}
use Rattle.gate_types.proofs.OneTextLaw.{one_text_a_delivery}
use Rattle.gate_laws.specs.Sessions.{Session, after_session}
use Rattle.gate_laws.proofs.Shapes.{most}
use Rattle.gate_laws.specs.Feed.{FormsAreInRange, IsCallOfKept, AreCallsOfKept, AreInRange, ActingCallsAreKept}
use Rattle.gate_laws.specs.Feed.{KeptToldAgain, LogIsTheGate, IsSessionAgain, SessionsToldAgain}
use Rattle.gate_types.specs.Counters.{last_number}
use Rattle.gate_types.specs.Gated.{Gated}

-- ---- numbers in range

drawn : (n : ℕ) → is_drawn_number n ≡ true → n < 2 ^ 64
drawn n h = let m = most last_number n h in omega arith

-- a change and a revision
on_change : (n r : ℕ) → is_change_number n ≡ true → is_revision_number r ≡ true → (n < 2 ^ 64) × (r < 2 ^ 64)
on_change n r hn hr = let m = most 999999999 n hn in let o = most 9999 r hr in (omega arith, omega arith)

both : (n r : ℕ) → is_change_number n && is_revision_number r ≡ true → (n < 2 ^ 64) × (r < 2 ^ 64)
both n r h = let p = and_parts (is_change_number n) (is_revision_number r) h in on_change n r p.0 p.1

revision : (n r : ℕ) (p q u : Bool) → is_change_number n && p && is_revision_number r && q && u ≡ true →
    (n < 2 ^ 64) × (r < 2 ^ 64)
revision n r p q u h =
    let a = and_parts (is_change_number n && p && is_revision_number r && q) u h in
    let b = and_parts (is_change_number n && p && is_revision_number r) q a.0 in
    let c = and_parts (is_change_number n && p) (is_revision_number r) b.0 in
    on_change n r (and_parts (is_change_number n) p c.0).0 c.1

pub forms_are_in_range : FormsAreInRange
forms_are_in_range (delivery.Revision n name r message) h =
    revision n r (is_path_name name) (is_message message) (is_utf8 message) h
forms_are_in_range (delivery.Approved n r) h = both n r h
forms_are_in_range (delivery.Withdrawn n r) h = both n r h
forms_are_in_range (delivery.Closed n r) h = both n r h
forms_are_in_range (delivery.Landed n) h = drawn n h
forms_are_in_range (delivery.Refused n) h = drawn n h
forms_are_in_range (delivery.Take worker) h = tt
forms_are_in_range (delivery.Result n e) h = drawn n h

-- ---- the calls that act

-- calls lead from one content to another, and what they add to what is kept are their own entries
record Adds (c : Settings) (x : Content) (ks : List Call) (y : Content) : Type 0 where
  added : List Kept
  kept : y.kept ≡ x.kept ++ added
  calls : AreCallsOfKept added ks
  leads : once c x ks ≡ y

unmarked : (x : Content) (k : Call) → may_act x k ≡ true → k.unavailable ≡ false
unmarked x k h = not-true k.unavailable (and_parts (not k.unavailable) (not (is_some (kept_for k.id x.kept))) h).0

-- one call more, by cases on whether it may act and on what its delivery does
at_call : (c : Settings) (x : Content) (k : Call) (ks : List Call) →
    ((y : Content) → Adds c y (acting c y ks) (once c y ks)) → (b : Bool) (st : Stepped) → may_act x k ≡ b →
    step c x.state k.delivery ≡ st →
    Adds c x ((cond (b && is_accepted st) (k ∷ []) []) ++ acting c (content_by b x k st) ks)
    (once c (content_by b x k st) ks)
at_call c x k ks rest false st may does = rest x
at_call c x k ks rest true (refused r) may does = rest x
at_call c x k ks rest true (accepted r t) may does =
    let row : Kept = record { id = k.id; said = canonical_text k.delivery; reply = reply_text r } in
    let y = content_after x k (accepted r t) in
    let more = rest y in
    record {
      added = row ∷ more.added;
      kept = more.kept ∙ append_assoc x.kept (row ∷ []) more.added;
      calls = (record { id = refl; said = refl; unmarked = unmarked x k may }, more.calls);
      leads = ap (λ z. once c z (acting c y ks)) (λ i. content_by (may i) x k (does i)) ∙ more.leads;
    }

adds : (c : Settings) (ks : List Call) (x : Content) → Adds c x (acting c x ks) (once c x ks)
adds c [] x = record { added = []; kept = sym (append-nil x.kept); calls = tt; leads = refl }
adds c (k ∷ ks) x = at_call c x k ks (adds c ks) (may_act x k) (step c x.state k.delivery) refl refl

pub acting_calls_are_kept : ActingCallsAreKept
acting_calls_are_kept c x ks = let a = adds c ks x in (a.added, a.kept, a.calls)

acting_in_range : (c : Settings) (ks : List Call) (x : Content) → AreInRange ks → AreInRange (acting c x ks)
acting_in_range c [] x h = tt
acting_in_range c (k ∷ ks) x h = by_acts (acts c x k) (acting c (next_content c x k) ks) (acting_in_range c ks (next_content c x k) h.1)
  where
    by_acts : (b : Bool) (rest : List Call) → AreInRange rest → AreInRange (cond b (k ∷ []) [] ++ rest)
    by_acts true rest r = (h.0, r)
    by_acts false rest r = r

-- ---- calls that tell the same again

same_call : (e : Kept) (r s : Call) → IsInRange r.delivery → IsInRange s.delivery → IsCallOfKept e r →
    IsCallOfKept e s → r ≡ s
same_call e r s hr hs a b = λ i. record {
  id = (a.id ∙ sym b.id) i;
  delivery = one_text_a_delivery r.delivery s.delivery hr hs (a.said ∙ sym b.said) i;
  unavailable = (a.unmarked ∙ sym b.unmarked) i;
}

same_calls : (kept : List Kept) (rs ss : List Call) → AreInRange rs → AreInRange ss → AreCallsOfKept kept rs →
    AreCallsOfKept kept ss → rs ≡ ss
same_calls [] [] [] hr hs a b = refl
same_calls [] [] (s ∷ ss) hr hs a b = absurd b
same_calls [] (r ∷ rs) ss hr hs a b = absurd a
same_calls (e ∷ es) [] ss hr hs a b = absurd a
same_calls (e ∷ es) (r ∷ rs) [] hr hs a b = absurd b
same_calls (e ∷ es) (r ∷ rs) (s ∷ ss) hr hs a b =
    λ i. same_call e r s hr.0 hs.0 a.0 b.0 i ∷ same_calls es rs ss hr.1 hs.1 a.1 b.1 i

-- ---- under settings that stay

pub kept_told_again : KeptToldAgain
kept_told_again c x ks rs added hk hr kept told =
    let a = adds c ks x in
    let same : added ≡ a.added = append_cancel_left x.kept added a.added (sym kept ∙ a.kept) in
    ap (λ l. once c x l)
    (same_calls a.added rs (acting c x ks) hr (acting_in_range c ks x hk) (subst (λ l. AreCallsOfKept l rs) same told) a.calls)
    ∙ a.leads

pub log_is_the_gate : LogIsTheGate
log_is_the_gate c ks rs hk hr told = kept_told_again c (empty c) ks rs (once c (empty c) ks).kept hk hr refl told

-- ---- with changes of settings between

session_again : (g : Gated) (s t : Session) → AreInRange s.calls → AreInRange t.calls → IsSessionAgain g s t →
    after_session g t ≡ after_session g s
session_again g s t hs ht h =
    ap (λ c. after_session g (record { settings = c; calls = t.calls })) h.settings
    ∙ by_may (may_adopt g.settings s.settings) h.kept
  where
    by_may : (b : Bool) →
        (cond b (record { settings = s.settings; content = once s.settings (adopted_content g.settings s.settings g.content) s.calls }) g).content.kept
        ≡ g.content.kept ++ h.added →
        cond b (record { settings = s.settings; content = once s.settings (adopted_content g.settings s.settings g.content) t.calls }) g
        ≡ cond b (record { settings = s.settings; content = once s.settings (adopted_content g.settings s.settings g.content) s.calls }) g
    by_may true e = ap (λ x. record { settings = s.settings; content = x })
        (kept_told_again s.settings (adopted_content g.settings s.settings g.content) s.calls t.calls h.added hs ht e h.calls)
    by_may false e = refl

pub sessions_told_again : SessionsToldAgain
sessions_told_again g [] [] hs ht h = refl
sessions_told_again g [] (t ∷ ts) hs ht h = absurd h
sessions_told_again g (s ∷ ss) [] hs ht h = absurd h
sessions_told_again g (s ∷ ss) (t ∷ ts) hs ht h =
    ap (λ x. fold after_session x ts) (session_again g s t hs.0 ht.0 h.0)
    ∙ sessions_told_again (after_session g s) ss ts hs.1 ht.1 h.1
