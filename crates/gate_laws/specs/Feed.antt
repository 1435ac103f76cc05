-- A gate's content is a function of the deliveries that it accepted, in their order.
use Rattle.std.specs.Prelude.{◌≡◌, true, false, List, [], ◌∷◌, ◌++◌, fold}
use Rattle.std.specs.List.{AllZip, AllByRecursion as Each}
use Rattle.gate_types.specs.Settings.{Settings}
use Rattle.gate_types.specs.declared.records.Kept.{Kept}
use Rattle.gate_types.specs.declared.deliveries.Delivery.{Delivery}
use Rattle.gate_types.specs.Canonical.{canonical_text}
use Rattle.gate_types.specs.OneText.{IsInRange}
use Rattle.gate_types.specs.Forms.{is_delivery_in_form}
use Rattle.gate_types.specs.Once.{Call, Content, empty, once, acting}
use Rattle.gate_types.specs.Gated.{Gated}
use Rattle.gate_laws.specs.Sessions.{Session, after_session}

-- a call tells a kept delivery again: its id, a delivery with its text, and no mark
pub record IsCallOfKept (e : Kept) (k : Call) : Type 0 where
  pub id : k.id ≡ e.id
  pub said : canonical_text k.delivery ≡ e.said
  pub unmarked : k.unavailable ≡ false

-- calls tell kept deliveries again, one for one and in their order
abbrev pub AreCallsOfKept : List Kept → List Call → Type 0
AreCallsOfKept kept ks = AllZip IsCallOfKept kept ks

-- the numbers of each delivery fit 64 bits
abbrev pub AreInRange : List Call → Type 0
AreInRange ks = Each (λ k. IsInRange k.delivery) ks

-- those of a delivery in form do
abbrev pub FormsAreInRange : Type 0
FormsAreInRange = (d : Delivery) → is_delivery_in_form d ≡ true → IsInRange d

-- calls only add to what is kept, and the calls that act tell again what they add
abbrev pub ActingCallsAreKept : Type 0
ActingCallsAreKept = (c : Settings) (x : Content) (ks : List Call) →
    (added : List Kept) × ((once c x ks).kept ≡ x.kept ++ added) × AreCallsOfKept added (acting c x ks)

-- from any content, what calls add to what is kept comes, told again, to the content that they come to
abbrev pub KeptToldAgain : Type 0
KeptToldAgain = (c : Settings) (x : Content) (ks rs : List Call) (added : List Kept) →
    AreInRange ks → AreInRange rs → (once c x ks).kept ≡ x.kept ++ added → AreCallsOfKept added rs →
    once c x rs ≡ once c x ks

-- so all that a gate keeps, told to a new one, makes the same gate
abbrev pub LogIsTheGate : Type 0
LogIsTheGate = (c : Settings) (ks rs : List Call) → AreInRange ks → AreInRange rs →
    AreCallsOfKept (once c (empty c) ks).kept rs → once c (empty c) rs ≡ once c (empty c) ks

-- ---- with changes of settings between

-- a session t tells the session s again: it has its settings, and its calls tell what s adds to what is kept
pub record IsSessionAgain (g : Gated) (s t : Session) : Type 0 where
  pub settings : t.settings ≡ s.settings
  pub added : List Kept
  pub kept : (after_session g s).content.kept ≡ g.content.kept ++ added
  pub calls : AreCallsOfKept added t.calls

-- sessions tell others again, one for one and in their order
abbrev pub AreSessionsAgain : Gated → List Session → List Session → Type 0
AreSessionsAgain g [] [] = Unit {0}
AreSessionsAgain g [] (t ∷ ts) = ⊥
AreSessionsAgain g (s ∷ ss) [] = ⊥
AreSessionsAgain g (s ∷ ss) (t ∷ ts) = IsSessionAgain g s t × AreSessionsAgain (after_session g s) ss ts

-- told again, sessions come to what they came to, whichever settings were taken or refused between
abbrev pub SessionsToldAgain : Type 0
SessionsToldAgain = (g : Gated) (ss ts : List Session) →
    Each (λ s. AreInRange s.calls) ss → Each (λ t. AreInRange t.calls) ts → AreSessionsAgain g ss ts →
    fold after_session g ts ≡ fold after_session g ss
