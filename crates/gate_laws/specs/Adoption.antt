-- What is true of other settings that are adopted, and of calls with changes of settings between them.
use Rattle.std.specs.Prelude.{ℕ, true, ◌≡◌, List, map, All, Contains}
use Rattle.std.specs.List.{AllByRecursion as Each}
use Rattle.gate_types.specs.Settings.{Settings, are_sound}
use Rattle.gate_types.specs.State.{State}
use Rattle.gate_types.specs.SubmitOrder.{Order, orders}
use Rattle.gate_types.specs.Once.{Call, Content, once, answers}
use Rattle.gate_types.specs.Adopt.{may_adopt, adopted, adopted_content}
use Rattle.gate_types.specs.Events.{Event, called, set, through, answers_through}
use Rattle.gate_types.specs.Evidence.{IsShown}
use Rattle.gate_types.specs.Lawful.{IsSound, IsLawful, IsDistinct, landed_changes}
use Rattle.gate_types.specs.Forms.{are_settings_in_form, is_call_in_form, IsLawfulContent}
use Rattle.gate_types.specs.Gated.{Gated, new_gate}
use Rattle.gate_laws.specs.Orders.{IsStillShown}

-- a sound state is sound under settings that it adopts
abbrev pub AdoptedIsSound : Type 0
AdoptedIsSound = (c d : Settings) (s : State) → are_sound c ≡ true → are_sound d ≡ true → may_adopt c d ≡ true →
    IsSound c s → IsSound d (adopted c d s)

-- a lawful one is lawful: nothing is settled anew
abbrev pub AdoptedIsLawful : Type 0
AdoptedIsLawful = (c d : Settings) (s : State) → are_sound c ≡ true → are_sound d ≡ true → may_adopt c d ≡ true →
    IsLawful c s → IsLawful d (adopted c d s)

-- and a lawful content stays one
abbrev pub AdoptedContentIsLawful : Type 0
AdoptedContentIsLawful = (c d : Settings) (x : Content) → are_sound c ≡ true → are_sound d ≡ true →
    are_settings_in_form d ≡ true → may_adopt c d ≡ true → IsLawfulContent c x →
    IsLawfulContent d (adopted_content c d x)

-- a shown order stays shown
abbrev pub AdoptedOrdersStay : Type 0
AdoptedOrdersStay = (c d : Settings) (s : State) (o : Order) → are_sound c ≡ true → are_sound d ≡ true →
    may_adopt c d ≡ true → IsLawful c s → Contains (orders c s) o → IsStillShown d (adopted c d s) o

-- the settings that are in force may be adopted, and change nothing
pub record AdoptedItself : Type 0 where
  pub may : (c : Settings) → may_adopt c c ≡ true
  pub same : (c : Settings) (s : State) → are_sound c ≡ true → IsSound c s → adopted c c s ≡ s

-- ---- events

-- settings that come are sound
abbrev pub IsSoundEvent : Event → Type 0
IsSoundEvent (called k) = Unit {0}
IsSoundEvent (set d) = are_sound d ≡ true

-- a call or settings of their form
abbrev pub IsEventInForm : Event → Type 0
IsEventInForm (called k) = is_call_in_form k ≡ true
IsEventInForm (set d) = (are_sound d ≡ true) × (are_settings_in_form d ≡ true)

-- calls alone come to what they come to under settings that stay
pub record CallsAreOnce : Type 0 where
  pub content : (c : Settings) (x : Content) (ks : List Call) →
      through (record { settings = c; content = x }) (map called ks) ≡ record { settings = c; content = once c x ks }
  pub answers : (c : Settings) (x : Content) (ks : List Call) →
      answers_through (record { settings = c; content = x }) (map called ks) ≡ answers c x ks

-- the settings in force are sound, and the state is lawful under them, whatever came
pub record IsGatedLawfully (g : Gated) : Type 0 where
  pub settings : are_sound g.settings ≡ true
  pub state : IsLawful g.settings g.content.state

abbrev pub EventsAreLawful : Type 0
EventsAreLawful = (c : Settings) (es : List Event) → are_sound c ≡ true → Each IsSoundEvent es →
    IsGatedLawfully (through (new_gate c) es)

-- from any lawful content, all stays lawful and of its form
pub record IsGatedInForm (g : Gated) : Type 0 where
  pub settings : are_sound g.settings ≡ true
  pub in_form : are_settings_in_form g.settings ≡ true
  pub content : IsLawfulContent g.settings g.content

abbrev pub EventsAreInForm : Type 0
EventsAreInForm = (g : Gated) (es : List Event) → IsGatedInForm g → Each IsEventInForm es →
    IsGatedInForm (through g es)

-- no change stands twice among all landings
abbrev pub EveryChangeLandsOnceThroughEvents : Type 0
EveryChangeLandsOnceThroughEvents = (c : Settings) (es : List Event) → are_sound c ≡ true → Each IsSoundEvent es →
    IsDistinct (landed_changes (through (new_gate c) es).content.state)

-- and each voting job that a landing kept has just one live successful build, which ran on the landings before it,
-- then itself
abbrev pub EveryLandingIsShownThroughEvents : Type 0
EveryLandingIsShownThroughEvents = (c : Settings) (es : List Event) → are_sound c ≡ true → Each IsSoundEvent es →
    (let g = through (new_gate c) es in
    All (λ q. (k : ℕ) → IsShown g.settings g.content.state q k) g.content.state.queues)
