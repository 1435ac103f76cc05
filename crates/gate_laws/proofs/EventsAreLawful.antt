-- Calls, with changes of settings between them, leave what is lawful lawful.
use Rattle.std.proofs.Common.{◌≡◌, List, [], ◌∷◌, map, refl, ap}
use Rattle.std.specs.List.{AllByRecursion as Each}
use Rattle.std.proofs.lemmas.Bool.{cond_both}
use Rattle.gate_types.specs.Settings.{Settings}
use Rattle.gate_types.specs.Once.{Content, Call, once, answers, answer_of, next_content}
use Rattle.gate_types.specs.Adopt.{may_adopt, adopted_content}
use Rattle.gate_types.specs.Events.{Event, called, set, through, answers_through, next_gated}
use Rattle.gate_types.specs.Gated.{Gated, new_gate}
use Rattle.gate_laws.specs.Adoption.{IsSoundEvent, IsEventInForm, CallsAreOnce, IsGatedLawfully}
use Rattle.gate_laws.specs.Adoption.{EventsAreLawful, IsGatedInForm, EventsAreInForm}
use Rattle.gate_laws.specs.Adoption.{EveryChangeLandsOnceThroughEvents, EveryLandingIsShownThroughEvents}
use Rattle.gate_laws.proofs.StartIsLawful.{start_lawful}
use Rattle.gate_laws.proofs.RunIsLawful.{next_lawful}
use Rattle.gate_laws.proofs.ContentForms.{next_content_is_lawful}
use Rattle.gate_laws.proofs.AdoptedIsLawful.{adopted_lawful, adopted_content_is_lawful}

-- ---- calls alone

calls_through : (c : Settings) (ks : List Call) (x : Content) →
    through (record { settings = c; content = x }) (map called ks) ≡ record { settings = c; content = once c x ks }
calls_through c [] x = refl
calls_through c (k ∷ ks) x = calls_through c ks (next_content c x k)

calls_answered : (c : Settings) (ks : List Call) (x : Content) →
    answers_through (record { settings = c; content = x }) (map called ks) ≡ answers c x ks
calls_answered c [] x = refl
calls_answered c (k ∷ ks) x = ap (λ l. answer_of c x k ∷ l) (calls_answered c ks (next_content c x k))

pub calls_are_once : CallsAreOnce
calls_are_once = record { content = λ c x ks. calls_through c ks x; answers = λ c x ks. calls_answered c ks x }

-- ---- from the empty gate

event_lawful : (g : Gated) (e : Event) → IsSoundEvent e → IsGatedLawfully g →
    IsGatedLawfully (next_gated g e)
event_lawful g (called k) w h =
    record { settings = h.settings; state = next_lawful g.settings h.settings g.content k h.state }
event_lawful g (set d) w h =
    cond_both (may_adopt g.settings d) (record { settings = d; content = adopted_content g.settings d g.content }) g
    IsGatedLawfully
    (λ e. record { settings = w; state = adopted_lawful g.settings d g.content.state h.settings w e h.state }) (λ e. h)

through_lawful : (es : List Event) (g : Gated) → Each IsSoundEvent es → IsGatedLawfully g →
    IsGatedLawfully (through g es)
through_lawful [] g w h = h
through_lawful (e ∷ es) g w h = through_lawful es (next_gated g e) w.1 (event_lawful g e w.0 h)

pub events_are_lawful : EventsAreLawful
events_are_lawful c es w v = through_lawful es (new_gate c) v (record { settings = w; state = start_lawful c })

pub every_change_lands_once_through_events : EveryChangeLandsOnceThroughEvents
every_change_lands_once_through_events c es w v = (events_are_lawful c es w v).state.sound.landed_differ

pub every_landing_is_shown_through_events : EveryLandingIsShownThroughEvents
every_landing_is_shown_through_events c es w v = (events_are_lawful c es w v).state.sound.landings_are_shown

-- ---- from any content

event_in_form : (g : Gated) (e : Event) → IsEventInForm e → IsGatedInForm g → IsGatedInForm (next_gated g e)
event_in_form g (called k) v h = record {
  settings = h.settings;
  in_form = h.in_form;
  content = next_content_is_lawful g.settings g.content k h.settings h.in_form v h.content;
}
event_in_form g (set d) v h =
    cond_both (may_adopt g.settings d) (record { settings = d; content = adopted_content g.settings d g.content }) g
    IsGatedInForm
    (λ e. record {
      settings = v.0;
      in_form = v.1;
      content = adopted_content_is_lawful g.settings d g.content h.settings v.0 v.1 e h.content;
    }) (λ e. h)

through_in_form : (es : List Event) (g : Gated) → Each IsEventInForm es → IsGatedInForm g →
    IsGatedInForm (through g es)
through_in_form [] g v h = h
through_in_form (e ∷ es) g v h = through_in_form es (next_gated g e) v.1 (event_in_form g e v.0 h)

pub events_are_in_form : EventsAreInForm
events_are_in_form g es h v = through_in_form es g v h
