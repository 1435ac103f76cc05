-- Sessions: a gate is opened with settings, and then gets calls.
use Rattle.std.specs.Prelude.{◌≡◌, true, if◌then◌else◌, List, [], ◌∷◌, ◌++◌, map, fold}
use Rattle.gate_types.specs.Settings.{Settings, are_sound}
use Rattle.gate_types.specs.Once.{Call, Content, once}
use Rattle.gate_types.specs.Adopt.{may_adopt, adopted_content}
use Rattle.gate_types.specs.Lawful.{IsSound}
use Rattle.gate_types.specs.Events.{Event, called, set, through}
use Rattle.gate_types.specs.Gated.{Gated}

-- the settings that a gate is opened with, and the calls that it then gets
pub record Session : Type 0 where
  pub settings : Settings
  pub calls : List Call

-- after a session: the settings are taken, and the calls come under them; where they may not be taken there is none
abbrev pub after_session : Gated → Session → Gated
after_session g s =
    if may_adopt g.settings s.settings then record {
      settings = s.settings;
      content = once s.settings (adopted_content g.settings s.settings g.content) s.calls;
    } else g

-- the events of sessions, one after another
abbrev pub events_of : Gated → List Session → List Event
events_of g [] = []
events_of g (s ∷ ss) =
    (set s.settings ∷ (if may_adopt g.settings s.settings then map called s.calls else [])) ++
    events_of (after_session g s) ss

-- sessions come to what their events come to
abbrev pub SessionsAreThrough : Type 0
SessionsAreThrough = (g : Gated) (ss : List Session) → fold after_session g ss ≡ through g (events_of g ss)

-- settings may be taken in place of themselves, and then all stays
pub record SameSettingsStay : Type 0 where
  pub may : (c : Settings) → may_adopt c c ≡ true
  pub content : (c : Settings) (x : Content) → are_sound c ≡ true → IsSound c x.state → adopted_content c c x ≡ x
