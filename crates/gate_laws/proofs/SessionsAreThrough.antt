-- Sessions come to what their events come to.
use Rattle.std.proofs.Common.{◌≡◌, Bool, true, false, cond, List, [], ◌∷◌, ◌++◌, map, refl, sym, ap, ◌∙◌}
use Rattle.gate_types.specs.Once.{once}
use Rattle.gate_types.specs.Adopt.{may_adopt, adopted_content}
use Rattle.gate_types.specs.Events.{Event, called, set, through, next_gated}
use Rattle.gate_types.specs.Gated.{Gated}
use Rattle.gate_laws.specs.Sessions.{Session, after_session, events_of, SessionsAreThrough}
use Rattle.gate_laws.proofs.EventsAreLawful.{calls_are_once}

through_both : (es fs : List Event) (g : Gated) → through g (es ++ fs) ≡ through (through g es) fs
through_both [] fs g = refl
through_both (e ∷ es) fs g = through_both es fs (next_gated g e)

one_session : (g : Gated) (s : Session) →
    after_session g s ≡ through g (set s.settings ∷ cond (may_adopt g.settings s.settings) (map called s.calls) [])
one_session g s = by_may (may_adopt g.settings s.settings)
  where
    by_may : (b : Bool) →
        cond b (record { settings = s.settings; content = once s.settings (adopted_content g.settings s.settings g.content) s.calls }) g
        ≡ through (cond b (record { settings = s.settings; content = adopted_content g.settings s.settings g.content }) g) (cond b (map called s.calls) [])
    by_may true = sym (calls_are_once.content s.settings (adopted_content g.settings s.settings g.content) s.calls)
    by_may false = refl

pub sessions_are_through : SessionsAreThrough
sessions_are_through g [] = refl
sessions_are_through g (s ∷ ss) =
    sessions_are_through (after_session g s) ss
    ∙ ap (λ h. through h (events_of (after_session g s) ss)) (one_session g s)
    ∙ sym (through_both (set s.settings ∷ cond (may_adopt g.settings s.settings) (map called s.calls) []) (events_of (after_session g s) ss) g)
