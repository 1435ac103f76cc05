-- Rebase: every live build of a queued item that isn't wanted stops being live: it doesn't count, or it runs for a cut
-- item.
use Rattle.std.specs.Prelude.{Bool, ◌&&◌, ◌||◌, not, ◌==◌, List, map}
use Rattle.std.specs.List.{list_any}
use Rattle.gate_types.specs.Settings.{Settings}
use Rattle.gate_types.specs.declared.records.Build.{Build}
use Rattle.gate_types.specs.State.{State}
use Rattle.gate_types.specs.Line.{Place}
use Rattle.gate_types.specs.Slot.{is_wanted}
use Rattle.gate_types.specs.Standing.{all_places}

-- a build, live or not
abbrev pub with_live : Bool → Build → Build
with_live l b = record b { live = l }

-- a build stays live if it is of no queued item, or wanted for one
abbrev pub stays_live : List Build → List Place → Build → Bool
stays_live builds ps b =
    not (list_any (λ p. p.item.serial == b.serial) ps) || list_any (λ p. is_wanted builds p b) ps

-- all by the same state
abbrev pub rebase : Settings → State → State
rebase c s = record s { builds = map (λ b. with_live (b.live && stays_live s.builds (all_places c s) b) b) s.builds }
