-- For the inside alone: what was found out of a ready change that may enter.
use Rattle.std.specs.Prelude.{true, false, not, ◌≡◌, find, Option, None, Some, Contains}
use Rattle.std.specs.List.{list_all}
use Rattle.gate_types.specs.declared.records.Ready.{Ready}
use Rattle.gate_types.specs.Names.{same_name}
use Rattle.gate_types.specs.Settings.{Settings}
use Rattle.gate_types.specs.State.{State, change_of, known_change, project_of}
use Rattle.gate_types.specs.Standing.{needs_of}
use Rattle.gate_types.specs.Admit.{may_enter}
use Rattle.gate_book_trait.specs.Reads.{items_in}
use Rattle.gate_admission.specs.declared.entering.Entrant.{Entrant}
use Rattle.gate_admission.specs.Enters.{is_met_by_rows}

-- it may enter, and what is told of it is so
pub record IsEntrant (c : Settings) (v : State) (e : Entrant) : Type 0 where
  pub may : may_enter c v e.ready ≡ true
  pub known : known_change v e.ready.change ≡ Some e.change
  pub project : find (λ p. same_name p.name (change_of v e.ready.change).project) c.projects ≡ Some e.project.now
  pub failing : e.failing ≡ not
      (list_all (is_met_by_rows (items_in c v (project_of c v e.ready.change).queue)) (needs_of v e.ready.change))

-- a ready change is told with what it enters by; none where it may not
abbrev pub TellsEntrant : Settings → State → Ready → Option Entrant → Type 0
TellsEntrant c v r (Some e) = (e.ready ≡ r) × IsEntrant c v e
TellsEntrant c v r None = Contains v.ready r → may_enter c v r ≡ false
