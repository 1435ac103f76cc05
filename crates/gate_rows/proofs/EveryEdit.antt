-- What is told, after any edit.
use Rattle.gate_types.specs.declared.edits.Edit.{Edit}
use Rattle.gate_types.specs.declared.edits.Edit.TheVariants as edit
use Rattle.gate_rows.specs.Matches.{EditIsTold}
use Rattle.gate_rows.proofs.ChangeMatches.{matches_change, matches_stage}
use Rattle.gate_rows.proofs.HistoryMatches.{matches_landing, matches_report}
use Rattle.gate_rows.proofs.ItemMatches.{matches_item}
use Rattle.gate_rows.proofs.PlanMatches.{matches_land, matches_plan}
use Rattle.gate_rows.proofs.MatchLemmas.{matches_build, matches_counter, matches_drop, matches_kept, matches_outcome}
use Rattle.gate_rows.proofs.MatchLemmas.{matches_stop, matches_window}

pub every_told : (e : Edit) → EditIsTold e
every_told (edit.PutChange k a) = λ b t order fits have told. matches_change k a b t order told
every_told (edit.SetStage n g) = λ b t order fits have told. matches_stage n g b t told
every_told (edit.PutItem name i) = λ b t order fits have told. matches_item name i b t order fits told
every_told (edit.DropItem n) = λ b t order fits have told. matches_drop n b t told
every_told (edit.LandItem n) = λ b t order fits have told. matches_land n b t told
every_told (edit.PutPlan p) = λ b t order fits have told. matches_plan p b t order fits.1 have told
every_told (edit.PutLanding name n l) = λ b t order fits have told. matches_landing name n l b t fits told
every_told (edit.PutReport name n r) = λ b t order fits have told. matches_report name n r b t fits told
every_told (edit.PutBuild x) = λ b t order fits have told. matches_build x b t order told
every_told (edit.SetOutcome n o) = λ b t order fits have told. matches_outcome n o b t told
every_told (edit.StopBuild n) = λ b t order fits have told. matches_stop n b t told
every_told (edit.SetWindow name w) = λ b t order fits have told. matches_window name w b t told
every_told (edit.SetCounter k n) = λ b t order fits have told. matches_counter k n b t told
every_told (edit.Keep k) = λ b t order fits have told. matches_kept k b t told
