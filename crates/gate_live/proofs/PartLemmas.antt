-- All that is held, after edits and of what was read.
use Rattle.std.proofs.Common.{◌≡◌, ℕ, Bool, Option, Some, None, List, [], ◌∷◌, refl, sym, ap, subst, ◌∙◌}
use Rattle.std.specs.Prelude.{filter, fold, option_map, IfSome}
use Rattle.gate_types.specs.declared.edits.Edit.{Edit}
use Rattle.gate_types.specs.declared.edits.Edit.TheVariants as edit
use Rattle.gate_types.specs.declared.records.Build.{Build}
use Rattle.gate_types.specs.declared.records.Plan.{Plan}
use Rattle.gate_types.specs.Settings.{Settings}
use Rattle.gate_types.specs.Once.{Content}
use Rattle.gate_types.specs.Forms.{IsLawfulContent}
use Rattle.gate_types.specs.Tables.{Leads, Tables, edited_build_rows, edited_plans, edited_tables, fold_all, tables}
use Rattle.gate_types.specs.Keys.{serial_of_plan}
use Rattle.gate_types.specs.Rising.{RisesFrom}
use Rattle.gate_memory.specs.Builds.{number_of_build}
use Rattle.gate_live.specs.Live.{LiveTables, live_tables, fold_live}
use Rattle.gate_live.specs.Held.{IsLiveOf}
use Rattle.gate_live.specs.HeldBuilds.{AreBuildsOf, KnownBuilds, edited_held, fold_held}
use Rattle.gate_live.specs.HeldChanges.{AreChangesOf}
use Rattle.gate_live.specs.HeldPlans.{ArePlansOf, edited_held_plans, fold_held_plans}
use Rattle.gate_live.specs.Parts.{Agrees, Parts, is_of_items}
use Rattle.gate_live.proofs.LiveLemmas.{live_after}
use Rattle.gate_live.proofs.RisingLemmas.{builds_rise}
use Rattle.gate_live.proofs.HeldBuildLemmas.{builds_edited, builds_still_rise}
use Rattle.gate_live.proofs.HeldPlanLemmas.{plans_edited, plans_still_rise}

-- ---- edits

-- where the same edits were made in both, what is held is live of what the content has become
live_of_after : (c : Settings) (x y : Content) (edits : List Edit) (old new : Option LiveTables) →
    new ≡ option_map (λ l. fold_live l edits) old → IsLiveOf old c x → Leads c x edits y → IsLiveOf new c y
live_of_after c x y edits old new e is leads =
    subst (λ o. IfSome o (λ l. l ≡ live_tables (tables c y))) (sym e) (by_held old is)
  where
    by_held : (o : Option LiveTables) → IfSome o (λ l. l ≡ live_tables (tables c x)) →
        IfSome (option_map (λ l. fold_live l edits) o) (λ l. l ≡ live_tables (tables c y))
    by_held None h = tt
    by_held (Some l) h = ap (λ (k : LiveTables). fold_live k edits) h ∙ sym (live_after (tables c x) edits) ∙ ap live_tables leads

-- the builds and the plans of edited tables
builds_folded : (t : Tables) (edits : List Edit) → (fold_all t edits).builds ≡ fold edited_build_rows t.builds edits
builds_folded t [] = refl
builds_folded t (e ∷ es) = builds_folded (edited_tables t e) es

plans_folded : (t : Tables) (edits : List Edit) → (fold_all t edits).plans ≡ fold edited_plans t.plans edits
plans_folded t [] = refl
plans_folded t (e ∷ es) = plans_folded (edited_tables t e) es

-- what is held of the builds after edits of builds and plans is what is to be held after all edits
builds_after : (edits : List Edit) (h : KnownBuilds) (all : List Build) → RisesFrom number_of_build 0 all → AreBuildsOf h all →
    AreBuildsOf (fold_held h (filter is_of_items edits)) (fold edited_build_rows all edits)
builds_after [] h all rise held = held
builds_after (edit.DropItem s ∷ es) h all rise held = builds_after es (edited_held h (edit.DropItem s)) all rise (builds_edited h all (edit.DropItem s) rise held)
builds_after (edit.LandItem s ∷ es) h all rise held = builds_after es (edited_held h (edit.LandItem s)) all rise (builds_edited h all (edit.LandItem s) rise held)
builds_after (edit.PutBuild b ∷ es) h all rise held =
    builds_after es (edited_held h (edit.PutBuild b)) (edited_build_rows all (edit.PutBuild b)) (builds_still_rise all (edit.PutBuild b) rise) (builds_edited h all (edit.PutBuild b) rise held)
builds_after (edit.SetOutcome n o ∷ es) h all rise held =
    builds_after es (edited_held h (edit.SetOutcome n o)) (edited_build_rows all (edit.SetOutcome n o)) (builds_still_rise all (edit.SetOutcome n o) rise) (builds_edited h all (edit.SetOutcome n o) rise held)
builds_after (edit.StopBuild n ∷ es) h all rise held =
    builds_after es (edited_held h (edit.StopBuild n)) (edited_build_rows all (edit.StopBuild n)) (builds_still_rise all (edit.StopBuild n) rise) (builds_edited h all (edit.StopBuild n) rise held)
builds_after (_ ∷ es) h all rise held = builds_after es h all rise held

-- and so of the plans
plans_after : (is_item : ℕ → Bool) (edits : List Edit) (rows all : List Plan) → RisesFrom serial_of_plan 0 rows → ArePlansOf rows all →
    ArePlansOf (fold_held_plans is_item rows (filter is_of_items edits)) (fold edited_plans all edits)
plans_after is_item [] rows all rise held = held
plans_after is_item (edit.DropItem s ∷ es) rows all rise held =
    plans_after is_item es (edited_held_plans is_item rows (edit.DropItem s)) (edited_plans all (edit.DropItem s)) (plans_still_rise is_item rows (edit.DropItem s) rise) (plans_edited is_item rows all (edit.DropItem s) rise held)
plans_after is_item (edit.LandItem s ∷ es) rows all rise held =
    plans_after is_item es (edited_held_plans is_item rows (edit.LandItem s)) (edited_plans all (edit.LandItem s)) (plans_still_rise is_item rows (edit.LandItem s) rise) (plans_edited is_item rows all (edit.LandItem s) rise held)
plans_after is_item (edit.PutPlan p ∷ es) rows all rise held =
    plans_after is_item es (edited_held_plans is_item rows (edit.PutPlan p)) (edited_plans all (edit.PutPlan p)) (plans_still_rise is_item rows (edit.PutPlan p) rise) (plans_edited is_item rows all (edit.PutPlan p) rise held)
plans_after is_item (_ ∷ es) rows all rise held = plans_after is_item es rows all rise held

-- what agreed with a content agrees with what the edits make of it
pub agrees_after : (c : Settings) (x y : Content) (edits : List Edit) (is_item : ℕ → Bool) (old new : Parts) → IsLawfulContent c x → RisesFrom serial_of_plan 0 old.plans →
    new.tables ≡ option_map (λ l. fold_live l edits) old.tables → new.builds ≡ fold_held old.builds (filter is_of_items edits) →
    new.plans ≡ fold_held_plans is_item old.plans (filter is_of_items edits) → AreChangesOf new.changes c y →
    Agrees old c x → Leads c x edits y → Agrees new c y
agrees_after c x y edits is_item old new lawful rise live builds plans changes agrees leads = record {
  tables = live_of_after c x y edits old.tables new.tables live agrees.tables leads;
  builds =
      let all : fold edited_build_rows x.state.builds edits ≡ y.state.builds = sym (builds_folded (tables c x) edits) ∙ ap (λ (t : Tables). t.builds) leads in
      subst (λ h. AreBuildsOf h y.state.builds) (sym builds)
      (subst (AreBuildsOf (fold_held old.builds (filter is_of_items edits))) all (builds_after edits old.builds x.state.builds (builds_rise c x lawful) agrees.builds));
  plans =
      let all : fold edited_plans x.state.plans edits ≡ y.state.plans = sym (plans_folded (tables c x) edits) ∙ ap (λ (t : Tables). t.plans) leads in
      subst (λ rows. ArePlansOf rows y.state.plans) (sym plans)
      (subst (ArePlansOf (fold_held_plans is_item old.plans (filter is_of_items edits))) all (plans_after is_item edits old.plans x.state.plans rise agrees.plans));
  changes = changes;
}
