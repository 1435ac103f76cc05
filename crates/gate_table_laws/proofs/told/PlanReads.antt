-- The plan under a serial, as the file's rows tell it and as the content has it.
use Rattle.std.proofs.Common.{◌≡◌, ◌∙◌, ℕ, suc, true, false, Option, Some, None, List, [], ◌∷◌, map, refl, sym, ap}
use Rattle.std.proofs.Common.{subst, inl, inr}
use Rattle.std.specs.Prelude.{◌==◌, find}
use Rattle.std.specs.List.{AllPass, list_any}
use Rattle.std.specs.Option.{option_map_or}
use Rattle.std.proofs.lemmas.Bool.{and_parts, eq-eqb, eqb-true, false≢true}
use Rattle.gate_types.specs.Forms.{IsLawfulContent, is_drawn_number, is_plan_in_form}
use Rattle.gate_types.specs.Names.{is_name}
use Rattle.gate_types.specs.Once.{Content}
use Rattle.gate_types.specs.Settings.{Settings, are_sound_jobs}
use Rattle.gate_types.specs.Tables.{tables}
use Rattle.gate_types.specs.Rising.{In}
use Rattle.gate_types.specs.declared.config.Job.{Job}
use Rattle.gate_types.specs.declared.records.Plan.{Plan}
use Rattle.gate_schema.specs.Edits.{job_rows}
use Rattle.gate_schema.specs.Rows.{JobRow, Stored}
use Rattle.gate_rows.specs.Matches.{Matches, jobs_in}
use Rattle.gate_book_trait.specs.Reads as content
use Rattle.gate_found_rows.specs.Asked as file
use Rattle.gate_found_rows.specs.Whole.{ArePlaced, is_job_row_in_form}
use Rattle.gate_laws.proofs.Members.{all, all_from, every, found, to_filter}

-- the jobs of the rows of a plan
jobs_of_rows : (n m : ℕ) (js : List Job) → map (λ (x : JobRow). x.job) (job_rows n m js) ≡ js
jobs_of_rows n m [] = refl
jobs_of_rows n m (j ∷ js) = ap (λ l. j ∷ l) (jobs_of_rows n (suc m) js)

-- the row of a job of a plan
job_of_row : (n m : ℕ) (js : List Job) (x : JobRow) → In x (job_rows n m js) → In x.job js
job_of_row n m [] x h = absurd h
job_of_row n m (j ∷ js) x h = elim h [
  | inl e ↦ inl (ap (λ (y : JobRow). y.job) e)
  | inr t ↦ inr (job_of_row n (suc m) js x t)
]

-- a plan has a job
plan_of_jobs : (p : Plan) → are_sound_jobs p.jobs ≡ true → file.plan_with p.serial p.fast p.jobs ≡ Some p
plan_of_jobs p sound = by_jobs p.jobs refl (and_parts _ _ sound).1
  where
    by_jobs : (js : List Job) → p.jobs ≡ js → list_any (λ (j : Job). j.voting) js ≡ true → file.plan_with p.serial p.fast js ≡ Some p
    by_jobs [] e some = absurd (false≢true some)
    by_jobs (j ∷ js) e some = λ i. Some (record { serial = p.serial; jobs = sym e i; fast = p.fast })

module _ (c : Settings) (x : Content) (b : Stored) (told : Matches b (tables c x)) where
  -- the jobs under a serial
  jobs_are : (n : ℕ) → file.stored_jobs_of b n ≡ jobs_in x.state.plans n
  jobs_are n = ap (map (λ (y : JobRow). y.job)) (told.plans_are.jobs_are n) ∙ jobs_of_rows n 0 (jobs_in x.state.plans n)

  -- they stand at their places
  pub jobs_are_placed : ArePlaced b
  jobs_are_placed n = told.plans_are.jobs_are n ∙ ap (job_rows n 0) (sym (jobs_are n))

module _ (c : Settings) (x : Content) (b : Stored) (lawful : IsLawfulContent c x) (told : Matches b (tables c x)) where
  -- the plan under a serial
  pub plan_is : (n : ℕ) → file.stored_plan_at b n ≡ content.plan_at x.state n
  plan_is n =
      (λ i. file.plan_with n (told.plans_are.fast_are n i) (jobs_are c x b told n i))
      ∙ by_plan (find (λ (p : Plan). p.serial == n) x.state.plans) refl
    where
      by_plan : (o : Option Plan) → find (λ (p : Plan). p.serial == n) x.state.plans ≡ o →
          file.plan_with n (option_map_or (λ (p : Plan). p.fast) o false) (option_map_or (λ (p : Plan). p.jobs) o []) ≡ o
      by_plan None e = refl
      by_plan (Some p) e =
          let at = found (λ (p : Plan). p.serial == n) x.state.plans p e in
          let sound = every (λ (p : Plan). are_sound_jobs p.jobs ≡ true) x.state.plans lawful.lawful.sound.planned.sound p at.0 in
          ap (λ m. file.plan_with m p.fast p.jobs) (sym (eqb-true p.serial n at.1)) ∙ plan_of_jobs p sound

  -- the names of the jobs of a plan
  named : (n : ℕ) (j : Job) → In j (jobs_in x.state.plans n) → is_name j.name ≡ true
  named n j m = by_plan (find (λ (p : Plan). p.serial == n) x.state.plans) refl m
    where
      by_plan : (o : Option Plan) → find (λ (p : Plan). p.serial == n) x.state.plans ≡ o →
          In j (option_map_or (λ (p : Plan). p.jobs) o []) → is_name j.name ≡ true
      by_plan None e none = absurd none
      by_plan (Some p) e m =
          let at = found (λ (p : Plan). p.serial == n) x.state.plans p e in
          let form = every (λ (p : Plan). is_plan_in_form p ≡ true) x.state.plans lawful.in_form.state.plans p at.0 in
          all_from (λ (j : Job). is_name j.name) p.jobs (and_parts (is_drawn_number p.serial) _ form).1 j m

  -- the rows of the jobs
  pub jobs_in_form : AllPass is_job_row_in_form b.jobs
  jobs_in_form =
      all (λ (y : JobRow). is_job_row_in_form y ≡ true) b.jobs (λ y m.
      let mine = to_filter (λ (z : JobRow). z.serial == y.serial) b.jobs y m (eq-eqb y.serial y.serial refl) in
      named y.serial y.job (job_of_row y.serial 0 (jobs_in x.state.plans y.serial) y
      (subst (λ l. In y l) (told.plans_are.jobs_are y.serial) mine)))
