-- What is read is sound and in form.
use Rattle.std.proofs.Common.{◌≡◌, ℕ, Bool, true, false, cond, List, [], ◌∷◌, Option, Some, None, refl, subst}
use Rattle.std.specs.Prelude.{codes, option_map}
use Rattle.std.specs.List.{list_all}
use Rattle.std.proofs.lemmas.Bool.{and_from}
use Rattle.serde_json.specs.Data.{Data}
use Rattle.gate_types.specs.declared.config.Job.{Job}
use Rattle.gate_types.specs.declared.config.Queue.{Queue}
use Rattle.gate_types.specs.declared.config.Project.{Project}
use Rattle.gate_types.specs.Names.{is_name, is_path_name, is_base}
use Rattle.gate_types.specs.Settings.{Settings, are_sound}
use Rattle.gate_types.specs.Forms.{is_project_in_form, are_settings_in_form}
use Rattle.gate_types.specs.Reading.{passing, value_of}
use Rattle.gate_types.specs.Reading.{text_at}
use Rattle.gate_kept_settings.specs.Reading.{◌>>=◌, each, list_at, truth_at, name_at, path_name_at}
use Rattle.gate_kept_settings.specs.Reading.{base_at, number_at, rule_at, flag_at, job_at, queue_at, project_at}
use Rattle.gate_kept_settings.specs.Reading.{settings_at, kept_said_by}

-- where something is said, all on the way to it was said
said : {A B : Type 0} (o : Option A) (f : A → Option B) (b : B) → o >>= f ≡ Some b → (a : A) × (o ≡ Some a) × (f a ≡ Some b)
said None f b e = absurd cc
said (Some a) f b e = (a, refl, e)

pub same : {A : Type 0} (x y : A) → Some x ≡ Some y → x ≡ y
same x y e = cc

passed_by : {A : Type 0} (test : A → Bool) (t : Bool) (x y : A) → test x ≡ t → cond t (Some x) None ≡ Some y → test y ≡ true
passed_by test true x y h e = subst (λ z. test z ≡ true) (same x y e) h
passed_by test false x y h e = absurd cc

passed : {A : Type 0} (test : A → Bool) (x y : A) → passing test x ≡ Some y → test y ≡ true
passed test x y e = passed_by test (test x) x y refl e

passes_by : {A : Type 0} (t : Bool) (x y : A) → cond t (Some x) None ≡ Some y → x ≡ y
passes_by true x y e = same x y e
passes_by false x y e = absurd cc

passed_same : {A : Type 0} (test : A → Bool) (x y : A) → passing test x ≡ Some y → x ≡ y
passed_same test x y e = passes_by (test x) x y e

cons_passes : {X : Type 0} (p : X → Bool) (x : X) (o : Option (List X)) (xs : List X) → option_map (λ ys. x ∷ ys) o ≡ Some xs → p x ≡ true → ((ys : List X) → o ≡ Some ys → list_all p ys ≡ true) → list_all p xs ≡ true
cons_passes p x None xs e t f = absurd cc
cons_passes p x (Some ys) xs e t f = subst (λ l. list_all p l ≡ true) (same (x ∷ ys) xs e) (and_from _ _ t (f ys refl))

-- where all values say something, each says what passes a test
each_passes : {A X : Type 0} (f : A → Option X) (p : X → Bool) → ((a : A) (x : X) → f a ≡ Some x → p x ≡ true) → (vs : List A) (xs : List X) → each f vs ≡ Some xs → list_all p xs ≡ true
each_passes f p h [] xs e = subst (λ l. list_all p l ≡ true) (same [] xs e) refl
each_passes f p h (v ∷ vs) xs e =
    let (x, here, more) = said (f v) (λ y. option_map (λ ys. y ∷ ys) (each f vs)) xs e in
    cons_passes p x (each f vs) xs more (h v x here) (λ ys k. each_passes f p h vs ys k)

of_name : (key : List ℕ) (d : Data) (n : List ℕ) → name_at key d ≡ Some n → is_name n ≡ true
unfolding name_at
of_name key d n e = let (s, at, good) = said (text_at key d) (passing is_name) n e in passed is_name s n good

of_path_name : (key : List ℕ) (d : Data) (n : List ℕ) → path_name_at key d ≡ Some n → is_path_name n ≡ true
unfolding path_name_at
of_path_name key d n e = let (s, at, good) = said (text_at key d) (passing is_path_name) n e in passed is_path_name s n good

of_base : (key : List ℕ) (d : Data) (n : List ℕ) → base_at key d ≡ Some n → is_base n ≡ true
unfolding base_at
of_base key d n e = let (s, at, good) = said (text_at key d) (passing is_base) n e in passed is_base s n good

of_job : (d : Data) (j : Job) → job_at d ≡ Some j → is_name j.name ≡ true
unfolding job_at
of_job d j e =
    let (name, named, rest) = said (name_at (codes "name") d) _ j e in
    let (voting, votes, made) = said (truth_at (codes "voting") d) _ j rest in
    subst (λ (k : Job). is_name k.name ≡ true) (same _ j made) (of_name (codes "name") d name named)

of_queue : (d : Data) (q : Queue) → queue_at d ≡ Some q → is_name q.name ≡ true
unfolding queue_at
of_queue d q e =
    let (name, named, rest) = said (name_at (codes "name") d) _ q e in
    let (window, has_window, more) = said (number_at (codes "window") d) _ q rest in
    let (floor, has_floor, ruled) = said (number_at (codes "floor") d) _ q more in
    let (rule, has_rule, made) = said (rule_at d) _ q ruled in
    subst (λ (k : Queue). is_name k.name ≡ true) (same _ q made) (of_name (codes "name") d name named)

of_project : (d : Data) (p : Project) → project_at d ≡ Some p → is_project_in_form p ≡ true
unfolding project_at
of_project d p e =
    let (name, named, rest) = said (path_name_at (codes "name") d) _ p e in
    let (queue, has_queue, more) = said (name_at (codes "queue") d) _ p rest in
    let (jobs, has_jobs, flagged) = said (list_at (codes "jobs") d >>= each job_at) _ p more in
    let (fail_fast, has_flag, made) = said (flag_at (codes "fail_fast") d) _ p flagged in
    let (values, listed, all) = said (list_at (codes "jobs") d) (each job_at) jobs has_jobs in
    subst (λ k. is_project_in_form k ≡ true) (same _ p made)
    (and_from _ _ (and_from _ _ (of_path_name (codes "name") d name named) (of_name (codes "queue") d queue has_queue)) (each_passes job_at (λ j. is_name j.name) of_job values jobs all))

of_settings : (d : Data) (c : Settings) → settings_at d ≡ Some c → (are_sound c ≡ true) × (are_settings_in_form c ≡ true)
unfolding settings_at
of_settings d c e =
    let (base, based, rest) = said (base_at (codes "base") d) _ c e in
    let (queues, has_queues, more) = said (list_at (codes "queues") d >>= each queue_at) _ c rest in
    let (qs, listed, all) = said (list_at (codes "queues") d) (each queue_at) queues has_queues in
    let (projects, has_projects, made) = said (list_at (codes "projects") d >>= each project_at) _ c more in
    let (ps, listed', all') = said (list_at (codes "projects") d) (each project_at) projects has_projects in
    let all_said : Settings = record { base = base; queues = queues; projects = projects } in (
      passed are_sound all_said c made,
      subst (λ k. are_settings_in_form k ≡ true) (passed_same are_sound all_said c made)
          (and_from _ _ (and_from _ _ (of_base (codes "base") d base based) (each_passes queue_at (λ q. is_name q.name) of_queue qs queues all)) (each_passes project_at is_project_in_form of_project ps projects all')),
    )

-- so are settings that bytes say
pub said_is_good : (bytes : List ℕ) (c : Settings) → kept_said_by bytes ≡ Some c → (are_sound c ≡ true) × (are_settings_in_form c ≡ true)
said_is_good bytes c e = let (d, value, at) = said (value_of bytes) settings_at c e in of_settings d c at
