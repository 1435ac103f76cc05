-- The plans that a file of schema 1 gets.
use Rattle.std.proofs.Common.{◌≡◌, ◌∙◌, ◌++◌, ◌<◌, ◌+◌, ℕ, suc, Bool, true, false, cond, List, [], ◌∷◌, drop, get_or}
use Rattle.std.proofs.Common.{length, map, Option, Some, None, option_map, find, refl, sym, ap, subst, arith}
use Rattle.std.proofs.Common.{append_assoc, append-nil, take, ◌≤◌}
use Rattle.std.specs.Prelude.{◌==◌, flat_map, unwrap_or}
use Rattle.std.specs.List.{AllByRecursion}
use Rattle.std.proofs.lemmas.List.{map-append}
use Rattle.std.proofs.lemmas.List.Concat.{flat_map-cons}
use Rattle.sqlite.specs.State.{State as SqlState}
use Rattle.gate_types.specs.Migrate.{item_plan, landing_plan, plans_of_queue}
use Rattle.gate_types.specs.Names.{same_name}
use Rattle.gate_types.specs.Settings.{Settings}
use Rattle.gate_types.specs.State.{Item, Queue, State, change_of, known_change, project_of}
use Rattle.gate_types.specs.Tables.{change_row}
use Rattle.gate_types.specs.declared.config.Project.{Project}
use Rattle.gate_types.specs.declared.config.Queue.{Queue as QueueSetting}
use Rattle.gate_types.specs.declared.edits.Edit.{Edit}
use Rattle.gate_types.specs.declared.edits.Edit.TheVariants as edit
use Rattle.gate_types.specs.declared.records.Change.{Change}
use Rattle.gate_types.specs.declared.records.Landing.{Landing}
use Rattle.gate_types.specs.declared.records.Plan.{Plan}
use Rattle.gate_types.specs.declared.records.Ready.{Ready}
use Rattle.gate_types.specs.declared.rows.ChangeRow.{ChangeRow}
use Rattle.gate_schema.specs.Rows.{Stored, change_key}
use Rattle.gate_rows.proofs.ThenLemmas.{survives_itself}
use Rattle.gate_queue_queries.specs.First.{IsProjectOf}
use Rattle.gate_found_rows.specs.Reads.{IsOnlyRead}
use Rattle.gate_migration.specs.Migrates.{TellsQueue, pair_of_item, plan_for, puts}
use Rattle.gate_book_trait.proofs.Finding.{rest_at, rest_none}

-- ---- the project of a change

-- what the rows tell of a change's project is what the state says
project_told : (ready : List Ready) (ks : List Change) (n : ℕ) (name : List ℕ) → IsProjectOf (map (change_row ready) ks) n name
    → option_map (λ (k : Change). k.project) (find (λ (k : Change). k.number == n) ks) ≡ Some name
project_told ready [] n name is = is
project_told ready (k ∷ ks) n name is = go (k.number == n) is (project_told ready ks n name)
  where
    go : (t : Bool) → option_map (λ (r : ChangeRow). r.change.project) (cond t (Some (change_row ready k)) (find (λ (r : ChangeRow). change_key r == n) (map (change_row ready) ks))) ≡ Some name
        → (IsProjectOf (map (change_row ready) ks) n name → option_map (λ (k : Change). k.project) (find (λ (k : Change). k.number == n) ks) ≡ Some name)
        → option_map (λ (k : Change). k.project) (cond t (Some k) (find (λ (k : Change). k.number == n) ks)) ≡ Some name
    go true is more = is
    go false is more = more is

known_project : (s : State) (n : ℕ) (name : List ℕ) (o : Option Change) → option_map (λ (k : Change). k.project) o ≡ Some name → (unwrap_or o (change_of (record s { changes = [] }) n)).project ≡ name
known_project s n name None is = absurd cc
known_project s n name (Some k) is = cc

-- the project that has the name is that of the change
pub project_is : (c : Settings) (s : State) (b : Stored) (n : ℕ) (name : List ℕ) (p : Project) → b.changes ≡ map (change_row s.ready) s.changes → IsProjectOf b.changes n name
    → Some p ≡ find (λ (p : Project). same_name p.name name) c.projects → p ≡ project_of c s n
project_is c s b n name p are is found =
    let told = project_told s.ready s.changes n name (subst (λ rows. IsProjectOf rows n name) are is) in
    let named : (change_of s n).project ≡ name = known_project s n name (known_change s n) told in
    let there : find (λ (p : Project). same_name p.name (change_of s n).project) c.projects ≡ Some p =
    ap (λ m. find (λ (p : Project). same_name p.name m) c.projects) named ∙ sym found in
    sym (ap (λ (o : Option Project). unwrap_or o (record { name = []; queue = []; jobs = []; fail_fast = false })) there)

-- ---- reads in turn

-- nothing is read yet
pub nothing_read : (s : SqlState) → IsOnlyRead s s
nothing_read s = record {
  clean = λ up. up;
  stays = λ clean. record { was_open = λ up. up; now_is = λ up. refl };
  crash = λ clean. survives_itself s;
}

-- ---- lists

-- the serial of a landing, and its change
abbrev pub pair_of_landing : Landing → ℕ × ℕ
pair_of_landing l = (l.serial, l.change)

-- the plans of a queue are those of its items and then those of its landings
pub queue_plans : (c : Settings) (s : State) (q : Queue)
    → puts (plans_of_queue c s q) ≡ puts (map (plan_for c s true) (map pair_of_item q.items)) ++ puts (map (plan_for c s false) (map pair_of_landing q.landings))
queue_plans c s q =
    map-append (λ (p : Plan). edit.PutPlan p) (map (item_plan c s) q.items) (map (landing_plan c s) q.landings)
    ∙ ap (λ l. puts l ++ puts (map (landing_plan c s) q.landings)) (items q.items)
    ∙ ap (λ l. puts (map (plan_for c s true) (map pair_of_item q.items)) ++ puts l) (landings q.landings)
  where
    items : (is : List Item) → map (item_plan c s) is ≡ map (plan_for c s true) (map pair_of_item is)
    items [] = refl
    items (i ∷ is) = ap (λ l. item_plan c s i ∷ l) (items is)

    landings : (ls : List Landing) → map (landing_plan c s) ls ≡ map (plan_for c s false) (map pair_of_landing ls)
    landings [] = refl
    landings (l ∷ ls) = ap (λ m. landing_plan c s l ∷ m) (landings ls)

-- the plan of a pair more
pub push_more : (f : ℕ × ℕ → Plan) (olds : List Edit) (k : ℕ) (pairs : List (ℕ × ℕ)) (one : ℕ × ℕ) (plan : Plan) → plan ≡ f one → take (suc k) pairs ≡ take k pairs ++ one ∷ []
    → (olds ++ puts (map f (take k pairs))) ++ puts (plan ∷ []) ≡ olds ++ puts (map f (take (k + 1) pairs))
push_more f olds k pairs one plan is next =
    let step : suc k ≡ k + 1 = omega arith in
    append_assoc olds (puts (map f (take k pairs))) (puts (plan ∷ []))
    ∙ ap (λ l. olds ++ l) (ap (λ (p : Plan). puts (map f (take k pairs)) ++ puts (p ∷ [])) is
    ∙ sym (map-append (λ (p : Plan). edit.PutPlan p) (map f (take k pairs)) (f one ∷ []))
    ∙ ap puts (sym (map-append f (take k pairs) (one ∷ [])) ∙ ap (map f) (sym next ∙ ap (λ m. take m pairs) step)))

-- the plans of a queue behind some edits
pub queue_pushed : (c : Settings) (s : State) (q : Queue) (olds mids news : List Edit) → mids ≡ olds ++ puts (map (plan_for c s true) (map pair_of_item q.items))
    → news ≡ mids ++ puts (map (plan_for c s false) (map pair_of_landing q.landings)) → news ≡ olds ++ puts (plans_of_queue c s q)
queue_pushed c s q olds mids news one two =
    two ∙ ap (λ l. l ++ puts (map (plan_for c s false) (map pair_of_landing q.landings))) one
    ∙ append_assoc olds _ _ ∙ ap (λ l. olds ++ l) (sym (queue_plans c s q))

-- the next of the queues
pub next_queue : (b : Stored) (c : Settings) (s : State) (whole olds news : List Edit) (settings : List QueueSetting) (k : ℕ) (d : QueueSetting) → k < length settings → d ≡ get_or settings k d
    → (rest : List Queue) → map (λ (q : Queue). q.name) rest ≡ map (λ (q : QueueSetting). q.name) (drop k settings) → AllByRecursion (TellsQueue b) rest
    → olds ++ puts (flat_map (plans_of_queue c s) rest) ≡ whole
    → ((q : Queue) → q.name ≡ d.name → TellsQueue b q → news ≡ olds ++ puts (plans_of_queue c s q))
    → (more : List Queue) × (map (λ (q : Queue). q.name) more ≡ map (λ (q : QueueSetting). q.name) (drop (k + 1) settings)) × AllByRecursion (TellsQueue b) more
    × (news ++ puts (flat_map (plans_of_queue c s) more) ≡ whole)
next_queue b c s whole olds news settings k d within at [] names tells is push =
    absurd (let e = names ∙ ap (map (λ (q : QueueSetting). q.name)) (rest_at settings k d within) in cc)
next_queue b c s whole olds news settings k d within at (q ∷ rest) names tells is push =
    let step : suc k ≡ k + 1 = omega arith in
    let both : q.name ∷ map (λ (q : Queue). q.name) rest ≡ (get_or settings k d).name ∷ map (λ (q : QueueSetting). q.name) (drop (suc k) settings) =
    names ∙ ap (map (λ (q : QueueSetting). q.name)) (rest_at settings k d within) in
    let first : q.name ≡ (get_or settings k d).name = cc in
    let others : map (λ (q : Queue). q.name) rest ≡ map (λ (q : QueueSetting). q.name) (drop (suc k) settings) = cc in
    let pushed = push q (first ∙ ap (λ (x : QueueSetting). x.name) (sym at)) tells.0 in (
      rest,
      others ∙ ap (λ m. map (λ (q : QueueSetting). q.name) (drop m settings)) step,
      tells.1,
      ap (λ l. l ++ puts (flat_map (plans_of_queue c s) rest)) pushed ∙ append_assoc olds _ _
          ∙ ap (λ l. olds ++ l) (sym (map-append (λ (p : Plan). edit.PutPlan p) (plans_of_queue c s q) (flat_map (plans_of_queue c s) rest)) ∙ ap puts (sym (flat_map-cons (plans_of_queue c s) q rest))) ∙ is,
    )

-- behind the last there is none
pub last_queue : (b : Stored) (c : Settings) (s : State) (whole olds : List Edit) (settings : List QueueSetting) (k : ℕ) → length settings ≤ k
    → (rest : List Queue) → map (λ (q : Queue). q.name) rest ≡ map (λ (q : QueueSetting). q.name) (drop k settings) → olds ++ puts (flat_map (plans_of_queue c s) rest) ≡ whole → olds ≡ whole
last_queue b c s whole olds settings k over [] names is = sym (append-nil olds) ∙ is
last_queue b c s whole olds settings k over (q ∷ rest) names is = absurd (let e = names ∙ ap (map (λ (q : QueueSetting). q.name)) (rest_none settings k over) in cc)
