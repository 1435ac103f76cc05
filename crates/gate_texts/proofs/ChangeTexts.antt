-- The text of a change, from what is told of it.
use Rattle.std.proofs.Common.{◌≡◌, ℕ, Bool, true, false, Option, Some, None, List, [], ◌++◌, map, refl, sym, ap}
use Rattle.std.proofs.Common.{◌∙◌, append_assoc, true≢false}
use Rattle.std.specs.Prelude.{◌==◌, find, unwrap_or}
use Rattle.std.proofs.lemmas.Bool.{eqb-true}
use Rattle.gate_types.specs.declared.config.Project.{Project}
use Rattle.gate_types.specs.declared.records.Change.{Change}
use Rattle.gate_types.specs.declared.records.Stage.TheVariants as stage
use Rattle.gate_types.specs.Names.{same_name}
use Rattle.gate_types.specs.Settings.{Settings}
use Rattle.gate_types.specs.State.{State, known_change, change_of, project_of}
use Rattle.gate_types.specs.JsonText.{joined}
use Rattle.gate_types.specs.Tables.{approval_of}
use Rattle.gate_types.specs.Step.{has_project}
use Rattle.gate_types.specs.Lawful.{IsSound}
use Rattle.gate_laws.proofs.Members.{every, found, not_found, any_from}
use Rattle.gate_archive.specs.ChangeText.{stands_in, serial_of_change, need_word, need_object, need_piece, takes_no_more}
use Rattle.gate_archive.specs.ChangeText.{change_object, change_text_in, change_text}
use Rattle.gate_texts.specs.Changes.{standing_of, need_told, change_told}
use Rattle.gate_texts.specs.declared.change.Standing.{Standing}
use Rattle.gate_texts.proofs.Entries.{AreEntries, array_is, number_is, name_is}

-- ---- a need

-- a need by what is told of it
pub need_is : (c : Settings) (s : State) (n : ℕ) (w : Standing) (known : Option Change) (rest : List ℕ) →
    w ≡ standing_of c s n → known ≡ known_change s n → need_told n w (need_word known) rest ≡ need_piece c s n rest
need_is c s n w known rest e k =
    (λ i. need_told n (e i) (need_word (k i)) rest)
    ∙ (λ i. need_object n (λ r. number_is (approval_of s.ready n) r i) (λ r. name_is (stands_in c s n) r i)
    (need_word (known_change s n)) rest)

pub needs_are : (c : Settings) (s : State) → AreEntries (need_piece c s)
needs_are c s = record {
  begins = λ n. refl;
  behind = λ n rest.
      let w = standing_of c s n in
      let known = known_change s n in
      sym (need_is c s n w known rest refl refl)
      ∙ behind_told n w (need_word known) rest
      ∙ ap (λ l. l ++ rest) (need_is c s n w known [] refl refl);
}
  where
    behind_told : (n : ℕ) (w : Standing) (state rest : List ℕ) →
        need_told n w state rest ≡ need_told n w state [] ++ rest
    behind_told n w state rest = simp append_assoc

-- ---- a change

pub change_is : (c : Settings) (s : State) (k : Change) (queue : List ℕ) (w : Standing) (full : Bool)
    (needs text : List ℕ) → w ≡ standing_of c s k.number → full ≡ takes_no_more c s queue →
    needs ≡ joined (map (need_piece c s) k.needs) [] → text ≡ change_told k w queue full needs [] →
    text ≡ change_text_in c s k queue
change_is c s k queue w full needs text e f n t =
    t ∙ (λ i. change_told k (e i) queue (f i) needs [])
    ∙ (λ i. change_object k (λ r. number_is (approval_of s.ready k.number) r i) queue (takes_no_more c s queue)
    (λ r. array_is (needs_are c s) k.needs needs r n i) (λ r. number_is (serial_of_change c s k.number) r i) [])

-- ---- its project

-- the queue of a change that is known is that of the project that it names
pub queue_is : (c : Settings) (s : State) (n : ℕ) (k : Change) (p : Project) → known_change s n ≡ Some k →
    find (λ (r : Project). same_name r.name k.project) c.projects ≡ Some p →
    change_text_in c s k p.queue ≡ change_text c s k
queue_is c s n k p e f = ap (change_text_in c s k) (sym (ap (λ (r : Project). r.queue) project_is))
  where
    none : Project
    none = record { name = []; queue = []; jobs = []; fail_fast = false }

    number_is_n : k.number ≡ n
    number_is_n = eqb-true k.number n (found (λ (j : Change). j.number == n) s.changes k e).1

    change_is_k : change_of s k.number ≡ k
    change_is_k = ap (λ (o : Option Change). unwrap_or o
        (record { number = k.number; project = []; revision = 0; stage = stage.Closed; needs = [] }))
        (ap (known_change s) number_is_n ∙ e)

    project_is : project_of c s k.number ≡ p
    project_is = ap (λ (j : Change). unwrap_or (find (λ (r : Project). same_name r.name j.project) c.projects) none)
        change_is_k ∙ ap (λ (o : Option Project). unwrap_or o none) f

-- and it names one of the settings
pub project_there : (c : Settings) (s : State) → IsSound c s → (n : ℕ) (k : Change) → known_change s n ≡ Some k →
    find (λ (r : Project). same_name r.name k.project) c.projects ≡ None → ⊥
project_there c s h n k e f =
    let m = (found (λ (j : Change). j.number == n) s.changes k e).0 in
    let is_set = every (λ (j : Change). has_project c j.project ≡ true) s.changes h.projects_are_set k m in
    let one = any_from (λ (r : Project). same_name r.name k.project) c.projects is_set in
    true≢false (sym one.2 ∙ not_found (λ (r : Project). same_name r.name k.project) c.projects f one.0 one.1)
