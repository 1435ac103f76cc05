-- The value that the text of settings is, and the settings that this value says.
use Rattle.std.proofs.Common.{◌≡◌, ℕ, ◌<◌, ◌^◌, Bool, true, false, ◌&&◌, ◌==◌, not, eqb-true, List, [], ◌∷◌, map}
use Rattle.std.proofs.Common.{Option, Some, None, refl, sym, ap, ◌∙◌, arith, leb-true}
use Rattle.std.specs.Prelude.{codes, nat_le, option_map}
use Rattle.std.specs.List.{list_all}
use Rattle.std.specs.Str.{IsUtf8}
use Rattle.json.proofs.Printed.Utf8.{IsUtf8-are_ascii}
use Rattle.std.proofs.lemmas.Bool.{and_parts, and_from}
use Rattle.json.specs.Print.{escape_byte, escape}
use Rattle.serde_json.specs.Data.{Data, number, unsigned, string, boolean, array, object}
use Rattle.serde_json.specs.Find.{as_str, as_number, as_u64, as_bool}
use Rattle.serde_json.specs.View.{items_of}
use Rattle.serde_json.specs.Written.{compact_text}
use Rattle.gate_types.specs.declared.config.Job.{Job}
use Rattle.gate_types.specs.declared.config.Queue.{Queue}
use Rattle.gate_types.specs.declared.config.Project.{Project}
use Rattle.gate_types.specs.declared.config.Pace.{Pace}
use Rattle.gate_types.specs.declared.config.Pace.TheVariants as pace
use Rattle.gate_types.specs.Names.{is_name, is_path_name, is_base}
use Rattle.gate_types.specs.Limits.{most_window, most_factor}
use Rattle.gate_types.specs.Settings.{Settings, are_sound, is_sound_window, is_factor, is_linear, pace_word, pace_named}
use Rattle.gate_types.specs.Forms.{is_project_in_form, are_settings_in_form}
use Rattle.gate_types.specs.SettingsText.{job_text, project_text, queue_text, settings_text}
use Rattle.gate_types.specs.Reading.{passing, value_of}
use Rattle.gate_types.proofs.ReadingLemmas.{value_found}
use Rattle.gate_kept_settings.specs.Reading.{list_of, each, ◌>>=◌, name_at, path_name_at, base_at, number_at}
use Rattle.gate_kept_settings.specs.Reading.{said_or, pace_at, factor_at, flag_at, rule_at, job_at, queue_at}
use Rattle.gate_kept_settings.specs.Reading.{project_at, settings_at, kept_said_by}
use Rattle.gate_kept_settings.specs.Told.{SaysSettings, OneTextASetting}
use Rattle.gate_kept_settings.proofs.ReadBack.{IsFit, AreFit, read_back, text_is_utf8}
use Rattle.gate_kept_settings.proofs.Entries.{Entry, always, unless_default, present, fit_present, or_else, get_present}
use Rattle.gate_kept_settings.proofs.PlainTexts.{escape_name, escape_path_name, utf8_name, utf8_path_name, utf8_base}
use Rattle.gate_kept_settings.proofs.PlainTexts.{prints_plain, prints_escaped, prints_number, prints_boolean, none}
use Rattle.gate_kept_settings.proofs.PlainTexts.{and_member, and_unless, prints_object, prints_list}
use Rattle.gate_kept_settings.proofs.FormLemmas.{same as some_same}

-- ---- the values

abbrev job_entries : Job → List Entry
job_entries j = always (codes "name") (string j.name) ∷ always (codes "voting") (boolean j.voting) ∷ []

abbrev job_data : Job → Data
job_data j = object (present (job_entries j))

abbrev queue_entries : Queue → List Entry
queue_entries q =
    unless_default (not (is_linear q.rule.decrease)) (codes "decrease") (string (pace_word q.rule.decrease)) ∷
    unless_default (q.rule.decrease_by == 2) (codes "decrease_by") (number (unsigned q.rule.decrease_by)) ∷
    always (codes "floor") (number (unsigned q.floor)) ∷
    unless_default (is_linear q.rule.increase) (codes "increase") (string (pace_word q.rule.increase)) ∷
    unless_default (q.rule.increase_by == 1) (codes "increase_by") (number (unsigned q.rule.increase_by)) ∷
    always (codes "name") (string q.name) ∷
    always (codes "window") (number (unsigned q.window)) ∷ []

abbrev queue_data : Queue → Data
queue_data q = object (present (queue_entries q))

abbrev project_entries : Project → List Entry
project_entries p =
    unless_default (not p.fail_fast) (codes "fail_fast") (boolean p.fail_fast) ∷
    always (codes "jobs") (array (items_of (map job_data p.jobs))) ∷
    always (codes "name") (string p.name) ∷
    always (codes "queue") (string p.queue) ∷ []

abbrev project_data : Project → Data
project_data p = object (present (project_entries p))

abbrev settings_entries : Settings → List Entry
settings_entries c =
    always (codes "base") (string c.base) ∷
    always (codes "projects") (array (items_of (map project_data c.projects))) ∷
    always (codes "queues") (array (items_of (map queue_data c.queues))) ∷ []

abbrev settings_data : Settings → Data
settings_data c = object (present (settings_entries c))

-- ---- what the parts of sound settings in form pass

abbrev is_good_job : Job → Bool
is_good_job j = is_name j.name

abbrev is_good_queue : Queue → Bool
is_good_queue q = is_name q.name && is_sound_window q

-- the window and the floor of a queue
record Numbers (q : Queue) : Type 0 where
  window : nat_le q.window most_window ≡ true
  floor : nat_le q.floor most_window ≡ true
  increase : is_factor q.rule.increase_by ≡ true
  decrease : is_factor q.rule.decrease_by ≡ true

-- the numbers of a sound queue
numbers_of : (q : Queue) → is_sound_window q ≡ true → Numbers q
numbers_of q h =
    let (tests, rule) = and_parts _ _ h in
    let (first, last) = and_parts _ _ tests in
    let (second, floor) = and_parts _ _ first in
    let (increase, decrease) = and_parts _ _ rule in
    record { window = (and_parts _ _ second).0; floor = floor; increase = increase; decrease = decrease }

fits : (n : ℕ) → nat_le n most_window ≡ true → n < 2 ^ 64
fits n h = omega (arith, leb-true n most_window h)

fits_factor : (n : ℕ) → is_factor n ≡ true → n < 2 ^ 64
fits_factor n h = omega (arith, leb-true n most_factor (and_parts _ _ h).1)

-- the words of paces need no escape
escape_pace : (p : Pace) → escape (pace_word p) ≡ pace_word p
unfolding escape_byte
escape_pace pace.Linear = refl
escape_pace pace.Exponential = refl

utf8_pace : (p : Pace) → IsUtf8 (pace_word p)
utf8_pace pace.Linear = IsUtf8-are_ascii _ refl
utf8_pace pace.Exponential = IsUtf8-are_ascii _ refl

all_both : {X : Type 0} (p q : X → Bool) (xs : List X) → list_all p xs ≡ true → list_all q xs ≡ true → list_all (λ x. p x && q x) xs ≡ true
all_both p q [] h k = refl
all_both p q (x ∷ xs) h k =
    let (here, later) = and_parts (p x) _ h in
    let (here', later') = and_parts (q x) _ k in
    and_from _ _ (and_from _ _ here here') (all_both p q xs later later')

record Good (c : Settings) : Type 0 where
  base : is_base c.base ≡ true
  queues : list_all is_good_queue c.queues ≡ true
  projects : list_all is_project_in_form c.projects ≡ true

good : (c : Settings) → are_sound c ≡ true → are_settings_in_form c ≡ true → Good c
good c s f =
    let (first, projects) = and_parts _ _ f in
    let (base, names) = and_parts _ _ first in
    let (tests, last) = and_parts _ _ s in
    let (more, windows) = and_parts _ _ tests in
    record { base = base; queues = all_both _ _ c.queues names windows; projects = projects }

-- ---- their texts

job_told : (j : Job) → is_good_job j ≡ true → job_text j ≡ compact_text (job_data j)
unfolding escape_byte
job_told j h = prints_object (
    and_member (codes "name") refl (prints_plain j.name (escape_name j.name h)) (
    and_member (codes "voting") refl (prints_boolean j.voting) none))

queue_told : (q : Queue) → is_good_queue q ≡ true → queue_text q ≡ compact_text (queue_data q)
unfolding escape_byte
queue_told q h = prints_object (
    and_unless (not (is_linear q.rule.decrease)) (codes "decrease") refl (prints_plain (pace_word q.rule.decrease) (escape_pace q.rule.decrease)) (
    and_unless (q.rule.decrease_by == 2) (codes "decrease_by") refl (prints_number q.rule.decrease_by) (
    and_member (codes "floor") refl (prints_number q.floor) (
    and_unless (is_linear q.rule.increase) (codes "increase") refl (prints_plain (pace_word q.rule.increase) (escape_pace q.rule.increase)) (
    and_unless (q.rule.increase_by == 1) (codes "increase_by") refl (prints_number q.rule.increase_by) (
    and_member (codes "name") refl (prints_plain q.name (escape_name q.name (and_parts _ _ h).0)) (
    and_member (codes "window") refl (prints_number q.window) none)))))))

project_told : (p : Project) → is_project_in_form p ≡ true → project_text p ≡ compact_text (project_data p)
unfolding escape_byte
project_told p h =
    let (names, jobs) = and_parts _ _ h in
    let (name, queue) = and_parts _ _ names in
    prints_object (
    and_unless (not p.fail_fast) (codes "fail_fast") refl (prints_boolean p.fail_fast) (
    and_member (codes "jobs") refl (prints_list job_text job_data is_good_job job_told p.jobs jobs) (
    and_member (codes "name") refl (prints_plain p.name (escape_path_name p.name name)) (
    and_member (codes "queue") refl (prints_plain p.queue (escape_name p.queue queue)) none))))

settings_told : (c : Settings) → Good c → settings_text c ≡ compact_text (settings_data c)
unfolding escape_byte
settings_told c h = prints_object (
    and_member (codes "base") refl (prints_escaped c.base) (
    and_member (codes "projects") refl (prints_list project_text project_data is_project_in_form project_told c.projects h.projects) (
    and_member (codes "queues") refl (prints_list queue_text queue_data is_good_queue queue_told c.queues h.queues) none)))

-- ---- they are read back

each_fit : {X : Type 0} (g : X → Data) (p : X → Bool) (n : ℕ) → ((x : X) → p x ≡ true → IsFit (g x) n) → (xs : List X) → list_all p xs ≡ true → AreFit (items_of (map g xs)) n
each_fit g p n f [] h = tt
each_fit g p n f (x ∷ xs) h = let (here, later) = and_parts (p x) (list_all p xs) h in (f x here, each_fit g p n f xs later)

job_fit : (j : Job) → is_good_job j ≡ true → IsFit (job_data j) 1
job_fit j h = fit_present (job_entries j) 0 refl (utf8_name j.name h, (tt, tt))

queue_fit : (q : Queue) → is_good_queue q ≡ true → IsFit (queue_data q) 3
queue_fit q h =
    let (name, window) = and_parts (is_name q.name) (is_sound_window q) h in
    let n = numbers_of q window in
    fit_present (queue_entries q) 2 refl (
      utf8_pace q.rule.decrease,
      (
        fits_factor q.rule.decrease_by n.decrease,
        (
          fits q.floor n.floor,
          (
            utf8_pace q.rule.increase,
            (
              fits_factor q.rule.increase_by n.increase,
              (
                utf8_name q.name name,
                (fits q.window n.window, tt),
              ),
            ),
          ),
        ),
      ),
    )

project_fit : (p : Project) → is_project_in_form p ≡ true → IsFit (project_data p) 3
project_fit p h =
    let (names, jobs) = and_parts (is_path_name p.name && is_name p.queue) (list_all is_good_job p.jobs) h in
    let (name, queue) = and_parts (is_path_name p.name) (is_name p.queue) names in
    fit_present (project_entries p) 2 refl (
      tt,
      (each_fit job_data is_good_job 1 job_fit p.jobs jobs, (utf8_path_name p.name name, (utf8_name p.queue queue, tt))),
    )

settings_fit : (c : Settings) → Good c → IsFit (settings_data c) 5
settings_fit c h = fit_present (settings_entries c) 4 refl (
  utf8_base c.base h.base,
  (
    each_fit project_data is_project_in_form 3 project_fit c.projects h.projects,
    (
      each_fit queue_data is_good_queue 3 queue_fit c.queues h.queues,
      tt,
    ),
  ),
)

-- ---- what they say

pub list_of_items : (ds : List Data) → list_of (items_of ds) ≡ ds
list_of_items [] = refl
list_of_items (d ∷ ds) = ap (λ l. d ∷ l) (list_of_items ds)

each_said : {X : Type 0} (f : Data → Option X) (g : X → Data) (p : X → Bool) → ((x : X) → p x ≡ true → f (g x) ≡ Some x) → (xs : List X) → list_all p xs ≡ true → each f (map g xs) ≡ Some xs
each_said f g p h [] e = refl
each_said f g p h (x ∷ xs) e =
    let (here, later) = and_parts (p x) (list_all p xs) e in
    ap (λ o. o >>= λ y. option_map (λ ys. y ∷ ys) (each f (map g xs))) (h x here) ∙ ap (option_map (λ ys. x ∷ ys)) (each_said f g p h xs later)

list_said : {X : Type 0} (f : Data → Option X) (g : X → Data) (p : X → Bool) → ((x : X) → p x ≡ true → f (g x) ≡ Some x) → (xs : List X) → list_all p xs ≡ true → each f (list_of (items_of (map g xs))) ≡ Some xs
list_said f g p h xs e = ap (each f) (list_of_items (map g xs)) ∙ each_said f g p h xs e

passes : {A : Type 0} (test : A → Bool) (x : A) → test x ≡ true → passing test x ≡ Some x
passes test x h = rw h

job_said : (j : Job) → is_good_job j ≡ true → job_at (job_data j) ≡ Some j
unfolding job_at name_at
job_said j h = rw (passes is_name j.name h) refl

-- a pace is read, or it is the default
increase_said : (p : Pace) → said_or pace.Linear (λ e. as_str e >>= pace_named) (or_else (is_linear p) (string (pace_word p)) None) ≡ Some p
increase_said pace.Linear = refl
increase_said pace.Exponential = refl

decrease_said : (p : Pace) → said_or pace.Exponential (λ e. as_str e >>= pace_named) (or_else (not (is_linear p)) (string (pace_word p)) None) ≡ Some p
decrease_said pace.Linear = refl
decrease_said pace.Exponential = refl

-- so is a number
factor_by : (default n : ℕ) (t : Bool) → (n == default) ≡ t → is_factor n ≡ true
    → said_or default (λ e. as_number e >>= as_u64 >>= passing is_factor) (or_else t (number (unsigned n)) None) ≡ Some n
factor_by default n true same h = ap Some (sym (eqb-true n default same))
factor_by default n false same h = passes is_factor n h

factor_said : (default n : ℕ) → is_factor n ≡ true
    → said_or default (λ e. as_number e >>= as_u64 >>= passing is_factor) (or_else (n == default) (number (unsigned n)) None) ≡ Some n
factor_said default n h = factor_by default n (n == default) refl h

flag_said : (b : Bool) → said_or false as_bool (or_else (not b) (boolean b) None) ≡ Some b
flag_said true = refl
flag_said false = refl

rule_said : (q : Queue) → Numbers q → rule_at (queue_data q) ≡ Some q.rule
unfolding rule_at pace_at factor_at
rule_said q n =
    let es = queue_entries q in
    rw (
      get_present (codes "increase") es,
      increase_said q.rule.increase,
      get_present (codes "increase_by") es,
      factor_said 1 q.rule.increase_by n.increase,
      get_present (codes "decrease") es,
      decrease_said q.rule.decrease,
      get_present (codes "decrease_by") es,
      factor_said 2 q.rule.decrease_by n.decrease,
    ) refl

queue_said : (q : Queue) → is_good_queue q ≡ true → queue_at (queue_data q) ≡ Some q
unfolding queue_at name_at number_at
queue_said q h =
    let (name, window) = and_parts (is_name q.name) (is_sound_window q) h in
    let n = numbers_of q window in
    let es = queue_entries q in
    rw (get_present (codes "name") es, name, get_present (codes "window") es, n.window, get_present (codes "floor") es, n.floor, rule_said q n) refl

project_said : (p : Project) → is_project_in_form p ≡ true → project_at (project_data p) ≡ Some p
unfolding project_at path_name_at name_at flag_at
project_said p h =
    let (names, jobs) = and_parts (is_path_name p.name && is_name p.queue) (list_all is_good_job p.jobs) h in
    let (name, queue) = and_parts (is_path_name p.name) (is_name p.queue) names in
    let es = project_entries p in
    rw (
      get_present (codes "name") es,
      name,
      get_present (codes "queue") es,
      queue,
      get_present (codes "jobs") es,
      list_said job_at job_data is_good_job job_said p.jobs jobs,
      get_present (codes "fail_fast") es,
      flag_said p.fail_fast,
    ) refl

settings_said : (c : Settings) → Good c → are_sound c ≡ true → settings_at (settings_data c) ≡ Some c
unfolding settings_at base_at
settings_said c h sound =
    rw (h.base, list_said queue_at queue_data is_good_queue queue_said c.queues h.queues, list_said project_at project_data is_project_in_form project_said c.projects h.projects, sound) refl

-- ---- the text of sound settings in form says them

pub settings_found : (text : List ℕ) (c : Settings) → SaysSettings text c → kept_said_by text ≡ Some c
settings_found text c h =
    let parts = good c h.sound h.in_form in
    let fit = settings_fit c parts in
    let same = h.is ∙ settings_told c parts in
    ap (λ t. value_of t >>= settings_at) same
    ∙ ap (λ o. o >>= settings_at) (value_found _ _ (text_is_utf8 (settings_data c) 5 fit) (read_back (settings_data c) 5 fit (omega arith)))
    ∙ settings_said c parts h.sound

pub one_text_a_setting : OneTextASetting
one_text_a_setting text c d h k = some_same c d (sym (settings_found text c h) ∙ settings_found text d k)
