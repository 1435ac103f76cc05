-- A state that was lawful before there were plans, and what it becomes.
use Rattle.std.specs.Prelude.{ℕ, Bool, true, false, ◌||◌, not, nat_le, ◌+◌, ◌≡◌, ◌↔◌, List, [], map, take, slice_get}
use Rattle.std.specs.Prelude.{flat_map, is_some, All, Contains, IsTrue}
use Rattle.std.specs.List.{AllPass, list_all}
use Rattle.std.specs.List.Sorted.{IsStrictlyIncreasing}
use Rattle.std.specs.Option.{option_map_or}
use Rattle.gate_types.specs.declared.records.Build.{Build}
use Rattle.gate_types.specs.declared.records.Landing.{Landing}
use Rattle.gate_types.specs.Settings.{Settings, are_sound, has_queue}
use Rattle.gate_types.specs.State.{Item, Queue, State, change_of, is_open, is_landed, project_of}
use Rattle.gate_types.specs.Line.{Place, landed_entry}
use Rattle.gate_types.specs.Slot.{is_cut}
use Rattle.gate_types.specs.Standing.{with_ahead, needs_of, places_after}
use Rattle.gate_types.specs.Rebase.{stays_live}
use Rattle.gate_types.specs.Sweep.{judged_after}
use Rattle.gate_types.specs.Admit.{may_enter}
use Rattle.gate_types.specs.Step.{has_project, is_exhausted}
use Rattle.gate_types.specs.Evidence.{is_one_on, passed_builds}
use Rattle.gate_types.specs.Once.{Content}
use Rattle.gate_types.specs.Migrate.{migrated, migrated_content}
use Rattle.gate_types.specs.Lawful.{IsLawful, IsDistinct, landed_changes, waiting_changes, serials_of, drawn_serials}
use Rattle.gate_types.specs.Lawful.{TellsLandings, is_sound_item, is_overtaken_rightly, is_sound_build, is_single}
use Rattle.gate_types.specs.Forms.{are_settings_in_form, IsContentInForm, IsLawfulContent}

-- the place of an item, by its change's project
abbrev pub place_before : Settings → State → Queue → Item → Place
place_before c s q i = record {
  landings = q.landings;
  ahead = [];
  item = i;
  needs = needs_of s i.change;
  jobs = (project_of c s i.change).jobs;
  fast = (project_of c s i.change).fail_fast;
}

-- the places of a queue, and of all
abbrev pub places_before : Settings → State → Queue → List Place
places_before c s q = places_after s.builds [] (map (place_before c s q) q.items)

abbrev pub all_before : Settings → State → List Place
all_before c s = flat_map (places_before c s) s.queues

-- each voting job of a landing's project has passed just once, on the first n landings
abbrev pub is_shown_before : Settings → State → Queue → ℕ → Landing → Bool
is_shown_before c s q n l =
    list_all (λ j. not j.voting ||
    is_one_on q.landings (map landed_entry (take n q.landings)) (passed_builds s.builds l.serial j))
    (project_of c s l.change).jobs

-- what was true of each state that the gate was ever in; its settling is told as what a settled state is
pub record WasLawful (c : Settings) (s : State) : Type 0 where
  pub queues_are_set : map (λ q. q.name) s.queues ≡ map (λ r. r.name) c.queues
  pub changes_rise : IsStrictlyIncreasing (map (λ k. k.number) s.changes)
  pub items_rise : All (λ q. IsStrictlyIncreasing (map (λ i. i.serial) q.items)) s.queues
  pub landings_rise : All (λ q. IsStrictlyIncreasing (map (λ l. l.serial) q.landings)) s.queues
  pub builds_rise : IsStrictlyIncreasing (map (λ b. b.number) s.builds)
  pub ready_rises : IsStrictlyIncreasing (map (λ r. r.approval) s.ready)
  pub serials_differ : IsDistinct (flat_map serials_of s.queues)
  pub reports_tell_landings : All TellsLandings s.queues
  pub items_are_sound : All (λ q. AllPass (is_sound_item c s q) q.items) s.queues
  pub ready_are_open : AllPass (λ r. is_open (change_of s r.change)) s.ready
  pub projects_are_set : AllPass (λ k. has_project c k.project) s.changes
  pub waiting_differ : IsDistinct (waiting_changes s)
  pub landed_differ : IsDistinct (landed_changes s)
  pub landed_are_landings : (n : ℕ) → IsTrue (is_landed (change_of s n)) ↔ Contains (landed_changes s) n
  pub overtaken_rightly : AllPass (is_overtaken_rightly s) (all_before c s)
  pub builds_are_sound : AllPass (is_sound_build s) s.builds
  pub builds_are_single : All (λ p. AllPass (is_single s p) p.jobs) (all_before c s)
  pub landings_are_shown :
      All (λ q. (k : ℕ) → IsTrue (option_map_or (is_shown_before c s q (k + 1)) (slice_get q.landings k) true)) s.queues
  pub approvals_are_drawn : AllPass (λ r. nat_le r.approval s.counters.approval) s.ready
  pub builds_are_set : AllPass (λ b. has_queue c.queues b.queue) s.builds
  pub builds_are_drawn : AllPass (λ b. nat_le b.number s.counters.build) s.builds
  pub serials_are_drawn : AllPass (λ n. nat_le n s.counters.order) (drawn_serials s)
  pub live_stay : AllPass (λ b. not b.live || stays_live s.builds (all_before c s) b) s.builds
  pub nobody_goes :
      All (λ q. AllPass (λ j. not (is_some j.verdict)) (judged_after s.builds [] (places_before c s q))) s.queues
  pub nobody_enters : AllPass (λ r. not (may_enter c s r)) s.ready
  pub not_exhausted : is_exhausted s ≡ false

-- a lawful state without plans becomes a lawful one
abbrev pub MigratedIsLawful : Type 0
MigratedIsLawful = (c : Settings) (s : State) → are_sound c ≡ true → WasLawful c s → IsLawful c (migrated c s)

-- so does a content, of its form
abbrev pub MigratedContentIsLawful : Type 0
MigratedContentIsLawful = (c : Settings) (x : Content) → are_sound c ≡ true → are_settings_in_form c ≡ true →
    WasLawful c x.state → IsContentInForm c x → IsLawfulContent c (migrated_content c x)

-- where no project is to fail fast, nothing was cut: so were the states from before that could be said
abbrev pub NothingWasCut : Type 0
NothingWasCut = (c : Settings) (s : State) (q : Queue) (i : Item) (ahead : List Item) (builds : List Build) →
    list_all (λ p. not p.fail_fast) c.projects ≡ true →
    is_cut builds (with_ahead ahead (place_before c s q i)) ≡ false
