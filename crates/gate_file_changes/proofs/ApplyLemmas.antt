-- What edits make of tables that stand for a content, one after another.
use Rattle.std.proofs.Common.{◌≡◌, ◌≢◌, ◌<◌, ◌+◌, ℕ, suc, List, [], ◌∷◌, ◌++◌, inl, inr, map, take, length, get_or}
use Rattle.std.proofs.Common.{true, false, true≢false, IsTrue, Result, Ok, Err, cond, ◌||◌, refl, sym, ap, subst, ◌∙◌}
use Rattle.std.proofs.Common.{arith}
use Rattle.std.specs.Prelude.{IfErr, OnErr, OnOk}
use Rattle.std.specs.List.{list_any}
use Rattle.std.proofs.lemmas.Bool.{and_parts}
use Rattle.std.proofs.lemmas.List.Elements.{recursion_from_All}
use Rattle.std.proofs.lemmas.List.Folds.{list_all_more}
use Rattle.std.proofs.lemmas.List.Sums.{fold_more}
use Rattle.std.proofs.lemmas.Result.{on_err_weaker, on_ok_weaker}
use Rattle.sqlite.specs.Held.{Held, state}
use Rattle.sqlite.specs.Effect.{Database}
use Rattle.sqlite.specs.State.{HasCleanDisk, IsLive, IsUnchanged, State, Survives}
use Rattle.sqlite.specs.Tree.{Trees}
use Rattle.sqlite.proofs.Callers.{survives_begin}
use Rattle.sqlite.proofs.StateLemmas.{survives_then}
use Rattle.sqlite_catalog.specs.Listing.{IsSound}
use Rattle.sqlite_keyed.proofs.ListLemmas.{all_weaker, map-map}
use Rattle.sqlite_trees.specs.declared.store.Store.{Ghosts}
use Rattle.gate_types.specs.Forms.{IsLawfulContent}
use Rattle.gate_types.specs.Names.{same_name}
use Rattle.gate_types.specs.Once.{Content}
use Rattle.gate_types.specs.Settings.{Settings, are_sound_jobs}
use Rattle.gate_types.specs.Tables.{Leads, QueueRows, Tables, edited_tables, fold_all, tables}
use Rattle.gate_types.specs.declared.config.Job.{Job}
use Rattle.gate_types.specs.declared.edits.Edit.{Edit}
use Rattle.gate_types.specs.declared.edits.Edit.TheVariants as edit
use Rattle.gate_types.specs.declared.records.Plan.{Plan}
use Rattle.gate_schema.specs.Edits.{after_edit, after_edits, at_window}
use Rattle.gate_schema.specs.Rows.{AreNamed, Changes, QueueRow, Stands, Stored}
use Rattle.gate_rows.specs.Matches.{FitsBeside, HaveJobs, IsInOrder, EditIsTold, NamesQueue, StandsFor, Matches, placed}
use Rattle.gate_rows.proofs.PlanMatches.{jobs_stay}
use Rattle.gate_rows.proofs.ThenLemmas.{changes_same, changes_then}
use Rattle.gate_rows.proofs.UniqueLemmas.{are_named}
use Rattle.gate_found_rows.specs.Finds.{Stays}
use Rattle.gate_book_trait.specs.Kept.{IsApplied}
use Rattle.gate_book_trait.specs.declared.fault.BookFault.{BookFault}
use Rattle.gate_book_trait.specs.declared.fault.BookFault.TheVariants as fault
use Rattle.gate_file_changes.specs.Applies.{CanLead, IsLedTo, LeavesOrStands, OfLawful, LeavesTurned, Steps, TurnsInto}
use Rattle.gate_file_changes.specs.Applies.{are_known, is_among, is_known, names_in}
use Rattle.gate_table_laws.specs.Held.{HoldsFor, IsShownFor, ShowsFor, StandsForOne, queue_names}

-- ---- the names of the queues

-- a window set leaves the names
window_keeps : (name : List ℕ) (w : ℕ) (qs : List QueueRow)
    → map (λ (q : QueueRow). q.name) (map (λ (q : QueueRow). cond (same_name q.name name) (at_window w q) q) qs) ≡ map (λ (q : QueueRow). q.name) qs
window_keeps name w [] = refl
window_keeps name w (q ∷ qs) =
    ap (λ l. (cond (same_name q.name name) (at_window w q) q).name ∷ l) (window_keeps name w qs)
    ∙ elim (same_name q.name name) as (λ c. (cond c (at_window w q) q).name ∷ map (λ (q : QueueRow). q.name) qs ≡ q.name ∷ map (λ (q : QueueRow). q.name) qs) [ true ↦ refl | false ↦ refl ]

-- so does each edit
edit_keeps_names : (e : Edit) (b : Stored) → names_in (after_edit e b) ≡ names_in b
edit_keeps_names (edit.PutChange k a) b = refl
edit_keeps_names (edit.SetStage n g) b = refl
edit_keeps_names (edit.PutItem name i) b = refl
edit_keeps_names (edit.DropItem n) b = refl
edit_keeps_names (edit.LandItem n) b = refl
edit_keeps_names (edit.PutPlan p) b = refl
edit_keeps_names (edit.PutLanding name n l) b = refl
edit_keeps_names (edit.PutReport name n r) b = refl
edit_keeps_names (edit.PutBuild x) b = refl
edit_keeps_names (edit.SetOutcome n o) b = refl
edit_keeps_names (edit.StopBuild n) b = refl
edit_keeps_names (edit.SetWindow name w) b = window_keeps name w b.queues
edit_keeps_names (edit.SetCounter k n) b = refl
edit_keeps_names (edit.Keep k) b = refl

-- and all edits
edits_keep_names : (edits : List Edit) (b : Stored) → names_in (after_edits edits b) ≡ names_in b
edits_keep_names [] b = refl
edits_keep_names (e ∷ es) b = edits_keep_names es (after_edit e b) ∙ edit_keeps_names e b

-- a queue of one of the names is there
named_there : (name : List ℕ) (qs : List QueueRow) → is_among (map (λ (q : QueueRow). q.name) qs) name ≡ list_any (λ (q : QueueRow). same_name q.name name) qs
named_there name [] = refl
named_there name (q ∷ qs) = ap (λ c. same_name q.name name || c) (named_there name qs)

-- an edit of a queue that is known names one that is there
names_queue : (e : Edit) (b : Stored) → is_known (names_in b) e ≡ true → NamesQueue e b
names_queue (edit.PutItem name i) b known = sym (named_there name b.queues) ∙ known
names_queue (edit.PutLanding name n l) b known = sym (named_there name b.queues) ∙ known
names_queue (edit.PutReport name n r) b known = sym (named_there name b.queues) ∙ known
names_queue _ b known = tt

-- ---- the settings

-- each edit leaves the settings
edit_keeps_settings : (e : Edit) (b : Stored) → (after_edit e b).settings ≡ b.settings
edit_keeps_settings (edit.PutChange k a) b = refl
edit_keeps_settings (edit.SetStage n g) b = refl
edit_keeps_settings (edit.PutItem name i) b = refl
edit_keeps_settings (edit.DropItem n) b = refl
edit_keeps_settings (edit.LandItem n) b = refl
edit_keeps_settings (edit.PutPlan p) b = refl
edit_keeps_settings (edit.PutLanding name n l) b = refl
edit_keeps_settings (edit.PutReport name n r) b = refl
edit_keeps_settings (edit.PutBuild x) b = refl
edit_keeps_settings (edit.SetOutcome n o) b = refl
edit_keeps_settings (edit.StopBuild n) b = refl
edit_keeps_settings (edit.SetWindow name w) b = refl
edit_keeps_settings (edit.SetCounter k n) b = refl
edit_keeps_settings (edit.Keep k) b = refl

-- and so do all edits
pub edits_keep_settings : (edits : List Edit) (b : Stored) → (after_edits edits b).settings ≡ b.settings
edits_keep_settings [] b = refl
edits_keep_settings (e ∷ es) b = edits_keep_settings es (after_edit e b) ∙ edit_keeps_settings e b

-- ---- one edit after another

-- tables that stand for something have rows that rise by their keys
stands_in_order : (s : State) (b : Stored) → Stands s.now.trees b → IsInOrder b
stands_in_order s b stands = record { changes = stands.change.in_order; items = stands.item.in_order; builds = stands.build.in_order; fast = stands.fast.in_order }

-- one edit more
pub steps_more : ((e : Edit) → EditIsTold e) → (first old new : State) (edits : List Edit) (i : ℕ) (e : Edit) → i < length edits → e ≡ get_or edits i e
    → Steps first old (take i edits) → Changes old new (after_edit e) → ((b : Stored) → AreNamed b → Stands old.now.trees b → FitsBeside e b) → Steps first new (take (i + 1) edits)
steps_more law first old new edits i e within is steps change beside =
    let after : (b : Stored) → after_edit e (after_edits (take i edits) b) ≡ after_edits (take (i + 1) edits) b =
    λ b. ap (λ d. after_edit d (after_edits (take i edits) b)) is ∙ sym (fold_more (λ c d. after_edit d c) b edits i e within) in
    let folded : (t : Tables) → edited_tables (fold_all t (take i edits)) e ≡ fold_all t (take (i + 1) edits) =
    λ t. ap (edited_tables (fold_all t (take i edits))) is ∙ sym (fold_more edited_tables t edits i e within) in
    let fits : (b : Stored) → AreNamed b → Stands first.now.trees b → FitsBeside e (after_edits (take i edits) b) =
    λ b named stands. beside (after_edits (take i edits) b) (steps.changes.named b named) (steps.changes.stands b named stands) in
    record {
      changes = changes_same first new _ _ after (changes_then first old new (after_edits (take i edits)) (after_edit e) steps.changes change);
      planned = λ b t named stands have.
          subst (λ (u : Tables). HaveJobs u.plans) (folded t)
          (jobs_stay e (after_edits (take i edits) b) (fold_all t (take i edits)) (fits b named stands) (steps.planned b t named stands have));
      told = λ b t named stands known have matches.
          let c = after_edits (take i edits) b in
          let parts = and_parts _ _ (sym (list_all_more (is_known (names_in b)) edits i e within) ∙ known) in
          let mine : is_known (names_in c) e ≡ true = ap (λ names. is_known names e) (edits_keep_names (take i edits) b) ∙ ap (is_known (names_in b)) is ∙ parts.1 in
          let held = steps.changes.stands b named stands in
          let next = law e c (fold_all t (take i edits)) (stands_in_order old c held) (names_queue e c mine, fits b named stands) (steps.planned b t named stands have) (steps.told b t named stands parts.0 have matches) in
          subst (Matches (after_edits (take (i + 1) edits) b)) (folded t) (subst (λ d. Matches d (edited_tables (fold_all t (take i edits)) e)) (after b) next);
    }

-- ---- from a content to the one that the edits lead to

-- the names of queues by their places
placed_names : (n : ℕ) (qs : List QueueRows) → map (λ (q : QueueRow). q.name) (placed n qs) ≡ map (λ (q : QueueRows). q.name) qs
placed_names n [] = refl
placed_names n (q ∷ qs) = ap (λ l. q.name ∷ l) (placed_names (suc n) qs)

-- the edits lead where they are to
pub steps_turn : (old new : State) (edits : List Edit) → Steps old new edits → TurnsInto old new edits
steps_turn old new edits steps = record {
  ready = steps.changes.ready;
  stands = λ c x y can.
      let b = can.stands.stored in
      let named = are_named old.now.trees b can.sound can.stands.stands in
      let names : names_in b ≡ queue_names c =
      ap (map (λ (q : QueueRow). q.name)) can.stands.matches.queues_are.places ∙ placed_names 0 (tables c x).queues ∙ map-map _ _ x.state.queues ∙ can.led.queues_are_set in
      let known : are_known (names_in b) edits ≡ true = ap (λ n. are_known n edits) names ∙ can.led.known in
      record {
        stored = after_edits edits b;
        stands = steps.changes.stands b named can.stands.stands;
        settings = edits_keep_settings edits b ∙ can.stands.settings;
        matches = subst (Matches (after_edits edits b)) can.led.leads (steps.told b (tables c x) named can.stands.stands known can.led.planned can.stands.matches);
      };
}

-- a transaction that leaves nothing until its commit leaves what it shows then
pub survives_commit : {S : Type 0} (g : Ghosts S) (old mid new : Held S) (P : Trees → Type 0) → Survives (state g (record old { in_transaction = true })) (state g mid) (λ _. ⊥)
    → Survives (state g mid) (state g new) (λ db. db ≡ (state g mid).now.trees) → (HasCleanDisk (state g mid) → P (state g mid).now.trees) → Survives (state g old) (state g new) P
survives_commit g old mid new P inside ended stands =
    survives_then (state g old) (state g mid) (state g new) (λ _. ⊥) (λ db. db ≡ (state g mid).now.trees) P (λ _ _ none. absurd none)
    (λ clean db is. subst P (sym is) (stands (omega (arith, ended.clean)))) (survives_begin g old (state g mid) (λ _. ⊥) inside) ended

-- ---- what a connection shows

-- what stays is still shown
pub stays_shows : (old new : State) (c : Settings) (x : Content) → Stays old new → ShowsFor old c x → ShowsFor new c x
stays_shows old new c x stays shows up =
    let was = shows (stays.was_open up) in
    let is = stays.now_is up in
    record { schema_is = ap (λ (d : Database). d.schema) is ∙ was.schema_is; stands = subst (λ (d : Database). StandsFor d.trees c x) (sym is) was.stands }

-- a call that changed nothing found the connection open
pub unchanged_shows : (old mid : State) (c : Settings) (x : Content) → IsUnchanged old mid → ShowsFor old c x → IsShownFor mid c x
unchanged_shows old mid c x same shows = stays_shows old mid c x (record { was_open = λ _. same.0.was_open; now_is = λ _. same.0.now_is }) shows same.0.is_open

-- a connection that is open shows sound tables
pub can_lead : (s : State) (c : Settings) (x : Content) (edits : List Edit) (y : Content) → IsLive s → IsTrue s.is_open → IsShownFor s c x → IsLedTo c x edits y → CanLead s.now.trees c x edits y
can_lead s c x edits y live up shown led = record { sound = subst (λ t. IsSound t s.now.trees) shown.schema_is (live up).0; stands = shown.stands; led = led }

-- sound jobs are some
some_sound : (jobs : List Job) → are_sound_jobs jobs ≡ true → 0 < length jobs
some_sound [] sound = absurd (true≢false (sym sound))
some_sound (j ∷ js) sound = omega arith

-- a lawful content has the queues of the settings, and its plans have jobs
pub led_by : (names : List (List ℕ)) (c : Settings) (x : Content) (edits : List Edit) (y : Content) → names ≡ queue_names c → IsLawfulContent c x → are_known names edits ≡ true → Leads c x edits y
    → IsLedTo c x edits y
led_by names c x edits y same lawful known leads = record {
  queues_are_set = lawful.lawful.sound.queues_are_set;
  planned = all_weaker _ _ (λ (p : Plan) sound. some_sound p.jobs sound) x.state.plans (recursion_from_All _ x.state.plans lawful.lawful.sound.planned.sound);
  known = subst (λ n. are_known n edits ≡ true) same known;
  leads = leads;
}

-- two facts of one Ok
pub on_ok_both : {T E P Q R : Type 0} (r : Result T E) → (P → Q → R) → OnOk r P → OnOk r Q → OnOk r R
on_ok_both (Ok x) f p q = f p q
on_ok_both (Err e) f p q = tt

-- ---- what a book over a connection has applied

-- one of some contents is one of more
one_of_more : (db : Trees) (c : Settings) (xs ys : List Content) → StandsForOne db c xs → StandsForOne db c (xs ++ ys)
one_of_more db c [] ys h = absurd h
one_of_more db c (x ∷ xs) ys (inl h) = inl h
one_of_more db c (x ∷ xs) ys (inr h) = inr (one_of_more db c xs ys h)

-- and so is the last of them
one_of_last : (db : Trees) (c : Settings) (xs : List Content) (y : Content) → StandsFor db c y → StandsForOne db c (xs ++ y ∷ [])
one_of_last db c [] y h = inl h
one_of_last db c (x ∷ xs) y h = inr (one_of_last db c xs y h)

-- a book holds what its connection shows, and leaves what a crash of that leaves
pub applied : {B : Type 0} (at : B → State) (names : B → List (List ℕ)) (old new : B) (edits : List Edit) (result : Result (Unit {0}) BookFault) → names new ≡ names old
    → OfLawful (at old) (at new) (names old) edits (λ c y. OnOk result (ShowsFor (at new) c y))
    → OfLawful (at old) (at new) (names old) edits (λ c y. OnOk result (LeavesTurned edits (at new) c y))
    → OfLawful (at old) (at new) (names old) edits (λ c y. LeavesOrStands (at old) (at new) c y)
    → IfErr result (λ f. f ≢ fault.Damaged)
    → HasCleanDisk (at new) → (c : Settings) (x y : Content) → HoldsFor (at old) (names old) c x → IsLawfulContent c x → Leads c x edits y
    → IsApplied (λ b. HoldsFor (at b) (names b)) (λ b c ys. (db : Trees) → (at b).may_leave db → StandsForOne db c ys) old new c x edits y result
applied at names old new edits result same ok settled crash undamaged clean c x y held lawful leads =
    let keep : (z : Content) → ShowsFor (at new) c z → HoldsFor (at new) (names new) c z = λ z shows. record { sound = held.sound; names_are = same ∙ held.names_are; shows = shows } in
    record {
      ok = on_ok_weaker result (keep y) (ok clean c x y held.names_are held.shows lawful leads);
      undamaged = undamaged;
      settled = on_ok_weaker result (λ stands some db may. inl (stands some db may)) (settled clean c x y held.names_are held.shows lawful leads);
      crash = λ ys was db may. elim (crash clean c x y held.names_are held.shows lawful leads db may) [
        | inl before ↦ one_of_more db c ys (y ∷ []) (was db before)
        | inr stands ↦ one_of_last db c ys y stands
      ];
    }

-- after a fault it holds what it held
pub unchanged : {B : Type 0} (at : B → State) (names : B → List (List ℕ)) (old new : B) (result : Result (Unit {0}) BookFault) → names new ≡ names old
    → (HasCleanDisk (at new) → (c : Settings) (x : Content) → ShowsFor (at old) c x → OnErr result (ShowsFor (at new) c x))
    → HasCleanDisk (at new) → (c : Settings) (x : Content) → HoldsFor (at old) (names old) c x → OnErr result (HoldsFor (at new) (names new) c x)
unchanged at names old new result same err clean c x held =
    on_err_weaker result (λ shows. record { sound = held.sound; names_are = same ∙ held.names_are; shows = shows }) (err clean c x held.shows)
