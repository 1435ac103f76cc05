-- From what a query says of the tables to what a book's read says of a content.
use Rattle.std.proofs.Common.{arith, ◌≡◌, ◌≢◌, ◌∙◌, true, false, ℕ, Bool, List, [], Result, Ok, Err, refl, sym}
use Rattle.std.proofs.Common.{true≢false}
use Rattle.std.specs.Prelude.{AllPairs}
use Rattle.std.specs.List.{AllPass}
use Rattle.sqlite.specs.State.{HasCleanDisk, State}
use Rattle.gate_types.specs.Forms.{IsLawfulContent, is_kept_in_form}
use Rattle.gate_types.specs.Once.{Content}
use Rattle.gate_types.specs.Settings.{Settings, are_sound}
use Rattle.gate_types.specs.Tables.{tables}
use Rattle.gate_types.specs.declared.records.Kept.{Kept}
use Rattle.gate_types.specs.declared.records.Ready.{Ready}
use Rattle.gate_book_trait.specs.Reads.{Answers}
use Rattle.gate_book_trait.specs.declared.fault.BookFault.{BookFault}
use Rattle.gate_book_trait.specs.declared.fault.BookFault.TheVariants as fault
use Rattle.gate_schema.specs.Rows.{ItemRow, Stored}
use Rattle.gate_rows.specs.Matches as rows
use Rattle.gate_found_rows.specs.Reads.{Opened, Reads, Shows, Tells}
use Rattle.gate_found_rows.specs.Whole.{IsWhole, is_build_row_in_form, is_change_row_in_form, is_item_row_in_form}
use Rattle.gate_found_rows.specs.Whole.{is_job_row_in_form}
use Rattle.gate_types.proofs.DistinctLemmas.{names_differ}
use Rattle.gate_table_laws.specs.Answers.{IsAnsweredBy}
use Rattle.gate_table_laws.specs.Held.{HoldsFor, IsShownFor}
use Rattle.gate_table_laws.proofs.told.Names.{queues_are_named}
use Rattle.gate_table_laws.proofs.told.Reads.{reads_are_told}
use Rattle.gate_table_laws.proofs.told.Whole.{rows_are_whole}

-- ---- a store that is shut

-- tables that hold no row
abbrev pub no_rows : Stored
no_rows = record {
  settings = [];
  counters = record { approval = 0; build = 0; order = 0 };
  queues = [];
  changes = [];
  needs = [];
  items = [];
  builds = [];
  landings = [];
  reports = [];
  kept = [];
  jobs = [];
  fast = [];
}

-- of no values all is so, and of any two
none_pass : {X : Type 0} (test : X → Bool) → AllPass test []
none_pass test k d below = absurd (omega (arith, below))

none_pair : {X : Type 0} (R : X → X → Type 0) → AllPairs R []
none_pair R i j d lt below = absurd (omega (arith, below))

-- they are in form
no_rows_whole : IsWhole no_rows
no_rows_whole = record {
  counters = refl;
  windows = none_pass _;
  changes = none_pass is_change_row_in_form;
  approvals_differ = none_pair (λ (r s : Ready). r.approval ≢ s.approval);
  needs = λ n. refl;
  items = none_pass is_item_row_in_form;
  changes_differ = none_pair (λ (r s : ItemRow). r.item.change ≢ s.item.change);
  items_are_few = λ name. omega arith;
  builds = none_pass is_build_row_in_form;
  jobs = none_pass is_job_row_in_form;
  jobs_are_placed = λ n. refl;
  kept = none_pass is_kept_in_form;
  ids_differ = none_pair (λ (k l : Kept). k.id ≢ l.id);
}

-- ---- what is read

-- the connection shows what stands for the content
pub shown : {s : State} {c : Settings} {x : Content} → (it : IsShownFor s c x) → Shows s it.stands.stored
shown it up = record { schema_is = it.schema_is; stands = it.stands.stands }

-- a store that is shut shows anything
pub shut : {s : State} → s.is_open ≡ false → (b : Stored) → Shows s b
shut closed b up = absurd (true≢false (sym up ∙ closed))

-- where what is found of the file's rows is what the content says, a read that reads them answers that
pub reads_so : {T : Type 0} {names : List (List ℕ)} {c : Settings} {x : Content} {P : Stored → T → Type 0} (v : T)
    (old new : State) (result : Result T BookFault) → Reads old new result P → Opened old new result → HasCleanDisk new →
    HoldsFor old names c x → ((b : Stored) → rows.Matches b (tables c x) → IsWhole b × ((found : T) → P b found → found ≡ v)) →
    Answers v result
reads_so v old new (Ok found) reads opened clean held told =
    let it = held.shows (opened clean) in
    let b = it.stands.stored in
    let say = told b it.stands.matches in
    say.1 found (reads clean b (shown it) say.0)
reads_so v old new (Err f) reads opened clean held told = blames_none old.is_open refl
  where
    blames_none : (is_open : Bool) → old.is_open ≡ is_open → f ≢ fault.Damaged
    blames_none true is =
        let it = held.shows is in
        let b = it.stands.stored in
        reads clean b (shown it) (told b it.stands.matches).0
    blames_none false is = reads clean no_rows (shut is no_rows) no_rows_whole

-- the same where the read names what the rows answer
pub reads_are : {T : Type 0} {names : List (List ℕ)} {c : Settings} {x : Content} {value : Stored → T} (v : T)
    (old new : State) (result : Result T BookFault) → Tells old new result value → Opened old new result → HasCleanDisk new →
    HoldsFor old names c x → ((b : Stored) → rows.Matches b (tables c x) → IsWhole b × (value b ≡ v)) → Answers v result
reads_are v old new result tells opened clean held told =
    reads_so v old new result tells opened clean held (λ b it. let say = told b it in (say.0, λ found is. is ∙ say.1))

-- the rows of a lawful content are in form, and each read of them is the content's
pub told_of : {c : Settings} {x : Content} {b : Stored} → are_sound c ≡ true → IsLawfulContent c x →
    rows.Matches b (tables c x) → IsWhole b × IsAnsweredBy b c x
told_of {c = c} sound lawful told =
    (rows_are_whole lawful told, reads_are_told lawful (queues_are_named (names_differ c sound) lawful told) told)
