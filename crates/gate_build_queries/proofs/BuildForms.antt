-- A build's row in form, part by part.
use Rattle.std.proofs.Common.{◌≡◌, true}
use Rattle.std.proofs.lemmas.List.Sums.{AllPass-from_list_all}
use Rattle.std.specs.List.{AllPass}
use Rattle.sqlite_keyed.proofs.RuleLemmas.{first_of_both, second_of_both}
use Rattle.gate_types.specs.Forms.{is_change_number, is_drawn_number, is_entry_in_form, is_revision_number}
use Rattle.gate_types.specs.Names.{is_name}
use Rattle.gate_types.specs.declared.records.Build.{Build}
use Rattle.gate_found_rows.specs.Whole.{is_build_row_in_form}

-- what a reader of the row asks of it
pub record BuildForm (x : Build) : Type 0 where
  pub number : is_drawn_number x.number ≡ true
  pub queue : is_name x.queue ≡ true
  pub job : is_name x.job ≡ true
  pub serial : is_drawn_number x.serial ≡ true
  pub change : is_change_number x.change ≡ true
  pub revision : is_revision_number x.revision ≡ true
  pub ahead : AllPass is_entry_in_form x.ahead

-- it is so of a row in form
pub form_of : (x : Build) → is_build_row_in_form x ≡ true → BuildForm x
form_of x form =
    let to_few = first_of_both _ _ (first_of_both _ _ form) in
    let to_three = first_of_both _ _ to_few in
    let three = second_of_both _ _ to_three in
    let names = first_of_both _ _ to_three in
    record {
      number = first_of_both _ _ (first_of_both _ _ names);
      queue = second_of_both _ _ (first_of_both _ _ names);
      job = second_of_both _ _ names;
      serial = first_of_both _ _ (first_of_both _ _ three);
      change = second_of_both _ _ (first_of_both _ _ three);
      revision = second_of_both _ _ three;
      ahead = AllPass-from_list_all is_entry_in_form x.ahead (second_of_both _ _ form);
    }
