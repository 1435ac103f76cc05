-- The need examples, computed.
use Rattle.std.proofs.Common.{refl}
use Rattle.std.specs.Fmt.{digits}
use Rattle.json.specs.Print.{escape_byte}
use Rattle.gate_laws.specs.NeedExamples.{ANeedAdmitsTheWaitingChange, ACycleWaits, ANeedInAnotherQueueLandsFirst}
use Rattle.gate_laws.specs.NeedExamples.{AnItemGoesWithItsNeed, AdmissionStartsAnew, FootersNameNeeds}
use Rattle.gate_laws.specs.NeedExamples.{AtMost32NeedsAreTaken}

pub a_need_admits_the_waiting_change : ANeedAdmitsTheWaitingChange
unfolding digits escape_byte
a_need_admits_the_waiting_change = record { replies = refl; status = refl }

pub a_cycle_waits : ACycleWaits
unfolding digits escape_byte
a_cycle_waits = record { replies = refl; status = refl }

pub a_need_in_another_queue_lands_first : ANeedInAnotherQueueLandsFirst
unfolding digits escape_byte
a_need_in_another_queue_lands_first = record { replies = refl; before = refl; landed = refl; status = refl }

pub an_item_goes_with_its_need : AnItemGoesWithItsNeed
unfolding digits escape_byte
an_item_goes_with_its_need = record { blocked = refl; earlier_build = refl; history = refl; replies = refl; status = refl }

pub admission_starts_anew : AdmissionStartsAnew
unfolding digits escape_byte
admission_starts_anew = record { replies = refl; status = refl }

pub footers_name_needs : FootersNameNeeds
unfolding digits escape_byte
footers_name_needs = record { message = refl; in_order = refl; counted = refl; longest = refl; ignored = refl }

pub at_most_32_needs_are_taken : AtMost32NeedsAreTaken
unfolding digits escape_byte
at_most_32_needs_are_taken = refl
