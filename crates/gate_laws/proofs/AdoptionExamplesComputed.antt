-- The examples of settings that change, computed.
use Rattle.std.proofs.Common.{refl}
use Rattle.std.specs.Fmt.{digits}
use Rattle.json.specs.Print.{escape_byte}
use Rattle.gate_laws.specs.AdoptionExamples.{AnItemKeepsItsJobs, AWindowIsAdopted, ARuleIsAdopted, AnItemKeepsFailFast}

pub an_item_keeps_its_jobs : AnItemKeepsItsJobs
unfolding digits escape_byte
an_item_keeps_its_jobs = record { status = refl; orders = refl; later = refl }

pub a_window_is_adopted : AWindowIsAdopted
unfolding digits escape_byte
a_window_is_adopted = record { wider = refl; back = refl; refused = refl }

pub a_rule_is_adopted : ARuleIsAdopted
unfolding digits escape_byte
a_rule_is_adopted = record { kept = refl; opened_by_it = refl }

pub an_item_keeps_fail_fast : AnItemKeepsFailFast
unfolding digits escape_byte
an_item_keeps_fail_fast = record { slow = refl; fast = refl }
