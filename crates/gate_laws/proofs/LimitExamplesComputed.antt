-- The limit examples, computed.
use Rattle.std.proofs.Common.{refl}
use Rattle.std.specs.Fmt.{digits}
use Rattle.json.specs.Print.{escape_byte}
use Rattle.gate_laws.specs.LimitExamples.{OrdersRunOut, ALandingThatAdmitsRunsOut, BuildsAndApprovalsRunOut}
use Rattle.gate_laws.specs.LimitExamples.{TheWindowAtItsEnds, AWindowChangesByItsRule, AWindowOf0SetsNoBound}

pub orders_run_out : OrdersRunOut
unfolding digits escape_byte
orders_run_out = record { last_one = refl; refused = refl; status = refl }

pub a_landing_that_admits_runs_out : ALandingThatAdmitsRunsOut
unfolding digits escape_byte
a_landing_that_admits_runs_out = record { last_one = refl; refused = refl }

pub builds_and_approvals_run_out : BuildsAndApprovalsRunOut
unfolding digits escape_byte
builds_and_approvals_run_out = record { last_one = refl; refused = refl; approvals = refl }

pub the_window_at_its_ends : TheWindowAtItsEnds
unfolding digits escape_byte
the_window_at_its_ends = record { more = refl; less = refl }

pub a_window_changes_by_its_rule : AWindowChangesByItsRule
unfolding digits escape_byte
a_window_changes_by_its_rule = record { grown = refl; shrunk = refl; told = refl; untold = refl }

pub a_window_of_0_sets_no_bound : AWindowOf0SetsNoBound
unfolding digits escape_byte
a_window_of_0_sets_no_bound = record { third_item = refl; failed = refl }
