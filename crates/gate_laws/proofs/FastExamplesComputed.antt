-- The examples of a project that is to fail fast, computed.
use Rattle.std.proofs.Common.{refl}
use Rattle.std.specs.Fmt.{digits}
use Rattle.json.specs.Print.{escape_byte}
use Rattle.gate_laws.specs.FastExamples.{FailFastIsTold, AFastFailureGoesAtOnce, AFastFailureBehindAnItemSkips}
use Rattle.gate_laws.specs.FastExamples.{AJobThatDoesntVoteSkipsNothing}

pub fail_fast_is_told : FailFastIsTold
unfolding digits escape_byte
fail_fast_is_told = record { told = refl; untold = refl }

pub a_fast_failure_goes_at_once : AFastFailureGoesAtOnce
unfolding digits escape_byte
a_fast_failure_goes_at_once = record { replies = refl; history = refl; status = refl }

pub a_fast_failure_behind_an_item_skips : AFastFailureBehindAnItemSkips
unfolding digits escape_byte
a_fast_failure_behind_an_item_skips = record { replies = refl; skips = refl; anew = refl }

pub a_job_that_doesnt_vote_skips_nothing : AJobThatDoesntVoteSkipsNothing
unfolding digits escape_byte
a_job_that_doesnt_vote_skips_nothing = record { replies = refl; status = refl }
