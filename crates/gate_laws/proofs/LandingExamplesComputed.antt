-- The landing examples, computed.
use Rattle.std.proofs.Common.{refl}
use Rattle.std.specs.Fmt.{digits}
use Rattle.json.specs.Print.{escape_byte}
use Rattle.gate_laws.specs.LandingExamples.{AnItemLandsBeforeAFailingOne, AJobThatDoesntVoteDecidesNothing}
use Rattle.gate_laws.specs.LandingExamples.{ALandingKeepsTheBuildsBehindIt, AShownOrderIsLeftAlone}
use Rattle.gate_laws.specs.LandingExamples.{TheWindowGrowsBeforeItShrinks, EachQueueShowsItsOrder}

pub an_item_lands_before_a_failing_one : AnItemLandsBeforeAFailingOne
unfolding digits escape_byte
an_item_lands_before_a_failing_one = record { orders = refl; replies = refl; landed = refl; history = refl; status = refl }

pub a_job_that_doesnt_vote_decides_nothing : AJobThatDoesntVoteDecidesNothing
unfolding digits escape_byte
a_job_that_doesnt_vote_decides_nothing = record { waits_for_the_vote = refl; waits_for_the_other = refl; orders = refl; replies = refl }

pub a_landing_keeps_the_builds_behind_it : ALandingKeepsTheBuildsBehindIt
unfolding digits escape_byte
a_landing_keeps_the_builds_behind_it = record { replies = refl; orders = refl; status = refl }

pub a_shown_order_is_left_alone : AShownOrderIsLeftAlone
unfolding digits escape_byte
a_shown_order_is_left_alone = record { orders = refl; replies = refl; status = refl }

pub the_window_grows_before_it_shrinks : TheWindowGrowsBeforeItShrinks
unfolding digits escape_byte
the_window_grows_before_it_shrinks = record { before = refl; replies = refl; status = refl; history = refl }

pub each_queue_shows_its_order : EachQueueShowsItsOrder
unfolding digits escape_byte
each_queue_shows_its_order = refl
