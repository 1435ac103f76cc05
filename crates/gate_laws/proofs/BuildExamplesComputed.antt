-- The build examples, computed.
use Rattle.std.proofs.Common.{refl}
use Rattle.std.specs.Fmt.{digits}
use Rattle.json.specs.Print.{escape_byte}
use Rattle.gate_laws.specs.BuildExamples.{BuildsAreGivenFrontToBack, AFailureResetsTheItemsBehindIt}
use Rattle.gate_laws.specs.BuildExamples.{AFailureBehindAnItemStays, ALostBuildIsTriedThreeTimes}
use Rattle.gate_laws.specs.BuildExamples.{LossesOnTwoLinesArentAdded}

pub builds_are_given_front_to_back : BuildsAreGivenFrontToBack
unfolding digits escape_byte
builds_are_given_front_to_back = refl

pub a_failure_resets_the_items_behind_it : AFailureResetsTheItemsBehindIt
unfolding digits escape_byte
a_failure_resets_the_items_behind_it = record { replies = refl; earlier_build = refl }

pub a_failure_behind_an_item_stays : AFailureBehindAnItemStays
unfolding digits escape_byte
a_failure_behind_an_item_stays = record { replies = refl; failing = refl; anew = refl }

pub a_lost_build_is_tried_three_times : ALostBuildIsTriedThreeTimes
unfolding digits escape_byte
a_lost_build_is_tried_three_times = record { replies = refl; history = refl; status = refl }

pub losses_on_two_lines_arent_added : LossesOnTwoLinesArentAdded
unfolding digits escape_byte
losses_on_two_lines_arent_added = record { replies = refl; history = refl }
