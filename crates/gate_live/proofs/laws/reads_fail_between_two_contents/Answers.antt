use Rattle.gate_live.proofs.NothingLemmas.{fails_between, nothing_agrees}
use Rattle.gate_live.proofs.laws.reads_fail_between_two_contents.Goals as goal

pub returns-clause-below : goal.returns-clause-below
returns-clause-below g c b k x holds_nothing held =
    record { below = held; agrees = λ lawful. nothing_agrees b.live k x holds_nothing }

pub returns-clause-fails : goal.returns-clause-fails
returns-clause-fails g c old new told result k x y read trusted held differ = (
  fails_between (told k x) (told k y) result (read.found trusted k x held.first held.first_lawful)
      (read.found trusted k y held.second held.second_lawful) differ,
  record {
    first_lawful = held.first_lawful;
    second_lawful = held.second_lawful;
    first = read.kept.holds_on trusted k x held.first;
    second = read.kept.holds_on trusted k y held.second;
  },
)
