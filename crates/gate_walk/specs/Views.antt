-- The walk in the code, as the definitions see it.
use Rattle.std.specs.Prelude.{◌≡◌}
use Rattle.gate_walk.specs.declared.walk.Seen.{Seen as CodeSeen}
use Rattle.gate_walk.specs.declared.walk.Next.{Next as CodeNext}
use Rattle.gate_walk.specs.declared.walk.Next.TheVariants as code
use Rattle.gate_walk.specs.Walk.{Seen}
use Rattle.gate_walk.specs.Next.{Next, go, need, stop}

-- what a visit is given
abbrev pub seen_of : CodeSeen → Seen
seen_of v = record { row = v.row; needs = v.needs.now; jobs = v.jobs.now; fast = v.fast; builds = v.builds.now }

-- what a visit answers
abbrev pub next_of_code : CodeNext → Next
next_of_code (code.Go n) = go n
next_of_code (code.Need n) = need n
next_of_code code.Stop = stop

abbrev pub next_is : CodeNext → Next → Type 0
next_is n m = next_of_code n ≡ m
