-- What settling leaves of a queue, alone and within a whole state: the rows of a rebase and then a sweep.
use Rattle.std.specs.Prelude.{◌&&◌, not, List, [], map, filter}
use Rattle.gate_types.specs.declared.records.Build.{Build}
use Rattle.gate_types.specs.Settings.{Settings}
use Rattle.gate_types.specs.State.{Queue, State}
use Rattle.gate_types.specs.Line.{Place}
use Rattle.gate_types.specs.Standing.{places_after, places}
use Rattle.gate_types.specs.Rebase.{rebase, with_live, stays_live}
use Rattle.gate_types.specs.Window.{Bounds, bounds_of}
use Rattle.gate_types.specs.Sweep.{Judged, judged, judged_after, swept_queue, without_runs, goes}
use Rattle.gate_types.specs.Rows.{Rows, rows_of}

-- the builds of a queue after a rebase: each live build of an item that isn't wanted has stopped
abbrev pub rebased : List Place → List Build → List Build
rebased ps builds = map (λ b. with_live (b.live && stays_live builds (places_after builds [] ps) b) b) builds

-- the verdicts on the items of a queue, all by the same builds
abbrev pub verdicts : List Place → List Build → List Judged
verdicts ps builds = judged_after builds [] (places_after builds [] ps)

-- the builds after a sweep by these verdicts
abbrev pub swept_builds : List Judged → List Build → List Build
swept_builds js builds = without_runs (goes js) builds

-- the places of the items that stay
abbrev pub staying_places : List Judged → List Place → List Place
staying_places js ps = filter (λ p. not (goes js p.item.serial)) ps

-- the rows after a sweep by these verdicts, the columns worked out anew
abbrev pub swept_rows : Bounds → List Judged → List Place → List Build → Queue → Rows
swept_rows bounds js ps builds q =
    let left = swept_builds js builds in
    rows_of (places_after left [] (staying_places js ps)) left (swept_queue bounds js q)

-- the rows after a rebase and then a sweep, both of the whole queue by one state
abbrev pub settled_rows : Bounds → List Place → List Build → Queue → Rows
settled_rows bounds ps builds q = swept_rows bounds (verdicts ps (rebased ps builds)) ps (rebased ps builds) q

-- a queue after a rebase and then a sweep of the whole state
abbrev pub swept_of : Settings → State → Queue → Queue
swept_of c s q = swept_queue (bounds_of c q) (judged c (rebase c s) q) q

-- the rows of a queue in a state
abbrev pub rows_in : Settings → State → Queue → Rows
rows_in c s q = rows_of (places c s q) s.builds q
