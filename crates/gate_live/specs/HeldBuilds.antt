-- Which builds are held in memory: all live builds of each known item, and no others.
use Rattle.std.specs.Prelude.{ℕ, Bool, not, ◌&&◌, ◌==◌, ◌≡◌, if◌then◌else◌, is_some, List, filter, find, fold}
use Rattle.gate_types.specs.declared.records.Build.{Build}
use Rattle.gate_types.specs.declared.edits.Edit.{Edit}
use Rattle.gate_types.specs.declared.edits.Edit.TheVariants as edit
use Rattle.gate_types.specs.State.{put_by}
use Rattle.gate_types.specs.Rows.{with_outcome, change_build}
use Rattle.gate_types.specs.Rising.{RisesFrom}
use Rattle.gate_memory.specs.Sorted.{without}
use Rattle.gate_memory.specs.Builds as build_table
use Rattle.gate_memory.specs.Builds.{is_build_of, number_of_build}
use Rattle.gate_live.specs.declared.held_builds.Known.{Known}
use Rattle.gate_live.specs.declared.held_builds.HeldBuilds.{HeldBuilds}

-- the held builds, and the known items: those all of whose live builds are held
pub record KnownBuilds : Type 0 where
  pub rows : List Build
  pub known : List Known

-- the serial of a known item
abbrev pub serial_of : Known → ℕ
serial_of k = k.serial

-- whether the item with this serial is known
abbrev pub knows : List Known → ℕ → Bool
knows known serial = is_some (find (λ k. k.serial == serial) known)

-- whether a build is live and its item is known
abbrev pub is_live_known : List Known → Build → Bool
is_live_known known b = b.live && knows known b.serial

-- the held builds are exactly the live builds of the known items among all builds
abbrev pub AreBuildsOf : KnownBuilds → List Build → Type 0
AreBuildsOf h all = h.rows ≡ filter (is_live_known h.known) all

-- ---- what edits make of the held builds

-- the held builds after a build is put: it is held only if it is live and its item is known
abbrev pub put_held_build : KnownBuilds → Build → List Build
put_held_build h b =
    if is_live_known h.known b then put_by number_of_build b h.rows else without number_of_build b.number h.rows

-- the known builds without those of an item, which is known no longer
abbrev pub forgotten : KnownBuilds → ℕ → KnownBuilds
forgotten h s = record {
  rows = filter (λ b. not (is_build_of s b)) h.rows;
  known = without serial_of s h.known;
}

-- the known builds after an edit
abbrev pub edited_held : KnownBuilds → Edit → KnownBuilds
edited_held h (edit.PutBuild b) = record h { rows = put_held_build h b }
edited_held h (edit.SetOutcome n o) = record h { rows = change_build n (with_outcome o) h.rows }
edited_held h (edit.StopBuild n) = record h { rows = without number_of_build n h.rows }
edited_held h (edit.DropItem s) = forgotten h s
edited_held h (edit.LandItem s) = forgotten h s
edited_held h _ = h

-- the known builds after a list of edits
abbrev pub fold_held : KnownBuilds → List Edit → KnownBuilds
fold_held h edits = fold edited_held h edits

-- rows of builds after other builds are put one after another
abbrev pub put_in_turn : List Build → List Build → List Build
put_in_turn found rows = fold (λ rs b. put_by number_of_build b rs) rows found

-- ---- how builds are held

abbrev pub known_of : HeldBuilds → KnownBuilds
known_of h = record { rows = h.table.rows.items; known = h.known.items }

-- the table of builds satisfies its invariant, and the serials of the known items rise
pub record AreBuildsKept (h : HeldBuilds) : Type 0 where
  pub table : build_table.IsKeptBuildTable h.table
  pub rise : RisesFrom serial_of 0 h.known.items

-- there is room for n more builds
abbrev pub HaveBuildRoom : ℕ → HeldBuilds → Type 0
HaveBuildRoom n h = build_table.HaveRoom n h.table
