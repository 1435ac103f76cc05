-- Which members have to be there, and which may be.
use Rattle.std.specs.Prelude.{ℕ, List, codes, Bool, false, ◌&&◌, ◌||◌, not, is_none, is_some}
use Rattle.std.specs.List.{list_any}
use Rattle.std.specs.Option.{option_map_or}
use Rattle.toml.specs.Data.{Data, Members, no_members, member, get, as_table}
use Rattle.gate_types.specs.Names.{same_name}
use Rattle.gate_config.specs.Document.{queues_of, projects_of, jobs_of}
use Rattle.gate_config.specs.declared.members.Section.{Section}
use Rattle.gate_config.specs.declared.members.Section.TheVariants as section

-- a table without the member; in what is no table none is missed
abbrev pub lacks : List ℕ → Data → Bool
lacks key d = is_some (as_table d) && is_none (get key d)

-- a project without its name, its queue, or the name of a job
abbrev pub lacks_in_project : Data → Bool
lacks_in_project p = lacks (codes "name") p || lacks (codes "queue") p || list_any (lacks (codes "name")) (jobs_of p)

-- `forge`, `queue` or `project` isn't there, or the base, or what a queue or a project can't be without
abbrev pub misses_member : Data → Bool
misses_member d =
    lacks (codes "forge") d || lacks (codes "queue") d || lacks (codes "project") d ||
    option_map_or (lacks (codes "base")) (get (codes "forge") d) false ||
    list_any (lacks (codes "name")) (queues_of d) || list_any lacks_in_project (projects_of d)

-- whether a section may have a member of this name
abbrev pub may_have : Section → List ℕ → Bool
may_have section.Document key =
    same_name key (codes "forge") || same_name key (codes "queue") || same_name key (codes "project")
may_have section.Forge key = same_name key (codes "base")
may_have section.Queue key =
    same_name key (codes "name") || same_name key (codes "window") || same_name key (codes "floor") ||
    same_name key (codes "increase") || same_name key (codes "increase_by") ||
    same_name key (codes "decrease") || same_name key (codes "decrease_by")
may_have section.Project key =
    same_name key (codes "name") || same_name key (codes "queue") || same_name key (codes "job") ||
    same_name key (codes "fail_fast")
may_have section.Job key = same_name key (codes "name") || same_name key (codes "voting")

-- a member whose name the section doesn't know
abbrev pub has_other_than : Section → Members → Bool
has_other_than s no_members = false
has_other_than s (member key d ms) = not (may_have s key) || has_other_than s ms

-- a table with such a member
abbrev pub has_unknown : Section → Data → Bool
has_unknown s d = option_map_or (has_other_than s) (as_table d) false

-- the same in a project, or in one of its jobs
abbrev pub has_unknown_in_project : Data → Bool
has_unknown_in_project p = has_unknown section.Project p || list_any (has_unknown section.Job) (jobs_of p)

-- the same anywhere in a document
abbrev pub has_unknown_member : Data → Bool
has_unknown_member d =
    has_unknown section.Document d || option_map_or (has_unknown section.Forge) (get (codes "forge") d) false ||
    list_any (has_unknown section.Queue) (queues_of d) || list_any has_unknown_in_project (projects_of d)
