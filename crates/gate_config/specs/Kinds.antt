-- The kind of each member.
use Rattle.std.specs.Prelude.{ℕ, List, codes, Bool, false, ◌||◌, not, is_some}
use Rattle.std.specs.List.{list_any, list_all}
use Rattle.std.specs.Option.{option_map_or}
use Rattle.toml.specs.Data.{Data, get, as_str, as_integer, as_bool, as_array, as_table}
use Rattle.gate_config.specs.Document.{values_in, queues_of, projects_of, jobs_of}
use Rattle.gate_config.specs.declared.kinds.ValueKind.{ValueKind}
use Rattle.gate_config.specs.declared.kinds.ValueKind.TheVariants as kind

abbrev pub is_table : Data → Bool
is_table d = is_some (as_table d)

-- whether a value is of a kind; an empty array is one of tables
abbrev pub is_of_kind : ValueKind → Data → Bool
is_of_kind kind.Table d = is_table d
is_of_kind kind.Tables d = option_map_or (λ ds. list_all is_table (values_in ds)) (as_array d) false
is_of_kind kind.Text d = is_some (as_str d)
is_of_kind kind.WholeNumber d = is_some (as_integer d)
is_of_kind kind.TruthValue d = is_some (as_bool d)

-- a member that is there and of another kind
abbrev pub is_wrong : ValueKind → List ℕ → Data → Bool
is_wrong k key d = option_map_or (λ m. not (is_of_kind k m)) (get key d) false

abbrev pub is_wrong_queue : Data → Bool
is_wrong_queue q =
    is_wrong kind.Text (codes "name") q || is_wrong kind.WholeNumber (codes "window") q ||
    is_wrong kind.WholeNumber (codes "floor") q ||
    is_wrong kind.Text (codes "increase") q || is_wrong kind.WholeNumber (codes "increase_by") q ||
    is_wrong kind.Text (codes "decrease") q || is_wrong kind.WholeNumber (codes "decrease_by") q

abbrev pub is_wrong_job : Data → Bool
is_wrong_job j = is_wrong kind.Text (codes "name") j || is_wrong kind.TruthValue (codes "voting") j

abbrev pub is_wrong_project : Data → Bool
is_wrong_project p =
    is_wrong kind.Text (codes "name") p || is_wrong kind.Text (codes "queue") p ||
    is_wrong kind.Tables (codes "job") p || is_wrong kind.TruthValue (codes "fail_fast") p ||
    list_any is_wrong_job (jobs_of p)

-- a known member of another kind, anywhere in a document
abbrev pub has_wrong_kind : Data → Bool
has_wrong_kind d =
    is_wrong kind.Table (codes "forge") d || is_wrong kind.Tables (codes "queue") d ||
    is_wrong kind.Tables (codes "project") d ||
    option_map_or (is_wrong kind.Text (codes "base")) (get (codes "forge") d) false ||
    list_any is_wrong_queue (queues_of d) || list_any is_wrong_project (projects_of d)
