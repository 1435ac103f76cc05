-- The tables of a content that other settings adopt.
use Rattle.std.proofs.Common.{◌≡◌, ℕ, Bool, true, false, cond, Option, Some, None, List, [], ◌∷◌, map, refl, sym, ap}
use Rattle.std.proofs.Common.{◌∙◌}
use Rattle.std.specs.Prelude.{find, option_map}
use Rattle.std.specs.Option.{option_map_or}
use Rattle.gate_types.specs.declared.config.Queue.{Queue as QueueSetting}
use Rattle.gate_types.specs.Names.{same_name}
use Rattle.gate_types.specs.Settings.{Settings}
use Rattle.gate_types.specs.State.{Queue, State, empty_queue}
use Rattle.gate_types.specs.Rows.{item_rows}
use Rattle.gate_types.specs.Once.{Content}
use Rattle.gate_types.specs.Adopt.{keeps_window, resized, adopted_queue, adopted, adopted_content}
use Rattle.gate_types.specs.Tables.{QueueRows, queue_rows, tables}
use Rattle.gate_types.specs.AdoptedTables.{TablesAreAdopted, adopted_rows, adopted_tables, empty_rows, resized_rows}

-- what stands of a queue
rows_in : Settings → State → Queue → QueueRows
rows_in c s q = queue_rows (item_rows c s q) q

-- found among the rows as among the queues
found_rows : (c : Settings) (s : State) (name : List ℕ) (qs : List Queue) →
    find (λ q. same_name q.name name) (map (rows_in c s) qs) ≡ option_map (rows_in c s) (find (λ q. same_name q.name name) qs)
unfolding rows_in
found_rows c s name [] = refl
found_rows c s name (q ∷ qs) = by_name (same_name q.name name) (found_rows c s name qs)
  where
    by_name : (b : Bool) → find (λ q. same_name q.name name) (map (rows_in c s) qs) ≡ option_map (rows_in c s) (find (λ q. same_name q.name name) qs) →
        cond b (Some (rows_in c s q)) (find (λ q. same_name q.name name) (map (rows_in c s) qs)) ≡
        option_map (rows_in c s) (cond b (Some q) (find (λ q. same_name q.name name) qs))
    by_name true h = refl
    by_name false h = h

-- what stands of one queue
one_adopted : (c d : Settings) (s : State) (r : QueueSetting) →
    rows_in d (adopted c d s) (adopted_queue c s r) ≡ adopted_rows c (map (rows_in c s) s.queues) r
unfolding rows_in
one_adopted c d s r =
    by_found (find (λ q. same_name q.name r.name) s.queues)
    ∙ ap (λ o. option_map_or (resized_rows c r) o (empty_rows r)) (sym (found_rows c s r.name s.queues))
  where
    by_window : (q : Queue) (b : Bool) → rows_in d (adopted c d s) (cond b q (record q { window = r.window })) ≡
        record (rows_in c s q) { window = cond b q.window r.window }
    by_window q true = refl
    by_window q false = refl

    by_found : (o : Option Queue) → rows_in d (adopted c d s) (option_map_or (resized c r) o (empty_queue r)) ≡
        option_map_or (resized_rows c r) (option_map (rows_in c s) o) (empty_rows r)
    by_found None = refl
    by_found (Some q) = by_window q (keeps_window c r)

all_adopted : (c d : Settings) (s : State) (rs : List QueueSetting) →
    map (rows_in d (adopted c d s)) (map (adopted_queue c s) rs) ≡ map (adopted_rows c (map (rows_in c s) s.queues)) rs
all_adopted c d s [] = refl
all_adopted c d s (r ∷ rs) =
    ap (λ x. x ∷ map (rows_in d (adopted c d s)) (map (adopted_queue c s) rs)) (one_adopted c d s r)
    ∙ ap (λ xs. adopted_rows c (map (rows_in c s) s.queues) r ∷ xs) (all_adopted c d s rs)

-- they are the old tables, with the queues of the other settings
pub tables_adopted : (c d : Settings) (x : Content) → tables d (adopted_content c d x) ≡ adopted_tables c d (tables c x)
unfolding rows_in
tables_adopted c d x = ap (λ qs. record (tables c x) { queues = qs }) (all_adopted c d x.state d.queues)

pub tables_are_adopted : TablesAreAdopted
tables_are_adopted = record { adopted = tables_adopted; alike = λ c d x. refl }
