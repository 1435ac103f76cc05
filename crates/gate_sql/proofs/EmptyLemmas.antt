-- The first rows stand for the gate before its first delivery.
use Rattle.std.proofs.Common.{◌≡◌, ℕ, suc, List, [], ◌∷◌, map, find, Some, true, false, cond, refl, sym, ap, subst}
use Rattle.std.specs.Option.{option_map_or}
use Rattle.std.specs.Prelude.{IsPermutation}
use Rattle.std.proofs.lemmas.List.Sorted.{IsPermutation-refl}
use Rattle.sqlite.specs.Tree.{Trees}
use Rattle.gate_types.specs.Names.{same_name}
use Rattle.gate_types.specs.Once.{empty}
use Rattle.gate_types.specs.Rows.{item_rows}
use Rattle.gate_types.specs.Settings.{Settings}
use Rattle.gate_types.specs.SettingsText.{settings_text}
use Rattle.gate_types.specs.State.{empty_queue, start}
use Rattle.gate_types.specs.Tables.{QueueRows, queue_rows as rows_of, tables}
use Rattle.gate_types.specs.declared.config.Queue.{Queue}
use Rattle.gate_rows.specs.Matches.{StandsFor, Matches, of_queue, placed}
use Rattle.gate_schema.specs.Rows.{Stands}
use Rattle.gate_file_changes.specs.Making.{first_stored, queue_row_at, first_queue_rows}

-- what stands of the queues before the first delivery
abbrev first_told : Settings → List Queue → List QueueRows
first_told c qs = map (λ q. rows_of (item_rows c (start c) q) q) (map empty_queue qs)

-- each is in its place
first_places : (c : Settings) (n : ℕ) (qs : List Queue) → first_queue_rows n qs ≡ placed n (first_told c qs)
first_places c n [] = refl
first_places c n (q ∷ qs) = ap (λ l. queue_row_at n q ∷ l) (first_places c (suc n) qs)

-- a list that is empty in each queue is so in the queue of a name
none_of : {X : Type 0} (list : QueueRows → List X) (c : Settings) → ((q : Queue) → list (rows_of [] (empty_queue q)) ≡ []) → (name : List ℕ) (qs : List Queue) → of_queue list name (first_told c qs) ≡ []
none_of list c none name [] = refl
none_of list c none name (q ∷ qs) =
    elim (same_name q.name name) as (λ b. option_map_or list (cond b (Some (rows_of [] (empty_queue q))) (find (λ (x : QueueRows). same_name x.name name) (first_told c qs))) [] ≡ [])
    [ true ↦ none q | false ↦ none_of list c none name qs ]

-- the first rows tell of no change, item, landing, report and build
pub matches_empty : (c : Settings) → Matches (first_stored (settings_text c) (first_queue_rows 0 c.queues)) (tables c (empty c))
matches_empty c = record {
  counters_are = refl;
  queues_are = record {
    places = first_places c 0 c.queues;
    items_are = λ name. sym (none_of (λ q. q.items) c (λ q. refl) name c.queues);
    landings_are = λ name. subst (IsPermutation []) (sym (none_of (λ q. q.landings) c (λ q. refl) name c.queues)) (IsPermutation-refl []);
    reports_are = λ name. subst (IsPermutation []) (sym (none_of (λ q. q.reports) c (λ q. refl) name c.queues)) (IsPermutation-refl []);
  };
  changes_are = refl;
  needs_are = λ n. refl;
  builds_are = refl;
  kept_are = refl;
  plans_are = record { jobs_are = λ n. refl; fast_are = λ n. refl };
}

-- tables that hold the first rows stand for the empty gate
pub stands_for_empty : (db : Trees) (c : Settings) (text : List ℕ) (queues : List Queue) → text ≡ settings_text c → queues ≡ c.queues → Stands db (first_stored text (first_queue_rows 0 queues)) → StandsFor db c (empty c)
stands_for_empty db c text queues is are stands = record {
  stored = first_stored (settings_text c) (first_queue_rows 0 c.queues);
  stands = subst (λ qs. Stands db (first_stored (settings_text c) (first_queue_rows 0 qs))) are (subst (λ t. Stands db (first_stored t (first_queue_rows 0 queues))) is stands);
  settings = refl;
  matches = matches_empty c;
}
