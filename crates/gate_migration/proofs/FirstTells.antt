-- What a file of schema 1 that stands for a content tells of it.
use Rattle.std.proofs.Common.{◌≡◌, ◌∙◌, ◌≤◌, true, false, not, cond, List, [], ◌∷◌, map, length, Option, Some, find}
use Rattle.std.proofs.Common.{filter, ap, refl, sym, subst, IsPermutation, inl, inr}
use Rattle.std.specs.Option.{option_map_or}
use Rattle.std.specs.List.{list_any}
use Rattle.std.proofs.lemmas.Bool.{and_parts, not-true}
use Rattle.std.proofs.lemmas.List.Elements.{recursion_from_All}
use Rattle.std.proofs.lemmas.Simd.{map-map}
use Rattle.sqlite.specs.State.{State as SqlState}
use Rattle.gate_types.specs.Migrate.{migrated}
use Rattle.gate_types.specs.Names.{same_name}
use Rattle.gate_types.specs.Once.{Content}
use Rattle.gate_types.specs.Rows.{item_of, item_rows}
use Rattle.gate_types.specs.Settings.{Settings, are_distinct, are_sound}
use Rattle.gate_types.specs.State.{Queue, State}
use Rattle.gate_types.specs.Tables.{QueueRows}
use Rattle.gate_types.specs.Rising.{In}
use Rattle.gate_types.specs.declared.edits.Edit.{Edit}
use Rattle.gate_schema.specs.Rows.{AreNamed, QueueRow, Stored}
use Rattle.gate_rows.specs.Matches.{Matches, landings_of}
use Rattle.gate_book_trait.proofs.ReadLemmas.{rows_of_queue}
use Rattle.gate_queue_queries.specs.First.{ShowsFirst, first_schema}
use Rattle.gate_types.proofs.DistinctLemmas.{names_differ}
use Rattle.gate_laws.proofs.Alone.{same_name_of}
use Rattle.gate_laws.proofs.Members.{all, none_from, to_map}
use Rattle.gate_laws.proofs.ItemRows.{items_of_rows}
use Rattle.gate_table_laws.specs.Held.{queue_names}
use Rattle.gate_migration.specs.Standing.{is_newly_taken}
use Rattle.gate_migration.specs.Migrates.{CanMigrate, TellsQueue, TellsState, pair_of_item, pair_of_row, puts}
use Rattle.gate_migration.specs.Upgrade.{CanUpgrade, tables_before, stored_without_plans}
use Rattle.gate_migration.proofs.MigrateLemmas.{first_plans, puts_known}
use Rattle.gate_table_laws.proofs.told.Items.{names_placed}
use Rattle.gate_table_laws.proofs.told.Names.{count_names, named_once}
use Rattle.gate_file_changes.specs.Applies.{are_known, names_in}

-- where the names differ, a queue is found by its own
queue_found : (c : Settings) (s : State) (qs : List Queue) → are_distinct (map (λ (q : Queue). q.name) qs) ≡ true → (q : Queue) → In q qs
    → find (λ (r : QueueRows). same_name r.name q.name) (map (rows_of_queue c s) qs) ≡ Some (rows_of_queue c s q)
queue_found c s [] differ q m = absurd m
queue_found c s (p ∷ ps) differ q m = elim m [
  | inl e ↦ ap (λ t. cond t (Some (rows_of_queue c s p)) (find (λ (r : QueueRows). same_name r.name q.name) (map (rows_of_queue c s) ps))) (same_name_of p.name q.name (ap (λ (x : Queue). x.name) e))
      ∙ ap (λ x. Some (rows_of_queue c s x)) e
  | inr t ↦ ap (λ t. cond t (Some (rows_of_queue c s p)) (find (λ (r : QueueRows). same_name r.name q.name) (map (rows_of_queue c s) ps)))
      (none_from (same_name p.name) (map (λ (x : Queue). x.name) ps) (not-true _ (both p ps differ).0) q.name (to_map (λ (x : Queue). x.name) ps q t))
      ∙ queue_found c s ps (both p ps differ).1 q t
]
  where
    both : (p : Queue) (ps : List Queue) → are_distinct (map (λ (q : Queue). q.name) (p ∷ ps)) ≡ true
        → (not (list_any (same_name p.name) (map (λ (q : Queue). q.name) ps)) ≡ true) × (are_distinct (map (λ (q : Queue). q.name) ps) ≡ true)
    both p ps differ = and_parts _ _ differ

module _ (c : Settings) (x : Content) (b : Stored) (sound : are_sound c ≡ true) (set : map (λ (q : Queue). q.name) x.state.queues ≡ queue_names c)
    (told : Matches (stored_without_plans b) (tables_before c x)) where
  differ : are_distinct (map (λ (q : Queue). q.name) x.state.queues) ≡ true
  differ = subst (λ names. are_distinct names ≡ true) (sym set) (names_differ c sound)

  -- no two queues have one name
  pub first_named : AreNamed b
  first_named name =
      subst (λ n. n ≤ 1) (sym (ap (λ l. length (filter (λ (q : QueueRow). same_name q.name name) l)) told.queues_are.places
      ∙ names_placed c (migrated c x.state) name 0 x.state.queues ∙ count_names (λ (q : Queue). q.name) name x.state.queues))
      (named_once (map (λ (q : Queue). q.name) x.state.queues) differ name)

  tells_queue : (q : Queue) → In q x.state.queues → TellsQueue b q
  tells_queue q m =
      let s = migrated c x.state in
      let found = queue_found c s x.state.queues differ q m in
      record {
        items = ap (map pair_of_row) (told.queues_are.items_are q.name ∙ ap (λ (o : Option QueueRows). option_map_or (λ (r : QueueRows). r.items) o []) found)
            ∙ sym (map-map pair_of_item item_of (item_rows c s q)) ∙ ap (map pair_of_item) (items_of_rows c s q);
        landings = subst (λ l. IsPermutation (landings_of q.name b.landings) l)
            (ap (λ (o : Option QueueRows). option_map_or (λ (r : QueueRows). r.landings) o []) found) (told.queues_are.landings_are q.name);
      }

  pub tells_state : TellsState b c x.state
  tells_state = record {
    changes = told.changes_are;
    queues = recursion_from_All (TellsQueue b) x.state.queues (all (TellsQueue b) x.state.queues tells_queue);
    names = set;
  }

-- what is read of it
pub first_shown : (s : SqlState) (c : Settings) (x : Content) → (can : CanMigrate s c x) → ShowsFirst s can.stands.stored
first_shown s c x can = record {
  schema_is = can.schema_is;
  change = can.stands.stands.rows.change;
  item = can.stands.stands.rows.item;
  landing = can.stands.stands.rows.landing;
}

-- it becomes one of schema 2 by the edits of its plans
pub can_upgrade : (s : SqlState) (c : Settings) (x : Content) (edits : List Edit) → are_sound c ≡ true → edits ≡ puts (first_plans c x) → (can : CanMigrate s c x) → CanUpgrade s can.stands.stored edits (tables_before c x)
can_upgrade s c x edits sound are can =
    let b = can.stands.stored in
    record {
      schema_is = can.schema_is;
      rows = can.stands.stands.rows;
      plans = record {
        named = first_named c x b sound can.queues_are_set can.stands.matches;
        known = subst (λ l. are_known (names_in b) l ≡ true) (sym are) (puts_known (names_in b) (first_plans c x));
        planned = tt;
        matches = can.stands.matches;
      };
    }

-- a read leaves it as it is
pub still_can : (old new : SqlState) (c : Settings) (x : Content) → new.now ≡ old.now → CanMigrate old c x → CanMigrate new c x
still_can old new c x is can = record {
  schema_is = ap (λ d. d.schema) is ∙ can.schema_is;
  stands = subst (λ d. Rattle.gate_migration.specs.Upgrade.StandsForFirst d.trees c x) (sym is) can.stands;
  queues_are_set = can.queues_are_set;
}

-- the names of the new tables are free
pub names_free : is_newly_taken first_schema ≡ false
unfolding Rattle.sqlite_schema.specs.Names.same_name
names_free = refl
