-- A fold of edits acts on each table by itself, and moves follow one another.
use Rattle.std.proofs.Common.{◌≡◌, ℕ, List, [], ◌∷◌, ◌++◌, map, fold, refl, ap, ◌∙◌}
use Rattle.std.proofs.lemmas.List.Sums.{fold-append}
use Rattle.gate_types.specs.declared.records.Build.{Build}
use Rattle.gate_types.specs.declared.edits.Edit.{Edit}
use Rattle.gate_types.specs.State.{Queue, State}
use Rattle.gate_types.specs.Once.{Content}
use Rattle.gate_types.specs.Tables.{QueueRows, change_row, queue_rows, edited_changes, edited_queue}
use Rattle.gate_types.specs.Tables.{edited_plans, edited_build_rows, edited_counters, edited_kept, edited_tables}
use Rattle.gate_types.specs.Tables.{fold_all}
use Rattle.gate_laws.proofs.Members.{map_map}
use Rattle.gate_laws.proofs.TableParts.{all_parts}
use Rattle.gate_reads.specs.Moves.{Columns, row_by_columns, tables_by, in_state, Moves}

-- edits that move to t, then edits that move on from there
pub moves_on : (x : Content) (t u : State) (first more : List Edit) → Moves x first t → Moves (in_state x t) more u →
    Moves x (first ++ more) u
moves_on x t u first more f g = λ columns.
    fold-append edited_tables (tables_by columns x) first more ∙ ap (λ z. fold_all z more) (f columns) ∙ g columns

-- a queue in tables, by the columns of its items
abbrev pub shown : (ℕ → Columns) → Queue → QueueRows
shown columns q = queue_rows (map (row_by_columns columns) q.items) q

-- a queue in tables after edits
abbrev pub shown_after : (ℕ → Columns) → List Edit → Queue → QueueRows
shown_after columns edits q = fold (λ r e. edited_queue e r) (shown columns q) edits

-- what edits owe, table by table
pub record Parts (x : Content) (edits : List Edit) (t : State) : Type 0 where
  pub changes : fold edited_changes (map (change_row x.state.ready) x.state.changes) edits ≡
      map (change_row t.ready) t.changes
  pub queues : (columns : ℕ → Columns) → map (shown_after columns edits) x.state.queues ≡ map (shown columns) t.queues
  pub plans : fold edited_plans x.state.plans edits ≡ t.plans
  pub builds : fold edited_build_rows x.state.builds edits ≡ t.builds
  pub counters : fold edited_counters x.state.counters edits ≡ t.counters
  pub kept : fold edited_kept x.kept edits ≡ x.kept

pub by_parts : (x : Content) (edits : List Edit) (t : State) → Parts x edits t → Moves x edits t
by_parts x edits t p = λ columns.
    all_parts (tables_by columns x) edits
    ∙ (λ i. record {
      changes = p.changes i;
      queues = (map_map (λ (q : QueueRows). fold (λ r e. edited_queue e r) q edits) (shown columns) x.state.queues
          ∙ p.queues columns) i;
      plans = p.plans i;
      builds = p.builds i;
      counters = p.counters i;
      kept = p.kept i;
    })

-- edits of one kind, made of builds, that each leave a thing leave it together
pub leave_it : {Y : Type 0} (f : Y → Edit → Y) (of : Build → Edit) (y : Y) → ((b : Build) → f y (of b) ≡ y) →
    (bs : List Build) → fold f y (map of bs) ≡ y
leave_it f of y h [] = refl
leave_it f of y h (b ∷ bs) = ap (λ z. fold f z (map of bs)) (h b) ∙ leave_it f of y h bs
