-- What the edits make of the tables is what the state has to which they lead.
use Rattle.std.proofs.Common.{◌≡◌, ℕ, Option, Some, None, List, [], ◌∷◌, map, fold, refl, sym, ap, ◌∙◌}
use Rattle.std.specs.Prelude.{option_map, ◌==◌}
use Rattle.std.specs.Option.{option_map_or, option_or}
use Rattle.std.proofs.lemmas.Option.{none-some}
use Rattle.gate_types.specs.declared.records.Change.{Change}
use Rattle.gate_types.specs.declared.rows.ChangeRow.{ChangeRow}
use Rattle.gate_types.specs.declared.edits.Edit.{Edit}
use Rattle.gate_types.specs.Names.{same_name}
use Rattle.gate_types.specs.Settings.{Settings}
use Rattle.gate_types.specs.State.{Queue, State, known_change}
use Rattle.gate_types.specs.Once.{Content}
use Rattle.gate_types.specs.Rows.{item_rows}
use Rattle.gate_types.specs.Tables.{Tables, QueueRows, tables, queue_rows, change_row, edited_changes, change_in}
use Rattle.gate_types.specs.Tables.{edited_counters, edited_queue, edited_tables, fold_all}
use Rattle.gate_types.proofs.NameLemmas.{same_name_is}
use Rattle.gate_reads.specs.Moves.{in_state}
use Rattle.gate_book_trait.specs.Reads.{queue_named, items_in}
use Rattle.gate_book_trait.specs.RowReads.{rows_named}
use Rattle.gate_book_trait.proofs.Finding.{find_map}
use Rattle.gate_laws.proofs.Members.{found}
use Rattle.gate_admission.specs.Led.{IsLed}
use Rattle.gate_admission.specs.Known.{IsQueue}
use Rattle.gate_admission.specs.Seen.{at_last, change_put, last_put, last_stage, items_after}
use Rattle.gate_admission.proofs.Rows.{changes_fold, last_or}

-- ---- counters and changes

counters_all : (t : Tables) (edits : List Edit) → (fold_all t edits).counters ≡ fold edited_counters t.counters edits
counters_all t [] = refl
counters_all t (e ∷ es) = counters_all (edited_tables t e) es

pub counters_led : (c : Settings) (x : Content) (edits : List Edit) (v : State) → IsLed c x edits v →
    fold edited_counters x.state.counters edits ≡ v.counters
counters_led c x edits v led =
    sym (counters_all (tables c x) edits) ∙ ap (λ (t : Tables). t.counters) led.leads

changes_all : (t : Tables) (edits : List Edit) → (fold_all t edits).changes ≡ fold edited_changes t.changes edits
changes_all t [] = refl
changes_all t (e ∷ es) = changes_all (edited_tables t e) es

-- the rows of the changes
pub changes_led : (c : Settings) (x : Content) (edits : List Edit) (v : State) → IsLed c x edits v →
    fold edited_changes (map (change_row x.state.ready) x.state.changes) edits ≡ map (change_row v.ready) v.changes
changes_led c x edits v led =
    sym (changes_all (tables c x) edits) ∙ ap (λ (t : Tables). t.changes) led.leads

-- what the rows tell of a change
told_of : (s : State) (n : ℕ) → change_in (map (change_row s.ready) s.changes) n ≡ known_change s n
told_of s n =
    ap (option_map (λ (r : ChangeRow). r.change))
    (find_map (change_row s.ready) (λ (r : ChangeRow). r.change.number == n) s.changes) ∙ by_found (known_change s n)
  where
    by_found : (o : Option Change) → option_map (λ (r : ChangeRow). r.change) (option_map (change_row s.ready) o) ≡ o
    by_found None = refl
    by_found (Some k) = refl

-- what is known after the edits, edit by edit
pub put_led : (c : Settings) (x : Content) (edits : List Edit) (v : State) (n : ℕ) → IsLed c x edits v →
    fold (change_put n) (known_change x.state n) edits ≡ known_change v n
put_led c x edits v n led =
    ap (λ o. fold (change_put n) o edits) (sym (told_of x.state n))
    ∙ sym (changes_fold n (map (change_row x.state.ready) x.state.changes) edits)
    ∙ ap (λ rows. change_in rows n) (changes_led c x edits v led) ∙ told_of v n

pub known_led : (c : Settings) (x : Content) (edits : List Edit) (v : State) (n : ℕ) → IsLed c x edits v →
    at_last (last_stage n edits) (option_or (last_put n edits) (known_change x.state n)) ≡ known_change v n
known_led c x edits v n led = sym (last_or n (known_change x.state n) edits) ∙ put_led c x edits v n led

-- ---- the items of a queue

-- a queue's rows after edits
abbrev queue_after : List Edit → QueueRows → QueueRows
queue_after edits q = fold (λ r e. edited_queue e r) q edits

queues_all : (t : Tables) (edits : List Edit) (name : List ℕ) →
    rows_named (fold_all t edits).queues name ≡ option_map (queue_after edits) (rows_named t.queues name)
queues_all t [] name = by_found (rows_named t.queues name)
  where
    by_found : (o : Option QueueRows) → o ≡ option_map (queue_after []) o
    by_found None = refl
    by_found (Some q) = refl
queues_all t (e ∷ es) name =
    queues_all (edited_tables t e) es name
    ∙ ap (option_map (queue_after es)) (find_map (edited_queue e) (λ q. same_name q.name name) t.queues)
    ∙ by_found (rows_named t.queues name)
  where
    by_found : (o : Option QueueRows) → option_map (queue_after es) (option_map (edited_queue e) o) ≡
        option_map (queue_after (e ∷ es)) o
    by_found None = refl
    by_found (Some q) = refl

items_of_queue : (edits : List Edit) (q : QueueRows) → (queue_after edits q).items ≡ items_after q.name q.items edits
items_of_queue [] q = refl
items_of_queue (e ∷ es) q = items_of_queue es (edited_queue e q)

-- a queue's rows in the tables of a content
rows_are : (c : Settings) (x : Content) (name : List ℕ) →
    rows_named (tables c x).queues name ≡ option_map (λ q. queue_rows (item_rows c x.state q) q)
    (queue_named x.state name)
rows_are c x name = find_map (λ q. queue_rows (item_rows c x.state q) q) (λ r. same_name r.name name) x.state.queues

pub queues_led : (c : Settings) (x : Content) (edits : List Edit) (v : State) (name : List ℕ) → IsLed c x edits v →
    option_map (λ q. queue_rows (item_rows c v q) q) (queue_named v name) ≡
    option_map (queue_after edits) (option_map (λ q. queue_rows (item_rows c x.state q) q) (queue_named x.state name))
queues_led c x edits v name led =
    sym (rows_are c (in_state x v) name) ∙ ap (λ (t : Tables). rows_named t.queues name) (sym led.leads)
    ∙ queues_all (tables c x) edits name ∙ ap (option_map (queue_after edits)) (rows_are c x name)

-- a queue of the state is there in the content, and its items are those after the edits
pub record IsAfter (c : Settings) (x : Content) (edits : List Edit) (v : State) (name : List ℕ) (q : Queue) : Type 0
  where
    pub before : Queue
    pub named : queue_named x.state name ≡ Some before
    pub items : items_after name (item_rows c x.state before) edits ≡ item_rows c v q

pub queue_after_is : (c : Settings) (x : Content) (edits : List Edit) (v : State) (name : List ℕ) (q : Queue) →
    IsLed c x edits v → queue_named v name ≡ Some q → IsAfter c x edits v name q
queue_after_is c x edits v name q led named =
    by_found (queue_named x.state name) refl (sym (ap (option_map (λ q. queue_rows (item_rows c v q) q)) named)
    ∙ queues_led c x edits v name led)
  where
    by_found : (o : Option Queue) → queue_named x.state name ≡ o →
        Some (queue_rows (item_rows c v q) q) ≡ option_map (queue_after edits)
        (option_map (λ q. queue_rows (item_rows c x.state q) q) o) →
        IsAfter c x edits v name q
    by_found None e same = absurd (none-some (queue_rows (item_rows c v q) q) (sym same))
    by_found (Some p) e same =
        let rows = queue_rows (item_rows c x.state p) p in
        let name_is : p.name ≡ name = same_name_is p.name name
        (found (λ (r : Queue). same_name r.name name) x.state.queues p e).1 in
        record {
          before = p;
          named = e;
          items = ap (λ n. items_after n (item_rows c x.state p) edits) (sym name_is) ∙ sym (items_of_queue edits rows)
              ∙ sym (ap (λ o. option_map_or (λ (r : QueueRows). r.items) o []) same);
        }

-- the same of what is read
pub items_led : (c : Settings) (x : Content) (edits : List Edit) (v : State) (name : List ℕ) → IsLed c x edits v →
    IsQueue v name → items_after name (items_in c x.state name) edits ≡ items_in c v name
items_led c x edits v name led there =
    let at = queue_after_is c x edits v name there.queue led there.named in
    ap (λ o. items_after name (option_map_or (item_rows c x.state) o []) edits) at.named ∙ at.items
    ∙ sym (ap (λ o. option_map_or (item_rows c v) o []) there.named)
