-- What is read of what is live of a content is what is asked of the content.
use Rattle.std.proofs.Common.{◌≡◌, ℕ, ◌<◌, true, Option, Some, None, List, [], ◌∷◌, ◌++◌, length, map, refl, ap, ◌∙◌}
use Rattle.std.specs.Prelude.{nat_lt, option_map, IfSome}
use borrow.Author.Tests.{ltb-true}
use Rattle.std.specs.Option.{option_map_or}
use Rattle.gate_types.specs.declared.records.Item.{Item}
use Rattle.gate_types.specs.Names.{same_name}
use Rattle.gate_types.specs.Settings.{Settings}
use Rattle.gate_types.specs.State.{Queue}
use Rattle.gate_types.specs.Once.{Content}
use Rattle.gate_types.specs.Tables.{QueueRows, tables}
use Rattle.gate_book_trait.specs.Reads as read
use Rattle.gate_book_trait.specs.RowReads.{rows_named, queued_rows, all_queued}
use Rattle.gate_book_trait.proofs.Finding.{find_map}
use Rattle.gate_book_trait.proofs.ReadLemmas.{rows_of_queue, named_is, items_are, window_is, queued_are, found_passes}
use Rattle.gate_book_trait.proofs.ReadLemmas.{last_passes, weaker_if}
use Rattle.gate_memory.specs.HeldQueues.{LiveQueue, live_queued}
use Rattle.gate_live.specs.Live.{live_queue, live_tables, live_named, live_items}
use Rattle.gate_live.proofs.LiveLemmas.{count_of_landings, count_of_reports}

-- the queue of a name
live_named_is : (qs : List QueueRows) (name : List ℕ) → live_named (map live_queue qs) name ≡ option_map live_queue (rows_named qs name)
live_named_is qs name = find_map live_queue (λ (l : LiveQueue). same_name l.rows.name name) qs

-- its window
pub live_window : (c : Settings) (x : Content) (name : List ℕ) → option_map (λ l. l.rows.window) (live_named (live_tables (tables c x)).queues name) ≡ read.window_of x.state name
live_window c x name = ap (option_map (λ (l : LiveQueue). l.rows.window)) (live_named_is (tables c x).queues name) ∙ by_found (rows_named (tables c x).queues name) ∙ window_is c x name
  where
    by_found : (o : Option QueueRows) → option_map (λ (l : LiveQueue). l.rows.window) (option_map live_queue o) ≡ option_map (λ (q : QueueRows). q.window) o
    by_found None = refl
    by_found (Some q) = refl

-- its items
pub live_items_are : (c : Settings) (x : Content) (name : List ℕ) → live_items (live_tables (tables c x)).queues name ≡ read.items_in c x.state name
live_items_are c x name = ap (λ o. option_map_or (λ (l : LiveQueue). l.rows.items) o []) (live_named_is (tables c x).queues name) ∙ by_found (rows_named (tables c x).queues name) ∙ items_are c x name
  where
    by_found : (o : Option QueueRows) → option_map_or (λ (l : LiveQueue). l.rows.items) (option_map live_queue o) [] ≡ option_map_or (λ (q : QueueRows). q.items) o []
    by_found None = refl
    by_found (Some q) = refl

-- how many landings it has
pub live_landings : (c : Settings) (x : Content) (name : List ℕ) → option_map_or (λ l. l.landings) (live_named (live_tables (tables c x)).queues name) 0 ≡ read.landing_count x.state name
live_landings c x name =
    ap (λ o. option_map_or (λ (l : LiveQueue). l.landings) o 0) (live_named_is (tables c x).queues name ∙ ap (option_map live_queue) (named_is c x name))
    ∙ by_found (read.queue_named x.state name)
  where
    by_found : (o : Option Queue) → option_map_or (λ (l : LiveQueue). l.landings) (option_map live_queue (option_map (rows_of_queue c x.state) o)) 0 ≡ length (option_map_or (λ q. q.landings) o [])
    by_found None = refl
    by_found (Some q) = count_of_landings q.landings

-- and how many reports
pub live_reports : (c : Settings) (x : Content) (name : List ℕ) → option_map_or (λ l. l.reports) (live_named (live_tables (tables c x)).queues name) 0 ≡ read.reports_in x.state name
live_reports c x name =
    ap (λ o. option_map_or (λ (l : LiveQueue). l.reports) o 0) (live_named_is (tables c x).queues name ∙ ap (option_map live_queue) (named_is c x name))
    ∙ by_found (read.queue_named x.state name)
  where
    by_found : (o : Option Queue) → option_map_or (λ (l : LiveQueue). l.reports) (option_map live_queue (option_map (rows_of_queue c x.state) o)) 0 ≡ option_map_or (λ q. length q.reports) o 0
    by_found None = refl
    by_found (Some q) = count_of_reports q.reports

-- the items of all queues
all_live : (qs : List QueueRows) → live_queued (map live_queue qs) ≡ all_queued qs
all_live [] = refl
all_live (q ∷ qs) = ap (λ ks. queued_rows q ++ ks) (all_live qs)

pub live_queued_are : (c : Settings) (x : Content) → live_queued (live_tables (tables c x)).queues ≡ read.queued_items c x.state
live_queued_are c x = all_live (tables c x).queues ∙ queued_are c x

-- ---- what is found above and below

pub above_rises : (above : ℕ) (items : List Item) → IfSome (read.first_above above items) (λ i. above < i.serial)
above_rises above items = weaker_if (λ (i : Item). nat_lt above i.serial ≡ true) (λ (i : Item). above < i.serial) (λ i e. ltb-true above i.serial e) (read.first_above above items)
    (found_passes (λ (i : Item). nat_lt above i.serial) items)

pub below_falls : (below : ℕ) (items : List Item) → IfSome (read.last_item_below below items) (λ i. i.serial < below)
below_falls below items = weaker_if (λ (i : Item). nat_lt i.serial below ≡ true) (λ (i : Item). i.serial < below) (λ i e. ltb-true i.serial below e) (read.last_item_below below items)
    (last_passes (λ (i : Item). nat_lt i.serial below) None items tt)
