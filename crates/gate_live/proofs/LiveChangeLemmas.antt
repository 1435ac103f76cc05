-- The changes that are held of a content, and what is read of them.
use Rattle.std.proofs.Common.{◌≡◌, ℕ, Option, Some, None, List, [], ◌∷◌, refl, sym, ap, subst, ◌∙◌}
use Rattle.std.specs.Prelude.{IfSome, IsSomeAnd, option_map}
use Rattle.gate_types.specs.declared.edits.Edit.{Edit}
use Rattle.gate_types.specs.declared.records.Change.{Change}
use Rattle.gate_types.specs.declared.records.Item.{Item}
use Rattle.gate_types.specs.declared.rows.ChangeRow.{ChangeRow}
use Rattle.gate_types.specs.Settings.{Settings}
use Rattle.gate_types.specs.State.{known_change}
use Rattle.gate_types.specs.Once.{Content}
use Rattle.gate_types.specs.Tables.{Leads, Tables, edited_tables, fold_all, tables, change_in}
use Rattle.gate_book_trait.proofs.ReadLemmas.{change_is}
use Rattle.gate_book_trait.specs.Reads as read
use Rattle.gate_memory.specs.HeldQueues.{LiveQueue}
use Rattle.gate_live.specs.Live.{LiveTables, live_items, live_tables}
use Rattle.gate_live.specs.Held.{IsLiveOf, live_of}
use Rattle.gate_live.specs.Parts.{Agrees, Parts}
use Rattle.gate_live.specs.declared.held.Held.{Held}
use Rattle.gate_live.specs.HeldChanges.{AnyAreHeldOf, AreChangesOf, AreRowsOf, changes_held, rows_edited}
use Rattle.gate_live.specs.declared.held_changes.HeldChanges.{HeldChanges}
use Rattle.gate_live.proofs.ReadLemmas.{live_items_are}
use Rattle.gate_live.proofs.ChangeEditLemmas.{any_edited, fold_changes}

-- the changes of edited tables are the edited changes
pub changes_after : (t : Tables) (edits : List Edit) → (fold_all t edits).changes ≡ fold_changes t.changes edits
changes_after t [] = refl
changes_after t (e ∷ es) = changes_after (edited_tables t e) es

-- where edits were made of what is held too, it is of what the content has become
pub changes_edited : (c : Settings) (x y : Content) (queues : List LiveQueue) (edits : List Edit) (old new : Option (List ChangeRow)) →
    new ≡ option_map (rows_edited queues edits) old → AreChangesOf old c x → Leads c x edits y → AreChangesOf new c y
changes_edited c x y queues edits old new e held leads =
    let all : fold_changes (tables c x).changes edits ≡ (tables c y).changes = sym (changes_after (tables c x) edits) ∙ ap (λ (t : Tables). t.changes) leads in
    subst (λ (o : Option (List ChangeRow)). AnyAreHeldOf o (tables c y).changes) (sym e)
    (subst (AnyAreHeldOf (option_map (rows_edited queues edits) old)) all (any_edited queues edits old (tables c x).changes held))

-- the rows that are held are those of the content
pub rows_are : (c : Settings) (x : Content) (rows : Option (List ChangeRow)) (held : Option HeldChanges) (h : HeldChanges) → option_map changes_held held ≡ rows →
    held ≡ Some h → AreChangesOf rows c x → AreRowsOf (changes_held h) (tables c x).changes
rows_are c x rows held h view e are =
    subst (λ o. AreChangesOf (option_map changes_held o) c x) e (subst (λ o. AreChangesOf o c x) (sym view) are)

-- what is known of a change that is held
pub change_told : (p : Parts) (held : Option HeldChanges) (h : HeldChanges) (n : ℕ) (found : Option Change) → option_map changes_held held ≡ p.changes → held ≡ Some h →
    IfSome found (λ k. (all : List ChangeRow) → AreRowsOf (changes_held h) all → Some k ≡ change_in all n) →
    IfSome found (λ k. (c : Settings) (x : Content) → Agrees p c x → Some k ≡ known_change x.state n)
change_told p held h n None view e told = tt
change_told p held h n (Some k) view e told = λ c x agrees. told (tables c x).changes (rows_are c x p.changes held h view e agrees.changes) ∙ change_is c x n

-- what was read is held
pub any_read : (found : Option HeldChanges) (all : List ChangeRow) → IsSomeAnd found (λ h. AreRowsOf (changes_held h) all) → AnyAreHeldOf (option_map changes_held found) all
any_read None all are = tt
any_read (Some h) all are = are

-- what is held of a queue has the items of the content's
pub items_told : {T : Type 0} (o : Option T) (items : T → List Item) (held : Option Held) (h : Held) (name : List ℕ) → held ≡ Some h →
    IfSome o (λ t. items t ≡ live_items (live_of h).queues name) →
    IfSome o (λ t. (c : Settings) (x : Content) → IsLiveOf (option_map live_of held) c x → items t ≡ read.items_in c x.state name)
items_told None items held h name e told = tt
items_told (Some t) items held h name e told = λ c x live.
    told ∙ ap (λ (l : LiveTables). live_items l.queues name) (subst (λ o. IfSome (option_map live_of o) (λ v. v ≡ live_tables (tables c x))) e live) ∙ live_items_are c x name
