-- The tables made one after the other, each empty.
use Rattle.std.proofs.Common.{◌≡◌, ℕ, ◌+◌, ◌<◌, ◌≤◌, zero, suc, List, [], ◌∷◌, map, drop, length, get_or, Ok}
use Rattle.std.proofs.Common.{Err, Result, inl, inr, ap, subst, ◌∙◌, arith}
use Rattle.std.specs.List.{AllByRecursion}
use Rattle.sqlite.specs.Table.{Table}
use Rattle.sqlite.specs.Schema.{Schema}
use Rattle.sqlite.specs.Tree.{Trees}
use Rattle.sqlite.specs.Command.{Command}
use Rattle.sqlite.specs.Command.TheVariants.{CreateTable, CreateIndex}
use Rattle.sqlite.specs.Change.{KeepsRows}
use Rattle.sqlite.specs.Does.{lacks_sequence}
use Rattle.sqlite.specs.Listing.{understood}
use Rattle.sqlite.specs.State.{State, ExecutesInside}
use Rattle.sqlite_resolve.specs.declared.compiled.Compiled.{Compiled}
use Rattle.sqlite_resolve.specs.declared.error.CompileError.{CompileError}
use Rattle.sqlite.proofs.Callers.{IsPlain, command_of, statement_of}
use Rattle.gate_schema.specs.Made.{IsPlainly, MakesOf, MakesTableOf, MakesIndexOf, MakeInTurn}
use Rattle.gate_file_changes.specs.Making.{IsBare}
use Rattle.gate_file_changes.proofs.MakeLemmas.{makes_table, makes_index}
use Rattle.gate_types.proofs.PlainLemmas.{all_push}

-- what a plain text is, part by part
pub plain_parts : (r : Result Compiled CompileError) (command : Command) (sql : List ℕ) → IsPlainly r command sql → (command_of r ≡ command) × IsPlain r × (statement_of sql r ≡ sql)
plain_parts (Ok c) command sql h = (h.0, (h.1, h.2), h.3)
plain_parts (Err e) command sql h = absurd h

-- tables whose rows stay have none, where they had none
still_empty : (old new : Trees) (tables : List Table) → KeepsRows tables old new → AllByRecursion (λ t. old t.tree ≡ []) tables → AllByRecursion (λ t. new t.tree ≡ []) tables
still_empty old new [] same empty = tt
still_empty old new (t ∷ ts) same empty = (same.0 ∙ empty.0, still_empty old new ts same.1 empty.1)

-- the tables stay empty where a text adds a table
bare_table : (sql : List ℕ) (s t : Schema) → MakesTableOf sql s t → (old new : State) (count : ℕ) → IsBare s old → ExecutesInside 0 sql [] old new (Ok count) → IsBare t new
bare_table sql s t m old new count bare h =
    let p = plain_parts (understood s sql) CreateTable sql m.plain in
    let made = makes_table sql s m.table p.0 p.1 p.2 m.defined (ap lacks_sequence m.is ∙ m.uncounted) old new count bare.schema_is h.0 in
    record {
      schema_is = made.schema_is ∙ m.is;
      empty = subst (λ (x : Schema). AllByRecursion (λ t. new.now.trees t.tree ≡ []) x.tables) m.is
          (all_push _ s.tables _ (still_empty old.now.trees new.now.trees s.tables made.others bare.empty) made.empty);
      inside = h.1.mode;
    }

-- and where it adds an index
bare_index : (sql : List ℕ) (s t : Schema) → MakesIndexOf sql s t → (old new : State) (count : ℕ) → IsBare s old → ExecutesInside 0 sql [] old new (Ok count) → IsBare t new
bare_index sql s t m old new count bare h =
    let p = plain_parts (understood s sql) (CreateIndex m.at) sql m.plain in
    let made = makes_index sql s m.at m.table m.index p.0 p.1 p.2 m.found m.defined old new count bare.schema_is h.0 in
    record {
      schema_is = made.schema_is ∙ m.is;
      empty = subst (λ (x : Schema). AllByRecursion (λ t. new.now.trees t.tree ≡ []) x.tables) m.is (still_empty old.now.trees new.now.trees s.tables made.rows bare.empty);
      inside = h.1.mode;
    }

-- and so with each of the texts
pub makes_bare : (sql : List ℕ) (s t : Schema) → MakesOf sql s t → (old new : State) (count : ℕ) → IsBare s old → ExecutesInside 0 sql [] old new (Ok count) → IsBare t new
makes_bare sql s t (inl m) = bare_table sql s t m
makes_bare sql s t (inr m) = bare_index sql s t m

-- the next of some texts leads on
leads_next : {T : Type 0} (f : T → List ℕ) (texts : List T) (i : ℕ) (none : T) (s t : Schema) → i < length texts → MakeInTurn (drop i (map f texts)) s t
    → (mid : Schema) × MakesOf (f (get_or texts i none)) s mid × MakeInTurn (drop (suc i) (map f texts)) mid t
leads_next f [] i none s t within h = absurd (omega arith)
leads_next f (y ∷ ys) zero none s t within h = h
leads_next f (y ∷ ys) (suc i) none s t within h = leads_next f ys i none s t (omega arith) h

-- the same, counted up
pub leads_on : {T : Type 0} (f : T → List ℕ) (texts : List T) (i : ℕ) (none : T) (s t : Schema) → i < length texts → MakeInTurn (drop i (map f texts)) s t
    → (mid : Schema) × MakesOf (f (get_or texts i none)) s mid × MakeInTurn (drop (i + 1) (map f texts)) mid t
leads_on f texts i none s t within h =
    let next : suc i ≡ i + 1 = omega arith in
    subst (λ n. (mid : Schema) × MakesOf (f (get_or texts i none)) s mid × MakeInTurn (drop n (map f texts)) mid t) next (leads_next f texts i none s t within h)

-- the last one has led to the end
pub leads_end : {T : Type 0} (f : T → List ℕ) (texts : List T) (i : ℕ) (s t : Schema) → length texts ≤ i → MakeInTurn (drop i (map f texts)) s t → s ≡ t
leads_end f [] zero s t over h = h
leads_end f [] (suc i) s t over h = h
leads_end f (y ∷ ys) zero s t over h = absurd (omega arith)
leads_end f (y ∷ ys) (suc i) s t over h = leads_end f ys i s t (omega arith) h
