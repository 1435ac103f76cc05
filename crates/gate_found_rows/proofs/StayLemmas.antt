-- What a query leaves, and what it finds.
use Rattle.std.proofs.Common.{◌≡◌, ℕ, List, [], IsTrue, None, Ok, Option, Some, Err, Result, sym, ap, subst, ◌∙◌, inl}
use Rattle.std.proofs.Common.{inr}
use Rattle.std.specs.Prelude.{IfOk, IfErr, IsSome}
use Rattle.sqlite.specs.Clock.{timed}
use Rattle.sqlite.specs.Command.{Command}
use Rattle.sqlite.specs.Command.TheVariants.{Select}
use Rattle.sqlite.specs.Effect.{Database}
use Rattle.sqlite.specs.Given.{HasBegun, Returns}
use Rattle.sqlite.specs.Held.{Held, state}
use Rattle.sqlite.specs.Listing.{understood}
use Rattle.sqlite.specs.Order.{Row}
use Rattle.sqlite.specs.Program.{overlay}
use Rattle.sqlite.specs.Query.{Query, IsAnswer}
use Rattle.sqlite.specs.State.{State, CommitsShowing, Shown, ShowsRows, FailsToQuery, FailsToShow, IsNotRun}
use Rattle.sqlite.specs.State.{IsUnchanged, Survives}
use Rattle.sqlite.specs.declared.error.Error.{Error}
use Rattle.sqlite.specs.declared.types.Value.TheVariants.{Null}
use Rattle.sqlite.proofs.Callers.{IsPlain, command_of, reads_as}
use Rattle.sqlite.proofs.StateLemmas.{survives_weaker}
use Rattle.sqlite_trees.specs.declared.store.Store.{Ghosts}
use Rattle.sqlite_resolve.specs.declared.compiled.Compiled.{Compiled}
use Rattle.sqlite_resolve.specs.declared.error.CompileError.{CompileError}
use Rattle.gate_found_rows.specs.Finds.{Finds, IsPlainQuery, IsSilent, OnlyReads, Stays}

-- where nothing changes, it stays
pub unchanged_stays : (old new : State) → IsUnchanged old new → Stays old new
unchanged_stays old new h = record { was_open = λ _. h.0.was_open; now_is = λ _. h.0.now_is }

-- it stays over two calls
pub stays_then : (a b c : State) → Stays a b → Stays b c → Stays a c
stays_then a b c p q = record {
  was_open = λ up. p.was_open (q.was_open up);
  now_is = λ up. q.now_is up ∙ p.now_is (q.was_open up);
}

-- a statement that isn't run leaves it
pub not_run_stays : (sql : List ℕ) (params : Row) (old new : State) (e : Error) → (IsTrue old.is_open → old.now ≡ old.committed) → IsNotRun old new sql params e → Stays old new
unfolding IsNotRun
not_run_stays sql params old new e settled (inl h) = unchanged_stays old new h.1
not_run_stays sql params old new e settled (inr h) = record { was_open = h.3.was_open; now_is = λ up. (h.3.undone up).0 ∙ sym (settled (h.3.was_open up)) }

-- and so does a query that fails
pub failed_stays : (sql : List ℕ) (params : Row) (old new : State) (e : Error) → (IsTrue old.is_open → old.now ≡ old.committed) → OnlyReads sql → FailsToQuery sql params old new e → Stays old new
unfolding FailsToQuery
failed_stays sql params old new e settled reads (inl h) = not_run_stays sql params old new e settled h
failed_stays sql params old new e settled reads (inr h) =
    let none = subst IsSilent h.1.is (reads old.now.schema) in
    let same = (subst (FailsToShow old new sql h.0 (timed params h.0.formats h.1.now) e) none h.2).3 in
    unchanged_stays old new same

-- a query that shows rows changes nothing
pub shown_keeps : (sql : List ℕ) (params : Row) (old new : State) (rows : List Row) → OnlyReads sql → Shown sql params old new rows → IsUnchanged old new
unfolding Shown
shown_keeps sql params old new rows reads h =
    let none = subst IsSilent h.1.is (reads old.now.schema) in
    (subst (ShowsRows old new sql h.0 (timed params h.0.formats h.1.now) rows) none h.2).3

-- a query leaves it, whatever its result
pub read_stays : {T : Type 0} (items : T → List Row) (r : Result T Error) (sql : List ℕ) (params : Row) (old new : State) → (IsTrue old.is_open → old.now ≡ old.committed) → OnlyReads sql
    → IfOk r (λ x. Shown sql params old new (items x)) → IfErr r (FailsToQuery sql params old new) → Stays old new
read_stays items (Ok x) sql params old new settled reads shown fails = unchanged_stays old new (shown_keeps sql params old new (items x) reads shown)
read_stays items (Err e) sql params old new settled reads shown fails = failed_stays sql params old new e settled reads fails

-- what is None isn't there
not_some : {T : Type 0} (o : Option T) → o ≡ None → IsSome o → ⊥
not_some None none some = absurd cc
not_some (Some x) none some = absurd cc

-- a crash of it leaves nothing new
pub read_survives : (sql : List ℕ) (params : Row) (old new : State) → OnlyReads sql → Survives old new (CommitsShowing sql params old) → Survives old new (λ _. ⊥)
unfolding CommitsShowing
read_survives sql params old new reads = survives_weaker old new _ _ (λ _ db h.
    not_some h.0.returning (subst IsSilent h.1.is (reads old.now.schema)) h.2)

-- and what begins changes nothing
pub begun_keeps : {S : Type 0} (g : Ghosts S) (sql : List ℕ) (params : Row) (old new : Held S) → OnlyReads sql → HasBegun g sql params old new → IsUnchanged (state g old) (state g new)
begun_keeps g sql params old new reads (inl h) = h.1
begun_keeps g sql params old new reads (inr h) = absurd (never_both (understood old.schema sql) (reads old.schema) h.0)
  where
    never_both : (r : Result Compiled CompileError) → IsSilent r → Returns r → ⊥
    never_both (Ok c) none some = not_some c.returning none some
    never_both (Err e) none some = some

-- the command of a query
abbrev selected : Query → List (List ℕ) → Command
selected q names = Select (record { lets = []; body = q }) names

-- a text that is a plain query is that command, and plain
plain_query : (r : Result Compiled CompileError) (q : Query) (names : List (List ℕ)) → IsPlainQuery r q names → (command_of r ≡ selected q names) × IsPlain r
plain_query (Ok c) q names h = (h.0, (h.1, h.2))
plain_query (Err e) q names h = absurd h

-- the rows of a query are those that its text asks for
pub shown_finds : (sql : List ℕ) (params : Row) (old mid new : State) (rows : List Row) → mid.now ≡ old.now → Shown sql params mid new rows → Finds sql params old.now rows
shown_finds sql params old mid new rows same shown q names plain unlisted =
    let is = plain_query (understood old.now.schema sql) q names plain in
    let has : mid.now.schema ≡ old.now.schema = ap (λ (d : Database). d.schema) same in
    let read = reads_as sql params mid new old.now.schema has (selected q names) is.0 is.1 unlisted rows shown in
    subst (λ (d : Database). IsAnswer q (overlay d.trees []) params rows) same (read.answer Null)
